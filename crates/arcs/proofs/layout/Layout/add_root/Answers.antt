use native.Mathlib.Omega.{arith}
use Rattle.arcs.proofs.Signed.{plain}
use Rattle.arcs.proofs.DepthRows.{root_below, root_room}
use Rattle.arcs.proofs.layout.Layout.add_root.Goals as goal

pub add_one_hot-requires : goal.add_one_hot-requires
add_one_hot-requires c =
    let a = c.args.self.now in
    rw (c.depth_width.ensures, plain c.args.penalty (omega (arith, c.requires.penalty)))
    (root_below _ _ _ _ _ a.meters_high a.shallow c.requires, root_room _ _ _ _ _ a.meters_high a.shallow c.requires)
