use Prim.Native.Nat.{◌+◌}
use mathlib.Core.Path.{refl}
use native.Mathlib.Omega.{arith}
use Rattle.arcs.proofs.LinkBits.{link_set_is}
use Rattle.arcs.proofs.Slices.{slice_few, link_within}
use Rattle.arcs.proofs.layout.Layout.link_set.Goals as goal

pub overflow_cast-result : goal.overflow_cast-result
overflow_cast-result c =
    let a = c.args.self.now in
    omega (arith, a.shallow, slice_few c.args.bits.now c.arc_start-start.result _ _ refl (omega (arith, c.arc_start-start.ensures.0, link_within a.meters a.deepest (c.args.k + 1) c.args.k (omega arith), c.requires.2)) c.requires.1 _ c.set_count-count.ensures)

pub returns : goal.returns
returns c =
    let a = c.args.self.now in
    link_set_is a.meters a.deepest c.args.k c.args.bits.now c.arc_start-start.result _ c.arc_start-start.ensures.0 (omega arith) c.requires.2 _ c.set_count-count.ensures
