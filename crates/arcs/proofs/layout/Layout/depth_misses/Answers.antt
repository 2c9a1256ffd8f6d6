use Rattle.arcs.proofs.Summing.{depth_misses_is}
use Rattle.arcs.proofs.layout.Layout.depth_misses.Goals as goal

pub returns : goal.returns
returns c =
    let a = c.args.self.now in
    let e = rw (c.depths_end.ensures.0, c.depth_width.ensures) at c.misses_of.ensures.0 in
    (depth_misses_is a.meters a.deepest c.args.bits.now c.requires.1 c.misses_of.result e, c.misses_of.ensures.1)
