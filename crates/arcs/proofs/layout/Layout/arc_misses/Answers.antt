use Rattle.arcs.proofs.Summing.{arc_misses_is}
use Rattle.arcs.proofs.layout.Layout.arc_misses.Goals as goal

pub returns : goal.returns
returns c =
    let a = c.args.self.now in (arc_misses_is a.meters a.deepest c.args.number c.args.parent c.args.child c.args.bits.now c.arc_start-start.result c.depth_start-above.result c.depth_bit-below.result c.arc_start-start.ensures.0 c.depth_start-above.ensures.0 c.depth_bit-below.ensures.0 c.requires.1 c.requires.2 c.requires.3 c.requires.4 c.requires.6 c.part_misses.result c.part_misses.ensures.0, c.part_misses.ensures.1)
