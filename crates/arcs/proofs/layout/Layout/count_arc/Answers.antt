use Rattle.arcs.proofs.Entered.{entry_room, entry_added}
use Rattle.arcs.proofs.layout.Layout.count_arc.Goals as goal

pub add_bits-requires : goal.add_bits-requires
add_bits-requires c =
    let a = c.args.self.now in
    entry_room a.meters a.deepest c.args.number c.args.child c.args.bits.now c.args.counts.now a.meters_high a.shallow c.requires.1 c.requires.2 c.requires.4 c.requires.5 c.depth_bit-first.result c.arc_start-start.result c.depth_bit-first.ensures.0 c.arc_start-start.ensures.0 c.requires.3 c.requires.6

pub returns : goal.returns
returns c =
    let a = c.args.self.now in
    entry_added a.meters a.deepest c.args.number c.args.child c.args.bits.now c.args.counts.now a.meters_high a.shallow c.requires.1 c.requires.2 c.requires.4 c.requires.5 c.depth_bit-first.result c.arc_start-start.result c.depth_bit-first.ensures.0 c.arc_start-start.ensures.0 c.add_bits.new.counts c.add_bits.ensures
