use Rattle.arcs.proofs.Entered.{none_added, back_room}
use Rattle.arcs.proofs.layout.Layout.count_link.Goals as goal

pub returns-then-n-eq0 : goal.returns-then-n-eq0
returns-then-n-eq0 c =
    let a = c.args.self.now in
    none_added a.meters a.deepest c.args.bits.now c.args.k c.args.link c.args.counts.now c.requires.0 c.args.n c.requires.1 c.if-n-eq0.true

pub count_arc-requires-2 : goal.count_arc-requires-2
count_arc-requires-2 c =
    let a = c.args.self.now in
    back_room a.meters a.deepest c.args.bits.now c.args.k c.args.link c.args.counts.now c.requires.0 c.count_arc.new.counts c.count_arc.ensures
