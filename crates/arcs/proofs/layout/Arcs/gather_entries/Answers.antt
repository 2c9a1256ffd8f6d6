use mathlib.Core.Path.{refl}
use native.Mathlib.Omega.{arith}
use Rattle.lists.proofs.Stores.{zero_entries}
use Rattle.arcs.proofs.Graph.{graph}
use Rattle.arcs.proofs.Entered.{entered_start, entered_room, entered_turn, entered_end}
use Rattle.arcs.proofs.layout.Arcs.gather_entries.Goals as goal

pub loop-k-init : goal.loop-k-init
loop-k-init c =
    let a = c.args.self.now in entered_start a.layout.meters a.layout.deepest c.args.bits.now a.links.now _ refl (zero_entries 1200)

pub count_link-requires : goal.count_link-requires
count_link-requires c =
    let a = c.args.self.now in
    let l = c.loop-k in
    (entered_room a.layout.meters a.layout.deepest c.args.bits.now a.links.now (graph a) c.requires.0 c.requires.1 l.k c.loop-k-test.true l.counts l.invariant, c.requires.2.each l.k c.loop-k-test.true)

pub loop-k-preserved : goal.loop-k-preserved
loop-k-preserved c =
    let a = c.args.self.now in
    let l = c.loop-k in
    entered_turn a.layout.meters a.layout.deepest c.args.bits.now a.links.now l.k c.loop-k-test.true l.counts l.invariant c.count_link.new.counts c.count_link.ensures

pub returns : goal.returns
returns c =
    let a = c.args.self.now in
    let l = c.loop-k in
    (l.invariant.size, entered_end a.layout.meters a.layout.deepest c.args.bits.now a.links.now l.k l.counts l.invariant (omega arith))
