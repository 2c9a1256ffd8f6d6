use Rattle.std.proofs.Common.{refl, arith, rules, tests, length}
use Rattle.lists.proofs.Stores.{zero_entries}
use Rattle.links.proofs.Halving.{lower_ends_rise}
use Rattle.std.proofs.lemmas.Iterator.Consumers.{YieldsList-end}
use lib.ListN.{length-append}
use Rattle.channels.proofs.Halves.{halves, upward_yields, TurnAt, turn_at}
use Rattle.channels.proofs.Hearing.{lower_start, lower_meter, lower_turn, lower_skip, lower_end, upper_turn, upper_end, quietest_is}
use Rattle.channels.proofs.repairing.Repairing.quietest_at.Goals.{then-link-m, else-link-m, In-Some}
use Rattle.channels.proofs.repairing.Repairing.quietest_at.Goals as goal

pub split_at_meter-requires : goal.split_at_meter-requires
split_at_meter-requires c = lower_ends_rise _ c.args.self.now.channels.survey.rises

pub loop-link-init : goal.loop-link-init
loop-link-init c =
    let e = c.split_at_meter.ensures in
    let h = halves c.args.self.now.channels.survey _ _ _ e.whole e.below e.above in
    lower_start _ _ _ _ _ _ _ _ h _ refl (zero_entries 256)

pub add_borne-requires-clause-meter : goal.add_borne-requires-clause-meter
add_borne-requires-clause-meter c =
    let e = c.split_at_meter.ensures in
    let h = halves c.args.self.now.channels.survey _ _ _ e.whole e.below e.above in
    lower_meter _ _ _ _ _ _ _ _ h _ _ c.loop-link.invariant c.loop-link-test.true

pub loop-link-preserved : goal.loop-link-preserved
loop-link-preserved c =
    let e = c.split_at_meter.ensures in
    let h = halves c.args.self.now.channels.survey _ _ _ e.whole e.below e.above in
    elim c.if-link-m.branch [
      | then-link-m w ↦ rw w.sums-is (lower_turn _ _ _ _ _ _ _ _ h _ _ c.loop-link.invariant c.loop-link-test.true _ w.if-link-m.true w.add_borne.ensures)
      | else-link-m w ↦ rw w.sums-is (lower_skip _ _ _ _ _ _ _ _ h _ _ c.loop-link.invariant c.loop-link-test.true w.if-link-m.false)
    ]

pub loop-link-2-init : goal.loop-link-2-init
loop-link-2-init c =
    let s = c.args.self.now.channels in
    let e = c.split_at_meter.ensures in
    let h = halves s.survey _ _ _ e.whole e.below e.above in
    let g = c.take_while-link-items.ensures in (
      search rules,
      tt,
      upward_yields _ _ _ _ _ h _ c.into_iter-link-iterator.ensures.into_iter_gives (cc) g.closure g.done (λ x b q k. search (rules, tests)),
      lower_end _ _ _ _ _ _ _ _ h _ _ c.loop-link.invariant (omega (arith, c.loop-link.auto.link-index-end)),
    )

turn : (c : In-Some) → let s = c.args.self.now.channels.survey in TurnAt s.meters c.args.m s.links.now (length c.loop-link-2.yielded) c.in-Some.link.now
turn c = turn_at _ _ _ _ c.args.self.now.channels.survey.each c.loop-link-2.invariant.2 c.loop-link-2.yielded_by c.in-Some.is c.next.ensures.steps

pub add_borne-requires-in-loop-link-2-clause-meter : goal.add_borne-requires-in-loop-link-2-clause-meter
add_borne-requires-in-loop-link-2-clause-meter c =
    let t = (turn (goal.at.add_borne-requires-in-loop-link-2-clause-meter c).In-Some).link in
    (omega (arith, t.u_low, t.ordered), t.v_high)

pub loop-link-2-preserved : goal.loop-link-2-preserved
loop-link-2-preserved c =
    let i = c.loop-link-2.invariant in
    rw length-append (search rules, tt, i.2, upper_turn _ _ _ _ _ _ _ i.3 _ _ (turn (goal.at.loop-link-2-preserved c).In-Some) _ c.add_borne-in-loop-link-2.ensures)

pub returns : goal.returns
returns c =
    let i = c.loop-link-2.invariant in
    let end = (YieldsList-end i.2 _ _ c.loop-link-2.yielded_by _ _ c.in-None.is c.next.ensures.steps).1 in
    quietest_is _ _ _ _ _ _ _ c.args.self.now.channels.low (upper_end _ _ _ _ _ _ _ i.3 end) c.least_sum.ensures
