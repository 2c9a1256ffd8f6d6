use Rattle.std.proofs.Common.{arith, ◌+◌, ◌/◌, rules, tests, length}
use Rattle.std.proofs.lemmas.Iterator.Consumers.{YieldsList-end}
use lib.ListN.{length-append}
use Rattle.links.proofs.Halving.{lower_ends_rise}
use Rattle.channels.proofs.Halves.{halves, TurnAt, turn_at, upward_yields}
use Rattle.channels.proofs.ClashRows.{added_start, added_end, turn_inside, turn_room, added_turn}
use Rattle.channels.proofs.problem.Channels.add_clashes.Goals.{In-Some}
use Rattle.channels.proofs.problem.Channels.add_clashes.Goals as goal

pub split_at_meter-requires : goal.split_at_meter-requires
split_at_meter-requires c = lower_ends_rise _ c.args.self.now.survey.rises

pub loop-link-init : goal.loop-link-init
loop-link-init c =
    let s = c.args.self.now in
    let e = c.split_at_meter.ensures in
    let h = halves s.survey _ _ _ e.whole e.below e.above in
    let g = c.take_while-link-items.ensures in (
      search rules,
      tt,
      upward_yields _ _ _ _ _ h _ c.into_iter-link-iterator.ensures.into_iter_gives (cc) g.closure g.done (λ x b q k. search (rules, tests)),
      added_start _ _ _ s.low _ s.survey.each _ c.requires.room,
    )

turn : (c : In-Some) → let s = c.args.self.now in TurnAt s.survey.meters (c.args.i / s.n + 1) s.survey.links.now (length c.loop-link.yielded) c.in-Some.link.now
turn c = turn_at _ _ _ _ c.args.self.now.survey.each c.loop-link.invariant.2 c.loop-link.yielded_by c.in-Some.is c.next.ensures.steps

pub overflow_sub-up : goal.overflow_sub-up
overflow_sub-up c =
    let s = c.args.self.now in
    (turn_inside _ _ _ s.low _ s.survey.each _ _ _ c.loop-link.invariant.3 _ (turn (goal.at.overflow_sub-up c).In-Some)).0

pub add_pair-requires : goal.add_pair-requires
add_pair-requires c =
    let s = c.args.self.now in
    let w = c.loop-link.invariant.3 in
    let t = turn (goal.at.add_pair-requires c).In-Some in (
      omega (arith, w.size, c.requires.by_index),
      omega (arith, turn_inside _ _ _ s.low _ s.survey.each _ _ _ w _ t, w.size, c.requires.by_index),
      turn_room _ _ _ s.low _ s.survey.each _ _ _ w _ t,
    )

pub loop-link-preserved : goal.loop-link-preserved
loop-link-preserved c =
    let s = c.args.self.now in
    let i = c.loop-link.invariant in
    rw length-append (search rules, tt, i.2, added_turn _ _ _ s.low _ s.survey.each _ _ _ i.3 _ (turn (goal.at.loop-link-preserved c).In-Some) _ c.add_pair.ensures)

pub returns : goal.returns
returns c =
    let s = c.args.self.now in
    let i = c.loop-link.invariant in
    added_end _ _ _ s.low _ s.survey.each _ _ _ i.3 (omega (arith, (YieldsList-end i.2 _ _ c.loop-link.yielded_by _ _ c.in-None.is c.next.ensures.steps).1))
