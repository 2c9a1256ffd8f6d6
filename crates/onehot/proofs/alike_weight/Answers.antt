use Rattle.std.proofs.Common.{◌∙◌, arith}
use Rattle.lists.proofs.Walks.{summed_end}
use Rattle.links.proofs.Walk.{is_survey, link_at}
use Rattle.onehot.proofs.LinkSums.{alike_link, alike_sum, alike_small, alike_turn, alike_skip}
use Rattle.onehot.proofs.alike_weight.Goals.{then-plan-link, else-plan-link}
use Rattle.onehot.proofs.alike_weight.Goals as goal

pub overflow_sub-link : goal.overflow_sub-link
overflow_sub-link c = (link_at _ _ c.args.survey.now.each c.loop-link.link-index c.loop-link-test.true).u_low

pub bounds-plan-link : goal.bounds-plan-link
bounds-plan-link c = omega (arith, link_at _ _ c.args.survey.now.each c.loop-link.link-index c.loop-link-test.true)

pub overflow_sub-link-in-loop-link : goal.overflow_sub-link-in-loop-link
overflow_sub-link-in-loop-link c = omega (arith, link_at _ _ c.args.survey.now.each c.loop-link.link-index c.loop-link-test.true)

pub bounds-plan-link-in-loop-link : goal.bounds-plan-link-in-loop-link
bounds-plan-link-in-loop-link c = omega (arith, link_at _ _ c.args.survey.now.each c.loop-link.link-index c.loop-link-test.true)

pub overflow_add-sum : goal.overflow_add-sum
overflow_add-sum c =
    let s = c.args.survey.now in
    omega (arith, c.loop-link.invariant.whole, alike_small s.meters s.links.now c.args.plan.now (is_survey s), link_at _ _ s.each c.loop-link.link-index c.loop-link-test.true)

pub loop-link-preserved : goal.loop-link-preserved
loop-link-preserved c =
    let s = c.args.survey.now in
    let l = c.loop-link in
    elim c.if-plan-link.branch [
      | then-plan-link w ↦ alike_turn s.meters c.args.plan.now s.links.now (is_survey s) l.link-index c.loop-link-test.true l.sum _ l.invariant w.if-plan-link.true w.sum-is
      | else-plan-link w ↦ alike_skip s.meters c.args.plan.now s.links.now (is_survey s) l.link-index c.loop-link-test.true l.sum _ l.invariant w.if-plan-link.false w.sum-is
    ]

pub returns : goal.returns
returns c = summed_end (alike_link c.args.plan.now) c.args.survey.now.links.now _ _ c.loop-link.invariant (omega arith) ∙ alike_sum _ _
