use native.Mathlib.Omega.{arith}
use Rattle.links.specs.Links.{nothing, link_in}
use Rattle.links.proofs.Walk.{link_at}
use Rattle.lists.proofs.Walks.{summed_turn, summed_skip}
use Rattle.tree.proofs.PlanTest.{used_weight, weight_none, weight_some, weighed_end}
use Rattle.tree.proofs.plans.tree_weight.Goals.{then-is_used, else-is_used}
use Rattle.tree.proofs.plans.tree_weight.Goals as goal

pub is_used-requires : goal.is_used-requires
is_used-requires c =
    let s = c.args.survey.now in
    let o = link_at s.meters s.links.now s.each c.loop-link.link-index c.loop-link-test.true in
    (o.u_low, o.ordered, omega (arith, o.v_high, c.requires))

pub loop-link-preserved : goal.loop-link-preserved
loop-link-preserved c =
    let s = c.args.survey.now in
    let p = c.args.plan.now in
    let l = c.loop-link in
    let at = link_in s.links.now l.link-index in
    elim c.if-is_used.branch [
      | then-is_used w ↦
          let o = link_at s.meters s.links.now s.each l.link-index c.loop-link-test.true in
          (rw w.sum-is (summed_turn (used_weight p) s.links.now nothing l.link-index l.sum l.invariant.0 c.loop-link-test.true at.weight (weight_some p at _ c.is_used.ensures w.if-is_used.true)), omega (arith, w.sum-is, l.invariant.1, o.weight_high))
      | else-is_used w ↦
          (rw w.sum-is (summed_skip (used_weight p) s.links.now nothing l.link-index l.sum l.invariant.0 c.loop-link-test.true (weight_none p at _ c.is_used.ensures w.if-is_used.false)), omega (arith, w.sum-is, l.invariant.1))
    ]

pub returns : goal.returns
returns c = weighed_end _ _ c.loop-link.link-index _ c.loop-link.invariant.0 c.loop-link-test.false
