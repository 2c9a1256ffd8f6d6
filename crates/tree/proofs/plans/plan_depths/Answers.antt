use mathlib.Core.Path.{sym, ◌∙◌}
use native.Mathlib.Omega.{arith}
use Rattle.arcs.proofs.Graph.{graph}
use Rattle.tree.proofs.Bound.{deepest_few}
use Rattle.tree.proofs.PlanTest.{root_some, one_root, roots_other, plan_size, plan_root, plan_unlinked, plan_crowded, plan_is, depths_allowed}
use Rattle.tree.proofs.plans.plan_depths.Goals as goal

pub returns-then-plan-meters : goal.returns-then-plan-meters
returns-then-plan-meters c = plan_size _ _ _ _ c.if-plan-meters.true

pub returns-then-children-ne1 : goal.returns-then-children-ne1
returns-then-children-ne1 c =
    let size = c.if-plan-meters.false in
    plan_root _ _ _ _ size (roots_other _ _ _ size (c.count_choices-children.ensures.1 0) c.if-children-ne1.true)

pub overflow_sub-meters : goal.overflow_sub-meters
overflow_sub-meters c = root_some _ _ (one_root _ _ _ c.if-plan-meters.false (c.count_choices-children.ensures.1 0) c.if-children-ne1.false)

pub returns-then-parent_links-meters : goal.returns-then-parent_links-meters
returns-then-parent_links-meters c =
    let size = c.if-plan-meters.false in
    let root = one_root _ _ _ size (c.count_choices-children.ensures.1 0) c.if-children-ne1.false in
    plan_unlinked _ _ _ _ size root (graph c.args.arcs.now) _ c.parent_links.ensures c.if-parent_links-meters.true

pub returns-then-not-within_limit : goal.returns-then-not-within_limit
returns-then-not-within_limit c = plan_crowded _ _ _ _ c.if-plan-meters.false (sym c.within_limit.ensures ∙ c.if-not-within_limit.true)

pub overflow_add-width : goal.overflow_add-width
overflow_add-width c = omega (arith, c.deepest-width.ensures, deepest_few _ c.args.arcs.now.layout.meters_high)

pub returns-then-not-are_choices : goal.returns-then-not-are_choices
returns-then-not-are_choices c =
    let size = c.if-plan-meters.false in
    let root = one_root _ _ _ size (c.count_choices-children.ensures.1 0) c.if-children-ne1.false in
    let depths = depths_allowed _ _ _ _ _ c.deepest-width.ensures c.depth_bits-depths.ensures.1 c.are_choices.ensures in
    plan_is _ _ _ _ size root (graph c.args.arcs.now) _ c.parent_links.ensures c.if-parent_links-meters.false (sym c.within_limit.ensures ∙ c.if-not-within_limit.false) _ depths ∙ c.if-not-are_choices.true

pub returns : goal.returns
returns c =
    let size = c.if-plan-meters.false in
    let root = one_root _ _ _ size (c.count_choices-children.ensures.1 0) c.if-children-ne1.false in
    let depths = depths_allowed _ _ _ _ _ c.deepest-width.ensures c.depth_bits-depths.ensures.1 c.are_choices.ensures in
    (plan_is _ _ _ _ size root (graph c.args.arcs.now) _ c.parent_links.ensures c.if-parent_links-meters.false (sym c.within_limit.ensures ∙ c.if-not-within_limit.false) _ depths ∙ c.if-not-are_choices.false, c.depth_bits-depths.ensures.0, c.depth_bits-depths.ensures.1)
