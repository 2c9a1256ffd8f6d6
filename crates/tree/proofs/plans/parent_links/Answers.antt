use native.Mathlib.Omega.{arith}
use Rattle.links.specs.Links.{nothing, link_in}
use Rattle.links.proofs.Graph.{edge_at}
use Rattle.lists.proofs.Walks.{summed_turn}
use Rattle.tree.proofs.ParentLinks.{joining}
use Rattle.tree.proofs.PlanTest.{joined_link, joining_le, joined_end}
use Rattle.tree.proofs.plans.parent_links.Goals as goal

pub is_parent-up-requires : goal.is_parent-up-requires
is_parent-up-requires c =
    let a = c.args.arcs.now in
    let o = edge_at a.layout.meters a.links.now a.each c.loop-link.link-index c.loop-link-test.true in
    (o.u_low, omega (arith, o.ordered, o.v_high, c.requires))

pub is_parent-down-requires : goal.is_parent-down-requires
is_parent-down-requires c =
    let a = c.args.arcs.now in
    let o = edge_at a.layout.meters a.links.now a.each c.loop-link.link-index c.loop-link-test.true in
    (omega (arith, o.u_low, o.ordered), omega (arith, o.v_high, c.requires))

pub loop-link-preserved : goal.loop-link-preserved
loop-link-preserved c =
    let p = c.args.plan.now in
    let ls = c.args.arcs.now.links.now in
    let l = c.loop-link in
    let e = joined_link p (link_in ls l.link-index) _ _ c.is_parent-up.ensures c.is_parent-down.ensures in
    (summed_turn (joining p) ls nothing l.link-index l.count l.invariant.0 c.loop-link-test.true _ e, omega (arith, l.invariant.1, e, joining_le p (link_in ls l.link-index)))

pub returns : goal.returns
returns c = joined_end _ _ c.loop-link.link-index _ c.loop-link.invariant.0 c.loop-link-test.false
