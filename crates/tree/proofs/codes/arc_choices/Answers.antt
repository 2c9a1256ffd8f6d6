use mathlib.Core.Path.{refl}
use native.Mathlib.Omega.{arith}
use lib.ListN.{length, length-set}
use Rattle.links.proofs.Graph.{edge_at}
use Rattle.arcs.proofs.ArcLists.{arc_up, arc_back}
use Rattle.tree.specs.Plans.{arc_choice, arc_choices}
use Rattle.tree.proofs.Filling.{arcs_filled_start, arcs_filled_turn, arcs_filled_end}
use Rattle.tree.proofs.codes.arc_choices.Goals as goal

pub loop-k-init : goal.loop-k-init
loop-k-init c = (refl, arcs_filled_start _ _ _)

pub arc_choice-requires : goal.arc_choice-requires
arc_choice-requires c =
    let a = c.args.arcs.now in
    let o = edge_at a.layout.meters a.links.now a.each c.loop-k.k c.loop-k-test.true in
    (omega (arith, o.u_low, o.ordered), omega (arith, o.v_high, c.requires.0), c.requires.1)

pub arc_choice-requires-in-loop-k : goal.arc_choice-requires-in-loop-k
arc_choice-requires-in-loop-k c =
    let a = c.args.arcs.now in
    let o = edge_at a.layout.meters a.links.now a.each c.loop-k.k c.loop-k-test.true in
    (o.u_low, omega (arith, o.ordered, o.v_high, c.requires.0), c.requires.1)

pub loop-k-preserved : goal.loop-k-preserved
loop-k-preserved c =
    let a = c.args.arcs.now in
    let l = c.loop-k in
    let ls = a.links.now in (
      simp length-set l.invariant.0,
      arcs_filled_turn ls (arc_choice (length c.args.plan.now) c.args.plan.now) l.k l.choices _ _ c.loop-k-test.true (omega (arith, l.invariant.0, c.loop-k-test.true, a.few)) (c.arc_choice.ensures (arc_up ls l.k) refl refl) (c.arc_choice-in-loop-k.ensures (arc_back ls l.k) refl refl) l.invariant.1,
    )

pub returns : goal.returns
unfolding arc_choices
returns c = (c.loop-k.invariant.0, arcs_filled_end _ _ c.loop-k.k _ (omega arith) c.loop-k.invariant.1)
