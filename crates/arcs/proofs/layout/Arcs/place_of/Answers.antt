use Prim.Native.Nat.{◌-◌, ◌/◌}
use lib.ListN.{length}
use native.Mathlib.Omega.{arith}
use Rattle.links.proofs.Graph.{edge_at}
use Rattle.links.specs.Links.{link_in}
use Rattle.links.specs.Survey.{EdgeOf}
use Rattle.arcs.proofs.Placed.{link_inside, is_there, is_back}
use Rattle.arcs.proofs.layout.Arcs.place_of.Goals.{then-number-eq0, else-number-eq0}
use Rattle.arcs.proofs.layout.Arcs.place_of.Goals as goal

-- the arc's link
link : (c : goal.Joined-number-eq0) → EdgeOf c.args.self.now.layout.meters (link_in c.args.self.now.links.now ((c.args.i - c.depths_end-base.result) / c.args.self.now.layout.deepest / 2))
link c =
    let a = c.args.self.now in
    let h = rw c.depths_end-base.ensures.0 at c.if-i-base.false in
    let l = rw c.arcs_end.ensures.0 at c.if-arcs_end-i.false in
    rw c.depths_end-base.ensures.0 (edge_at a.layout.meters a.links.now a.each _ (link_inside a.layout.meters a.layout.deepest (length a.links.now) c.args.i h l))

pub overflow_cast-result : goal.overflow_cast-result
overflow_cast-result c = elim c.if-number-eq0.branch [
  | then-number-eq0 w ↦ rw w.parent-is (omega (arith, (link c).ordered, (link c).v_high, c.args.self.now.layout.meters_high))
  | else-number-eq0 w ↦ rw w.parent-is (omega (arith, (link c).v_high, c.args.self.now.layout.meters_high))
]

pub overflow_cast-result-2 : goal.overflow_cast-result-2
overflow_cast-result-2 c = elim c.if-number-eq0.branch [
  | then-number-eq0 w ↦ rw w.parent-is (omega (arith, (link c).v_high, c.args.self.now.layout.meters_high))
  | else-number-eq0 w ↦ rw w.parent-is (omega (arith, (link c).ordered, (link c).v_high, c.args.self.now.layout.meters_high))
]

pub returns : goal.returns
returns c =
    let a = c.args.self.now in
    let h = rw c.depths_end-base.ensures.0 at c.if-i-base.false in
    let l = rw c.arcs_end.ensures.0 at c.if-arcs_end-i.false in
    record {
      place = elim c.if-number-eq0.branch [
        | then-number-eq0 w ↦ rw (w.parent-is, c.depths_end-base.ensures.0) (is_there a.layout.meters a.layout.deepest a.links.now c.args.i h l (rw c.depths_end-base.ensures.0 at w.if-number-eq0.true))
        | else-number-eq0 w ↦ rw (w.parent-is, c.depths_end-base.ensures.0) (is_back a.layout.meters a.layout.deepest a.links.now c.args.i h l (rw c.depths_end-base.ensures.0 at w.if-number-eq0.false))
      ];
      weight = omega arith;
    }
