use Prim.Native.Nat.{◌*◌}
use lib.IntN.{pos}
use native.Mathlib.Omega.{arith}
use Rattle.arcs.proofs.Graph.{graph}
use Rattle.arcs.proofs.Signed.{opposite_is, less_small, plain}
use Rattle.arcs.proofs.ArcWalk.{walk_on, row_walk}
use Rattle.arcs.proofs.RowRoom.{within_room, within_small}
use Rattle.arcs.proofs.EndRows.{arc_ends_row, behind_ends_row, depth_ends_row}
use Rattle.arcs.proofs.layout.Arcs.add_ends.Goals as goal

pub add_arcs_within-requires : goal.add_arcs_within-requires
add_arcs_within-requires c =
    let a = plain c.args.penalty (omega (arith, c.requires.1.penalty)) in
    (row_walk _ _ _ _ _ _ _ c.requires.1, rw (a, opposite_is (pos c.args.penalty) (omega (arith, c.requires.1.penalty))) (within_room _ _ _ _ _ _ _ _ _ (less_small _ c.requires.1.penalty) c.args.self.now.few (λ k. omega (arith, c.requires.1.small k))))

pub add_arcs_within-requires-in-OfDepth : goal.add_arcs_within-requires-in-OfDepth
add_arcs_within-requires-in-OfDepth c =
    let a = plain c.args.penalty (omega (arith, c.requires.1.penalty)) in
    let few = c.args.self.now.few in
    let first = rw (a, opposite_is (pos c.args.penalty) (omega (arith, c.requires.1.penalty))) at c.add_arcs_within.ensures in (
      walk_on _ _ _ _ _ _ (omega (arith, c.add_arcs_within.auto)) (row_walk _ _ _ _ _ _ _ c.requires.1),
      rw (a, opposite_is (pos c.args.penalty) (omega (arith, c.requires.1.penalty))) (within_room _ _ _ _ _ _ _ _ _ (less_small _ c.requires.1.penalty) few (within_small _ _ _ _ _ _ _ _ _ (less_small _ c.requires.1.penalty) few c.requires.1.small _ first)),
    )

pub returns-in-OfDepth : goal.returns-in-OfDepth
returns-in-OfDepth c =
    let a = plain c.args.penalty (omega (arith, c.requires.1.penalty)) in
    let is = rw c.in-OfDepth.is at c.requires.0 in
    let first = rw (a, opposite_is (pos c.args.penalty) (omega (arith, c.requires.1.penalty))) at c.add_arcs_within.ensures in
    let second = rw (a, opposite_is (pos c.args.penalty) (omega (arith, c.requires.1.penalty))) at c.add_arcs_within-in-OfDepth.ensures in
    depth_ends_row _ _ _ _ (graph c.args.self.now) _ _ _ is _ _ _ first second

pub returns-in-OfArc : goal.returns-in-OfArc
returns-in-OfArc c =
    let is = rw c.in-OfArc.is at c.requires.0 in
    arc_ends_row _ _ _ _ (graph c.args.self.now) _ _ _ is _ _ (rw (plain (2 * c.args.penalty) (omega (arith, c.requires.1.penalty))) at c.add_single.ensures)

pub returns-in-Behind : goal.returns-in-Behind
returns-in-Behind c = behind_ends_row _ _ _ _ (graph c.args.self.now) _ (rw c.in-Behind.is at c.requires.0) _
