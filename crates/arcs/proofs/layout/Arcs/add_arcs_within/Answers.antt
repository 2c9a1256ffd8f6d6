use native.Mathlib.Omega.{arith}
use mir.Facts.{to_z-of_z}
use Rattle.arcs.proofs.ArcWalk.{within_zero, within_deep, within_none, within_added, into_room}
use Rattle.arcs.proofs.layout.Arcs.add_arcs_within.Goals.{else-depth-ge1-via-then-depth-ge1+else-depth-self, else-depth-ge1-via-else-depth-ge1}
use Rattle.arcs.proofs.layout.Arcs.add_arcs_within.Goals as goal

pub add_arcs-requires : goal.add_arcs-requires
add_arcs-requires c =
    let low = c.if-depth-ge1.true in
    let high = c.if-depth-self.true in
    (c.requires.0, low, high, rw (to_z-of_z c.ranges.factor) (into_room _ _ _ _ _ _ _ _ _ low high c.requires.1), (omega arith, λ k h. absurd (omega arith)))

pub returns-then-depth-self : goal.returns-then-depth-self
returns-then-depth-self c =
    within_added _ _ _ _ _ _ _ _ _ c.if-depth-ge1.true c.if-depth-self.true _ (rw (to_z-of_z c.ranges.factor) at c.add_arcs.ensures)

pub returns-else-depth-ge1 : goal.returns-else-depth-ge1
returns-else-depth-ge1 c = elim c.else-depth-ge1.branch [
  | else-depth-ge1-via-then-depth-ge1+else-depth-self w ↦ within_none _ _ _ _ _ _ _ _ _ (within_deep _ _ _ _ _ _ _ _ w.if-depth-self.false)
  | else-depth-ge1-via-else-depth-ge1 w ↦ within_none _ _ _ _ _ _ _ _ _ (within_zero _ _ _ _ _ _ _ _ w.if-depth-ge1.false)
]
