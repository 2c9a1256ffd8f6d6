use native.Mathlib.Omega.{arith}
use Rattle.tree.proofs.Answering.{arcs_are}
use Rattle.tree.proofs.sums.broken_arcs.Goals as goal

pub returns : goal.returns
returns c =
    (arcs_are _ _ _ _ _ _ _ _ _ c.entry_gaps-entries.ensures.0 c.degree_gaps-degrees.ensures.0 c.end_misses-ends.ensures.0, omega (arith, c.entry_gaps-entries.ensures.1, c.degree_gaps-degrees.ensures.1, c.end_misses-ends.ensures.1))
