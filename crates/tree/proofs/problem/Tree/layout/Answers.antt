use native.Mathlib.Omega.{arith}
use Rattle.spanning.specs.Parents.{deepest}
use Rattle.tree.proofs.problem.Tree.layout.Goals as goal

pub invariant_of-result-clause-shallow : goal.invariant_of-result-clause-shallow
unfolding deepest
invariant_of-result-clause-shallow c = omega (arith, c.deepest.ensures, c.requires)
