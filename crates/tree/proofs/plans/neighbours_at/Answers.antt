use native.Mathlib.Omega.{arith}
use Rattle.tree.proofs.PlanTest.{neighbours_root, neighbours_more, children_few}
use Rattle.tree.proofs.plans.neighbours_at.Goals as goal

pub overflow_add-result : goal.overflow_add-result
overflow_add-result c = omega (arith, children_few _ _ c.requires.0 c.args.v)

pub returns-in-Some : goal.returns-in-Some
returns-in-Some c = neighbours_more _ _ c.requires.0 _ (λ e. omega (arith, c.in-Some.ensures, e))

pub returns-in-None : goal.returns-in-None
returns-in-None c = neighbours_root _ _ c.requires.0 _ c.in-None.ensures
