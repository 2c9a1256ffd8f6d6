use Rattle.std.proofs.Common.{◌*◌, ◌≤◌}
use Rattle.lists.proofs.Walks.{Summed}
use Rattle.tree.proofs.PlanTest.{used_weight}
use Rattle.tree.proofs.plans.tree_weight.Given as goal

abbrev pub invariant-loop-link : goal.invariant-loop-link
invariant-loop-link l = Summed (used_weight l.plan) l.link-items l.link-index l.sum × (l.sum ≤ l.link-index * 65535)
