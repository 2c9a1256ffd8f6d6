use Rattle.std.proofs.Common.{◌*◌, ◌≤◌}
use Rattle.lists.proofs.Walks.{Summed}
use Rattle.links.proofs.sums.total_weight.Given as goal

abbrev pub invariant-loop-link : goal.invariant-loop-link
invariant-loop-link l = Summed (λ x. x.weight) l.links l.link-index l.sum × (l.sum ≤ l.link-index * 65535)
