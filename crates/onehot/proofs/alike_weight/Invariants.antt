use Rattle.lists.proofs.Walks.{Summed}
use Rattle.onehot.proofs.LinkSums.{alike_link}
use Rattle.onehot.proofs.alike_weight.Given as goal

abbrev pub invariant-loop-link : goal.invariant-loop-link
invariant-loop-link l = Summed (alike_link l.plan) l.link-items l.link-index l.sum
