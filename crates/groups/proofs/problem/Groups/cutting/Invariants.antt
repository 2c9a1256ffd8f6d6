use Rattle.lists.specs.Sums.{differ}
use Rattle.lists.proofs.Walks.{Summed}
use Rattle.onehot.proofs.LinkSums.{bits_link}
use Rattle.groups.proofs.problem.Groups.cutting.Given as goal

abbrev pub invariant-loop-link : goal.invariant-loop-link
invariant-loop-link l = Summed (bits_link differ l.self.m l.bits) l.link-items l.link-index l.sum
