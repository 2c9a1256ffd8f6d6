use Rattle.std.proofs.Common.{◌*◌}
use Rattle.lists.proofs.Walks.{Summed}
use Rattle.onehot.proofs.LinkSums.{bits_link}
use Rattle.channels.proofs.problem.Channels.clashing.Given as goal

abbrev pub invariant-loop-link : goal.invariant-loop-link
invariant-loop-link l = Summed (bits_link ◌*◌ l.self.n l.bits) l.link-items l.link-index l.sum
