use Rattle.neighbours.proofs.DegreeSums.{Gapped}
use Rattle.neighbours.proofs.counts.Neighbours.gaps_of.Given as goal

abbrev pub invariant-loop-v : goal.invariant-loop-v
invariant-loop-v l = Gapped l.self l.sums l.bits l.v l.sum
