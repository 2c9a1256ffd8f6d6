use lib.ListN.{length}
use Rattle.neighbours.proofs.DegreeSums.{Gathered}
use Rattle.neighbours.proofs.degrees.gather_touches.Given as goal

abbrev pub invariant-loop-link : goal.invariant-loop-link
invariant-loop-link l = Gathered l.used l.arcs.links.now (length l.yielded) l.sums
