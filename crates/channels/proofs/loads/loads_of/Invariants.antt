use Rattle.channels.proofs.Gathering.{Gathered}
use Rattle.channels.proofs.loads.loads_of.Given as goal

abbrev pub invariant-loop-link : goal.invariant-loop-link
invariant-loop-link l = Gathered l.link-items l.link-index l.sums
