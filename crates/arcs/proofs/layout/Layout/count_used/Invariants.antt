use Rattle.arcs.proofs.LinkBits.{CountedTo}
use Rattle.arcs.proofs.layout.Layout.count_used.Given as goal

abbrev pub invariant-loop-k : goal.invariant-loop-k
invariant-loop-k l = CountedTo l.self.meters l.self.deepest l.bits l.k l.used
