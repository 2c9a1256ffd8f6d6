use Rattle.arcs.proofs.Entered.{EnteredTo}
use Rattle.arcs.proofs.layout.Arcs.gather_entries.Given as goal

abbrev pub invariant-loop-k : goal.invariant-loop-k
invariant-loop-k l = EnteredTo l.self.layout.meters l.self.layout.deepest l.bits l.self.links.now l.k l.counts
