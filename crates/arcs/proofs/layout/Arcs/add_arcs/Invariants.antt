use Rattle.std.proofs.Common.{◌+◌}
use Rattle.arcs.proofs.ArcWalk.{PairsTo}
use Rattle.arcs.proofs.layout.Arcs.add_arcs.Given as goal

abbrev pub invariant-loop-k : goal.invariant-loop-k
invariant-loop-k l = PairsTo l.end l.factor l.i l.self.layout.meters l.self.layout.deepest l.meter l.depth l.self.links.now l.initial.row l.row (l.from + l.k)
