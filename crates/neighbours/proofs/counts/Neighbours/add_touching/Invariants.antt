use Prim.Native.Nat.{◌+◌}
use Rattle.neighbours.proofs.DegreeParts.{Touched}
use Rattle.neighbours.proofs.counts.Neighbours.add_touching.Given as goal

abbrev pub invariant-loop-k : goal.invariant-loop-k
invariant-loop-k l = Touched l.self l.meter l.i l.factor l.initial.row l.row (l.from + l.k)
