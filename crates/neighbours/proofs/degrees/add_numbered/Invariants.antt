use Rattle.neighbours.proofs.DegreeParts.{Numbered}
use Rattle.neighbours.proofs.degrees.add_numbered.Given as goal

abbrev pub invariant-loop-t : goal.invariant-loop-t
invariant-loop-t l = Numbered l.factor l.i l.start l.d l.initial.row l.row l.t
