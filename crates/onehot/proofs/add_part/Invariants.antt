use Rattle.onehot.proofs.Adding.{PartAdded}
use Rattle.onehot.proofs.add_part.Given as goal

abbrev pub invariant-loop-i : goal.invariant-loop-i
invariant-loop-i l = PartAdded l.part l.w l.initial.sums l.i l.sums
