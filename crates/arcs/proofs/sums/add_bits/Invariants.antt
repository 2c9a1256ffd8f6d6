use Rattle.arcs.proofs.Entered.{BitsAdded}
use Rattle.arcs.proofs.sums.add_bits.Given as goal

abbrev pub invariant-loop-i : goal.invariant-loop-i
invariant-loop-i l = BitsAdded l.part l.initial.counts l.i l.counts
