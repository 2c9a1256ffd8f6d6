use Rattle.plans.proofs.Refusing.{Topped}
use Rattle.plans.proofs.refusals.are_bits.Given as goal

abbrev pub invariant-loop-bit : goal.invariant-loop-bit
invariant-loop-bit l = Topped l.bits l.bit-index l.top
