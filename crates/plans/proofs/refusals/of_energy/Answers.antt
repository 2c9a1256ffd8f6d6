use Rattle.std.proofs.Common.{not, sym, ap, ◌∙◌, arith}
use Rattle.plans.proofs.Refusing.{energy_length, energy_no_bits, energy_fits}
use Rattle.plans.proofs.refusals.of_energy.Goals as goal

pub returns-then-bits : goal.returns-then-bits
returns-then-bits c = energy_length _ _ (omega arith)

pub returns-then-not-are_bits : goal.returns-then-not-are_bits
returns-then-not-are_bits c = energy_no_bits _ _ (omega arith) (ap not (sym c.are_bits.ensures ∙ c.if-not-are_bits.true))

pub returns : goal.returns
returns c = energy_fits _ _ (omega arith) (ap not (sym c.are_bits.ensures ∙ c.if-not-are_bits.false))
