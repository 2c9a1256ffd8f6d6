use Rattle.std.proofs.Common.{refl, sym, ◌∙◌}
use mir.Syntax.{w64}
use mir.Facts.{to_z-of_z}
use borrow.Author.Rules.{sfits_of}
use Rattle.site.proofs.Calls.{number_above}
use Rattle.plans.proofs.Refusing.{energy_assignment}
use Rattle.plans.proofs.Calling.{exit_is, energy_stops, energy_tested, energy_given}
use Rattle.plans.proofs.energy.Goals as goal

pub returns-in_err-posed-clause-answer : goal.returns-in_err-posed-clause-answer
returns-in_err-posed-clause-answer c = rw (exit_is _ c.from_residual.ensures.1) (energy_stops _ _ _ c.in_err-posed.ensures c.args.bits.now)

pub returns-in_err-of_energy-clause-answer : goal.returns-in_err-of_energy-clause-answer
returns-in_err-of_energy-clause-answer c = rw (exit_is _ c.from_residual-in_err-of_energy.ensures.1) (energy_tested _ _ c.in_ok-posed.ensures c.args.bits.now c.in_err-of_energy.ensures (number_above _))

pub energy-requires : goal.energy-requires
energy-requires c = energy_assignment _ _ (sym c.in_ok-of_energy.ensures)

pub returns-clause-answer : goal.returns-clause-answer
returns-clause-answer c =
    energy_given _ _ c.in_ok-posed.ensures c.args.bits.now c.in_ok-of_energy.ensures refl (to_z-of_z (sfits_of {w = w64} c.energy.type_inv) ∙ c.energy.ensures)
