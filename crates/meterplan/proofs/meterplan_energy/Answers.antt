use Rattle.plans.specs.Calls.{energy_answer_in}
use Rattle.meterplan.proofs.meterplan_energy.Goals as goal

pub returns-clause-number : goal.returns-clause-number
unfolding energy_answer_in
returns-clause-number c = c.from.ensures _ _ c.energy.ensures.answer
