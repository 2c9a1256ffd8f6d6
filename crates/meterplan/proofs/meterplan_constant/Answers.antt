use Rattle.plans.specs.Calls.{constant_answer_in}
use Rattle.meterplan.proofs.meterplan_constant.Goals as goal

pub returns-clause-number : goal.returns-clause-number
unfolding constant_answer_in
returns-clause-number c = c.from.ensures _ _ c.constant.ensures.answer
