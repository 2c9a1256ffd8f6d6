use Rattle.plans.specs.Calls.{decode_answer_in}
use Rattle.meterplan.proofs.meterplan_decode.Goals as goal

pub returns-clause-number : goal.returns-clause-number
unfolding decode_answer_in
returns-clause-number c = c.from.ensures _ _ _ c.decode.ensures.answer
