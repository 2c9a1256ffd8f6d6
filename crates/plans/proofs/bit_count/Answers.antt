use Rattle.plans.proofs.Calling.{exit_is, bits_refused, bits_given, bits_few}
use Rattle.plans.proofs.bit_count.Goals as goal

pub returns-in_err-posed-clause-answer : goal.returns-in_err-posed-clause-answer
returns-in_err-posed-clause-answer c = rw (exit_is _ c.from_residual.ensures.1) (bits_refused _ _ _ c.in_err-posed.ensures)

pub returns-clause-answer : goal.returns-clause-answer
returns-clause-answer c = bits_given _ _ c.in_ok-posed.ensures.0 _ c.in_ok-posed.ensures.1 _ c.bits.ensures

pub returns-clause-few : goal.returns-clause-few
returns-clause-few c = bits_few _ _ c.in_ok-posed.ensures.0 _ c.in_ok-posed.ensures.1 _ c.bits.ensures
