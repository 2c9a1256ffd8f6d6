use Rattle.plans.proofs.Calling.{exit_is, penalty_refused, penalty_given, penalty_below}
use Rattle.plans.proofs.penalty.Goals as goal

pub returns-in_err-posed-clause-answer : goal.returns-in_err-posed-clause-answer
returns-in_err-posed-clause-answer c = rw (exit_is _ c.from_residual.ensures.1) (penalty_refused _ _ _ c.in_err-posed.ensures)

pub returns-clause-answer : goal.returns-clause-answer
returns-clause-answer c = penalty_given _ _ c.in_ok-posed.ensures.0 _ c.in_ok-posed.ensures.1 _ c.penalty.ensures

pub returns-clause-small : goal.returns-clause-small
returns-clause-small c = penalty_below _ _ c.in_ok-posed.ensures.0 _ c.in_ok-posed.ensures.1 _ c.penalty.ensures
