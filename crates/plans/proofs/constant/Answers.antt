use Rattle.std.proofs.Common.{◌∙◌}
use mir.Syntax.{w64}
use mir.Facts.{to_z-of_z}
use borrow.Author.Rules.{sfits_of}
use Rattle.plans.proofs.Calling.{exit_is, constant_refused, constant_given}
use Rattle.plans.proofs.constant.Goals as goal

pub returns-in_err-posed-clause-answer : goal.returns-in_err-posed-clause-answer
returns-in_err-posed-clause-answer c = rw (exit_is _ c.from_residual.ensures.1) (constant_refused _ _ _ c.in_err-posed.ensures)

pub returns-clause-answer : goal.returns-clause-answer
returns-clause-answer c = constant_given _ _ c.in_ok-posed.ensures.0 _ c.in_ok-posed.ensures.1 _ (to_z-of_z (sfits_of {w = w64} c.constant.type_inv) ∙ c.constant.ensures)
