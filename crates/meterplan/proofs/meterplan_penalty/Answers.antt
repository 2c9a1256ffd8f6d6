use Rattle.std.proofs.Common.{ℕ, ◌<◌, arith, rules, of_calls}
use Rattle.std.proofs.lemmas.Result.{IfOk-weaker}
use Rattle.plans.specs.Calls.{penalty_answer_in}
use Rattle.meterplan.proofs.Crossing.{counted}
use Rattle.meterplan.proofs.meterplan_penalty.Goals as goal

pub returns-clause-number : goal.returns-clause-number
unfolding penalty_answer_in
returns-clause-number c = c.from.ensures _ _ (counted _ (λ x y l p. search (rules, of_calls)) _ _ _ _ (IfOk-weaker _ (λ (x : ℕ). x < 8589934592) (λ (x : ℕ). x < 9223372036854775808) (λ x h. omega arith) c.penalty.ensures.small) c.map.ensures.cases c.penalty.ensures.answer)
