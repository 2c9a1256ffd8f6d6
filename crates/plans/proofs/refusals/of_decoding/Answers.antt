use Rattle.std.proofs.Common.{arith}
use Rattle.plans.proofs.Refusing.{decode_plan_length, decode_rest}
use Rattle.plans.proofs.refusals.of_decoding.Goals as goal

pub returns-then-plan-plan_bytes : goal.returns-then-plan-plan_bytes
returns-then-plan-plan_bytes c = decode_plan_length _ _ _ _ (omega arith)

pub returns : goal.returns
returns c = decode_rest _ _ _ _ (omega arith) _ c.of_energy.ensures
