use Rattle.std.proofs.Common.{arith}
use Rattle.plans.proofs.Refusing.{lengths_plan, lengths_bits, lengths_fit}
use Rattle.plans.proofs.refusals.of_lengths.Goals as goal
use Rattle.plans.proofs.refusals.of_lengths.Goals.{then-plan-plan_bytes-via-then-plan-plan_bytes, then-plan-plan_bytes-via-else-plan-plan_bytes+then-bits}

pub returns-then-plan-plan_bytes : goal.returns-then-plan-plan_bytes
returns-then-plan-plan_bytes c =
    elim c.then-plan-plan_bytes.branch [
      | then-plan-plan_bytes-via-then-plan-plan_bytes w ↦ lengths_plan _ _ _ _ (omega (arith, w.if-plan-plan_bytes.true, c.plan_bytes.ensures))
      | then-plan-plan_bytes-via-else-plan-plan_bytes+then-bits w ↦ lengths_bits _ _ _ _ (omega (arith, w.if-plan-plan_bytes.false, c.plan_bytes.ensures)) (omega (arith, w.if-bits.true, w.bits.ensures))
    ]

pub returns : goal.returns
returns c = lengths_fit _ _ _ _ (omega arith) (omega arith)
