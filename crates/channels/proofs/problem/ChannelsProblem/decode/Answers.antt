use Rattle.std.proofs.Common.{ap, ap₂, ◌∙◌, Some}
use Rattle.qubo.specs.Decoding.{answer_of, plan_after}
use Rattle.channels.specs.Plans.{clash_weight}
use Rattle.channels.proofs.Clashing.{clash_sum}
use Rattle.channels.proofs.problem.ChannelsProblem.decode.Goals as goal

pub returns-clause-answer : goal.returns-clause-answer
unfolding answer_of
returns-clause-answer c =
    ap₂ (λ w k. Some (record { weight = w; repaired = k }))
    (c.alike_weight-weight.ensures ∙ clash_sum _ _ ∙ ap (clash_weight _) c.repair_all.ensures) c.repaired_count-repaired.ensures

pub returns-clause-plan : goal.returns-clause-plan
unfolding plan_after
returns-clause-plan c = c.repair_all.ensures
