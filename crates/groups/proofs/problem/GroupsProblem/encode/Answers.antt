use mathlib.Core.Path.{refl, sym, ◌∙◌}
use Rattle.qubo.specs.Decoding.{code_after}
use Rattle.onehot.proofs.Turns.{choices_within}
use Rattle.groups.specs.Plans.{code_of}
use Rattle.groups.proofs.Answers.{plan_choices}
use Rattle.groups.proofs.problem.GroupsProblem.encode.Goals as goal

pub returns-then-not-is_plan-clause-bits : goal.returns-then-not-is_plan-clause-bits
unfolding code_after
returns-then-not-is_plan-clause-bits c = rw (sym c.is_plan.ensures ∙ c.if-not-is_plan.true) refl

pub encode-requires : goal.encode-requires
encode-requires c =
    let e = choices_within _ _ _ (plan_choices _ _ _ (sym c.is_plan.ensures ∙ c.if-not-is_plan.false)) in
    (e.0, e.1, c.requires)

pub returns-clause-bits : goal.returns-clause-bits
unfolding code_after code_of
returns-clause-bits c = rw (sym c.is_plan.ensures ∙ c.if-not-is_plan.false) c.encode.ensures
