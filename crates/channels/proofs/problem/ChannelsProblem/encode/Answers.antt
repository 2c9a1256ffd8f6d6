use Rattle.std.proofs.Common.{refl, sym, ◌∙◌}
use Rattle.qubo.specs.Decoding.{code_after}
use Rattle.onehot.proofs.Turns.{choices_within}
use Rattle.channels.specs.Plans.{is_plan, code_of}
use Rattle.channels.proofs.problem.ChannelsProblem.encode.Goals as goal

pub returns-then-not-are_choices-clause-plan : goal.returns-then-not-are_choices-clause-plan
unfolding is_plan
returns-then-not-are_choices-clause-plan c = sym c.if-not-are_choices.true ∙ c.are_choices.ensures

pub returns-then-not-are_choices-clause-bits : goal.returns-then-not-are_choices-clause-bits
unfolding is_plan code_after
returns-then-not-are_choices-clause-bits c = rw (sym c.are_choices.ensures ∙ c.if-not-are_choices.true) refl

pub encode-requires : goal.encode-requires
encode-requires c =
    let e = choices_within _ _ _ (sym c.are_choices.ensures ∙ c.if-not-are_choices.false) in
    (e.0, e.1, c.requires)

pub returns-clause-plan : goal.returns-clause-plan
unfolding is_plan
returns-clause-plan c = sym c.if-not-are_choices.false ∙ c.are_choices.ensures

pub returns-clause-bits : goal.returns-clause-bits
unfolding is_plan code_of code_after
returns-clause-bits c = rw (sym c.are_choices.ensures ∙ c.if-not-are_choices.false) c.encode.ensures
