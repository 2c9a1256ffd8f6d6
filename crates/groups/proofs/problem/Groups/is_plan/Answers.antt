use mathlib.Core.Path.{sym, ◌∙◌}
use native.Mathlib.Omega.{arith}
use Rattle.onehot.proofs.Codes.{choices_are}
use Rattle.groups.proofs.Answers.{plan_no, plan_sizes}
use Rattle.groups.proofs.problem.Groups.is_plan.Goals as goal

pub members_spread-requires : goal.members_spread-requires
members_spread-requires c =
    (omega (arith, (choices_are _ _ _ (sym c.are_choices.ensures ∙ c.if-are_choices.true)).size, c.requires.0), omega (arith, c.requires.1))

pub returns-then-are_choices : goal.returns-then-are_choices
returns-then-are_choices c =
    let e = sym c.are_choices.ensures ∙ c.if-are_choices.true in
    plan_sizes _ _ _ e (choices_are _ _ _ e).size _ c.members_spread.ensures

pub returns-else-are_choices : goal.returns-else-are_choices
returns-else-are_choices c = c.if-are_choices.false ∙ plan_no _ _ _ (sym c.are_choices.ensures ∙ c.if-are_choices.false)
