use mathlib.Core.Path.{◌∙◌}
use native.Mathlib.Omega.{arith}
use Rattle.tree.proofs.Filling.{lent_length, lent_at, choice_none, choice_some}
use Rattle.tree.proofs.codes.arc_choice.Goals as goal

pub returns-then-not-is_parent : goal.returns-then-not-is_parent
returns-then-not-is_parent c = λ a e f. choice_none _ _ _ _ a e f _ c.is_parent.ensures c.if-not-is_parent.true

pub bounds-depths-v : goal.bounds-depths-v
bounds-depths-v c = omega (arith, c.requires.0, c.requires.1, lent_length _ _ _ c.requires.2)

pub returns : goal.returns
returns c =
    λ a e f. c.saturating_sub.ensures ∙ choice_some _ _ _ _ a e f _ c.is_parent.ensures c.if-not-is_parent.false _ (lent_at _ _ _ c.requires.2 _ c.requires.0 c.requires.1)
