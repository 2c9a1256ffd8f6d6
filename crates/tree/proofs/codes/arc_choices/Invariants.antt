use Rattle.std.proofs.Common.{◌≡◌, length}
use Rattle.tree.specs.Plans.{arc_choice}
use Rattle.tree.proofs.Filling.{ArcsFilled}
use Rattle.tree.proofs.codes.arc_choices.Given as goal

abbrev pub invariant-loop-k : goal.invariant-loop-k
invariant-loop-k l = (length l.choices ≡ 512) × ArcsFilled l.link-items (arc_choice (length l.plan) l.plan) l.k l.choices
