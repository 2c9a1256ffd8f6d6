use mathlib.Core.Path.{sym, ap}
use lib.Dec.{eqb}
use Rattle.lists.proofs.Sums.{nth_index}
use Rattle.tree.proofs.plans.is_parent.Goals as goal

pub returns : goal.returns
returns c = ap (λ t. eqb t c.args.u) (sym (nth_index _ _ c.requires.0))
