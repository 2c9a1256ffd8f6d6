use native.Mathlib.Omega.{arith}
use Rattle.arcs.proofs.Signed.{plain}
use Rattle.arcs.proofs.EndRows.{arc_weight_row, other_weight_row}
use Rattle.arcs.proofs.rows.add_weights.Goals as goal

pub returns-in-OfArc : goal.returns-in-OfArc
returns-in-OfArc c =
    let few = rw c.in-OfArc.is at c.requires.2 in
    λ N D ls is. arc_weight_row _ _ _ _ _ _ _ (rw c.in-OfArc.is at is) _ (rw (plain c.in-OfArc.weight (omega (arith, few))) at c.add_single.ensures)

pub returns-in_default : goal.returns-in_default
returns-in_default c = λ N D ls is. other_weight_row _ _ _ _ _ _ c.in_default.not-OfArc is
