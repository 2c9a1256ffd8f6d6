-- The norm of the formula, and with it the sum of the absolute values of the table's numbers, is below 2^54: for every survey, every d up to 47 and every A up to 20,000,000, which 01's A and 02's margin stay within. Assumes nothing.
use Prim.Native.Nat.{ℕ, ◌+◌, ◌*◌, ◌^◌, ◌≤◌, ◌<◌}
use mathlib.Core.Path.{◌≡◌}
use mathlib.Core.List.{List, [], ◌∷◌, ◌++◌}
use native.Mathlib.Omega.{arith}
use lib.ListN.{length}
use Rattle.links.specs.declared.Link.{Link}
use Rattle.links.specs.Survey.{IsSurvey, IsGraph}
use Rattle.links.proofs.Graph.{graph_of}
use Rattle.qubo.specs.Formula.{Formula}
use Rattle.qubo.specs.Norm.{formula_norm}
use Rattle.qubo.proofs.Families.{norm_append}
use Rattle.spanning.specs.Parents.{deepest}
use Rattle.arcs.specs.Arcs.{arcs}
use Rattle.arcs.specs.Formula.{root_term, depth_terms, entry_terms, end_terms, weight_terms}
use Rattle.arcs.proofs.Bound.{root_norm, depths_norm, entry_terms_small, ends_norm, weights_norm}
use Rattle.neighbours.specs.Formula.{count_terms, degree_terms}
use Rattle.tree.specs.Formula.{formula_to, formula}
use Rattle.tree.specs.Inner.{depth_part}
use Rattle.neighbours.proofs.CountValue.{counts_norm, degrees_norm}

-- D is at most 24
pub deepest_few : (N : ℕ) → N ≤ 48 → deepest N ≤ 24
unfolding deepest
deepest_few N h = omega arith

-- families one after another
norms : (f₁ f₂ f₃ f₄ f₅ f₆ : Formula) → formula_norm (f₁ ++ f₂ ++ f₃ ++ f₄ ++ f₅ ++ f₆) ≡ formula_norm f₁ + formula_norm f₂ + formula_norm f₃ + formula_norm f₄ + formula_norm f₅ + formula_norm f₆
norms f₁ f₂ f₃ f₄ f₅ f₆ =
    omega (
      arith,
      norm_append (f₁ ++ f₂ ++ f₃ ++ f₄ ++ f₅) f₆,
      norm_append (f₁ ++ f₂ ++ f₃ ++ f₄) f₅,
      norm_append (f₁ ++ f₂ ++ f₃) f₄,
      norm_append (f₁ ++ f₂) f₃,
      norm_append f₁ f₂,
    )

-- the six families that A multiplies, for any D
unfoldable pub six : ℕ → ℕ → ℕ → ℕ → List Link → Formula
six D A N d ls = depth_part A N D (arcs ls) ++ count_terms A N D (length ls) d ++ degree_terms A N D (length ls) d (arcs ls) ++ end_terms A N D (arcs ls)

-- their norm, for D up to 24: it asks nothing of the weights
pub six_norm : (D A N d : ℕ) (ls : List Link) → IsGraph N ls → D ≤ 24 → d ≤ 47 → formula_norm (six D A N d ls) ≤ A * 552518689
unfolding six depth_part
six_norm D A N d ls s f e =
    let n = s.few_meters in
    omega (
      arith,
      norms (root_term A N D ∷ []) (depth_terms A N D) (entry_terms A N D (arcs ls)) (count_terms A N D (length ls) d) (degree_terms A N D (length ls) d (arcs ls)) (end_terms A N D (arcs ls)),
      root_norm A N D n,
      depths_norm A N D n f,
      entry_terms_small A N D ls s f,
      counts_norm A N D (length ls) d n e,
      degrees_norm N D d ls s f e A (length ls),
      ends_norm A N D ls s f,
    )

-- with the weights it is that of the formula
pub norm_to : (D A N d : ℕ) (ls : List Link) → IsSurvey N ls → D ≤ 24 → d ≤ 47 → A ≤ 20000000 → formula_norm (formula_to D A N d ls) < 2 ^ 54
unfolding formula_to six depth_part
norm_to D A N d ls s f e a = omega (arith, norm_append (six D A N d ls) (weight_terms N D (arcs ls)), six_norm D A N d ls (graph_of N ls s) f e, weights_norm N D ls s f)

-- with 01's
pub formula_small : (A N d : ℕ) (ls : List Link) → IsSurvey N ls → d ≤ 47 → A ≤ 20000000 → formula_norm (formula A N d ls) < 2 ^ 54
formula_small A N d ls s = norm_to (deepest N) A N d ls s (deepest_few N s.meters_high)
