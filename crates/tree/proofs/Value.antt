-- The energy of an assignment as a whole number from 0, which is the value of the formula; and the formula's constant. Assumes nothing.
use Prim.Native.Nat.{ℕ, ◌+◌, ◌*◌}
use mathlib.Core.Path.{◌≡◌, ap, ap₂, ◌∙◌}
use mathlib.Core.List.{List, [], ◌∷◌, ◌++◌}
use native.Mathlib.Omega.{arith}
use native.Mathlib.Nat.{mul-add, mul-one}
use lib.ListN.{length}
use lib.IntN.{ℤ, pos, ◌+ℤ◌}
use Rattle.links.specs.declared.Link.{Link}
use Rattle.links.specs.Survey.{IsSurvey}
use Rattle.links.proofs.Graph.{graph_of}
use Rattle.qubo.specs.Formula.{Formula, Bits, value}
use Rattle.qubo.specs.Table.{constant_of}
use Rattle.qubo.proofs.Families.{constant_append}
use Rattle.qubo.proofs.Values.{value_append}
use Rattle.onehot.specs.Choices.{misses}
use Rattle.spanning.specs.Parents.{deepest}
use Rattle.arcs.specs.Arcs.{Arc, arcs, depth_at, arc_at}
use Rattle.arcs.specs.Formula.{root_term, depth_terms, entry_terms, end_terms, weight_terms}
use Rattle.arcs.specs.Sums.{root_miss, depth_misses, entry_gaps, end_misses, arc_cost}
use Rattle.arcs.proofs.Worth.{root_value, depths_value, entry_gaps_value, ends_value, weights_value}
use Rattle.arcs.proofs.Constants.{root_constant, depths_constant, entries_constant, ends_constant, weights_constant}
use Rattle.arcs.proofs.ArcLists.{arc_of}
use Rattle.neighbours.specs.Formula.{count_at, count_terms, degree_terms, degree_gaps}
use Rattle.tree.specs.Formula.{formula_to, formula, bits_of, broken}
use Rattle.neighbours.proofs.CountValue.{counts_value, counts_constant, degrees_value, degrees_constant}

-- A times the sum of the six, plus the weight of every arc bit set
unfoldable pub worth : ℕ → ℕ → ℕ → List Link → List ℕ → ℕ
worth A N d ls x = A * broken N (deepest N) d (arcs ls) (bits_of N (deepest N) (length ls) d x) + arc_cost (deepest N) (arcs ls) (arc_at N (deepest N) x)

-- a sum of whole numbers in ℤ, family by family
module _ (F : Formula → ℤ) (join : (f g : Formula) → F (f ++ g) ≡ F f +ℤ F g) where
  -- one more family
  more : (f g : Formula) (a b : ℕ) → F f ≡ pos a → F g ≡ pos b → F (f ++ g) ≡ pos (a + b)
  more f g a b e h = join f g ∙ ap₂ ◌+ℤ◌ e h

  pub seven : (f₁ f₂ f₃ f₄ f₅ f₆ f₇ : Formula) (a₁ a₂ a₃ a₄ a₅ a₆ a₇ : ℕ) → F f₁ ≡ pos a₁ → F f₂ ≡ pos a₂ → F f₃ ≡ pos a₃ → F f₄ ≡ pos a₄ → F f₅ ≡ pos a₅ → F f₆ ≡ pos a₆ → F f₇ ≡ pos a₇
      → F (f₁ ++ f₂ ++ f₃ ++ f₄ ++ f₅ ++ f₆ ++ f₇) ≡ pos (a₁ + a₂ + a₃ + a₄ + a₅ + a₆ + a₇)
  seven f₁ f₂ f₃ f₄ f₅ f₆ f₇ a₁ a₂ a₃ a₄ a₅ a₆ a₇ e₁ e₂ e₃ e₄ e₅ e₆ e₇ =
      more (f₁ ++ f₂ ++ f₃ ++ f₄ ++ f₅ ++ f₆) f₇ (a₁ + a₂ + a₃ + a₄ + a₅ + a₆) a₇
      (more (f₁ ++ f₂ ++ f₃ ++ f₄ ++ f₅) f₆ (a₁ + a₂ + a₃ + a₄ + a₅) a₆
      (more (f₁ ++ f₂ ++ f₃ ++ f₄) f₅ (a₁ + a₂ + a₃ + a₄) a₅
      (more (f₁ ++ f₂ ++ f₃) f₄ (a₁ + a₂ + a₃) a₄
      (more (f₁ ++ f₂) f₃ (a₁ + a₂) a₃ (more f₁ f₂ a₁ a₂ e₁ e₂) e₃) e₄) e₅) e₆) e₇

-- A taken out of the six
six_times : (A a b c d e f w : ℕ) → A * a + A * b + A * c + A * d + A * e + A * f + w ≡ A * (a + b + c + d + e + f) + w
six_times A a b c d e f w = omega (arith, mul-add A (a + b + c + d + e) f, mul-add A (a + b + c + d) e, mul-add A (a + b + c) d, mul-add A (a + b) c, mul-add A a b)

module _ (A N d : ℕ) (ls : List Link) where
  abbrev D : ℕ
  D = deepest N

  abbrev M : ℕ
  M = length ls

  abbrev ks : List Arc
  ks = arcs ls

  -- the value
  pub formula_value : IsSurvey N ls → (x : List ℕ) → Bits x → value (formula A N d ls) x ≡ pos (worth A N d ls x)
  unfolding formula_to worth broken bits_of
  formula_value s x b =
      seven (λ f. value f x) (λ f g. value_append f g x) (root_term A N D ∷ []) (depth_terms A N D) (entry_terms A N D ks) (count_terms A N D M d) (degree_terms A N D M d ks) (end_terms A N D ks) (weight_terms N D ks) _ _ _ _ _ _ _
      (root_value A N D x) (depths_value A N D x) (entry_gaps_value A N D ks x) (counts_value A N D M d x) (degrees_value A N D M d ks (λ a m. (arc_of N ls (graph_of N ls s) a m).apart) x) (ends_value A N D ks x b) (weights_value N D ks x)
      ∙ ap pos (six_times A (root_miss N (depth_at D x)) (depth_misses N D (depth_at D x)) (entry_gaps N D ks (depth_at D x) (arc_at N D x)) (misses N d (count_at N D M d x)) (degree_gaps N D d ks (arc_at N D x) (count_at N D M d x)) (end_misses D ks (depth_at D x) (arc_at N D x)) (arc_cost D ks (arc_at N D x)))

  -- the constant: A for the single root, and A twice for each meter
  pub constant_is : constant_of (formula A N d ls) ≡ pos (A * (1 + 2 * N))
  unfolding formula_to
  constant_is =
      seven constant_of constant_append (root_term A N D ∷ []) (depth_terms A N D) (entry_terms A N D ks) (count_terms A N D M d) (degree_terms A N D M d ks) (end_terms A N D ks) (weight_terms N D ks) A (A * N) 0 (A * N) 0 0 0
      (root_constant A N D) (depths_constant A N D) (entries_constant A N D ks) (counts_constant A N D M d) (degrees_constant A N D M d ks) (ends_constant A N D ks) (weights_constant N D ks)
      ∙ ap pos (omega (arith, mul-add A 1 (2 * N), mul-one A, mul_two A N))
    where
      mul_two : (a n : ℕ) → a * (2 * n) ≡ a * n + a * n
      mul_two a n = ap (λ (t : ℕ). a * t) (let e : 2 * n ≡ n + n = omega arith in e) ∙ mul-add a n n
