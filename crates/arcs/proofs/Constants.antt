-- The constants of the terms of depths and arcs. Assumes nothing.
use Prim.Native.Nat.{ℕ, suc, ◌+◌, ◌*◌}
use mathlib.Core.Path.{◌≡◌, refl, ap, ap₂, sym, ◌∙◌}
use mathlib.Core.List.{List, [], ◌∷◌}
use native.Mathlib.Omega.{arith}
use lib.IntN.{pos, ◌+ℤ◌, *ℤ-zero}
use Rattle.qubo.specs.Formula.{product, Formula}
use Rattle.qubo.specs.Table.{term_constant, constant_of}
use Rattle.qubo.specs.Terms.{each, each_of, over, bit, single}
use Rattle.qubo.proofs.Families.{sum_over, sum_each_none, sum_over_each_of, constant_sum, constant_append, each_constant}
use Rattle.onehot.specs.Choices.{one_hots}
use Rattle.onehot.proofs.Penalty.{one_hots_constant}
use Rattle.arcs.specs.Arcs.{Arc, arc_bit}
use Rattle.arcs.specs.Formula.{root_term, depth_terms, entry_term, entry_terms, ends_missing, end_terms, weight_terms}

-- families of formulas that have nothing at 1
pub each_of_constant : (n : ℕ) (G : ℕ → Formula) → ((v : ℕ) → constant_of (G v) ≡ pos 0) → constant_of (each_of n G) ≡ pos 0
each_of_constant n G h = constant_sum (each_of n G) ∙ sum_over_each_of n G term_constant ∙ sum_each_none n (λ v. sum_over (G v) term_constant) (λ v p q. sym (constant_sum (G v)) ∙ h v)

pub over_constant : {B : Type 0} (ks : List B) (G : B → Formula) → ((a : B) → constant_of (G a) ≡ pos 0) → constant_of (over ks G) ≡ pos 0
over_constant [] G h = refl
over_constant (a ∷ ks) G h = constant_append (G a) (over ks G) ∙ ap₂ ◌+ℤ◌ (h a) (over_constant ks G h)

-- (1 - ..)² has 1
pub root_constant : (A N D : ℕ) → constant_of (root_term A N D ∷ []) ≡ pos A
root_constant A N D = ap pos (let e : A * 1 + 0 ≡ A = omega arith in e)

-- for each meter
pub depths_constant : (A N D : ℕ) → constant_of (depth_terms A N D) ≡ pos (A * N)
unfolding depth_terms one_hots
depths_constant A N D = one_hots_constant A N (suc D)

pub entries_constant : (A N D : ℕ) (ks : List Arc) → constant_of (entry_terms A N D ks) ≡ pos 0
unfolding entry_terms
entries_constant A N D ks = each_of_constant N (λ v. each D (entry_term A N D ks v)) (λ v. each_constant D (entry_term A N D ks v) (λ i. *ℤ-zero (pos A)))

pub ends_constant : (A N D : ℕ) (ks : List Arc) → constant_of (end_terms A N D ks) ≡ pos 0
unfolding end_terms
ends_constant A N D ks =
    over_constant ks (λ a. each D (λ i. product (pos A) (bit (arc_bit N D a i)) (ends_missing D a i))) (λ a. each_constant D (λ i. product (pos A) (bit (arc_bit N D a i)) (ends_missing D a i)) (λ i. *ℤ-zero (pos A)))

pub weights_constant : (N D : ℕ) (ks : List Arc) → constant_of (weight_terms N D ks) ≡ pos 0
unfolding weight_terms
weights_constant N D ks =
    over_constant ks (λ a. each D (λ i. single (pos a.weight) (arc_bit N D a i))) (λ a. each_constant D (λ i. single (pos a.weight) (arc_bit N D a i)) (λ i. *ℤ-zero (pos a.weight)))
