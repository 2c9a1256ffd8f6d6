-- The two families of neighbour counts: their values as whole numbers from 0, their constants and their norms. Assumes nothing.
use Prim.Native.Nat.{ℕ, zero, suc, ◌+◌, ◌*◌, ◌≤◌}
use mathlib.Core.Path.{◌≡◌, refl, sym, ap, ap₂, ◌∙◌}
use mathlib.Core.Bool.{◌||◌, cond}
use mathlib.Core.List.{List, [], ◌∷◌, Memᴰ}
use native.Mathlib.Omega.{arith}
use native.Mathlib.Decide.{ℕ_discrete}
use native.Mathlib.Nat.{le_refl, le_trans, mul-le-mul, mul-le-mul_left, mul-zero}
use lib.Dec.{eqb}
use lib.IntN.{pos, negsuc, neg_ℤ, ◌+ℤ◌}
use borrow.Author.Tests.{eq-eqb, ne_eqb}
use Rattle.lists.specs.Sums.{sum_to, sum_of, same, gap}
use Rattle.lists.proofs.Sums.{sum_to_const, same_yes, same_no}
use Rattle.links.specs.declared.Link.{Link}
use Rattle.links.specs.Survey.{IsGraph}
use Rattle.links.proofs.Degree.{degree_few}
use Rattle.qubo.specs.Formula.{entries_value, term_value, value}
use Rattle.qubo.specs.Table.{term_constant, constant_of}
use Rattle.qubo.specs.Norm.{entries_norm, term_norm, formula_norm}
use Rattle.qubo.specs.Terms.{each, over, bits, one_hot}
use Rattle.qubo.proofs.Families.{sum_each_eq, sum_each_pos, sum_over_each, constant_sum, each_constant, norm_each, entries_norm_append, bits_norm}
use Rattle.qubo.proofs.Values.{value_sum, entries_append}
use Rattle.qubo.proofs.RowShapes.{one_hot_norm}
use Rattle.onehot.specs.Choices.{set_at, miss_squared, misses}
use Rattle.arcs.specs.Arcs.{Arc, arcs, arc_bit, arc_at}
use Rattle.arcs.proofs.Bound.{square_le, arcs_touching, tested_norm}
use Rattle.arcs.proofs.Worth.{tested_value, bits_less, weighted_value, square_value, one_hot_pos, each_times}
use Rattle.neighbours.specs.Formula.{count_bit, count_at, count_terms, touching, degree_term, degree_terms, touches_of, degree_gaps}
use Rattle.neighbours.specs.Inner.{degree_entries}

-- ---- (1 - neighbour-count bits)² of each meter

module _ (A N D M d : ℕ) where
  -- their value
  pub counts_value : (x : List ℕ) → value (count_terms A N D M d) x ≡ pos (A * misses N d (count_at N D M d x))
  unfolding count_terms misses set_at count_at
  counts_value x =
      value_sum (count_terms A N D M d) x
      ∙ each_times A N (λ v. one_hot (pos A) d (count_bit N D M d v)) (λ v. miss_squared (set_at d (count_at N D M d x) v)) x (λ v. one_hot_pos A d (count_bit N D M d v) x)

  -- their constant is A for each meter
  pub counts_constant : constant_of (count_terms A N D M d) ≡ pos (A * N)
  unfolding count_terms
  counts_constant =
      constant_sum (count_terms A N D M d)
      ∙ sum_over_each N (λ v. one_hot (pos A) d (count_bit N D M d v)) term_constant
      ∙ sum_each_eq N (λ v. term_constant (one_hot (pos A) d (count_bit N D M d v))) (λ v. pos A) (λ v p q. ap pos (let e : A * 1 ≡ A = omega arith in e))
      ∙ sum_each_pos N (λ v. A)
      ∙ ap pos (sum_to_const N A (λ v. A) (λ i p q. refl))

  -- their norm
  pub counts_norm : N ≤ 48 → d ≤ 47 → formula_norm (count_terms A N D M d) ≤ A * 110592
  unfolding count_terms
  counts_norm n h =
      let few : 1 + d ≤ 48 = omega arith in
      le_trans (norm_each (A * 2304) N (λ v. one_hot (pos A) d (count_bit N D M d v)) (λ v p q. omega (arith, one_hot_norm (pos A) d (count_bit N D M d v), mul-le-mul_left A (mul-le-mul few few))))
      (omega (arith, mul-le-mul {n₂ = 48} {m₂ = A * 2304} n (mul-le-mul_left A (le_refl 2304))))

-- ---- (sum of j over those set - all arc bits in or out of it)² of each meter

-- an arc is in or out of meter v, once, or neither
touching_is : (a : Arc) (v : ℕ) → (a.parent ≡ a.child → ⊥) → cond (eqb a.parent v || eqb a.child v) 1 0 ≡ same a.parent v + same a.child v
touching_is a v ne =
    elim (ℕ_discrete a.parent v) [
      | yes p ↦ rw (eq-eqb a.parent v p, same_yes a.parent v p, same_no a.child v (λ c. ne (p ∙ sym c))) refl
      | no p ↦ elim (ℕ_discrete a.child v) [
        | yes c ↦ rw (ne_eqb a.parent v p, eq-eqb a.child v c, same_no a.parent v p, same_yes a.child v c) refl
        | no c ↦ rw (ne_eqb a.parent v p, ne_eqb a.child v c, same_no a.parent v p, same_no a.child v c) refl
      ]
    ]

-- so with arcs between two meters
touches_sum : (D : ℕ) (ks : List Arc) (arc : Arc → ℕ → ℕ) (v : ℕ) → ((a : Arc) → Memᴰ a ks → a.parent ≡ a.child → ⊥)
    → sum_of ks (λ a. cond (eqb a.parent v || eqb a.child v) 1 0 * sum_to D (arc a)) ≡ touches_of D ks arc v
unfolding touches_of sum_of
touches_sum D [] arc v h = refl
touches_sum D (a ∷ ks) arc v h =
    ap₂ ◌+◌ (ap (λ (k : ℕ). k * sum_to D (arc a)) (touching_is a v (h a (Memᴰ.head refl)))) (touches_sum D ks arc v (λ b m. h b (Memᴰ.tail m)))

module _ (A N D M d : ℕ) (ks : List Arc) (apart : (a : Arc) → Memᴰ a ks → a.parent ≡ a.child → ⊥) (x : List ℕ) where
  -- the sum of j over those set, and the arc bits
  abbrev counted : ℕ → ℕ
  counted v = sum_to d (λ j. j * count_at N D M d x v j)

  abbrev touched : ℕ → ℕ
  touched v = touches_of D ks (arc_at N D x) v

  touched_value : (v : ℕ) → entries_value (over ks (touching N D v)) x ≡ neg_ℤ (pos (touched v))
  unfolding arc_at
  touched_value v =
      tested_value ks (λ a. eqb a.parent v || eqb a.child v) (λ a. bits (negsuc 0) D (arc_bit N D a)) (λ a. sum_to D (arc_at N D x a)) x (λ a. bits_less D (arc_bit N D a) x)
      ∙ ap (λ (k : ℕ). neg_ℤ (pos k)) (touches_sum D ks (arc_at N D x) v apart)

  degree_value : (v : ℕ) → term_value (degree_term A N D M d ks v) x ≡ pos (A * (gap (counted v) (touched v) * gap (counted v) (touched v)))
  unfolding count_at
  degree_value v =
      square_value A (degree_entries N D M d ks v) x (counted v) (touched v)
      (entries_append (each d (λ j. (count_bit N D M d v j, pos j))) (over ks (touching N D v)) x ∙ ap₂ ◌+ℤ◌ (weighted_value d (λ j. j) (count_bit N D M d v) x) (touched_value v))

  -- their value
  pub degrees_value : value (degree_terms A N D M d ks) x ≡ pos (A * degree_gaps N D d ks (arc_at N D x) (count_at N D M d x))
  unfolding degree_terms degree_gaps
  degrees_value =
      value_sum (degree_terms A N D M d ks) x
      ∙ each_times A N (degree_term A N D M d ks) (λ v. gap (counted v) (touched v) * gap (counted v) (touched v)) x degree_value

-- their constant
pub degrees_constant : (A N D M d : ℕ) (ks : List Arc) → constant_of (degree_terms A N D M d ks) ≡ pos 0
unfolding degree_terms
degrees_constant A N D M d ks = each_constant N (degree_term A N D M d ks) (λ v. ap pos (mul-zero A))

-- ---- their norm

-- 1 + .. + d
pub numbered_norm : (d : ℕ) (b : ℕ → ℕ) → 2 * entries_norm (each d (λ j. (b j, pos j))) ≡ d * suc d
numbered_norm zero b = refl
numbered_norm (suc d) b = omega (arith, entries_norm_append (each d (λ j. (b j, pos j))) ((b (suc d), pos (suc d)) ∷ []), numbered_norm d b)

module _ (N D d : ℕ) (ls : List Link) (s : IsGraph N ls) (D24 : D ≤ 24) (d47 : d ≤ 47) where
  -- D for each arc in or out of meter v
  touches_norm : (v : ℕ) → entries_norm (over (arcs ls) (touching N D v)) ≤ 2256
  touches_norm v =
      omega (
        arith,
        tested_norm (arcs ls) (λ a. eqb a.parent v || eqb a.child v) (λ a. bits (negsuc 0) D (arc_bit N D a)) D (λ a. omega (arith, bits_norm (negsuc 0) D (arc_bit N D a))),
        arcs_touching N ls v s,
        mul-le-mul {n₂ = 94} {m₂ = 24} (let h : sum_of (arcs ls) (λ a. cond (eqb a.parent v || eqb a.child v) 1 0) ≤ 94 = omega (arith, arcs_touching N ls v s, degree_few N ls v s) in h) D24,
      )

  pub degree_norm : (A M v : ℕ) → term_norm (degree_term A N D M d (arcs ls) v) ≤ A * 11451456
  degree_norm A M v =
      mul-le-mul_left A (square_le (0 + entries_norm (degree_entries N D M d (arcs ls) v)) 3384
      (omega (
        arith,
        entries_norm_append (each d (λ j. (count_bit N D M d v j, pos j))) (over (arcs ls) (touching N D v)),
        numbered_norm d (count_bit N D M d v),
        mul-le-mul {n₂ = 47} {m₂ = 48} d47 (let h : suc d ≤ 48 = omega arith in h),
        touches_norm v,
      )))

  pub degrees_norm : (A M : ℕ) → formula_norm (degree_terms A N D M d (arcs ls)) ≤ A * 549669888
  unfolding degree_terms
  degrees_norm A M =
      le_trans (norm_each (A * 11451456) N (degree_term A N D M d (arcs ls)) (λ v p q. degree_norm A M v))
      (omega (arith, mul-le-mul {n₂ = 48} {m₂ = A * 11451456} s.few_meters (le_refl (A * 11451456))))
