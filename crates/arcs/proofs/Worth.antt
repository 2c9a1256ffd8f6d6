-- What the terms of depths and arcs are worth at an assignment: whole numbers from 0. Assumes nothing.
use Prim.Native.Nat.{ℕ, zero, suc, pred, ◌+◌, ◌-◌, ◌*◌, ◌≤◌}
use mathlib.Core.Path.{◌≡◌, refl, sym, ap, ap₂, ◌∙◌}
use mathlib.Core.Bool.{Bool, true, false, cond}
use mathlib.Core.List.{List, [], ◌∷◌}
use native.Mathlib.Omega.{arith}
use native.Mathlib.Nat.{one-mul, zero-mul}
use borrow.Author.Tests.{le-ltb}
use lib.Dec.{eqb}
use lib.ListN.{get_or}
use lib.IntN.{ℤ, pos, negsuc, neg_ℤ, ◌+ℤ◌, ◌-ℤ◌, ◌*ℤ◌, +ℤ_idl, +ℤ_idr, neg_ℤ-+ℤ}
use Rattle.lists.specs.Sums.{sum_to, sum_of, same, gap}
use Rattle.lists.proofs.Sums.{sum_to_times, sum_of_times}
use Rattle.qubo.specs.Formula.{Term, square, product, Formula, Bits, entries_value, linear_value, term_value, value}
use Rattle.qubo.specs.Terms.{each, each_of, over, sum, bit, bits, single, one_hot}
use Rattle.qubo.proofs.Ints.{negℤ_*ℤ, one_*ℤ}
use Rattle.qubo.proofs.Families.{sum_over, sum_each_eq, sum_each_pos, sum_over_each_of, sum_over_over, sum_over_pos}
use Rattle.qubo.proofs.Values.{value_sum, entries_append, each_value, bits_value, bit_value, single_value, one_hot_value, gap_squared}
use Rattle.onehot.specs.Choices.{bit_at, one_hots, miss_squared}
use Rattle.onehot.proofs.Penalty.{miss_squared_whole, one_hots_value}
use Rattle.arcs.specs.Arcs.{Arc, depth_bit, arc_bit, depth_at, arc_at}
use Rattle.arcs.specs.Formula.{root_term, depth_terms, entering, entry_term, entry_terms, ends_missing, end_terms, weight_terms}
use Rattle.arcs.specs.Sums.{root_miss, depth_misses, entries_of, entry_gaps, end_misses, arc_cost}

-- ---- entries

-- bit k, taken off
pub less_value : (k : ℕ) (x : List ℕ) → entries_value ((k, negsuc 0) ∷ []) x ≡ neg_ℤ (pos (get_or x k 0))
less_value k x = +ℤ_idr (negsuc 0 *ℤ pos (get_or x k 0)) ∙ negℤ_*ℤ (pos 1) (pos (get_or x k 0)) ∙ ap neg_ℤ (one_*ℤ (pos (get_or x k 0)))

-- two numbers taken off are their sum taken off
less_both : (a b : ℕ) → neg_ℤ (pos a) +ℤ neg_ℤ (pos b) ≡ neg_ℤ (pos (a + b))
less_both a b = sym (neg_ℤ-+ℤ (pos a) (pos b))

-- entries that are taken off or not, by a test
if_value : (t : Bool) (es : List (ℕ × ℤ)) (g : ℕ) (x : List ℕ) → entries_value es x ≡ neg_ℤ (pos g) → entries_value (cond t es []) x ≡ neg_ℤ (pos (cond t 1 0 * g))
if_value true es g x e = e ∙ ap (λ (n : ℕ). neg_ℤ (pos n)) (sym (one-mul g))
if_value false es g x e = ap (λ (n : ℕ). neg_ℤ (pos n)) (sym (zero-mul g))

-- what the entries of a list's elements that pass a test take off
pub tested_value : {B : Type 0} (ks : List B) (test : B → Bool) (es : B → List (ℕ × ℤ)) (g : B → ℕ) (x : List ℕ) → ((a : B) → entries_value (es a) x ≡ neg_ℤ (pos (g a)))
    → entries_value (over ks (λ a. cond (test a) (es a) [])) x ≡ neg_ℤ (pos (sum_of ks (λ a. cond (test a) 1 0 * g a)))
unfolding sum_of
tested_value [] test es g x h = refl
tested_value (a ∷ ks) test es g x h =
    entries_append (cond (test a) (es a) []) (over ks (λ b. cond (test b) (es b) [])) x
    ∙ ap₂ ◌+ℤ◌ (if_value (test a) (es a) (g a) x (h a)) (tested_value ks test es g x h)
    ∙ less_both (cond (test a) 1 0 * g a) (sum_of ks (λ b. cond (test b) 1 0 * g b))

-- what the bits b 1, .., b n take off
pub bits_less : (n : ℕ) (b : ℕ → ℕ) (x : List ℕ) → entries_value (bits (negsuc 0) n b) x ≡ neg_ℤ (pos (sum_to n (λ i. get_or x (b i) 0)))
bits_less n b x =
    bits_value (negsuc 0) n b x
    ∙ ap (λ z. negsuc 0 *ℤ z) (sum_each_pos n (λ i. get_or x (b i) 0))
    ∙ negℤ_*ℤ (pos 1) (pos (sum_to n (λ i. get_or x (b i) 0)))
    ∙ ap neg_ℤ (one_*ℤ (pos (sum_to n (λ i. get_or x (b i) 0))))

-- the bits b 1, .., b n with the coefficients q 1, .., q n
pub weighted_value : (n : ℕ) (q b : ℕ → ℕ) (x : List ℕ) → entries_value (each n (λ i. (b i, pos (q i)))) x ≡ pos (sum_to n (λ i. q i * get_or x (b i) 0))
unfolding sum_to
weighted_value zero q b x = refl
weighted_value (suc n) q b x =
    entries_append (each n (λ i. (b i, pos (q i)))) ((b (suc n), pos (q (suc n))) ∷ []) x
    ∙ ap₂ ◌+ℤ◌ (weighted_value n q b x) (+ℤ_idr (pos (q (suc n)) *ℤ pos (get_or x (b (suc n)) 0)))

-- ---- terms

-- the square of a sum that is worth a less b
pub square_value : (A : ℕ) (es : List (ℕ × ℤ)) (x : List ℕ) (a b : ℕ) → entries_value es x ≡ pos a -ℤ pos b → term_value (square (pos A) (sum es)) x ≡ pos (A * (gap a b * gap a b))
square_value A es x a b e = ap (λ z. pos A *ℤ (z *ℤ z)) (+ℤ_idl (entries_value es x) ∙ e) ∙ ap (λ z. pos A *ℤ z) (gap_squared a b)

-- a one-hot term
pub one_hot_pos : (A n : ℕ) (b : ℕ → ℕ) (x : List ℕ) → term_value (one_hot (pos A) n b) x ≡ pos (A * miss_squared (sum_to n (λ i. get_or x (b i) 0)))
one_hot_pos A n b x =
    one_hot_value (pos A) n b x
    ∙ ap (λ z. pos A *ℤ ((pos 1 -ℤ z) *ℤ (pos 1 -ℤ z))) (sum_each_pos n (λ i. get_or x (b i) 0))
    ∙ ap (λ z. pos A *ℤ z) (sym (miss_squared_whole (sum_to n (λ i. get_or x (b i) 0))))

-- ---- families of terms that are worth A times a number

pub each_times : (A n : ℕ) (F : ℕ → Term) (f : ℕ → ℕ) (x : List ℕ) → ((i : ℕ) → term_value (F i) x ≡ pos (A * f i)) → sum_over (each n F) (λ t. term_value t x) ≡ pos (A * sum_to n f)
each_times A n F f x h = each_value n F (λ i. A * f i) x h ∙ ap pos (sum_to_times n A f)

pub each_of_times : (A n : ℕ) (G : ℕ → Formula) (g : ℕ → ℕ) (x : List ℕ) → ((v : ℕ) → sum_over (G v) (λ t. term_value t x) ≡ pos (A * g v)) → value (each_of n G) x ≡ pos (A * sum_to n g)
each_of_times A n G g x h =
    value_sum (each_of n G) x
    ∙ sum_over_each_of n G (λ t. term_value t x)
    ∙ sum_each_eq n (λ v. sum_over (G v) (λ t. term_value t x)) (λ v. pos (A * g v)) (λ v p q. h v)
    ∙ sum_each_pos n (λ v. A * g v)
    ∙ ap pos (sum_to_times n A g)

pub over_value : {B : Type 0} (ks : List B) (G : B → Formula) (g : B → ℕ) (x : List ℕ) → ((a : B) → sum_over (G a) (λ t. term_value t x) ≡ pos (g a)) → value (over ks G) x ≡ pos (sum_of ks g)
over_value ks G g x h = value_sum (over ks G) x ∙ sum_over_over ks G (λ t. term_value t x) ∙ sum_over_pos ks (λ a. sum_over (G a) (λ t. term_value t x)) g h

-- ---- depths

-- A times "(1 - number of depth-0 bits)²"
pub root_value : (A N D : ℕ) (x : List ℕ) → value (root_term A N D ∷ []) x ≡ pos (A * root_miss N (depth_at D x))
unfolding root_miss depth_at
root_value A N D x = +ℤ_idr (term_value (root_term A N D) x) ∙ one_hot_pos A N (λ v. depth_bit D v 0) x

-- A times "per meter (1 - its depth bits)²": one-hot choices among D + 1
pub depths_value : (A N D : ℕ) (x : List ℕ) → value (depth_terms A N D) x ≡ pos (A * depth_misses N D (depth_at D x))
unfolding depth_terms depth_misses depth_at one_hots bit_at
depths_value A N D x = one_hots_value A N (suc D) x

-- ---- arcs

-- A times "(its depth-i bit - depth-i arcs into it)²" of meter v
pub entry_value : (A N D : ℕ) (ks : List Arc) (x : List ℕ) (v i : ℕ)
    → term_value (entry_term A N D ks v i) x ≡ pos (A * (gap (depth_at D x v i) (entries_of ks (arc_at N D x) v i) * gap (depth_at D x v i) (entries_of ks (arc_at N D x) v i)))
unfolding depth_at arc_at entries_of same
entry_value A N D ks x v i =
    square_value A ((depth_bit D v i, pos 1) ∷ over ks (entering N D v i)) x (depth_at D x v i) (entries_of ks (arc_at N D x) v i)
    (ap₂ ◌+ℤ◌ (one_*ℤ (pos (depth_at D x v i)))
    (tested_value ks (λ a. eqb a.child v) (λ a. (arc_bit N D a i, negsuc 0) ∷ []) (λ a. arc_at N D x a i) x (λ a. less_value (arc_bit N D a i) x)))

pub entry_gaps_value : (A N D : ℕ) (ks : List Arc) (x : List ℕ) → value (entry_terms A N D ks) x ≡ pos (A * entry_gaps N D ks (depth_at D x) (arc_at N D x))
unfolding entry_terms entry_gaps
entry_gaps_value A N D ks x =
    each_of_times A N (λ v. each D (entry_term A N D ks v)) (λ v. sum_to D (λ i. gap (depth_at D x v i) (entries_of ks (arc_at N D x) v i) * gap (depth_at D x v i) (entries_of ks (arc_at N D x) v i))) x
    (λ v. each_times A D (entry_term A N D ks v) (λ i. gap (depth_at D x v i) (entries_of ks (arc_at N D x) v i) * gap (depth_at D x v i) (entries_of ks (arc_at N D x) v i)) x (entry_value A N D ks x v))

-- a less b, where b is no more
less_pos : (a b : ℕ) → b ≤ a → pos a +ℤ neg_ℤ (pos b) ≡ pos (a - b)
less_pos a zero h = ap pos (let e : a + 0 ≡ a - 0 = omega arith in e)
less_pos a (suc b) h = rw (le-ltb a (suc b) h) refl

-- "2 - [u at i-1] - [v at i]" of an arc
missing_value : (D : ℕ) (a : Arc) (i : ℕ) (x : List ℕ) → Bits x → linear_value (ends_missing D a i) x ≡ pos (2 - (depth_at D x a.parent (pred i) + depth_at D x a.child i))
unfolding depth_at
missing_value D a i x b =
    ap (λ z. pos 2 +ℤ z)
    (entries_append ((depth_bit D a.parent (pred i), negsuc 0) ∷ []) ((depth_bit D a.child i, negsuc 0) ∷ []) x
    ∙ ap₂ ◌+ℤ◌ (less_value (depth_bit D a.parent (pred i)) x) (less_value (depth_bit D a.child i) x)
    ∙ less_both (depth_at D x a.parent (pred i)) (depth_at D x a.child i))
    ∙ less_pos 2 (depth_at D x a.parent (pred i) + depth_at D x a.child i) (omega (arith, b (depth_bit D a.parent (pred i)), b (depth_bit D a.child i)))

-- A times "its bit times (2 - [u at i-1] - [v at i])"
end_value : (A N D : ℕ) (a : Arc) (x : List ℕ) → Bits x → (i : ℕ)
    → term_value (product (pos A) (bit (arc_bit N D a i)) (ends_missing D a i)) x ≡ pos (A * (arc_at N D x a i * (2 - (depth_at D x a.parent (pred i) + depth_at D x a.child i))))
unfolding arc_at
end_value A N D a x b i = ap₂ (λ (y z : ℤ). pos A *ℤ (y *ℤ z)) (bit_value (arc_bit N D a i) x) (missing_value D a i x b)

pub ends_value : (A N D : ℕ) (ks : List Arc) (x : List ℕ) → Bits x → value (end_terms A N D ks) x ≡ pos (A * end_misses D ks (depth_at D x) (arc_at N D x))
unfolding end_terms end_misses
ends_value A N D ks x b =
    over_value ks (λ a. each D (λ i. product (pos A) (bit (arc_bit N D a i)) (ends_missing D a i))) (λ a. A * sum_to D (misses a)) x
    (λ a. each_times A D (λ i. product (pos A) (bit (arc_bit N D a i)) (ends_missing D a i)) (misses a) x (end_value A N D a x b))
    ∙ ap pos (sum_of_times ks A (λ a. sum_to D (misses a)))
  where
    misses : Arc → ℕ → ℕ
    misses a i = arc_at N D x a i * (2 - (depth_at D x a.parent (pred i) + depth_at D x a.child i))

-- "the weight of every arc bit set"
pub weights_value : (N D : ℕ) (ks : List Arc) (x : List ℕ) → value (weight_terms N D ks) x ≡ pos (arc_cost D ks (arc_at N D x))
unfolding weight_terms arc_cost arc_at
weights_value N D ks x =
    over_value ks (λ a. each D (λ i. single (pos a.weight) (arc_bit N D a i))) (λ a. a.weight * sum_to D (arc_at N D x a)) x
    (λ a. each_times a.weight D (λ i. single (pos a.weight) (arc_bit N D a i)) (arc_at N D x a) x (λ i. single_value (pos a.weight) (arc_bit N D a i) x))
