-- What formulas are worth at an assignment, in the words of Terms: sums over families, and the value of each form and term that occurs.
-- Assumes nothing.
use mathlib.Core.Path.{◌≡◌, refl, sym, ap, ap₂, ◌∙◌}
use mathlib.Core.List.{List, [], ◌∷◌, ◌++◌}
use Prim.Native.Nat.{ℕ, zero, suc, ◌+◌, ◌-◌, ◌*◌, ◌≤◌}
use native.Mathlib.Omega.{arith}
use native.Mathlib.Decide.{dec_le}
use lib.ListN.{get_or}
use lib.IntN.{ℤ, pos, negsuc, ◌+ℤ◌, ◌-ℤ◌, ◌*ℤ◌}
use Rattle.lists.specs.Sums.{sum_to, gap, differ}
use Rattle.lists.proofs.Sums.{differ_yes, differ_no}
use Rattle.qubo.specs.Formula.{Term, Formula, Bits, entries_value, linear_value, term_value, value}
use Rattle.qubo.specs.Terms.{each, bits, bit, one_less, difference, single, pair, unequal, one_hot, squared_difference}
use Rattle.qubo.proofs.Ring.{var, con, ◌⊕◌, ◌⊖◌, ◌⊗◌, solve}
use Rattle.qubo.proofs.Families.{sum_each, sum_over, sum_over_append, sum_over_each, sum_each_eq, sum_each_times, sum_each_pos}

-- how many of the bits b 1, .., b n are set
abbrev pub count : ℕ → (ℕ → ℕ) → List ℕ → ℤ
count n b x = sum_each n (λ k. pos (get_or x (b k) 0))

-- ---- sums
pub value_sum : (f : Formula) (x : List ℕ) → value f x ≡ sum_over f (λ t. term_value t x)
value_sum [] x = refl
value_sum (t ∷ f) x = ap (λ z. term_value t x +ℤ z) (value_sum f x)

pub value_append : (f g : Formula) (x : List ℕ) → value (f ++ g) x ≡ value f x +ℤ value g x
value_append f g x = value_sum (f ++ g) x ∙ sum_over_append f g (λ t. term_value t x) ∙ sym (ap₂ ◌+ℤ◌ (value_sum f x) (value_sum g x))

entries_sum : (es : List (ℕ × ℤ)) (x : List ℕ) → entries_value es x ≡ sum_over es (λ e. e.1 *ℤ pos (get_or x e.0 0))
entries_sum [] x = refl
entries_sum (e ∷ es) x = ap (λ z. e.1 *ℤ pos (get_or x e.0 0) +ℤ z) (entries_sum es x)

pub entries_append : (es fs : List (ℕ × ℤ)) (x : List ℕ) → entries_value (es ++ fs) x ≡ entries_value es x +ℤ entries_value fs x
entries_append es fs x = entries_sum (es ++ fs) x ∙ sum_over_append es fs (λ e. e.1 *ℤ pos (get_or x e.0 0)) ∙ sym (ap₂ ◌+ℤ◌ (entries_sum es x) (entries_sum fs x))

-- a family of terms whose values are whole numbers from 0
pub each_value : (n : ℕ) (F : ℕ → Term) (f : ℕ → ℕ) (x : List ℕ) → ((i : ℕ) → term_value (F i) x ≡ pos (f i)) → sum_over (each n F) (λ t. term_value t x) ≡ pos (sum_to n f)
each_value n F f x h = sum_over_each n F (λ t. term_value t x) ∙ sum_each_eq n (λ i. term_value (F i) x) (λ i. pos (f i)) (λ i p q. h i) ∙ sum_each_pos n f

-- ---- forms
pub bits_value : (q : ℤ) (n : ℕ) (b : ℕ → ℕ) (x : List ℕ) → entries_value (bits q n b) x ≡ q *ℤ count n b x
bits_value q n b x =
    entries_sum (bits q n b) x
    ∙ sum_over_each n (λ k. (b k, q)) (λ e. e.1 *ℤ pos (get_or x e.0 0))
    ∙ sym (sum_each_times q n (λ k. pos (get_or x (b k) 0)))

pub bit_value : (j : ℕ) (x : List ℕ) → linear_value (bit j) x ≡ pos (get_or x j 0)
bit_value j x = solve (con (pos 0) ⊕ (con (pos 1) ⊗ var 0 ⊕ con (pos 0))) (var 0) tt (pos (get_or x j 0) ∷ [])

pub one_less_value : (n : ℕ) (b : ℕ → ℕ) (x : List ℕ) → linear_value (one_less n b) x ≡ pos 1 -ℤ count n b x
one_less_value n b x = ap (λ z. pos 1 +ℤ z) (bits_value (negsuc 0) n b x) ∙ solve (con (pos 1) ⊕ con (negsuc 0) ⊗ var 0) (con (pos 1) ⊖ var 0) tt (count n b x ∷ [])

pub difference_value : (n : ℕ) (b : ℕ → ℕ) (m : ℕ) (c : ℕ → ℕ) (x : List ℕ) → linear_value (difference n b m c) x ≡ count n b x -ℤ count m c x
difference_value n b m c x =
    ap (λ z. pos 0 +ℤ z) (entries_append (bits (pos 1) n b) (bits (negsuc 0) m c) x ∙ ap₂ ◌+ℤ◌ (bits_value (pos 1) n b x) (bits_value (negsuc 0) m c x))
    ∙ solve (con (pos 0) ⊕ (con (pos 1) ⊗ var 0 ⊕ con (negsuc 0) ⊗ var 1)) (var 0 ⊖ var 1) tt (count n b x ∷ count m c x ∷ [])

-- ---- terms
pub single_value : (q : ℤ) (p : ℕ) (x : List ℕ) → term_value (single q p) x ≡ q *ℤ pos (get_or x p 0)
single_value q p x = ap (λ z. q *ℤ (z *ℤ pos 1)) (bit_value p x) ∙ solve (var 0 ⊗ (var 1 ⊗ con (pos 1))) (var 0 ⊗ var 1) tt (q ∷ pos (get_or x p 0) ∷ [])

pub pair_value : (q : ℤ) (p r : ℕ) (x : List ℕ) → term_value (pair q p r) x ≡ q *ℤ (pos (get_or x p 0) *ℤ pos (get_or x r 0))
pair_value q p r x = ap₂ (λ y z. q *ℤ (y *ℤ z)) (bit_value p x) (bit_value r x)

pub one_hot_value : (a : ℤ) (n : ℕ) (b : ℕ → ℕ) (x : List ℕ) → term_value (one_hot a n b) x ≡ a *ℤ ((pos 1 -ℤ count n b x) *ℤ (pos 1 -ℤ count n b x))
one_hot_value a n b x = ap (λ z. a *ℤ (z *ℤ z)) (one_less_value n b x)

pub squared_difference_value : (a : ℤ) (n : ℕ) (b : ℕ → ℕ) (m : ℕ) (c : ℕ → ℕ) (x : List ℕ) → term_value (squared_difference a n b m c) x ≡ a *ℤ ((count n b x -ℤ count m c x) *ℤ (count n b x -ℤ count m c x))
squared_difference_value a n b m c x = ap (λ z. a *ℤ (z *ℤ z)) (difference_value n b m c x)

unequal_squared : (q : ℤ) (p r : ℕ) (x : List ℕ) → term_value (unequal q p r) x ≡ q *ℤ ((pos (get_or x p 0) -ℤ pos (get_or x r 0)) *ℤ (pos (get_or x p 0) -ℤ pos (get_or x r 0)))
unequal_squared q p r x =
    ap (λ z. q *ℤ (z *ℤ z)) (solve (con (pos 0) ⊕ (con (pos 1) ⊗ var 0 ⊕ (con (negsuc 0) ⊗ var 1 ⊕ con (pos 0)))) (var 0 ⊖ var 1) tt (pos (get_or x p 0) ∷ pos (get_or x r 0) ∷ []))

-- ---- terms, as whole numbers from 0
-- the squares of b + d less b and of a less a + d are that of d
rise_squared : (b d : ℤ) → (b +ℤ d -ℤ b) *ℤ (b +ℤ d -ℤ b) ≡ d *ℤ d
rise_squared b d = solve ((var 0 ⊕ var 1 ⊖ var 0) ⊗ (var 0 ⊕ var 1 ⊖ var 0)) (var 1 ⊗ var 1) tt (b ∷ d ∷ [])

fall_squared : (a d : ℤ) → (a -ℤ (a +ℤ d)) *ℤ (a -ℤ (a +ℤ d)) ≡ d *ℤ d
fall_squared a d = solve ((var 0 ⊖ (var 0 ⊕ var 1)) ⊗ (var 0 ⊖ (var 0 ⊕ var 1))) (var 1 ⊗ var 1) tt (a ∷ d ∷ [])

gap_rise : (b d : ℕ) → gap (b + d) b ≡ d
unfolding gap
gap_rise b d = omega arith

gap_fall : (a d : ℕ) → gap a (a + d) ≡ d
unfolding gap
gap_fall a d = omega arith

pub gap_squared : (a b : ℕ) → (pos a -ℤ pos b) *ℤ (pos a -ℤ pos b) ≡ pos (gap a b * gap a b)
gap_squared a b =
    elim (dec_le b a) [
      | yes h ↦ let e : a ≡ b + (a - b) = omega arith in rw e (up b (a - b))
      | no h ↦ let e : b ≡ a + (b - a) = omega arith in rw e (down a (b - a))
    ]
  where
    up : (b d : ℕ) → (pos (b + d) -ℤ pos b) *ℤ (pos (b + d) -ℤ pos b) ≡ pos (gap (b + d) b * gap (b + d) b)
    up b d = rise_squared (pos b) (pos d) ∙ ap (λ (k : ℕ). pos (k * k)) (sym (gap_rise b d))

    down : (a d : ℕ) → (pos a -ℤ pos (a + d)) *ℤ (pos a -ℤ pos (a + d)) ≡ pos (gap a (a + d) * gap a (a + d))
    down a d = fall_squared (pos a) (pos d) ∙ ap (λ (k : ℕ). pos (k * k)) (sym (gap_fall a d))

pub squared_difference_pos : (a n : ℕ) (b : ℕ → ℕ) (m : ℕ) (c : ℕ → ℕ) (x : List ℕ)
    → term_value (squared_difference (pos a) n b m c) x ≡ pos (a * (gap (sum_to n (λ k. get_or x (b k) 0)) (sum_to m (λ k. get_or x (c k) 0)) * gap (sum_to n (λ k. get_or x (b k) 0)) (sum_to m (λ k. get_or x (c k) 0))))
squared_difference_pos a n b m c x =
    squared_difference_value (pos a) n b m c x
    ∙ ap₂ (λ y z. pos a *ℤ ((y -ℤ z) *ℤ (y -ℤ z))) (sum_each_pos n (λ k. get_or x (b k) 0)) (sum_each_pos m (λ k. get_or x (c k) 0))
    ∙ ap (λ z. pos a *ℤ z) (gap_squared (sum_to n (λ k. get_or x (b k) 0)) (sum_to m (λ k. get_or x (c k) 0)))

-- two bits are 1 apart where they differ
gap_bits : (a b : ℕ) → a ≤ 1 → b ≤ 1 → gap a b * gap a b ≡ differ a b
unfolding gap
gap_bits zero zero p q = sym (differ_no 0 0 refl)
gap_bits zero (suc zero) p q = sym (differ_yes 0 1 (λ e. omega arith))
gap_bits (suc zero) zero p q = sym (differ_yes 1 0 (λ e. omega arith))
gap_bits (suc zero) (suc zero) p q = sym (differ_no 1 1 refl)
gap_bits zero (suc (suc b)) p q = absurd (omega arith)
gap_bits (suc zero) (suc (suc b)) p q = absurd (omega arith)
gap_bits (suc (suc a)) b p q = absurd (omega arith)

pub unequal_value : (w p r : ℕ) (x : List ℕ) → Bits x → term_value (unequal (pos w) p r) x ≡ pos (w * differ (get_or x p 0) (get_or x r 0))
unequal_value w p r x h =
    unequal_squared (pos w) p r x
    ∙ ap (λ z. pos w *ℤ z) (gap_squared (get_or x p 0) (get_or x r 0))
    ∙ ap (λ (k : ℕ). pos (w * k)) (gap_bits (get_or x p 0) (get_or x r 0) (h p) (h r))
