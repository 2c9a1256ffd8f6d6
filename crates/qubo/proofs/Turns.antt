-- Laws that the proofs of src/ cite: stores, the turns of loops, and the numbers that squares need. Assumes nothing.
use mathlib.Core.Path.{◌≡◌, refl, sym, ap, ap₂, ◌∙◌}
use mathlib.Core.List.{List, [], ◌∷◌}
use Prim.Native.Nat.{ℕ, zero, suc, ◌+◌, ◌-◌, ◌*◌, ◌^◌, ◌≤◌, ◌<◌}
use native.Mathlib.Nat.{le_refl, lt_of_le_of_lt, mul-le-mul_left, mul-le-mul_right, mul-add}
use native.Mathlib.Numerals.{add-one}
use native.Mathlib.Omega.{arith}
use lib.ListN.{length, get_or}
use lib.IntN.{ℤ, pos, neg_ℤ, nat_abs, ◌-ℤ◌, ◌*ℤ◌, +ℤ_idl}
use mir.Syntax.{w64}
use mir.Val.{SFits, to_z, of_z}
use mir.Facts.{to_z-of_z}
use Rattle.qubo.specs.Formula.{Term, Formula}
use Rattle.qubo.specs.Table.{coef}
use Rattle.qubo.specs.Norm.{term_norm}
use Rattle.qubo.specs.Terms.{bit, bits, single, pair, unequal, times}
use Rattle.qubo.specs.Rows.{zeros, add_terms, run_sum, run_bit, run_one_hot, run_difference, RunBelow, IsNumber, later, Room}
use Rattle.qubo.specs.declared.Run.{Run}
use Rattle.qubo.proofs.Ints.{nat_abs_*ℤ, nat_abs_negℤ}
use Rattle.qubo.proofs.Order.{mag_nat_abs}
use Rattle.qubo.proofs.Runs.{run_same_top, later_below}
use Rattle.qubo.proofs.RowAction.{add_top, add_absent, added_abs, room_front, room_back}
use Rattle.qubo.proofs.RowTerms.{product_split, single_norm, times_norm}
use Rattle.qubo.proofs.RowShapes.{difference_absent, bits_times_norm, one_hot_norm, difference_norm, unequal_norm}

-- a number whose absolute value is below 2 ^ 63 fits an i64
pub fits_abs : (z : ℤ) → nat_abs z < 2 ^ 63 → SFits w64 z
fits_abs z p = record { sfits = lt_of_le_of_lt (mag_nat_abs z) p }

-- ---- clear: the places below t are 0
pub all_zero : (r : List ℤ) → ((k : ℕ) → k < length r → get_or r k (pos 0) ≡ pos 0) → r ≡ zeros (length r)
all_zero [] h = refl
all_zero (q ∷ r) h = ap₂ ◌∷◌ (h 0 (omega arith)) (all_zero r (λ k l. h (suc k) (omega arith)))

-- ---- add_run: a turn adds one more bit of the run
pub run_next : (v : ℤ) (i t : ℕ) (b : ℕ → ℕ) (r : List ℤ) → add_terms (pair v i (b (suc t)) ∷ []) i (add_terms (times v i (bits (pos 1) t b) ∷ []) i r) ≡ add_terms (times v i (bits (pos 1) (t + 1) b) ∷ []) i r
run_next v i t b r = rw (add-one t) (sym (product_split v (bit i) (pos 0) (bits (pos 1) t b) ((b (suc t), pos 1) ∷ []) i r))

pub run_room : (limit : ℕ) (v : ℤ) (i t n : ℕ) (b : ℕ → ℕ) (r : List ℤ) → t < n → Room limit (times v i (bits (pos 1) n b) ∷ []) r → Room limit (pair v i (b (suc t)) ∷ []) (add_terms (times v i (bits (pos 1) t b) ∷ []) i r)
run_room limit v i t n b r l h =
    record {
      room = λ k. omega (
        arith,
        h.room k,
        added_abs (times v i (bits (pos 1) t b) ∷ []) i r k,
        times_norm v i ((b (suc t), pos 1) ∷ []),
        bits_times_norm v i t b,
        bits_times_norm v i n b,
        mul-le-mul_left (nat_abs v) l,
        mul-add (nat_abs v) 1 t,
      );
    }

-- what is left of a run behind bit i, for a row with as many numbers
pub later_kept : (x r : Run) (i t : ℕ) (f : Formula) (u v : List ℤ) → x ≡ later r i t → v ≡ add_terms f i u → RunBelow r (i + length u) → IsNumber r i t → RunBelow x (i + length v)
later_kept x r i t f u v e g h n = rw e (run_same_top (later r i t) (i + length u) (i + length v) (add_top f i u v g) (later_below r i t (i + length u) h n))

-- ---- add_own_one_hot and add_own_difference: their numbers fit, and there is room for their parts
pub less_abs : (a : ℤ) → nat_abs (pos 0 -ℤ a) ≡ nat_abs a
less_abs a = ap nat_abs (+ℤ_idl (neg_ℤ a)) ∙ nat_abs_negℤ a

-- a factor q of at most 2
pub twice_abs : (q : ℕ) (a : ℤ) → q ≤ 2 → nat_abs (pos q *ℤ a) ≤ 2 * nat_abs a
twice_abs q a h = omega (arith, nat_abs_*ℤ (pos q) a, mul-le-mul_right (nat_abs a) h)

pub less_twice_abs : (q : ℕ) (a : ℤ) → q ≤ 2 → nat_abs (pos 0 -ℤ pos q *ℤ a) ≤ 2 * nat_abs a
less_twice_abs q a h = omega (arith, less_abs (pos q *ℤ a), twice_abs q a h)

pub fits_less : (a : ℤ) → nat_abs a ≤ 2 ^ 61 → SFits w64 (pos 0 -ℤ a)
fits_less a h = fits_abs (pos 0 -ℤ a) (omega (arith, less_abs a))

pub fits_twice : (q : ℕ) (a : ℤ) → q ≤ 2 → nat_abs a ≤ 2 ^ 61 → SFits w64 (pos q *ℤ a)
fits_twice q a h g = fits_abs (pos q *ℤ a) (omega (arith, twice_abs q a h))

pub fits_less_twice : (q : ℕ) (a : ℤ) → q ≤ 2 → nat_abs a ≤ 2 ^ 61 → SFits w64 (pos 0 -ℤ pos q *ℤ a)
fits_less_twice q a h g = fits_abs (pos 0 -ℤ pos q *ℤ a) (omega (arith, less_twice_abs q a h))

-- and are the same where the code holds them
pub held_less : (a : ℤ) → nat_abs a ≤ 2 ^ 61 → to_z w64 (of_z w64 (pos 0 -ℤ a)) ≡ pos 0 -ℤ a
held_less a h = to_z-of_z (fits_less a h)

pub held_twice : (q : ℕ) (a : ℤ) → q ≤ 2 → nat_abs a ≤ 2 ^ 61 → to_z w64 (of_z w64 (pos q *ℤ a)) ≡ pos q *ℤ a
held_twice q a h g = to_z-of_z (fits_twice q a h g)

pub held_less_twice : (q : ℕ) (a : ℤ) → q ≤ 2 → nat_abs a ≤ 2 ^ 61 → to_z w64 (of_z w64 (pos 0 -ℤ pos q *ℤ a)) ≡ pos 0 -ℤ pos q *ℤ a
held_less_twice q a h g = to_z-of_z (fits_less_twice q a h g)

-- a number of bit i, and bit i times each of two runs
abbrev pub Parts : ℤ → ℤ → ℤ → ℕ → Run → Run → Formula
Parts p q s i run other = single p i ∷ times q i (run_sum run) ∷ times s i (run_sum other) ∷ []

-- the factor a of a square whose norm is m times |a|, and the parts of its row
module _ (a : ℤ) (m : ℕ) (t : Term) (r : List ℤ) (e : term_norm t ≡ nat_abs a * m) (h : Room (2 ^ 61) (t ∷ []) r) where
  pub factor_small : 1 ≤ m → nat_abs a ≤ 2 ^ 61
  factor_small g = omega (arith, h.room 0, mul-le-mul_left (nat_abs a) g)

  pub parts_room : (p q s : ℤ) (i : ℕ) (run other : Run) → nat_abs p ≤ nat_abs a → nat_abs q ≤ 2 * nat_abs a → nat_abs s ≤ 2 * nat_abs a → 1 + 2 * run.count + 2 * other.count ≤ m → Room (2 ^ 61) (Parts p q s i run other) r
  parts_room p q s i run other hp hq hs g =
      record {
        room = λ k. omega (
          arith,
          h.room k,
          single_norm p i,
          bits_times_norm q i run.count (run_bit run),
          bits_times_norm s i other.count (run_bit other),
          mul-le-mul_right run.count hq,
          mul-le-mul_right other.count hs,
          mul-le-mul_left (nat_abs a) g,
        );
      }

module _ (p q s : ℤ) (i : ℕ) (run other : Run) (r : List ℤ) (h : Room (2 ^ 61) (Parts p q s i run other) r) where
  rest_room : Room (2 ^ 61) (times q i (run_sum run) ∷ times s i (run_sum other) ∷ []) (add_terms (single p i ∷ []) i r)
  rest_room = room_back (2 ^ 61) (single p i ∷ []) (times q i (run_sum run) ∷ times s i (run_sum other) ∷ []) i r h

  pub first_room : Room (2 ^ 61) (single p i ∷ []) r
  first_room = room_front (2 ^ 61) (single p i ∷ []) (times q i (run_sum run) ∷ times s i (run_sum other) ∷ []) r h

  pub second_room : Room (2 ^ 61) (times q i (run_sum run) ∷ []) (add_terms (single p i ∷ []) i r)
  second_room = room_front (2 ^ 61) (times q i (run_sum run) ∷ []) (times s i (run_sum other) ∷ []) (add_terms (single p i ∷ []) i r) rest_room

  pub third_room : Room (2 ^ 61) (times s i (run_sum other) ∷ []) (add_terms (times q i (run_sum run) ∷ []) i (add_terms (single p i ∷ []) i r))
  third_room = room_back (2 ^ 61) (times q i (run_sum run) ∷ []) (times s i (run_sum other) ∷ []) i (add_terms (single p i ∷ []) i r) rest_room

-- no bits
abbrev pub empty_run : Run
empty_run = record { start = 0; step = 1; count = 0 }

pub one_hot_factor : (a : ℤ) (run : Run) (r : List ℤ) → Room (2 ^ 61) (run_one_hot a run ∷ []) r → nat_abs a ≤ 2 ^ 61
one_hot_factor a run r h = factor_small a ((1 + run.count) * (1 + run.count)) (run_one_hot a run) r (one_hot_norm a run.count (run_bit run)) h (omega arith)

pub one_hot_parts : (a p q : ℤ) (run : Run) (i t : ℕ) (r : List ℤ) → Room (2 ^ 61) (run_one_hot a run ∷ []) r → nat_abs p ≤ nat_abs a → nat_abs q ≤ 2 * nat_abs a → Room (2 ^ 61) (Parts p q (pos 0) i (later run i t) empty_run) r
one_hot_parts a p q run i t r h hp hq = parts_room a ((1 + run.count) * (1 + run.count)) (run_one_hot a run) r (one_hot_norm a run.count (run_bit run)) h p q (pos 0) i (later run i t) empty_run hp hq (omega arith) (omega arith)

pub one_hot_second : (q : ℕ) (a : ℤ) (run : Run) (i t : ℕ) (r : List ℤ) → Room (2 ^ 61) (run_one_hot a run ∷ []) r → q ≤ 2 → Room (2 ^ 61) (times (pos q *ℤ a) i (run_sum (later run i t)) ∷ []) (add_terms (single (pos 0 -ℤ a) i ∷ []) i r)
one_hot_second q a run i t r h g = second_room (pos 0 -ℤ a) (pos q *ℤ a) (pos 0) i (later run i t) empty_run r (one_hot_parts a (pos 0 -ℤ a) (pos q *ℤ a) run i t r h (omega (arith, less_abs a)) (twice_abs q a g))

square_big : (n m t : ℕ) → t < n → 1 + 2 * (n - (t + 1)) + 2 * m ≤ (n + m) * (n + m)
square_big zero m t h = absurd (omega arith)
square_big (suc n) m t h = let e : suc n + m ≡ suc (n + m) = omega arith in rw e (omega arith)

pub difference_factor : (a : ℤ) (run other : Run) (i t : ℕ) (r : List ℤ) → IsNumber run i t → Room (2 ^ 61) (run_difference a run other ∷ []) r → nat_abs a ≤ 2 ^ 61
difference_factor a run other i t r n h =
    factor_small a ((run.count + other.count) * (run.count + other.count)) (run_difference a run other) r (difference_norm a run.count (run_bit run) other.count (run_bit other)) h
    (omega (arith, square_big run.count other.count t n.below))

pub difference_parts : (a p q s : ℤ) (run other : Run) (i t : ℕ) (r : List ℤ) → IsNumber run i t → Room (2 ^ 61) (run_difference a run other ∷ []) r → nat_abs p ≤ nat_abs a → nat_abs q ≤ 2 * nat_abs a → nat_abs s ≤ 2 * nat_abs a → Room (2 ^ 61) (Parts p q s i (later run i t) other) r
difference_parts a p q s run other i t r n h hp hq hs =
    parts_room a ((run.count + other.count) * (run.count + other.count)) (run_difference a run other) r (difference_norm a run.count (run_bit run) other.count (run_bit other)) h p q s i (later run i t) other hp hq hs
    (square_big run.count other.count t n.below)

module _ (a : ℤ) (run other : Run) (i t : ℕ) (r : List ℤ) (n : IsNumber run i t) (h : Room (2 ^ 61) (run_difference a run other ∷ []) r) where
  pub difference_first : Room (2 ^ 61) (single a i ∷ []) r
  difference_first = first_room a (pos 0) (pos 0) i (later run i t) other r (difference_parts a a (pos 0) (pos 0) run other i t r n h (le_refl (nat_abs a)) (omega arith) (omega arith))

  pub difference_second : (q : ℕ) → q ≤ 2 → Room (2 ^ 61) (times (pos q *ℤ a) i (run_sum (later run i t)) ∷ []) (add_terms (single a i ∷ []) i r)
  difference_second q g = second_room a (pos q *ℤ a) (pos 0) i (later run i t) other r (difference_parts a a (pos q *ℤ a) (pos 0) run other i t r n h (le_refl (nat_abs a)) (twice_abs q a g) (omega arith))

  pub difference_third : (q : ℕ) → q ≤ 2 → Room (2 ^ 61) (times (pos 0 -ℤ pos q *ℤ a) i (run_sum other) ∷ []) (add_terms (times (pos q *ℤ a) i (run_sum (later run i t)) ∷ []) i (add_terms (single a i ∷ []) i r))
  difference_third q g = third_room a (pos q *ℤ a) (pos 0 -ℤ pos q *ℤ a) i (later run i t) other r (difference_parts a a (pos q *ℤ a) (pos 0 -ℤ pos q *ℤ a) run other i t r n h (le_refl (nat_abs a)) (twice_abs q a g) (less_twice_abs q a g))

-- bit i is in neither of two runs, or in both
pub difference_cancels : (a : ℤ) (left right : Run) (i : ℕ) (r : List ℤ) (x : ℤ) → coef (run_sum left) i ≡ x → coef (run_sum right) i ≡ x → r ≡ add_terms (run_difference a left right ∷ []) i r
difference_cancels a left right i r x e d = sym (add_absent (run_difference a left right ∷ []) i r (difference_absent a left right i (e ∙ sym d)))

pub difference_room_swap : (a : ℤ) (left right : Run) (r : List ℤ) → Room (2 ^ 61) (run_difference a left right ∷ []) r → Room (2 ^ 61) (run_difference a right left ∷ []) r
difference_room_swap a left right r h = record { room = λ k. omega (arith, h.room k, difference_norm a left.count (run_bit left) right.count (run_bit right), difference_norm a right.count (run_bit right) left.count (run_bit left)) }

-- ---- add_unequal and add_own_unequal: their numbers fit, and there is room for their parts
module _ (v : ℤ) (p q : ℕ) (r : List ℤ) (h : Room (2 ^ 61) (unequal v p q ∷ []) r) where
  pub unequal_factor : nat_abs v ≤ 2 ^ 61
  unequal_factor = factor_small v 4 (unequal v p q) r (unequal_norm v p q) h (omega arith)

  pub unequal_pair : (s : ℤ) (i j : ℕ) → nat_abs s ≤ 2 * nat_abs v → Room (2 ^ 61) (pair s i j ∷ []) (add_terms (single v i ∷ []) i r)
  unequal_pair s i j g = record { room = λ k. omega (arith, h.room k, unequal_norm v p q, added_abs (single v i ∷ []) i r k, single_norm v i, times_norm s i ((j, pos 1) ∷ [])) }

  -- the same of the factor as the code has it
  pub unequal_pair_of : (m i j : ℕ) → m ≤ 2 → Room (2 ^ 61) (pair (pos 0 -ℤ pos m *ℤ v) i j ∷ []) (add_terms (single v i ∷ []) i r)
  unequal_pair_of m i j g = unequal_pair (pos 0 -ℤ pos m *ℤ v) i j (less_twice_abs m v g)
