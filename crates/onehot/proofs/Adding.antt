-- Laws that the proof of add_part cites: a number added for each choice of a part that is set. Assumes nothing.
use Prim.Native.Nat.{ℕ, zero, suc, ◌+◌, ◌*◌, ◌≤◌, ◌<◌}
use mathlib.Core.Path.{◌≡◌, refl, sym, ◌∙◌}
use mathlib.Core.List.{List, [], ◌∷◌}
use lib.ListN.{length, get_or, set, length-set}
use native.Mathlib.Omega.{arith}
use native.Mathlib.Decide.{ℕ_discrete, dec_le}
use native.Mathlib.Numerals.{add-one}
use native.Mathlib.Nat.{mul-zero, add-zero}
use Rattle.std.specs.List.{sum}
use Rattle.std.proofs.lemmas.List.Sums.{sum_by-cons}
use Rattle.lists.specs.Sums.{sum_to, nth}
use Rattle.lists.proofs.Sums.{sum_to_zero, sum_to_next, sum_to_eq, sum_to_split, sum_to_bits, nth_zero, nth_past, nth_suc, times_bit}
use Rattle.lists.proofs.Stores.{added_here, added_elsewhere}
use Rattle.qubo.specs.Formula.{Bits}

-- ---- entries of a part, counted from 1

module _ (part : List ℕ) where
  pub nth_bit : Bits part → (j : ℕ) → nth part j ≤ 1
  nth_bit b zero = omega (arith, nth_zero part)
  nth_bit b (suc k) = rw (nth_suc part k) (b k)

-- ---- the sum of a part's entries

first_only : (a : ℕ) (part : List ℕ) → sum_to 1 (nth (a ∷ part)) ≡ a
first_only a part = omega (arith, sum_to_next 0 (nth (a ∷ part)), sum_to_zero (nth (a ∷ part)), nth_suc (a ∷ part) 0)

after_first : (a : ℕ) (part : List ℕ) (i : ℕ) → 1 ≤ i → nth (a ∷ part) (1 + i) ≡ nth part i
after_first a part zero h = absurd (omega arith)
after_first a part (suc j) h = let e : 1 + suc j ≡ suc (suc j) = omega arith in rw (e, nth_suc (a ∷ part) (suc j), nth_suc part j) refl

pub sum_part : (part : List ℕ) → sum part ≡ sum_to (length part) (nth part)
sum_part [] = sym (sum_to_zero (nth []))
sum_part (a ∷ part) =
    let e : length (a ∷ part) ≡ 1 + length part = omega arith in
    let s : sum_to (length (a ∷ part)) (nth (a ∷ part)) ≡ sum_to 1 (nth (a ∷ part)) + sum_to (length part) (λ i. nth (a ∷ part) (1 + i)) = rw e (sum_to_split 1 (length part) (nth (a ∷ part))) in
    omega (arith, sum_by-cons (λ x. x) a part, sum_part part, s, first_only a part, sum_to_eq (length part) (λ i. nth (a ∷ part) (1 + i)) (nth part) (λ i p q. after_first a part i p))

-- that of bits
pub sum_short : (part : List ℕ) → Bits part → sum part ≤ length part
sum_short part b = omega (arith, sum_part part, sum_to_bits (length part) (nth part) (nth_bit part b))

-- ---- w added for each choice of a part that is set

-- the choices up to i are done, those above are not
pub record PartAdded (part : List ℕ) (w : ℕ) (s : List ℕ) (i : ℕ) (t : List ℕ) : Type 0 where
  pub size : length t ≡ length s
  pub done : (j : ℕ) → j ≤ i → get_or t j 0 ≡ get_or s j 0 + w * nth part j
  pub rest : (j : ℕ) → i < j → get_or t j 0 ≡ get_or s j 0

module _ (part : List ℕ) (w : ℕ) (s : List ℕ) where
  pub part_start : PartAdded part w s 0 s
  part_start = record { size = refl; done = none; rest = λ j h. refl }
    where
      none : (j : ℕ) → j ≤ 0 → get_or s j 0 ≡ get_or s j 0 + w * nth part j
      none zero h = rw (nth_zero part, mul-zero w, add-zero) refl
      none (suc k) h = absurd (omega arith)

  module _ (i : ℕ) (t : List ℕ) (a : PartAdded part w s i t) where
    -- w times the bit of choice i + 1 is added in its place
    pub part_turn : (q : List ℕ) → i + 1 < length s → q ≡ set t (i + 1) (get_or t (i + 1) 0 + w * get_or part i 0) → PartAdded part w s (i + 1) q
    part_turn q h e =
        record {
          size = rw (e, length-set) a.size;
          done = λ j l. elim (ℕ_discrete (i + 1) j) [
            | yes d ↦ omega (arith, added_here t q (i + 1) (w * get_or part i 0) e (omega (arith, a.size)) j d, a.rest j (omega arith), own j d)
            | no d ↦ added_elsewhere t q (i + 1) (w * get_or part i 0) e j d ∙ a.done j (omega arith)
          ];
          rest = λ j l. added_elsewhere t q (i + 1) (w * get_or part i 0) e j (omega arith) ∙ a.rest j (omega arith);
        }
      where
        own : (j : ℕ) → i + 1 ≡ j → w * nth part j ≡ w * get_or part i 0
        own j d = rw (← d, add-one i, nth_suc part i) refl

    module _ (past : length part ≤ i) where
      -- past the part's end nothing is added
      pub part_done : (j : ℕ) → get_or t j 0 ≡ get_or s j 0 + w * nth part j
      part_done j = elim (dec_le j i) [ yes h ↦ a.done j h | no h ↦ rw (nth_past part j (omega arith), mul-zero w, add-zero) (a.rest j (omega arith)) ]

      pub part_bound : Bits part → (j : ℕ) → get_or t j 0 ≤ get_or s j 0 + w
      part_bound b j = omega (arith, part_done j, times_bit w (nth part j) (nth_bit part b j))
