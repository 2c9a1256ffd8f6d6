-- A loop that adds up over a list: the sum so far and that of the rest make up the whole. Loops over links, meters and bits share these. Assumes nothing.
use Rattle.std.proofs.Common.{ℕ, ◌+◌, ◌≤◌, ◌<◌, ◌≡◌, refl, ap, ◌∙◌, List, length, get_or, drop, arith}
use lib.Seq.{drop-cons, drop-length}
use native.Mathlib.Numerals.{add-one}
use Rattle.lists.specs.Sums.{sum_of}

module _ {A : Type 0} (f : A → ℕ) where
  -- the entry at k, and those behind it; d is what is read past the end
  pub sum_next : (xs : List A) (d : A) (k : ℕ) → k < length xs → sum_of (drop k xs) f ≡ f (get_or xs k d) + sum_of (drop (k + 1) xs) f
  unfolding sum_of
  sum_next xs d k h = ap (λ (ys : List A). sum_of ys f) (drop-cons xs k d h) ∙ rw add-one refl

  -- nothing is left behind the last
  pub sum_past : (xs : List A) (k : ℕ) → k ≡ length xs → sum_of (drop k xs) f ≡ 0
  unfolding sum_of
  sum_past xs k h = ap (λ (ys : List A). sum_of ys f) (ap (λ (m : ℕ). drop m xs) h ∙ drop-length xs)

  -- after k entries the sum is `sum`
  pub record Summed (xs : List A) (k sum : ℕ) : Type 0 where
    pub inside : k ≤ length xs
    pub whole : sum + sum_of (drop k xs) f ≡ sum_of xs f

  pub summed_start : (xs : List A) → Summed xs 0 0
  summed_start xs = record { inside = omega arith; whole = omega arith }

  module _ (xs : List A) (d : A) (k sum : ℕ) (s : Summed xs k sum) (h : k < length xs) where
    -- a turn that adds what the entry at k gives
    pub summed_turn : (n : ℕ) → n ≡ f (get_or xs k d) → Summed xs (k + 1) (sum + n)
    summed_turn n e = record { inside = omega arith; whole = omega (arith, s.whole, sum_next xs d k h) }

    -- and one that adds nothing
    pub summed_skip : 0 ≡ f (get_or xs k d) → Summed xs (k + 1) sum
    summed_skip e = record { inside = omega arith; whole = omega (arith, s.whole, sum_next xs d k h) }

    -- with the entry at k it is at most the whole
    pub summed_room : sum + f (get_or xs k d) ≤ sum_of xs f
    summed_room = omega (arith, s.whole, sum_next xs d k h)

  pub summed_end : (xs : List A) (k sum : ℕ) → Summed xs k sum → length xs ≤ k → sum ≡ sum_of xs f
  summed_end xs k sum s h = omega (arith, s.whole, s.inside, sum_past xs k (omega (arith, s.inside)))
