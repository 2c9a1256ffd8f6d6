-- What the proofs of the public calls go by, and of what add and remove look up: numbers of refusals, ends, and what is in hand of a valid image. Assumes nothing.
use Prim.Native.Nat.{ℕ, ◌-◌, ◌≤◌, ◌<◌}
use mathlib.Core.Bool.{Bool, true, false, cond}
use mathlib.Core.Path.{◌≡◌, refl, ap, ◌∙◌}
use mathlib.Core.Logic.{◌⊎◌, inl, inr}
use mathlib.Core.List.{List, []}
use lib.ListN.{length, set}
use borrow.Author.Tests.{not-false}
use native.Mathlib.Omega.{arith}
use Rattle.std.proofs.lemmas.Bool.Decides.{nat_tests}
use native.Mathlib.Nat.{suc-ne-zero}
use Rattle.links.specs.Links.{bad_ends, low, high, present}
use Rattle.site.specs.Layout.{SIZE, RECORDS, count, meters_at, free_at, meters, first_free, set_word}
use Rattle.site.specs.Image.{links, valid}
use Rattle.site.specs.Refusal.{number_of, number_told}
use Rattle.site.specs.declared.refusals.Refusal.{Refusal}
use Rattle.site.specs.declared.refusals.Refusal.TheVariants.{Image, Ends, Weight, Present, Absent, Full, Kind, Bits, Length, Row, NotBits, NoPlan, Margin}
use Rattle.site.specs.Edits.{zeros, chained, place, after, begin_bytes}
use Rattle.site.specs.Reading.{read_meters, read_links}
use Rattle.site.specs.Inner.{find_refusal}
use Rattle.std.specs.Prelude.{min, max, Result, Ok, Err}
use Rattle.std.specs.Result.{result_unwrap_or, OkIff, IsErrAnd}
use Rattle.site.proofs.Placed.{present_after, present_counted, place_fits}
use Rattle.site.proofs.Valid.{valid_long, valid_free, valid_count, links_survey}
use Rattle.site.proofs.Refused.{refusal_none, ends_order}

-- ---- refusals

-- what `?` hands on of a refusal is that refusal
pub handed : {A : Type 0} (r : Result A Refusal) (e : Refusal) → IsErrAnd r (λ y. y ≡ e) → number_told r ≡ number_of e
handed (Ok x) e h = absurd h
handed (Err y) e h = ap number_of h

-- no refusal has the number 0
pub number_above : (r : Refusal) → number_of r ≡ 0 → ⊥
number_above Image e = suc-ne-zero _ e
number_above Ends e = suc-ne-zero _ e
number_above Weight e = suc-ne-zero _ e
number_above Present e = suc-ne-zero _ e
number_above Absent e = suc-ne-zero _ e
number_above Full e = suc-ne-zero _ e
number_above Kind e = suc-ne-zero _ e
number_above Bits e = suc-ne-zero _ e
number_above Length e = suc-ne-zero _ e
number_above Row e = suc-ne-zero _ e
number_above NotBits e = suc-ne-zero _ e
number_above NoPlan e = suc-ne-zero _ e
number_above Margin e = suc-ne-zero _ e

-- ---- ends

-- the lower end is the least of both, the higher one the greatest
pub low_min : (a b : ℕ) → min a b ≡ low a b
unfolding low
low_min a b = grind (arith, nat_tests)

pub high_max : (a b : ℕ) → max a b ≡ high a b
unfolding high
high_max a b = grind (arith, nat_tests)

-- an end that is a byte is taken as it is
pub taken : {E : Type 0} (r : Result ℕ E) (x : ℕ) → OkIff r (x < 256) x → x < 256 → result_unwrap_or r 0 ≡ x
taken (Ok y) x o h = o.1
taken (Err e) x o h = absurd (o h)

-- of a valid image, ends are bad or bytes
pub ends_bytes : (s : List ℕ) (a b : ℕ) → valid s ≡ true → (bad_ends (meters s) a b ≡ true) ⊎ ((low a b < 256) × (high a b < 256))
ends_bytes s a b e = go (bad_ends (meters s) a b) refl
  where
    go : (t : Bool) → bad_ends (meters s) a b ≡ t → (bad_ends (meters s) a b ≡ true) ⊎ ((low a b < 256) × (high a b < 256))
    go true q = inl q
    go false q = let o = ends_order (meters s) a b q in let m = (links_survey s e).meters_high in inr (omega (arith, o), omega (arith, o))

-- ---- what read tells, by its test

module _ (s : List ℕ) where
  pub read_meters_told : read_meters s ≡ cond (valid s) (meters s) 0
  unfolding read_meters
  read_meters_told = refl

  pub read_links_told : read_links s ≡ cond (valid s) (links s) []
  unfolding read_links
  read_links_told = refl

-- ---- what the stores ask, where the image and the ends are not refused
module _ (s : List ℕ) (a b : ℕ) (e : find_refusal s a b ≡ 0) where
  accepted : valid s ≡ true
  unfolding find_refusal
  accepted = not-false (valid s) (refusal_none 0 _ _ e).0

  pub place_asks : (place s (low a b) (high a b) ≤ RECORDS) × (length s ≡ SIZE) × (first_free s ≤ RECORDS) × (count s ≤ RECORDS)
  place_asks = (place_fits s (low a b) (high a b) accepted, valid_long s accepted, valid_free s accepted, valid_count s accepted)

  -- and the link is there
  module _ (p : present (low a b) (high a b) (links s) ≡ true) where
    pub record_asks : after s (place s (low a b) (high a b)) ≤ RECORDS
    record_asks = present_after s (low a b) (high a b) accepted p

    pub count_asks : 1 ≤ count s
    count_asks = present_counted s (low a b) (high a b) accepted p

-- the stores of begin, one after the other
pub begin_steps : (s s₁ s₂ : List ℕ) (n : ℕ) → s ≡ zeros SIZE → s₁ ≡ set_word (set s meters_at n) free_at 1 → s₂ ≡ chained (RECORDS - 1) s₁ → s₂ ≡ begin_bytes n
unfolding begin_bytes
begin_steps s s₁ s₂ n a b c = c ∙ rw (b, a)
