-- Which refusal is given: the first that applies of a list in the order of trial. Assumes nothing.
use Prim.Native.Nat.{ℕ, ◌≤◌, ◌<◌}
use mathlib.Core.Bool.{Bool, true, false, true≢false}
use mathlib.Core.Path.{◌≡◌, refl, sym}
use mathlib.Core.List.{List, [], ◌∷◌}
use lib.Dec.{ltb}
use native.Mathlib.Omega.{arith}
use borrow.Author.Tests.{ltb-true}
use Rattle.lists.proofs.Tests.{and_left, and_right}
use Rattle.site.specs.Refusal.{refusal}
use Rattle.plans.specs.Best.{First, none, here, later, Applies, this, another, place, rises_from, InOrder}

-- what is given is the first that applies
pub refusal_first : (xs : List (ℕ × Bool)) → First xs (refusal xs)
unfolding refusal
refusal_first [] = none
refusal_first ((n, true) ∷ xs) = here refl
refusal_first ((n, false) ∷ xs) = later refl (refusal_first xs)

-- and nothing else is
pub first_only : (xs : List (ℕ × Bool)) (n : ℕ) → First xs n → n ≡ refusal xs
unfolding refusal
first_only [] _ none = refl
first_only ((m, b) ∷ xs) _ (here e) = rw e refl
first_only ((m, b) ∷ xs) n (later e f) = rw e (first_only xs n f)

-- "None is given in another circumstance": a number that is given applies
pub given_applies : (xs : List (ℕ × Bool)) → (refusal xs ≡ 0 → ⊥) → Applies (refusal xs) xs
unfolding refusal
given_applies [] h = absurd (h refl)
given_applies ((n, true) ∷ xs) h = this refl
given_applies ((n, false) ∷ xs) h = another (given_applies xs h)

-- no place is below the first
above : (xs : List (ℕ × Bool)) (low n : ℕ) → rises_from low xs ≡ true → Applies n xs → low < place n
unfolding rises_from
above [] low n r a = elim a [ ]
above (x ∷ xs) low n r (this e) = ltb-true low (place n) (and_left (ltb low (place n)) _ r)
above (x ∷ xs) low n r (another a) =
    let p = ltb-true low (place x.0) (and_left (ltb low (place x.0)) _ r) in
    let q = above xs (place x.0) n (and_right (ltb low (place x.0)) _ r) a in
    omega (arith, p, q)

-- "Of several, the lowest number is given, except that 10 precedes 9", and but for the places that 02 gives: that of the first place is given
pub lowest_given : (xs : List (ℕ × Bool)) (low n : ℕ) → rises_from low xs ≡ true → Applies n xs → (place (refusal xs) ≤ place n) × (low < place (refusal xs))
unfolding refusal rises_from
lowest_given [] low n r a = elim a [ ]
lowest_given ((m, true) ∷ xs) low n r (this e) = (omega arith, ltb-true low (place m) (and_left (ltb low (place m)) _ r))
lowest_given ((m, false) ∷ xs) low n r (this e) = absurd (true≢false (sym e))
lowest_given ((m, true) ∷ xs) low n r (another a) =
    let p = ltb-true low (place m) (and_left (ltb low (place m)) _ r) in
    let q = above xs (place m) n (and_right (ltb low (place m)) _ r) a in
    (omega (arith, q), p)
lowest_given ((m, false) ∷ xs) low n r (another a) =
    let p = ltb-true low (place m) (and_left (ltb low (place m)) _ r) in
    let q = lowest_given xs (place m) n (and_right (ltb low (place m)) _ r) a in
    (q.0, omega (arith, p, q.1))

-- numbers alone
abbrev pub numbers : List ℕ → List (ℕ × Bool)
numbers [] = []
numbers (n ∷ ns) = (n, true) ∷ numbers ns

-- the order of trial, of all numbers that there are
pub order_of_trial : InOrder (numbers (1 ∷ 2 ∷ 3 ∷ 4 ∷ 5 ∷ 6 ∷ 7 ∷ 18 ∷ 8 ∷ 10 ∷ 9 ∷ 11 ∷ 12 ∷ []))
unfolding rises_from
order_of_trial = refl
