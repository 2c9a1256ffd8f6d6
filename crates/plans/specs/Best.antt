-- The words of the demands, of the bytes s of an image and what is asked; those of energies and plans are in qubo/specs/Instance. Assumes nothing.
use Rattle.std.specs.Prelude.{ℕ, ◌+◌, ◌*◌, ◌≡◌, Bool, true, false, ◌&&◌, cond, List, [], ◌∷◌, eqb, ltb}
use Rattle.qubo.specs.Instance.{Instance}
use Rattle.plans.specs.declared.Ask.{Ask}
use Rattle.plans.specs.Calls.{accept_number_in}

-- ---- which refusal is given, of a list of numbers with their tests

-- n is "the first refusal that applies": the number of the first test that applies, 0 where none does
pub data First : List (ℕ × Bool) → ℕ → Type 0 where
  none : First [] 0
  here : {n : ℕ} {b : Bool} {xs : List (ℕ × Bool)} → b ≡ true → First ((n, b) ∷ xs) n
  later : {m n : ℕ} {b : Bool} {xs : List (ℕ × Bool)} → b ≡ false → First xs n → First ((m, b) ∷ xs) n

-- the number n is in the list, and its test applies
pub data Applies (n : ℕ) : List (ℕ × Bool) → Type 0 where
  this : {b : Bool} {xs : List (ℕ × Bool)} → b ≡ true → Applies n ((n, b) ∷ xs)
  another : {x : ℕ × Bool} {xs : List (ℕ × Bool)} → Applies n xs → Applies n (x ∷ xs)

-- the numbers that are placed after another, each with that other: "10 precedes 9" (01); "18 margin too large, after 7" (02, S-7)
abbrev pub placed_after : List (ℕ × ℕ)
placed_after = (9, 10) ∷ (18, 7) ∷ []

-- a number stands in the order of numbers, and behind it, before the next one, those placed after it: "numbers given the same place .. are tried lowest first". No number is 100 or more
abbrev pub place_by : List (ℕ × ℕ) → ℕ → ℕ
place_by [] n = 100 * n
place_by (x ∷ xs) n = cond (eqb n x.0) (100 * x.1 + n) (place_by xs n)

-- where a number stands in the order of trial: "the lowest number is given", but for these
abbrev pub place : ℕ → ℕ
place n = place_by placed_after n

-- the places rise, from above `low` on
unfoldable pub rises_from : ℕ → List (ℕ × Bool) → Bool
rises_from low [] = true
rises_from low (x ∷ xs) = ltb low (place x.0) && rises_from (place x.0) xs

-- a list in the order of trial
abbrev pub InOrder : List (ℕ × Bool) → Type 0
InOrder xs = rises_from 0 xs ≡ true

-- ---- what is accepted

-- "An image and a kind with its parameter are accepted when no number that concerns them .. applies"
abbrev pub Accepted : List ℕ → Ask → Type 0
Accepted s a = accept_number_in s a ≡ 0

-- ---- what a margin leaves alone

-- two instances have the same bits, plans, weights and codes, and bits decode alike: they differ in A and the energy at most
pub record SamePlans (I J : Instance) : Type 0 where
  pub bits : I.bits ≡ J.bits
  pub bytes : I.plan_bytes ≡ J.plan_bytes
  pub plans : (q : List ℕ) → I.is_plan q ≡ J.is_plan q
  pub weights : (q : List ℕ) → I.weight q ≡ J.weight q
  pub codes : (q : List ℕ) → I.code_of q ≡ J.code_of q
  pub decode : (x : List ℕ) → I.decodes x ≡ J.decodes x
  pub decoded : (x : List ℕ) → I.decoded x ≡ J.decoded x
  pub repaired : (x : List ℕ) → I.repaired x ≡ J.repaired x
