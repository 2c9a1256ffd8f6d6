-- The answers of the calls, in document 01's numbers and values, whatever the value is. Assumes nothing.
use Rattle.std.specs.Prelude.{ℕ, zero, suc, ◌≡◌, ℤ, pos, Result, Ok, Err}
use Rattle.site.specs.Refusal.{unless_refused, number_of}
use Rattle.site.specs.declared.refusals.Refusal.{Refusal}
use Rattle.qubo.specs.declared.problem.Decoded.{Decoded}

-- a value, or the number of a refusal
pub data Answer (A : Type 0) : Type 0 where
  Value : A → Answer A
  Refused : ℕ → Answer A

-- refused by r, or where r is 0 the value z
abbrev pub answer : {A : Type 0} → ℕ → A → Answer A
answer zero z = Value z
answer (suc r) z = Refused (suc r)

-- what a call's result tells
abbrev pub told : {A : Type 0} → Result A Refusal → Answer A
told (Ok z) = Value z
told (Err r) = Refused (number_of r)

-- a plan of weight w, with k meters repaired
abbrev pub Plan : ℕ → ℕ → Answer Decoded
Plan w k = Value (record { weight = w; repaired = k })

-- ---- where an answer crosses as numbers

-- n and v are 01's number and value: r, and z where r is 0, else 0
abbrev pub NumberIs : ℕ → ℤ → ℕ → ℤ → Type 0
NumberIs n v r z = (n ≡ r) × (v ≡ unless_refused r z (pos 0))

-- n, v and m are 01's number, weight and number of meters repaired: r, and where r is 0 the weight w and k meters, else 0 for both
abbrev pub DecodedIs : ℕ → ℕ → ℕ → ℕ → ℕ → ℕ → Type 0
DecodedIs n v m r w k = (n ≡ r) × (v ≡ unless_refused r w 0) × (m ≡ unless_refused r k 0)
