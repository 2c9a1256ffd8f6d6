-- Which refusal a call gives, and what it leaves then. Assumes nothing.
use Rattle.std.specs.Prelude.{ℕ, Bool, cond, List, [], ◌∷◌, eqb, Result, Ok, Err}
use Rattle.site.specs.declared.refusals.Refusal.{Refusal}
use Rattle.site.specs.declared.refusals.Refusal.TheVariants.{Image, Ends, Weight, Present, Absent, Full, Kind, Bits, Length, Row, NotBits, NoPlan, Margin}

-- "Of several, the lowest number is given" (except that 10 precedes 9): the first that applies of a list in the order of trial, 0 where none does
unfoldable pub refusal : List (ℕ × Bool) → ℕ
refusal [] = 0
refusal (x ∷ xs) = cond x.1 x.0 (refusal xs)

-- "Nothing lent is altered": t where the call is not refused, else s as it was
unfoldable pub unless_refused : {A : Type 0} → ℕ → A → A → A
unless_refused r t s = cond (eqb r 0) t s

-- the first column of the table "Returned on refusal"
abbrev pub number_of : Refusal → ℕ
number_of Image = 1
number_of Ends = 2
number_of Weight = 3
number_of Present = 4
number_of Absent = 5
number_of Full = 6
number_of Kind = 7
number_of Bits = 8
number_of Length = 9
number_of Row = 10
number_of NotBits = 11
number_of NoPlan = 12
number_of Margin = 18

-- the number that an answer tells, 0 where the call is not refused
abbrev pub number_told : {A : Type 0} → Result A Refusal → ℕ
number_told (Ok x) = 0
number_told (Err r) = number_of r
