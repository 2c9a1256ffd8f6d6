-- Formulas over bits, as the papers write an energy before it is multiplied out, and their value at an assignment.
-- Assumes nothing.
use Rattle.std.specs.Prelude.{◌≡◌, List, [], ◌∷◌, ℕ, ◌≤◌, length, get_or, ℤ, pos, ◌+ℤ◌, ◌*ℤ◌}

-- a linear form: a constant plus the sum of coefficient times bit over the entries (number of the bit, coefficient); a bit may occur more than once
pub record Linear : Type 0 where
  pub constant : ℤ
  pub entries : List (ℕ × ℤ)

-- a whole number times the square of a form, or times the product of two forms
pub data Term : Type 0 where
  square : ℤ → Linear → Term
  product : ℤ → Linear → Linear → Term

-- a formula is the sum of its terms
abbrev pub Formula : Type 0
Formula = List Term

-- "Bits are lent one byte each, 0 or 1"
abbrev pub Bits : List ℕ → Type 0
Bits x = (k : ℕ) → get_or x k 0 ≤ 1

-- an assignment of n bits: a list of n numbers, each 0 or 1
pub record Assignment (n : ℕ) (x : List ℕ) : Type 0 where
  pub size : length x ≡ n
  pub bits : Bits x

-- ---- the value at the bits x; a bit past the end of x counts as 0
-- of the entries of a form: the sum of coefficient times bit
abbrev pub entries_value : List (ℕ × ℤ) → List ℕ → ℤ
entries_value [] x = pos 0
entries_value (e ∷ es) x = e.1 *ℤ pos (get_or x e.0 0) +ℤ entries_value es x

-- of a form: its constant and its entries
abbrev pub linear_value : Linear → List ℕ → ℤ
linear_value l x = l.constant +ℤ entries_value l.entries x

-- of a term: a times the square, or times the product
abbrev pub term_value : Term → List ℕ → ℤ
term_value (square a l) x = a *ℤ (linear_value l x *ℤ linear_value l x)
term_value (product a k l) x = a *ℤ (linear_value k x *ℤ linear_value l x)

-- of a formula: the sum of its terms
abbrev pub value : Formula → List ℕ → ℤ
value [] x = pos 0
value (t ∷ f) x = term_value t x +ℤ value f x
