-- Tables: a constant and rows. The table of a formula, the energy of a table, and the sum of the absolute values of its numbers.
-- Assumes nothing.
use Rattle.std.specs.Prelude.{◌≡◌, cond, List, [], ◌∷◌, ℕ, zero, suc, ◌+◌, ◌-◌, eqb, length, ℤ, pos, nat_abs, ◌+ℤ◌, ◌*ℤ◌}
use Rattle.qubo.specs.Formula.{Linear, Term, square, product, Formula}

-- a table: its constant, and its rows from that of bit 0 on. "Row i holds the number of bit i, then those of pairs (i, j) for j = i+1 upward"
pub record Table : Type 0 where
  pub constant : ℤ
  pub rows : List (List ℤ)

-- the rows of n bits: n numbers, then n - 1, .., then 1
pub data Triangle : ℕ → List (List ℤ) → Type 0 where
  no_rows : Triangle 0 []
  row : {n : ℕ} {r : List ℤ} {rs : List (List ℤ)} → length r ≡ suc n → Triangle n rs → Triangle (suc n) (r ∷ rs)

-- ---- the energy of a table: the constant, the number of each bit set, and that of each pair of bits set
-- the sum of the numbers whose bits are set
abbrev pub dot : List ℤ → List ℕ → ℤ
dot [] x = pos 0
dot (q ∷ qs) [] = pos 0
dot (q ∷ qs) (b ∷ x) = pos b *ℤ q +ℤ dot qs x

-- what a row gives, where the list holds the bits from the row's own on: nothing unless that bit is set
abbrev pub row_energy : List ℤ → List ℕ → ℤ
row_energy [] x = pos 0
row_energy (q ∷ qs) [] = pos 0
row_energy (q ∷ qs) (b ∷ x) = pos b *ℤ (q +ℤ dot qs x)

-- what the rows give, each at the bits from its own on
abbrev pub rows_energy : List (List ℤ) → List ℕ → ℤ
rows_energy [] x = pos 0
rows_energy (r ∷ rs) [] = pos 0
rows_energy (r ∷ rs) (b ∷ x) = row_energy r (b ∷ x) +ℤ rows_energy rs x

-- the energy of an assignment
abbrev pub energy : Table → List ℕ → ℤ
energy t x = t.constant +ℤ rows_energy t.rows x

-- ---- the numbers of a formula: what stands at 1, at xᵢ and at xᵢxⱼ once all is multiplied out. "Since x² = x for a bit, squares fold into the single-bit numbers"
-- q at place n, and 0 elsewhere
abbrev pub only : ℕ → ℤ → ℕ → ℤ
only n q j = cond (eqb n j) q (pos 0)

-- the coefficient of bit i in the entries of a form: those of the same bit add up
abbrev pub coef : List (ℕ × ℤ) → ℕ → ℤ
coef [] i = pos 0
coef (e ∷ es) i = only e.0 e.1 i +ℤ coef es i

-- the coefficient of bit i in a form
abbrev pub coefficient : Linear → ℕ → ℤ
coefficient l i = coef l.entries i

-- what a term has at 1
abbrev pub term_constant : Term → ℤ
term_constant (square a l) = a *ℤ (l.constant *ℤ l.constant)
term_constant (product a k l) = a *ℤ (k.constant *ℤ l.constant)

-- what it has at xᵢ, where xᵢ² is xᵢ
abbrev pub term_single : Term → ℕ → ℤ
term_single (square a l) i = a *ℤ (pos 2 *ℤ (l.constant *ℤ coefficient l i) +ℤ coefficient l i *ℤ coefficient l i)
term_single (product a k l) i = a *ℤ (k.constant *ℤ coefficient l i +ℤ coefficient k i *ℤ l.constant +ℤ coefficient k i *ℤ coefficient l i)

-- what it has at xᵢxⱼ, for i < j
abbrev pub term_pair : Term → ℕ → ℕ → ℤ
term_pair (square a l) i j = a *ℤ (pos 2 *ℤ (coefficient l i *ℤ coefficient l j))
term_pair (product a k l) i j = a *ℤ (coefficient k i *ℤ coefficient l j +ℤ coefficient k j *ℤ coefficient l i)

-- the constant
abbrev pub constant_of : Formula → ℤ
constant_of [] = pos 0
constant_of (t ∷ f) = term_constant t +ℤ constant_of f

-- the number of bit i
abbrev pub single_of : Formula → ℕ → ℤ
single_of [] i = pos 0
single_of (t ∷ f) i = term_single t i +ℤ single_of f i

-- the number of the pair (i, j)
abbrev pub pair_of : Formula → ℕ → ℕ → ℤ
pair_of [] i j = pos 0
pair_of (t ∷ f) i j = term_pair t i j +ℤ pair_of f i j

-- ---- its rows and its table
-- number k of row i: that of bit i, then that of the pair (i, i + k)
abbrev pub cell : Formula → ℕ → ℕ → ℤ
cell f i zero = single_of f i
cell f i (suc k) = pair_of f i (i + suc k)

-- f 0, .., f (n - 1)
abbrev pub list_of : {A : Type 0} → ℕ → (ℕ → A) → List A
list_of zero f = []
list_of (suc n) f = f 0 ∷ list_of n (λ k. f (suc k))

-- row i of a table of `bits` bits: "exactly bits - i numbers"
unfoldable pub row_of : Formula → ℕ → ℕ → List ℤ
row_of f bits i = list_of (bits - i) (cell f i)

-- the table of a formula over `bits` bits
unfoldable pub table_of : Formula → ℕ → Table
table_of f bits = record { constant = constant_of f; rows = list_of bits (row_of f bits) }

-- ---- "The sum of the absolute values of a table's numbers"
-- of a row
abbrev pub abs_sum : List ℤ → ℕ
abs_sum [] = 0
abs_sum (q ∷ qs) = nat_abs q + abs_sum qs

-- of the rows
abbrev pub rows_abs : List (List ℤ) → ℕ
rows_abs [] = 0
rows_abs (r ∷ rs) = abs_sum r + rows_abs rs

-- of the table, its constant included
abbrev pub table_abs : Table → ℕ
table_abs t = nat_abs t.constant + rows_abs t.rows
