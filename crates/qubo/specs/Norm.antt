-- The norm of a formula, from its own coefficients: it bounds the sum of the absolute values of the table's numbers, and with it every number that is met while rows are filled.
-- Assumes nothing.
use Rattle.std.specs.Prelude.{List, [], ◌∷◌, ℕ, ◌+◌, ◌*◌, ℤ, nat_abs}
use Rattle.qubo.specs.Formula.{Linear, Term, square, product, Formula}

-- the sum of the absolute values of the coefficients
abbrev pub entries_norm : List (ℕ × ℤ) → ℕ
entries_norm [] = 0
entries_norm (e ∷ es) = nat_abs e.1 + entries_norm es

-- the same with the constant
abbrev pub linear_norm : Linear → ℕ
linear_norm l = nat_abs l.constant + entries_norm l.entries

-- |a| times the norms of the two forms
abbrev pub term_norm : Term → ℕ
term_norm (square a l) = nat_abs a * (linear_norm l * linear_norm l)
term_norm (product a k l) = nat_abs a * (linear_norm k * linear_norm l)

-- the sum over the terms
abbrev pub formula_norm : Formula → ℕ
formula_norm [] = 0
formula_norm (t ∷ f) = term_norm t + formula_norm f
