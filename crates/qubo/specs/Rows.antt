-- What the contracts of src/ cite: a row with terms added to it, runs of bits, and room for sums.
-- Assumes nothing.
use Rattle.std.specs.Prelude.{◌≡◌, List, [], ◌∷◌, ℕ, pred, suc, ◌+◌, ◌-◌, ◌*◌, ◌^◌, ◌≤◌, ◌<◌, get_or, ℤ, pos, nat_abs, ◌+ℤ◌}
use Rattle.qubo.specs.Formula.{Term, Formula}
use Rattle.qubo.specs.Table.{cell, list_of}
use Rattle.qubo.specs.Norm.{formula_norm}
use Rattle.qubo.specs.Terms.{bits, one_hot, squared_difference}
use Rattle.qubo.specs.declared.Run.{Run}

-- a row of n zeros
abbrev pub zeros : ℕ → List ℤ
zeros n = list_of n (λ k. pos 0)

-- the row r with f k added at each place k
unfoldable pub plus : List ℤ → (ℕ → ℤ) → List ℤ
plus [] f = []
plus (q ∷ r) f = (q +ℤ f 0) ∷ plus r (λ k. f (suc k))

-- row i with the terms f added
unfoldable pub add_terms : Formula → ℕ → List ℤ → List ℤ
add_terms f i r = plus r (cell f i)

-- number t of the bits of a run, from 1: start, start + step, start + 2 step, ..
abbrev pub run_bit : Run → ℕ → ℕ
run_bit r t = r.start + pred t * r.step

-- the number of bits set in a run, as the entries of a form
abbrev pub run_sum : Run → List (ℕ × ℤ)
run_sum r = bits (pos 1) r.count (run_bit r)

-- a times (1 - bits set in a run)²
abbrev pub run_one_hot : ℤ → Run → Term
run_one_hot a r = one_hot a r.count (run_bit r)

-- a times (bits set in r - bits set in s)²
abbrev pub run_difference : ℤ → Run → Run → Term
run_difference a r s = squared_difference a r.count (run_bit r) s.count (run_bit s)

-- the bits of a run are apart and below `top`, the bit count of a table, and a step past the last of them is still no overflow
pub record RunBelow (r : Run) (top : ℕ) : Type 0 where
  pub apart : 1 ≤ r.step
  pub inside : (t : ℕ) → t < r.count → r.start + t * r.step < top
  pub end : r.start + r.count * r.step ≤ 2 ^ 63

-- bit i has number t in a run, from 0
pub record IsNumber (r : Run) (i t : ℕ) : Type 0 where
  pub below : t < r.count
  pub here : r.start + t * r.step ≡ i

-- the bits of a run after bit i, which has number t in it
abbrev pub later : Run → ℕ → ℕ → Run
later r i t = record { start = i + r.step; step = r.step; count = r.count - (t + 1) }

-- the terms f can be added to the row r, in whatever parts, and no number's absolute value passes `limit`
pub record Room (limit : ℕ) (f : Formula) (r : List ℤ) : Type 0 where
  pub room : (k : ℕ) → nat_abs (get_or r k (pos 0)) + formula_norm f ≤ limit
