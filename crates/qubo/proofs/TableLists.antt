-- The rows of a formula's table as lists that begin at a bit: what the theorems on whole tables recurse on.
-- Assumes nothing.
use mathlib.Core.Path.{◌≡◌, refl, sym, ap, ap₂, ◌∙◌}
use mathlib.Core.List.{List, [], ◌∷◌}
use Prim.Native.Nat.{ℕ, zero, suc, ◌+◌, ◌-◌, ◌<◌}
use native.Mathlib.Nat.{add-zero}
use native.Mathlib.Omega.{arith}
use lib.ListN.{get_or}
use lib.IntN.{ℤ, pos}
use Rattle.qubo.specs.Formula.{Formula}
use Rattle.qubo.specs.Table.{single_of, pair_of, cell, list_of, row_of, table_of}

-- f i, f (i + 1), ..: n of them
abbrev pub from : (ℕ → ℤ) → ℕ → ℕ → List ℤ
from f i zero = []
from f i (suc n) = f i ∷ from f (suc i) n

-- the rows of the n bits from i on, where s has the numbers of bits and p those of pairs
abbrev pub rows_from : (ℕ → ℤ) → (ℕ → ℕ → ℤ) → ℕ → ℕ → List (List ℤ)
rows_from s p i zero = []
rows_from s p i (suc n) = (s i ∷ from (p i) (suc i) n) ∷ rows_from s p (suc i) n

-- the next index, from either side
step : (i k : ℕ) → i + suc k ≡ suc i + k
step i k = omega arith

list_from : (g f : ℕ → ℤ) (i n : ℕ) → ((k : ℕ) → g k ≡ f (i + k)) → list_of n g ≡ from f i n
list_from g f i zero h = refl
list_from g f i (suc n) h = ap₂ ◌∷◌ (h 0 ∙ ap f (add-zero i)) (list_from (λ k. g (suc k)) f (suc i) n (λ k. h (suc k) ∙ ap f (step i k)))

pub row_from : (f : Formula) (bits i n : ℕ) → bits ≡ i + suc n → row_of f bits i ≡ single_of f i ∷ from (pair_of f i) (suc i) n
unfolding row_of
row_from f bits i n e =
    let m : bits - i ≡ suc n = omega arith in
    ap (λ (k : ℕ). list_of k (cell f i)) m ∙ ap (λ (r : List ℤ). single_of f i ∷ r) (list_from (λ k. cell f i (suc k)) (pair_of f i) (suc i) n (λ k. ap (pair_of f i) (step i k)))

list_rows_from : (f : Formula) (bits i n : ℕ) (R : ℕ → List ℤ) → bits ≡ i + n → ((k : ℕ) → R k ≡ row_of f bits (i + k)) → list_of n R ≡ rows_from (single_of f) (pair_of f) i n
list_rows_from f bits i zero R e h = refl
list_rows_from f bits i (suc n) R e h =
    ap₂ ◌∷◌ (h 0 ∙ ap (row_of f bits) (add-zero i) ∙ row_from f bits i n e) (list_rows_from f bits (suc i) n (λ k. R (suc k)) (omega arith) (λ k. h (suc k) ∙ ap (row_of f bits) (step i k)))

pub table_rows : (f : Formula) (bits : ℕ) → (table_of f bits).rows ≡ rows_from (single_of f) (pair_of f) 0 bits
unfolding table_of
table_rows f bits =
    let e : bits ≡ 0 + bits = omega arith in
    list_rows_from f bits 0 bits (row_of f bits) e (λ k. ap (row_of f bits) (let d : k ≡ 0 + k = omega arith in d))

-- ---- their entries
pub from_at : (f : ℕ → ℤ) (i n k : ℕ) → k < n → get_or (from f i n) k (pos 0) ≡ f (i + k)
from_at f i zero k h = absurd (omega arith)
from_at f i (suc n) zero h = ap f (sym (add-zero i))
from_at f i (suc n) (suc k) h = from_at f (suc i) n k (omega arith) ∙ ap f (sym (step i k))

pub list_at : (f : ℕ → ℤ) (n k : ℕ) → k < n → get_or (list_of n f) k (pos 0) ≡ f k
list_at f zero k h = absurd (omega arith)
list_at f (suc n) zero h = refl
list_at f (suc n) (suc k) h = list_at (λ j. f (suc j)) n k (omega arith)
