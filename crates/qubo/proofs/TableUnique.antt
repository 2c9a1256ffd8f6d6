-- The numbers of a table are determined by its energies: two tables of n bits with equal energies at every assignment are equal, and a table whose energies are a formula's values is the formula's table.
-- Assumes nothing.
use mathlib.Core.Path.{◌≡◌, refl, sym, ap₂, ◌∙◌}
use mathlib.Core.List.{List, [], ◌∷◌}
use Prim.Native.Nat.{ℕ, zero, suc, ◌-◌, ◌≤◌}
use native.Mathlib.Nat.{sub-zero, suc-sub-suc}
use native.Mathlib.Omega.{arith}
use lib.ListN.{length, replicate}
use lib.IntN.{ℤ, pos, ◌+ℤ◌, ◌-ℤ◌, ◌*ℤ◌, +ℤ_idl, zero-*ℤ, +ℤ-neg_ℤ_cancel}
use Rattle.qubo.proofs.Ints.{+ℤ_left_comm, one_*ℤ}
use Rattle.qubo.proofs.Least.{Word, stop, more, zeros_word, word_assignment}
use Rattle.qubo.proofs.TableValue.{table_value}
use Rattle.qubo.proofs.RowAction.{row_length}
use Rattle.qubo.specs.Formula.{Formula, Assignment, value}
use Rattle.qubo.specs.Table.{Table, Triangle, no_rows, row, dot, rows_energy, energy, list_of, row_of, table_of}

-- equal summands cancel
cancel : (a b s t : ℤ) → s ≡ t → a +ℤ s ≡ b +ℤ t → a ≡ b
cancel a b s t e h = sym (+ℤ-neg_ℤ_cancel a s) ∙ ap₂ ◌-ℤ◌ h e ∙ +ℤ-neg_ℤ_cancel b t

-- sums that agree both with a bit at 0 and with it at 1 agree in the bit's numbers and in the rest
bit_apart : (p q a b s t : ℤ) → ((c : ℕ) → c ≤ 1 → p +ℤ (pos c *ℤ a +ℤ s) ≡ q +ℤ (pos c *ℤ b +ℤ t)) → (a ≡ b) × (p +ℤ s ≡ q +ℤ t)
bit_apart p q a b s t h = (cancel a b (p +ℤ s) (q +ℤ t) rest (sym (set p a s) ∙ h 1 (omega arith) ∙ set q b t), rest)
  where
    unset : (p a s : ℤ) → p +ℤ (pos 0 *ℤ a +ℤ s) ≡ p +ℤ s
    unset p a s = rw (zero-*ℤ, +ℤ_idl)

    set : (p a s : ℤ) → p +ℤ (pos 1 *ℤ a +ℤ s) ≡ a +ℤ (p +ℤ s)
    set p a s = rw one_*ℤ (+ℤ_left_comm p a s)

    rest : p +ℤ s ≡ q +ℤ t
    rest = sym (unset p a s) ∙ h 0 (omega arith) ∙ unset q b t

-- a constant and the numbers of n bits, by their sums
numbers_unique : (n : ℕ) (p q : ℤ) (ps qs : List ℤ) → length ps ≡ n → length qs ≡ n → ((x : List ℕ) → Word 1 n x → p +ℤ dot ps x ≡ q +ℤ dot qs x) → (p ≡ q) × (ps ≡ qs)
numbers_unique n p q [] [] l m h = (cancel p q (pos 0) (pos 0) refl (h (replicate n 0) (zeros_word 1 n)), refl)
numbers_unique n p q [] (b ∷ qs) l m h = absurd (omega arith)
numbers_unique n p q (a ∷ ps) [] l m h = absurd (omega arith)
numbers_unique zero p q (a ∷ ps) (b ∷ qs) l m h = absurd (omega arith)
numbers_unique (suc n) p q (a ∷ ps) (b ∷ qs) l m h =
    let (e, es) = numbers_unique n p q ps qs (omega arith) (omega arith) (λ x w. (apart x w).1) in
    (e, ap₂ ◌∷◌ (apart (replicate n 0) (zeros_word 1 n)).0 es)
  where
    apart : (x : List ℕ) → Word 1 n x → (a ≡ b) × (p +ℤ dot ps x ≡ q +ℤ dot qs x)
    apart x w = bit_apart p q a b (dot ps x) (dot qs x) (λ c i. h (c ∷ x) (more i w))

-- a constant and the rows of n bits, by their energies
rows_unique : (n : ℕ) (c d : ℤ) (rs ss : List (List ℤ)) → Triangle n rs → Triangle n ss → ((x : List ℕ) → Word 1 n x → c +ℤ rows_energy rs x ≡ d +ℤ rows_energy ss x) → (c ≡ d) × (rs ≡ ss)
rows_unique zero c d _ _ no_rows no_rows h = (cancel c d (pos 0) (pos 0) refl (h [] stop), refl)
rows_unique (suc n) c d _ _ (row {r = []} l t) (row m u) h = absurd (omega arith)
rows_unique (suc n) c d _ _ (row {r = p ∷ ps} l t) (row {r = []} m u) h = absurd (omega arith)
rows_unique (suc n) c d _ _ (row {r = p ∷ ps} {rs = rs} l t) (row {r = q ∷ qs} {rs = ss} m u) h =
    let (e, es) = numbers_unique n p q ps qs (omega arith) (omega arith) (λ x w. (apart x w).0) in
    let (f, fs) = rows_unique n c d rs ss t u (λ x w. (apart x w).1) in
    (f, ap₂ ◌∷◌ (ap₂ ◌∷◌ e es) fs)
  where
    apart : (x : List ℕ) → Word 1 n x → (p +ℤ dot ps x ≡ q +ℤ dot qs x) × (c +ℤ rows_energy rs x ≡ d +ℤ rows_energy ss x)
    apart x w = bit_apart c d (p +ℤ dot ps x) (q +ℤ dot qs x) (rows_energy rs x) (rows_energy ss x) (λ b i. h (b ∷ x) (more i w))

-- two tables of n bits with equal energies are equal
pub table_unique : (n : ℕ) (S T : Table) → Triangle n S.rows → Triangle n T.rows → ((x : List ℕ) → Assignment n x → energy S x ≡ energy T x) → S ≡ T
table_unique n S T s t h =
    let (e, es) = rows_unique n S.constant T.constant S.rows T.rows s t (λ x w. h x (word_assignment n x w)) in
    ap₂ (λ c rs. record { constant = c; rows = rs }) e es

-- ---- the table of a formula
-- rows of n, n - 1, .., 1 numbers are those of n bits
triangle : (n : ℕ) (R : ℕ → List ℤ) → ((k : ℕ) → length (R k) ≡ n - k) → Triangle n (list_of n R)
triangle zero R h = no_rows
triangle (suc n) R h = row (h 0 ∙ sub-zero (suc n)) (triangle n (λ k. R (suc k)) (λ k. h (suc k) ∙ suc-sub-suc n k))

-- the table of a formula has the rows of n bits
pub table_triangle : (f : Formula) (n : ℕ) → Triangle n (table_of f n).rows
unfolding table_of
table_triangle f n = triangle n (row_of f n) (row_length f n)

-- a table of n bits whose energies are the formula's values is the formula's table
pub table_only : (f : Formula) (n : ℕ) (T : Table) → Triangle n T.rows → ((x : List ℕ) → Assignment n x → energy T x ≡ value f x) → T ≡ table_of f n
table_only f n T t h = table_unique n T (table_of f n) t (table_triangle f n) (λ x a. h x a ∙ sym (table_value f n x a))
