-- The energy of a formula's table is the formula's value at every assignment.
-- A table is first taken as two functions, s i for the number of bit i and p i j for that of a pair; TableLists has the lists.
-- Assumes nothing.
use mathlib.Core.Path.{◌≡◌, refl, sym, ap, ap₂, ◌∙◌, fun_ext}
use mathlib.Core.Bool.{Bool, true, false, cond}
use mathlib.Core.List.{List, [], ◌∷◌}
use Prim.Native.Nat.{ℕ, zero, suc, ◌+◌, ◌≤◌, ◌<◌}
use native.Mathlib.Nat.{add-zero, zero-add}
use native.Mathlib.Omega.{arith}
use lib.Dec.{T, eqb, eqb→eq, eqb_refl}
use lib.ListN.{length, get_or}
use lib.IntN.{ℤ, pos, ◌+ℤ◌, ◌*ℤ◌, +ℤ_idl, +ℤ_idr, *ℤ_comm, *ℤ-zero}
use Rattle.qubo.proofs.Ints.{ℤ·ring}
use Rattle.qubo.proofs.TableLists.{from, rows_from, table_rows}
use Rattle.qubo.proofs.Ring.{var, con, ◌⊕◌, ◌⊗◌, solve, solve_bits}
use Rattle.qubo.specs.Formula.{Linear, Term, square, product, Formula, Bits, Assignment, entries_value, term_value, value}
use Rattle.qubo.specs.Table.{dot, rows_energy, energy, only, coef, coefficient, term_constant, term_single, term_pair, constant_of, single_of, pair_of, table_of}

-- ---- the energy by functions, where the list holds the bits from i on
-- Σ x_j · f j
abbrev row : (ℕ → ℤ) → ℕ → List ℕ → ℤ
row f i x = dot (from f i (length x)) x

-- Σ x_i · (s i + Σ_{j > i} x_j · p i j)
abbrev rows : (ℕ → ℤ) → (ℕ → ℕ → ℤ) → ℕ → List ℕ → ℤ
rows s p i x = rows_energy (rows_from s p i (length x)) x

bit_square : (y : ℕ) → y ≤ 1 → pos y *ℤ pos y ≡ pos y
bit_square zero h = refl
bit_square (suc zero) h = refl
bit_square (suc (suc y)) h = let z : ⊥ = omega arith in absurd z

-- ---- a row is linear
row_zero : (i : ℕ) (x : List ℕ) → row (λ j. pos 0) i x ≡ pos 0
row_zero i [] = refl
row_zero i (y ∷ x) = ap (λ z. pos y *ℤ pos 0 +ℤ z) (row_zero (suc i) x) ∙ solve (var 0 ⊗ con (pos 0) ⊕ con (pos 0)) (con (pos 0)) tt (pos y ∷ [])

row_add : (f g : ℕ → ℤ) (i : ℕ) (x : List ℕ) → row (λ j. f j +ℤ g j) i x ≡ row f i x +ℤ row g i x
row_add f g i [] = refl
row_add f g i (y ∷ x) =
    ap (λ z. pos y *ℤ (f i +ℤ g i) +ℤ z) (row_add f g (suc i) x)
    ∙ solve (var 0 ⊗ (var 1 ⊕ var 2) ⊕ (var 3 ⊕ var 4)) (var 0 ⊗ var 1 ⊕ var 3 ⊕ (var 0 ⊗ var 2 ⊕ var 4)) tt
    (pos y ∷ f i ∷ g i ∷ row f (suc i) x ∷ row g (suc i) x ∷ [])

row_cross : (a u v : ℤ) (f g : ℕ → ℤ) (i : ℕ) (x : List ℕ) → row (λ j. a *ℤ (u *ℤ g j +ℤ f j *ℤ v)) i x ≡ a *ℤ (u *ℤ row g i x +ℤ row f i x *ℤ v)
row_cross a u v f g i [] = solve (con (pos 0)) (var 0 ⊗ (var 1 ⊗ con (pos 0) ⊕ con (pos 0) ⊗ var 2)) tt (a ∷ u ∷ v ∷ [])
row_cross a u v f g i (y ∷ x) =
    let a' = var 0 in let u' = var 1 in let v' = var 2 in let y' = var 3 in let f' = var 4 in let g' = var 5 in let fs = var 6 in let gs = var 7 in
    ap (λ z. pos y *ℤ (a *ℤ (u *ℤ g i +ℤ f i *ℤ v)) +ℤ z) (row_cross a u v f g (suc i) x)
    ∙ solve (y' ⊗ (a' ⊗ (u' ⊗ g' ⊕ f' ⊗ v')) ⊕ a' ⊗ (u' ⊗ gs ⊕ fs ⊗ v')) (a' ⊗ (u' ⊗ (y' ⊗ g' ⊕ gs) ⊕ (y' ⊗ f' ⊕ fs) ⊗ v')) tt
    (a ∷ u ∷ v ∷ pos y ∷ f i ∷ g i ∷ row f (suc i) x ∷ row g (suc i) x ∷ [])

-- ---- the rows of a table are linear
rows_zero : (i : ℕ) (x : List ℕ) → rows (λ j. pos 0) (λ j k. pos 0) i x ≡ pos 0
rows_zero i [] = refl
rows_zero i (y ∷ x) =
    ap₂ (λ u v. pos y *ℤ (pos 0 +ℤ u) +ℤ v) (row_zero (suc i) x) (rows_zero (suc i) x)
    ∙ solve (var 0 ⊗ (con (pos 0) ⊕ con (pos 0)) ⊕ con (pos 0)) (con (pos 0)) tt (pos y ∷ [])

rows_add : (s t : ℕ → ℤ) (p q : ℕ → ℕ → ℤ) (i : ℕ) (x : List ℕ) → rows (λ j. s j +ℤ t j) (λ j k. p j k +ℤ q j k) i x ≡ rows s p i x +ℤ rows t q i x
rows_add s t p q i [] = refl
rows_add s t p q i (y ∷ x) =
    ap₂ (λ u v. pos y *ℤ (s i +ℤ t i +ℤ u) +ℤ v) (row_add (p i) (q i) (suc i) x) (rows_add s t p q (suc i) x)
    ∙ solve (var 0 ⊗ (var 1 ⊕ var 2 ⊕ (var 3 ⊕ var 4)) ⊕ (var 5 ⊕ var 6)) (var 0 ⊗ (var 1 ⊕ var 3) ⊕ var 5 ⊕ (var 0 ⊗ (var 2 ⊕ var 4) ⊕ var 6)) tt
    (pos y ∷ s i ∷ t i ∷ row (p i) (suc i) x ∷ row (q i) (suc i) x ∷ rows s p (suc i) x ∷ rows t q (suc i) x ∷ [])

-- ---- the product of two forms: the one place that needs x² ≡ x
module _ (a c d : ℤ) (f g : ℕ → ℤ) where
  abbrev ones : ℕ → ℤ
  ones i = a *ℤ (c *ℤ g i +ℤ f i *ℤ d +ℤ f i *ℤ g i)

  abbrev twos : ℕ → ℕ → ℤ
  twos i j = a *ℤ (f i *ℤ g j +ℤ f j *ℤ g i)

  rows_product : (i : ℕ) (x : List ℕ) → Bits x → rows ones twos i x ≡ a *ℤ (c *ℤ row g i x +ℤ row f i x *ℤ d +ℤ row f i x *ℤ row g i x)
  rows_product i [] h = solve (con (pos 0)) (var 0 ⊗ (var 1 ⊗ con (pos 0) ⊕ con (pos 0) ⊗ var 2 ⊕ con (pos 0) ⊗ con (pos 0))) tt (a ∷ c ∷ d ∷ [])
  rows_product i (y ∷ x) h =
      let y' = var 0 in let a' = var 1 in let c' = var 2 in let d' = var 3 in let u = var 4 in let v = var 5 in let us = var 6 in let vs = var 7 in
      ap₂ (λ r q. pos y *ℤ (ones i +ℤ r) +ℤ q) (row_cross a (f i) (g i) f g (suc i) x) (rows_product (suc i) x (λ k. h (suc k)))
      ∙ solve_bits 1
      (y' ⊗ (a' ⊗ (c' ⊗ v ⊕ u ⊗ d' ⊕ u ⊗ v) ⊕ a' ⊗ (u ⊗ vs ⊕ us ⊗ v)) ⊕ a' ⊗ (c' ⊗ vs ⊕ us ⊗ d' ⊕ us ⊗ vs))
      (a' ⊗ (c' ⊗ (y' ⊗ v ⊕ vs) ⊕ (y' ⊗ u ⊕ us) ⊗ d' ⊕ (y' ⊗ u ⊕ us) ⊗ (y' ⊗ v ⊕ vs)))
      tt (pos y ∷ a ∷ c ∷ d ∷ f i ∷ g i ∷ row f (suc i) x ∷ row g (suc i) x ∷ []) (bit_square y (h 0), tt)

-- ---- a linear form's value, as the row of its coefficients
pub only_same : (n : ℕ) (a : ℤ) → only n a n ≡ a
only_same n a = go (eqb n n) (eqb_refl n)
  where
    go : (t : Bool) → T t → cond t a (pos 0) ≡ a
    go true h = refl
    go false h = absurd h

pub only_other : (n j : ℕ) (a : ℤ) → (n ≡ j → ⊥) → only n a j ≡ pos 0
only_other n j a ne = go (eqb n j) (λ t. ne (eqb→eq n j t))
  where
    go : (t : Bool) → (T t → ⊥) → cond t a (pos 0) ≡ pos 0
    go true h = absurd (h tt)
    go false h = refl

row_past : (n : ℕ) (a : ℤ) (i : ℕ) (x : List ℕ) → n < i → row (only n a) i x ≡ pos 0
row_past n a i [] h = refl
row_past n a i (y ∷ x) h =
    ap₂ (λ u v. pos y *ℤ u +ℤ v) (only_other n i a (omega arith)) (row_past n a (suc i) x (omega arith))
    ∙ solve (var 0 ⊗ con (pos 0) ⊕ con (pos 0)) (con (pos 0)) tt (pos y ∷ [])

row_only : (n : ℕ) (a : ℤ) (i k : ℕ) (x : List ℕ) → n ≡ i + k → row (only n a) i x ≡ a *ℤ pos (get_or x k 0)
row_only n a i k [] e = sym (*ℤ-zero a)
row_only n a i zero (y ∷ x) e =
    let m : n ≡ i = e ∙ add-zero i in
    ap₂ (λ u v. pos y *ℤ u +ℤ v) (ap (only n a) (sym m) ∙ only_same n a) (row_past n a (suc i) x (omega arith))
    ∙ +ℤ_idr (pos y *ℤ a) ∙ *ℤ_comm (pos y) a
row_only n a i (suc k) (y ∷ x) e =
    ap₂ (λ u v. pos y *ℤ u +ℤ v) (only_other n i a (omega arith)) (row_only n a (suc i) k x (omega arith))
    ∙ ap (λ z. z +ℤ a *ℤ pos (get_or x k 0)) (*ℤ-zero (pos y)) ∙ +ℤ_idl (a *ℤ pos (get_or x k 0))

row_coef : (ts : List (ℕ × ℤ)) (x : List ℕ) → row (coef ts) 0 x ≡ entries_value ts x
row_coef [] x = row_zero 0 x
row_coef (t ∷ ts) x =
    row_add (only t.0 t.1) (coef ts) 0 x
    ∙ ap₂ ◌+ℤ◌ (row_only t.0 t.1 0 t.0 x (sym (zero-add t.0))) (row_coef ts x)

-- ---- the theorem
product_table : (a : ℤ) (k l : Linear) (x : List ℕ) → Bits x → term_constant (product a k l) +ℤ rows (term_single (product a k l)) (term_pair (product a k l)) 0 x ≡ term_value (product a k l) x
product_table a k l x h =
    ap (λ z. a *ℤ (k.constant *ℤ l.constant) +ℤ z) (rows_product a k.constant l.constant (coefficient k) (coefficient l) 0 x h)
    ∙ ap₂ (λ u v. a *ℤ (k.constant *ℤ l.constant) +ℤ a *ℤ (k.constant *ℤ v +ℤ u *ℤ l.constant +ℤ u *ℤ v)) (row_coef k.entries x) (row_coef l.entries x)
    ∙ solve (var 0 ⊗ (var 1 ⊗ var 2) ⊕ var 0 ⊗ (var 1 ⊗ var 4 ⊕ var 3 ⊗ var 2 ⊕ var 3 ⊗ var 4)) (var 0 ⊗ ((var 1 ⊕ var 3) ⊗ (var 2 ⊕ var 4))) tt
    (a ∷ k.constant ∷ l.constant ∷ entries_value k.entries x ∷ entries_value l.entries x ∷ [])

-- the table of a square is that of the product of the form with itself
pub single_square : (a : ℤ) (l : Linear) → term_single (square a l) ≡ term_single (product a l l)
single_square a l = fun_ext (λ i. simp ℤ·ring)

pub pair_square : (a : ℤ) (l : Linear) → term_pair (square a l) ≡ term_pair (product a l l)
pair_square a l = fun_ext (λ i. fun_ext (λ j. simp ℤ·ring))

square_table : (a : ℤ) (l : Linear) (x : List ℕ) → Bits x → term_constant (square a l) +ℤ rows (term_single (square a l)) (term_pair (square a l)) 0 x ≡ term_value (square a l) x
square_table a l x h = ap₂ (λ s p. a *ℤ (l.constant *ℤ l.constant) +ℤ rows s p 0 x) (single_square a l) (pair_square a l) ∙ product_table a l l x h

term_table : (t : Term) (x : List ℕ) → Bits x → term_constant t +ℤ rows (term_single t) (term_pair t) 0 x ≡ term_value t x
term_table (square a l) x h = square_table a l x h
term_table (product a k l) x h = product_table a k l x h

by_functions : (f : Formula) (x : List ℕ) → Bits x → constant_of f +ℤ rows (single_of f) (pair_of f) 0 x ≡ value f x
by_functions [] x h = +ℤ_idl (rows (λ i. pos 0) (λ i j. pos 0) 0 x) ∙ rows_zero 0 x
by_functions (t ∷ f) x h =
    ap (λ z. term_constant t +ℤ constant_of f +ℤ z) (rows_add (term_single t) (single_of f) (term_pair t) (pair_of f) 0 x)
    ∙ solve (var 0 ⊕ var 1 ⊕ (var 2 ⊕ var 3)) (var 0 ⊕ var 2 ⊕ (var 1 ⊕ var 3)) tt
    (term_constant t ∷ constant_of f ∷ rows (term_single t) (term_pair t) 0 x ∷ rows (single_of f) (pair_of f) 0 x ∷ [])
    ∙ ap₂ ◌+ℤ◌ (term_table t x h) (by_functions f x h)

pub table_value : (f : Formula) (n : ℕ) (x : List ℕ) → Assignment n x → energy (table_of f n) x ≡ value f x
unfolding table_of
table_value f n x h =
    ap (λ (rs : List (List ℤ)). constant_of f +ℤ rows_energy rs x) (table_rows f n)
    ∙ ap (λ (m : ℕ). constant_of f +ℤ rows_energy (rows_from (single_of f) (pair_of f) 0 m) x) (sym h.size)
    ∙ by_functions f x h.bits
