-- The norm of a formula bounds what its table holds: the sum of the absolute values of its numbers, each number, and the value at every assignment.
-- Assumes nothing.
use mathlib.Core.Path.{◌≡◌, refl, ap, ap₂, subst₂, ◌∙◌}
use mathlib.Core.Bool.{Bool, true, false, cond}
use mathlib.Core.List.{List, [], ◌∷◌}
use Prim.Native.Nat.{ℕ, zero, suc, ◌+◌, ◌-◌, ◌*◌, ◌≤◌, ◌<◌}
use native.Mathlib.Nat.{mul-le-mul, mul-le-mul_left}
use native.Mathlib.Omega.{arith}
use native.Mathlib.Decide.{dec_lt}
use lib.Dec.{T, eqb, eqb→eq}
use lib.ListN.{get_or}
use lib.IntN.{ℤ, pos, nat_abs, ◌+ℤ◌, ◌*ℤ◌}
use Rattle.qubo.specs.Formula.{Linear, Term, square, product, Formula, Bits, entries_value, linear_value, term_value, value}
use Rattle.qubo.specs.Table.{only, coef, coefficient, term_constant, term_single, term_pair, constant_of, single_of, pair_of, cell, table_of, abs_sum, rows_abs, table_abs, list_of, row_of}
use Rattle.qubo.specs.Norm.{entries_norm, linear_norm, term_norm, formula_norm}
use Rattle.qubo.proofs.Ints.{nat_abs_+ℤ, nat_abs_*ℤ}
use Rattle.qubo.proofs.TableLists.{from, rows_from, row_from, table_rows, from_at, list_at}
use Rattle.qubo.proofs.TableValue.{only_other, single_square, pair_square}

-- ---- the sums by functions, as in TableValue
-- the absolute values of f at the n numbers from i on
abbrev abs_from : (ℕ → ℤ) → ℕ → ℕ → ℕ
abs_from f i n = abs_sum (from f i n)

-- those of a table, over the n bits from i on
abbrev abs_rows : (ℕ → ℤ) → (ℕ → ℕ → ℤ) → ℕ → ℕ → ℕ
abs_rows s p i n = rows_abs (rows_from s p i n)

-- ---- sums
abs_from_zero : (i n : ℕ) → abs_from (λ j. pos 0) i n ≡ 0
abs_from_zero i zero = refl
abs_from_zero i (suc n) = let h = abs_from_zero (suc i) n in omega arith

abs_from_add : (f g : ℕ → ℤ) (i n : ℕ) → abs_from (λ j. f j +ℤ g j) i n ≤ abs_from f i n + abs_from g i n
abs_from_add f g i zero = omega arith
abs_from_add f g i (suc n) =
    let h = abs_from_add f g (suc i) n in
    let k = nat_abs_+ℤ (f i) (g i) in
    omega arith

abs_rows_zero : (i n : ℕ) → abs_rows (λ j. pos 0) (λ j k. pos 0) i n ≡ 0
abs_rows_zero i zero = refl
abs_rows_zero i (suc n) =
    let h = abs_rows_zero (suc i) n in
    let k = abs_from_zero (suc i) n in
    omega arith

abs_rows_add : (s t : ℕ → ℤ) (p q : ℕ → ℕ → ℤ) (i n : ℕ) → abs_rows (λ j. s j +ℤ t j) (λ j k. p j k +ℤ q j k) i n ≤ abs_rows s p i n + abs_rows t q i n
abs_rows_add s t p q i zero = omega arith
abs_rows_add s t p q i (suc n) =
    let h = abs_rows_add s t p q (suc i) n in
    let k = abs_from_add (p i) (q i) (suc i) n in
    let l = nat_abs_+ℤ (s i) (t i) in
    omega arith

-- ---- the product of two forms
abs_cross : (a u v w z : ℤ) → nat_abs (a *ℤ (u *ℤ v +ℤ w *ℤ z)) ≤ nat_abs a * (nat_abs u * nat_abs v + nat_abs w * nat_abs z)
abs_cross a u v w z =
    let h : nat_abs (u *ℤ v +ℤ w *ℤ z) ≤ nat_abs u * nat_abs v + nat_abs w * nat_abs z = omega (arith, nat_abs_+ℤ (u *ℤ v) (w *ℤ z), nat_abs_*ℤ u v, nat_abs_*ℤ w z) in
    omega (arith, nat_abs_*ℤ a (u *ℤ v +ℤ w *ℤ z), mul-le-mul_left (nat_abs a) h)

abs_three : (a u v w z x y : ℤ) → nat_abs (a *ℤ (u *ℤ v +ℤ w *ℤ z +ℤ x *ℤ y)) ≤ nat_abs a * (nat_abs u * nat_abs v + nat_abs w * nat_abs z + nat_abs x * nat_abs y)
abs_three a u v w z x y =
    let h : nat_abs (u *ℤ v +ℤ w *ℤ z +ℤ x *ℤ y) ≤ nat_abs u * nat_abs v + nat_abs w * nat_abs z + nat_abs x * nat_abs y =
    omega (arith, nat_abs_+ℤ (u *ℤ v +ℤ w *ℤ z) (x *ℤ y), nat_abs_+ℤ (u *ℤ v) (w *ℤ z), nat_abs_*ℤ u v, nat_abs_*ℤ w z, nat_abs_*ℤ x y) in
    omega (arith, nat_abs_*ℤ a (u *ℤ v +ℤ w *ℤ z +ℤ x *ℤ y), mul-le-mul_left (nat_abs a) h)

abs_from_cross : (a u v : ℤ) (f g : ℕ → ℤ) (i n : ℕ) → abs_from (λ j. a *ℤ (u *ℤ g j +ℤ f j *ℤ v)) i n ≤ nat_abs a * (nat_abs u * abs_from g i n + abs_from f i n * nat_abs v)
abs_from_cross a u v f g i zero = omega arith
abs_from_cross a u v f g i (suc n) =
    let h = abs_from_cross a u v f g (suc i) n in
    let k = abs_cross a u (g i) (f i) v in
    omega arith

abs_rows_product : (a c d : ℤ) (f g : ℕ → ℤ) (i n : ℕ) →
    abs_rows (λ j. a *ℤ (c *ℤ g j +ℤ f j *ℤ d +ℤ f j *ℤ g j)) (λ j k. a *ℤ (f j *ℤ g k +ℤ f k *ℤ g j)) i n
    ≤ nat_abs a * (nat_abs c * abs_from g i n + abs_from f i n * nat_abs d + abs_from f i n * abs_from g i n)
abs_rows_product a c d f g i zero = omega arith
abs_rows_product a c d f g i (suc n) =
    let h = abs_rows_product a c d f g (suc i) n in
    let k = abs_from_cross a (f i) (g i) f g (suc i) n in
    let l = abs_three a c (g i) (f i) d (f i) (g i) in
    omega arith

-- ---- a form's coefficients, taken together by their index
abs_from_past : (m : ℕ) (a : ℤ) (i n : ℕ) → m < i → abs_from (only m a) i n ≡ 0
abs_from_past m a i zero h = refl
abs_from_past m a i (suc n) h =
    let k = abs_from_past m a (suc i) n (omega arith) in
    let l = ap nat_abs (only_other m i a (omega arith)) in
    omega arith

abs_from_only : (m : ℕ) (a : ℤ) (i n : ℕ) → abs_from (only m a) i n ≤ nat_abs a
abs_from_only m a i zero = omega arith
abs_from_only m a i (suc n) = go (eqb m i) (eqb→eq m i) (abs_from_only m a (suc i) n)
  where
    go : (t : Bool) → (T t → m ≡ i) → abs_from (only m a) (suc i) n ≤ nat_abs a → nat_abs (cond t a (pos 0)) + abs_from (only m a) (suc i) n ≤ nat_abs a
    go true e h = let k = e tt in omega (arith, abs_from_past m a (suc i) n (omega arith))
    go false e h = omega arith

abs_from_coef : (ts : List (ℕ × ℤ)) (n : ℕ) → abs_from (coef ts) 0 n ≤ entries_norm ts
abs_from_coef [] n = omega (arith, abs_from_zero 0 n)
abs_from_coef (t ∷ ts) n =
    omega (arith, abs_from_add (only t.0 t.1) (coef ts) 0 n, abs_from_only t.0 t.1 0 n, abs_from_coef ts n)

-- ---- the theorem
product_norm : (a : ℤ) (k l : Linear) (n : ℕ) → nat_abs (term_constant (product a k l)) + abs_rows (term_single (product a k l)) (term_pair (product a k l)) 0 n ≤ term_norm (product a k l)
product_norm a k l n =
    let h = abs_rows_product a k.constant l.constant (coefficient k) (coefficient l) 0 n in
    let e : nat_abs (a *ℤ (k.constant *ℤ l.constant)) ≡ nat_abs a * (nat_abs k.constant * nat_abs l.constant) = nat_abs_*ℤ a (k.constant *ℤ l.constant) ∙ ap (λ z. nat_abs a * z) (nat_abs_*ℤ k.constant l.constant) in
    let u : nat_abs k.constant + abs_from (coefficient k) 0 n ≤ linear_norm k = omega (arith, abs_from_coef k.entries n) in
    let v : nat_abs l.constant + abs_from (coefficient l) 0 n ≤ linear_norm l = omega (arith, abs_from_coef l.entries n) in
    omega (arith, mul-le-mul_left (nat_abs a) (mul-le-mul u v))

term_bound : (t : Term) (n : ℕ) → nat_abs (term_constant t) + abs_rows (term_single t) (term_pair t) 0 n ≤ term_norm t
term_bound (square a l) n =
    let e = ap₂ (λ s p. abs_rows s p 0 n) (single_square a l) (pair_square a l) in
    omega (arith, product_norm a l l n)
term_bound (product a k l) n = product_norm a k l n

by_functions : (f : Formula) (n : ℕ) → nat_abs (constant_of f) + abs_rows (single_of f) (pair_of f) 0 n ≤ formula_norm f
by_functions [] n = omega (arith, abs_rows_zero 0 n)
by_functions (t ∷ f) n =
    omega (arith, nat_abs_+ℤ (term_constant t) (constant_of f), abs_rows_add (term_single t) (single_of f) (term_pair t) (pair_of f) 0 n, term_bound t n, by_functions f n)

-- the sum of the absolute values of the table's numbers is at most the norm
pub table_bound : (f : Formula) (n : ℕ) → table_abs (table_of f n) ≤ formula_norm f
unfolding table_of
table_bound f n = omega (arith, by_functions f n, ap rows_abs (table_rows f n))

-- ---- the constant, each row and each number
pub constant_bound : (f : Formula) → nat_abs (constant_of f) ≤ formula_norm f
constant_bound f = omega (arith, by_functions f 0)

abs_rows_row : (s : ℕ → ℤ) (p : ℕ → ℕ → ℤ) (i n k : ℕ) → abs_sum (s (i + k) ∷ from (p (i + k)) (suc (i + k)) n) ≤ abs_rows s p i (k + suc n)
abs_rows_row s p i n zero =
    let e : i ≡ i + 0 = omega arith in
    let d : suc n ≡ 0 + suc n = omega arith in
    subst₂ (λ (j m : ℕ). abs_sum (s j ∷ from (p j) (suc j) n) ≤ abs_rows s p i m) e d (omega arith)
abs_rows_row s p i n (suc k) =
    let e : suc i + k ≡ i + suc k = omega arith in
    let d : suc (k + suc n) ≡ suc k + suc n = omega arith in
    let h = abs_rows_row s p (suc i) n k in
    subst₂ (λ (j m : ℕ). abs_sum (s j ∷ from (p j) (suc j) n) ≤ abs_rows s p i m) e d (omega (arith, h))

pub row_bound : (f : Formula) (bits i : ℕ) → abs_sum (row_of f bits i) ≤ formula_norm f
unfolding row_of
row_bound f bits i = elim (dec_lt i bits) [
  | yes h ↦ (let n = bits - suc i in let e : bits ≡ i + suc n = omega arith in let z : 0 + i ≡ i = omega arith in
      omega (
        arith,
        by_functions f (i + suc n),
        ap abs_sum (row_from f bits i n e),
        ap (λ (j : ℕ). abs_sum (single_of f j ∷ from (pair_of f j) (suc j) n)) z,
        abs_rows_row (single_of f) (pair_of f) 0 n i,
      ))
  | no h ↦ (let e : bits - i ≡ 0 = omega arith in omega (arith, ap (λ (m : ℕ). abs_sum (list_of m (cell f i))) e))
]

abs_sum_at : (r : List ℤ) (k : ℕ) → nat_abs (get_or r k (pos 0)) ≤ abs_sum r
abs_sum_at [] k = omega arith
abs_sum_at (q ∷ r) zero = omega arith
abs_sum_at (q ∷ r) (suc k) = omega (arith, abs_sum_at r k)

pub cell_bound : (f : Formula) (i k : ℕ) → nat_abs (cell f i k) ≤ formula_norm f
unfolding row_of
cell_bound f i k =
    let e : i + suc k - i ≡ suc k = omega arith in
    omega (arith, row_bound f (i + suc k) i, ap (λ (m : ℕ). abs_sum (list_of m (cell f i))) e, abs_sum_at (list_of (suc k) (cell f i)) k, ap nat_abs (list_at (cell f i) (suc k) k (omega arith)))

-- a linear form's coefficient
pub coef_bound : (es : List (ℕ × ℤ)) (i : ℕ) → nat_abs (coef es i) ≤ entries_norm es
coef_bound es i =
    let e : 0 + i ≡ i = omega arith in
    omega (arith, abs_from_coef es (suc i), ap (λ (m : ℕ). nat_abs (coef es m)) e, abs_sum_at (from (coef es) 0 (suc i)) i, ap nat_abs (from_at (coef es) 0 (suc i) i (omega arith)))

-- ---- the value
bit_abs : (y : ℕ) (z : ℤ) → y ≤ 1 → nat_abs (z *ℤ pos y) ≤ nat_abs z
bit_abs y z h = omega (arith, nat_abs_*ℤ z (pos y), mul-le-mul_left (nat_abs z) h)

entries_bound : (es : List (ℕ × ℤ)) (x : List ℕ) → Bits x → nat_abs (entries_value es x) ≤ entries_norm es
entries_bound [] x h = omega arith
entries_bound (e ∷ es) x h =
    omega (arith, nat_abs_+ℤ (e.1 *ℤ pos (get_or x e.0 0)) (entries_value es x), bit_abs (get_or x e.0 0) e.1 (h e.0), entries_bound es x h)

linear_bound : (l : Linear) (x : List ℕ) → Bits x → nat_abs (linear_value l x) ≤ linear_norm l
linear_bound l x h = omega (arith, nat_abs_+ℤ l.constant (entries_value l.entries x), entries_bound l.entries x h)

times_bound : (a : ℤ) (k l : Linear) (x : List ℕ) → Bits x → nat_abs (a *ℤ (linear_value k x *ℤ linear_value l x)) ≤ nat_abs a * (linear_norm k * linear_norm l)
times_bound a k l x h =
    omega (
      arith,
      nat_abs_*ℤ a (linear_value k x *ℤ linear_value l x) ∙ ap (λ (z : ℕ). nat_abs a * z) (nat_abs_*ℤ (linear_value k x) (linear_value l x)),
      mul-le-mul_left (nat_abs a) (mul-le-mul (linear_bound k x h) (linear_bound l x h)),
    )

term_value_bound : (t : Term) (x : List ℕ) → Bits x → nat_abs (term_value t x) ≤ term_norm t
term_value_bound (square a l) x h = times_bound a l l x h
term_value_bound (product a k l) x h = times_bound a k l x h

-- the norm bounds the value, and with it the energy, at every assignment
pub value_bound : (f : Formula) (x : List ℕ) → Bits x → nat_abs (value f x) ≤ formula_norm f
value_bound [] x h = omega arith
value_bound (t ∷ f) x h = omega (arith, nat_abs_+ℤ (term_value t x) (value f x), term_value_bound t x h, value_bound f x h)
