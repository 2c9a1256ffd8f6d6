-- Sums over families: what is added up over the terms of a formula, or the entries of a form, is a sum over the family that lists them.
-- Assumes nothing.
use mathlib.Core.Path.{◌≡◌, refl, sym, ap, ap₂, ◌∙◌}
use mathlib.Core.List.{List, [], ◌∷◌, ◌++◌}
use Prim.Native.Nat.{ℕ, zero, suc, ◌+◌, ◌*◌, ◌≤◌, ◌<◌}
use native.Mathlib.Nat.{add-zero, add-suc}
use native.Mathlib.Omega.{arith}
use native.Mathlib.Decide.{ℕ_discrete}
use lib.ListN.{length}
use lib.IntN.{ℤ, pos, nat_abs, ◌+ℤ◌, ◌*ℤ◌, +ℤ_idl, +ℤ_idr, +ℤ_assoc, *ℤ-zero}
use Rattle.lists.specs.Sums.{sum_to, sum_of}
use Rattle.qubo.specs.Formula.{Term, Formula}
use Rattle.qubo.specs.Table.{only, coef, term_constant, constant_of}
use Rattle.qubo.specs.Norm.{entries_norm, term_norm, formula_norm}
use Rattle.qubo.specs.Terms.{each, each_of, over, bits}
use Rattle.qubo.proofs.Ints.{*ℤ_+ℤ}

-- f 1 + .. + f n
abbrev pub sum_each : ℕ → (ℕ → ℤ) → ℤ
sum_each zero f = pos 0
sum_each (suc n) f = sum_each n f +ℤ f (suc n)

-- f x, added up over the x of a list
abbrev pub sum_over : {A : Type 0} → List A → (A → ℤ) → ℤ
sum_over [] f = pos 0
sum_over (x ∷ xs) f = f x +ℤ sum_over xs f

-- ---- sums over each, each_of and over
pub sum_over_append : {A : Type 0} (xs ys : List A) (f : A → ℤ) → sum_over (xs ++ ys) f ≡ sum_over xs f +ℤ sum_over ys f
sum_over_append [] ys f = sym (+ℤ_idl (sum_over ys f))
sum_over_append (x ∷ xs) ys f = ap (λ z. f x +ℤ z) (sum_over_append xs ys f) ∙ sym (+ℤ_assoc (f x) (sum_over xs f) (sum_over ys f))

pub sum_over_each_of : {A : Type 0} (n : ℕ) (G : ℕ → List A) (f : A → ℤ) → sum_over (each_of n G) f ≡ sum_each n (λ k. sum_over (G k) f)
sum_over_each_of zero G f = refl
sum_over_each_of (suc n) G f = sum_over_append (each_of n G) (G (suc n)) f ∙ ap (λ z. z +ℤ sum_over (G (suc n)) f) (sum_over_each_of n G f)

pub sum_over_over : {A B : Type 0} (xs : List A) (G : A → List B) (f : B → ℤ) → sum_over (over xs G) f ≡ sum_over xs (λ x. sum_over (G x) f)
sum_over_over [] G f = refl
sum_over_over (x ∷ xs) G f = sum_over_append (G x) (over xs G) f ∙ ap (λ z. sum_over (G x) f +ℤ z) (sum_over_over xs G f)

-- ---- sums of n numbers
pub sum_each_eq : (n : ℕ) (f g : ℕ → ℤ) → ((k : ℕ) → 1 ≤ k → k ≤ n → f k ≡ g k) → sum_each n f ≡ sum_each n g
sum_each_eq zero f g h = refl
sum_each_eq (suc n) f g h = ap₂ ◌+ℤ◌ (sum_each_eq n f g (λ k a b. h k a (omega arith))) (h (suc n) (omega arith) (omega arith))

pub sum_over_each : {A : Type 0} (n : ℕ) (F : ℕ → A) (f : A → ℤ) → sum_over (each n F) f ≡ sum_each n (λ k. f (F k))
sum_over_each n F f = sum_over_each_of n (λ k. F k ∷ []) f ∙ sum_each_eq n (λ k. f (F k) +ℤ pos 0) (λ k. f (F k)) (λ k p q. +ℤ_idr (f (F k)))

pub sum_each_none : (n : ℕ) (f : ℕ → ℤ) → ((k : ℕ) → 1 ≤ k → k ≤ n → f k ≡ pos 0) → sum_each n f ≡ pos 0
sum_each_none zero f h = refl
sum_each_none (suc n) f h = ap₂ ◌+ℤ◌ (sum_each_none n f (λ k a b. h k a (omega arith))) (h (suc n) (omega arith) (omega arith))

-- only one summand counts
pub sum_each_only : (n : ℕ) (f : ℕ → ℤ) (m : ℕ) → 1 ≤ m → m ≤ n → ((k : ℕ) → 1 ≤ k → k ≤ n → (k ≡ m → ⊥) → f k ≡ pos 0) → sum_each n f ≡ f m
sum_each_only zero f m a b h = let z : ⊥ = omega arith in absurd z
sum_each_only (suc n) f m a b h =
    elim (ℕ_discrete m (suc n)) [
      | yes e ↦ ap₂ ◌+ℤ◌ (sum_each_none n f (λ k p q. h k p (omega arith) (omega arith))) (ap f (sym e)) ∙ +ℤ_idl (f m)
      | no e ↦ ap₂ ◌+ℤ◌ (sum_each_only n f m a (omega arith) (λ k p q r. h k p (omega arith) r)) (h (suc n) (omega arith) (omega arith) (omega arith)) ∙ +ℤ_idr (f m)
    ]

pub sum_each_split : (n m : ℕ) (f : ℕ → ℤ) → sum_each (n + m) f ≡ sum_each n f +ℤ sum_each m (λ k. f (n + k))
sum_each_split n zero f = ap (λ (k : ℕ). sum_each k f) (add-zero n) ∙ sym (+ℤ_idr (sum_each n f))
sum_each_split n (suc m) f =
    ap (λ (k : ℕ). sum_each k f) (add-suc n m)
    ∙ ap₂ ◌+ℤ◌ (sum_each_split n m f) (ap f (sym (add-suc n m)))
    ∙ +ℤ_assoc (sum_each n f) (sum_each m (λ k. f (n + k))) (f (n + suc m))

pub sum_each_times : (q : ℤ) (n : ℕ) (f : ℕ → ℤ) → q *ℤ sum_each n f ≡ sum_each n (λ k. q *ℤ f k)
sum_each_times q zero f = *ℤ-zero q
sum_each_times q (suc n) f = *ℤ_+ℤ q (sum_each n f) (f (suc n)) ∙ ap (λ z. z +ℤ q *ℤ f (suc n)) (sum_each_times q n f)

-- ---- sums of whole numbers from 0
pub sum_each_pos : (n : ℕ) (f : ℕ → ℕ) → sum_each n (λ k. pos (f k)) ≡ pos (sum_to n f)
unfolding sum_to
sum_each_pos zero f = refl
sum_each_pos (suc n) f = ap (λ z. z +ℤ pos (f (suc n))) (sum_each_pos n f)

pub sum_over_pos : {A : Type 0} (xs : List A) (f : A → ℤ) (g : A → ℕ) → ((x : A) → f x ≡ pos (g x)) → sum_over xs f ≡ pos (sum_of xs g)
unfolding sum_of
sum_over_pos [] f g h = refl
sum_over_pos (x ∷ xs) f g h = ap₂ ◌+ℤ◌ (h x) (sum_over_pos xs f g h)

-- ---- what is added up over the terms of a formula
pub constant_sum : (f : Formula) → constant_of f ≡ sum_over f term_constant
constant_sum [] = refl
constant_sum (t ∷ f) = ap (λ z. term_constant t +ℤ z) (constant_sum f)

pub constant_append : (f g : Formula) → constant_of (f ++ g) ≡ constant_of f +ℤ constant_of g
constant_append f g = constant_sum (f ++ g) ∙ sum_over_append f g term_constant ∙ sym (ap₂ ◌+ℤ◌ (constant_sum f) (constant_sum g))

-- a family of terms that have nothing at 1
pub each_constant : (n : ℕ) (F : ℕ → Term) → ((i : ℕ) → term_constant (F i) ≡ pos 0) → constant_of (each n F) ≡ pos 0
each_constant n F h = constant_sum (each n F) ∙ sum_over_each n F term_constant ∙ sum_each_none n (λ i. term_constant (F i)) (λ i p q. h i)

-- ---- what is added up over the entries of a form
pub coef_sum : (es : List (ℕ × ℤ)) (j : ℕ) → coef es j ≡ sum_over es (λ e. only e.0 e.1 j)
coef_sum [] j = refl
coef_sum (e ∷ es) j = ap (λ z. only e.0 e.1 j +ℤ z) (coef_sum es j)

pub coef_append : (es fs : List (ℕ × ℤ)) (j : ℕ) → coef (es ++ fs) j ≡ coef es j +ℤ coef fs j
coef_append es fs j = coef_sum (es ++ fs) j ∙ sum_over_append es fs (λ e. only e.0 e.1 j) ∙ sym (ap₂ ◌+ℤ◌ (coef_sum es j) (coef_sum fs j))

pub coef_bits : (q : ℤ) (n : ℕ) (b : ℕ → ℕ) (j : ℕ) → coef (bits q n b) j ≡ sum_each n (λ k. only (b k) q j)
coef_bits q n b j = coef_sum (bits q n b) j ∙ sum_over_each n (λ k. (b k, q)) (λ e. only e.0 e.1 j)

-- ---- norms
pub norm_append : (f g : Formula) → formula_norm (f ++ g) ≡ formula_norm f + formula_norm g
norm_append [] g = omega arith
norm_append (t ∷ f) g = omega (arith, norm_append f g)

pub norm_each_of : (b n : ℕ) (G : ℕ → Formula) → ((k : ℕ) → 1 ≤ k → k ≤ n → formula_norm (G k) ≤ b) → formula_norm (each_of n G) ≤ n * b
norm_each_of b zero G h = omega arith
norm_each_of b (suc n) G h =
    omega (arith, norm_append (each_of n G) (G (suc n)), norm_each_of b n G (λ k p q. h k p (omega arith)), h (suc n) (omega arith) (omega arith))

pub norm_each : (b n : ℕ) (F : ℕ → Term) → ((k : ℕ) → 1 ≤ k → k ≤ n → term_norm (F k) ≤ b) → formula_norm (each n F) ≤ n * b
norm_each b n F h = norm_each_of b n (λ k. F k ∷ []) (λ k p q. omega (arith, h k p q))

pub norm_over : {A : Type 0} (b : ℕ) (xs : List A) (G : A → Formula) → ((x : A) → formula_norm (G x) ≤ b) → formula_norm (over xs G) ≤ length xs * b
norm_over b [] G h = omega arith
norm_over b (x ∷ xs) G h = omega (arith, norm_append (G x) (over xs G), norm_over b xs G h, h x)

pub entries_norm_append : (es fs : List (ℕ × ℤ)) → entries_norm (es ++ fs) ≡ entries_norm es + entries_norm fs
entries_norm_append [] fs = omega arith
entries_norm_append (e ∷ es) fs = omega (arith, entries_norm_append es fs)

pub bits_norm : (q : ℤ) (n : ℕ) (b : ℕ → ℕ) → entries_norm (bits q n b) ≡ n * nat_abs q
bits_norm q zero b = omega arith
bits_norm q (suc n) b = omega (arith, entries_norm_append (bits q n b) ((b (suc n), q) ∷ []), bits_norm q n b)

-- a part of a family has no greater norm
pub norm_part : (n : ℕ) (G : ℕ → Formula) (t : ℕ) → t < n → formula_norm (each_of t G) + formula_norm (G (suc t)) ≤ formula_norm (each_of n G)
norm_part zero G t h = let z : ⊥ = omega arith in absurd z
norm_part (suc n) G t h =
    elim (ℕ_discrete t n) [
      | yes e ↦ rw e (omega (arith, norm_append (each_of n G) (G (suc n))))
      | no e ↦ omega (arith, norm_append (each_of n G) (G (suc n)), norm_part n G t (omega arith))
    ]
