-- What a single term adds to the row of bit i. A square becomes a number of bit i itself and bit i times the form: so every term is added by entries.
-- Assumes nothing.
use mathlib.Core.Path.{◌≡◌, refl, sym, ap, ap₂, ◌∙◌}
use mathlib.Core.Bool.{Bool, true, false, cond}
use mathlib.Core.List.{List, [], ◌∷◌, ◌++◌}
use Prim.Native.Nat.{ℕ, zero, suc, ◌+◌, ◌-◌, ◌*◌, ◌≤◌, ◌<◌}
use native.Mathlib.Nat.{add-zero, mul-le-mul, mul-le-mul_left, mul-le-mul_right}
use native.Mathlib.Omega.{arith}
use native.Mathlib.Decide.{ℕ_discrete}
use lib.Dec.{eqb}
use lib.IntN.{ℤ, pos, neg_ℤ, nat_abs, ◌+ℤ◌, ◌-ℤ◌, ◌*ℤ◌, +ℤ_idr, *ℤ-zero}
use Rattle.qubo.specs.Formula.{Linear, Term, square, product, Formula}
use Rattle.qubo.specs.Table.{only, coef, coefficient, cell}
use Rattle.qubo.specs.Norm.{entries_norm, term_norm, formula_norm}
use Rattle.qubo.specs.Terms.{sum, bit, one, bits, single, times, pair}
use Rattle.qubo.specs.Rows.{plus, add_terms, Room}
use Rattle.qubo.proofs.Ints.{nat_abs_+ℤ, nat_abs_*ℤ, nat_abs_negℤ}
use Rattle.qubo.proofs.Ring.{var, con, ◌⊕◌, ◌⊖◌, ◌⊗◌, neg, solve}
use Rattle.qubo.proofs.TableValue.{only_same, only_other, single_square, pair_square}
use Rattle.qubo.proofs.TableBound.{coef_bound}
use Rattle.qubo.proofs.Families.{sum_each_eq, sum_each_times, coef_append, coef_bits}
use Rattle.qubo.proofs.RowAction.{term_cell, cell_sum, plus_eq, plus_plus, plus_none, add_one_term, Absent, add_absent}

add_is : (f : Formula) (i : ℕ) (r : List ℤ) → plus r (cell f i) ≡ add_terms f i r
unfolding add_terms
add_is f i r = refl

-- ---- one number at one place
pub only_times : (q : ℤ) (m : ℕ) (v : ℤ) (j : ℕ) → q *ℤ only m v j ≡ only m (q *ℤ v) j
only_times q m v j = go (eqb m j)
  where
    go : (t : Bool) → q *ℤ cond t v (pos 0) ≡ cond t (q *ℤ v) (pos 0)
    go true = refl
    go false = *ℤ-zero q

pub only_add : (m : ℕ) (v w : ℤ) (j : ℕ) → only m v j +ℤ only m w j ≡ only m (v +ℤ w) j
only_add m v w j = go (eqb m j)
  where
    go : (t : Bool) → cond t v (pos 0) +ℤ cond t w (pos 0) ≡ cond t (v +ℤ w) (pos 0)
    go true = refl
    go false = refl

times_one : (q : ℤ) → q *ℤ pos 1 ≡ q
times_one q = solve (var 0 ⊗ con (pos 1)) (var 0) tt (q ∷ [])

-- place j - i of row i is that of bit j
pub only_shift : (j : ℕ) (v : ℤ) (i k : ℕ) → i ≤ j → only j v (i + k) ≡ only (j - i) v k
only_shift j v i k h = elim (ℕ_discrete j (i + k)) [
  | yes e ↦ (let d : j - i ≡ k = omega arith in ap (λ (t : ℕ). only t v (i + k)) e ∙ only_same (i + k) v ∙ sym (ap (λ (t : ℕ). only t v k) d ∙ only_same k v))
  | no e ↦ only_other j (i + k) v e ∙ sym (only_other (j - i) k v (λ d. e (omega arith)))
]

bit_here : (i : ℕ) → coefficient (bit i) i ≡ pos 1
bit_here i = +ℤ_idr (only i (pos 1) i) ∙ only_same i (pos 1)

bit_other : (p i : ℕ) → (p ≡ i → ⊥) → coefficient (bit p) i ≡ pos 0
bit_other p i ne = +ℤ_idr (only p (pos 1) i) ∙ only_other p i (pos 1) ne

-- ---- a term without bit i has no number in row i
absent_term : (t : Term) (i : ℕ) → ((k : ℕ) → term_cell t i k ≡ pos 0) → Absent (t ∷ []) i
absent_term t i h k = cell_sum (t ∷ []) i k ∙ +ℤ_idr (term_cell t i k) ∙ h k

product_none : (a : ℤ) (k l : Linear) (i : ℕ) → coefficient k i ≡ pos 0 → coefficient l i ≡ pos 0 → (m : ℕ) → term_cell (product a k l) i m ≡ pos 0
product_none a k l i e d zero =
    ap₂ (λ y z. a *ℤ (k.constant *ℤ z +ℤ y *ℤ l.constant +ℤ y *ℤ z)) e d
    ∙ solve (var 0 ⊗ (var 1 ⊗ con (pos 0) ⊕ con (pos 0) ⊗ var 2 ⊕ con (pos 0) ⊗ con (pos 0))) (con (pos 0)) tt (a ∷ k.constant ∷ l.constant ∷ [])
product_none a k l i e d (suc m) =
    ap₂ (λ y z. a *ℤ (y *ℤ coefficient l (i + suc m) +ℤ coefficient k (i + suc m) *ℤ z)) e d
    ∙ solve (var 0 ⊗ (con (pos 0) ⊗ var 1 ⊕ var 2 ⊗ con (pos 0))) (con (pos 0)) tt (a ∷ coefficient l (i + suc m) ∷ coefficient k (i + suc m) ∷ [])

pub product_absent : (a : ℤ) (k l : Linear) (i : ℕ) → coefficient k i ≡ pos 0 → coefficient l i ≡ pos 0 → Absent (product a k l ∷ []) i
product_absent a k l i e d = absent_term (product a k l) i (product_none a k l i e d)

-- a square is the product of the form with itself
square_product : (a : ℤ) (l : Linear) (i k : ℕ) → term_cell (square a l) i k ≡ term_cell (product a l l) i k
square_product a l i zero = ap (λ (f : ℕ → ℤ). f i) (single_square a l)
square_product a l i (suc k) = ap (λ (f : ℕ → ℕ → ℤ). f i (i + suc k)) (pair_square a l)

pub square_absent : (a : ℤ) (l : Linear) (i : ℕ) → coefficient l i ≡ pos 0 → Absent (square a l ∷ []) i
square_absent a l i e = absent_term (square a l) i (λ k. square_product a l i k ∙ product_none a l l i e e k)

pub single_absent : (q : ℤ) (p i : ℕ) → (p ≡ i → ⊥) → Absent (single q p ∷ []) i
single_absent q p i ne = product_absent q (bit p) one i (bit_other p i ne) refl

pub pair_absent : (q : ℤ) (p r i : ℕ) → (p ≡ i → ⊥) → (r ≡ i → ⊥) → Absent (pair q p r ∷ []) i
pair_absent q p r i np nr = product_absent q (bit p) (bit r) i (bit_other p i np) (bit_other r i nr)

-- ---- products, in any row
add_same : (s t : Term) (i : ℕ) (r : List ℤ) → ((m : ℕ) → term_cell s i m ≡ term_cell t i m) → add_terms (s ∷ []) i r ≡ add_terms (t ∷ []) i r
add_same s t i r h = add_one_term s i r ∙ plus_eq r (term_cell s i) (term_cell t i) h ∙ sym (add_one_term t i r)

pub product_swap : (a : ℤ) (k l : Linear) (i : ℕ) (r : List ℤ) → add_terms (product a k l ∷ []) i r ≡ add_terms (product a l k ∷ []) i r
product_swap a k l i r = add_same (product a k l) (product a l k) i r same
  where
    same : (m : ℕ) → term_cell (product a k l) i m ≡ term_cell (product a l k) i m
    same zero =
        solve (var 0 ⊗ (var 1 ⊗ var 4 ⊕ var 2 ⊗ var 3 ⊕ var 2 ⊗ var 4)) (var 0 ⊗ (var 3 ⊗ var 2 ⊕ var 4 ⊗ var 1 ⊕ var 4 ⊗ var 2)) tt
        (a ∷ k.constant ∷ coefficient k i ∷ l.constant ∷ coefficient l i ∷ [])
    same (suc m) =
        solve (var 0 ⊗ (var 1 ⊗ var 4 ⊕ var 2 ⊗ var 3)) (var 0 ⊗ (var 3 ⊗ var 2 ⊕ var 4 ⊗ var 1)) tt
        (a ∷ coefficient k i ∷ coefficient k (i + suc m) ∷ coefficient l i ∷ coefficient l (i + suc m) ∷ [])

-- the entries of a form may be added part by part
pub product_split : (a : ℤ) (k : Linear) (c : ℤ) (es fs : List (ℕ × ℤ)) (i : ℕ) (r : List ℤ)
    → add_terms (product a k (record { constant = c; entries = es ++ fs }) ∷ []) i r ≡ add_terms (product a k (sum fs) ∷ []) i (add_terms (product a k (record { constant = c; entries = es }) ∷ []) i r)
product_split a k c es fs i r =
    add_one_term (product a k whole) i r
    ∙ plus_eq r (term_cell (product a k whole) i) (λ m. term_cell (product a k front) i m +ℤ term_cell (product a k (sum fs)) i m) parts
    ∙ sym (plus_plus r (term_cell (product a k front) i) (term_cell (product a k (sum fs)) i))
    ∙ sym (add_one_term (product a k (sum fs)) i (plus r (term_cell (product a k front) i)))
    ∙ ap (add_terms (product a k (sum fs) ∷ []) i) (sym (add_one_term (product a k front) i r))
  where
    whole : Linear
    whole = record { constant = c; entries = es ++ fs }

    front : Linear
    front = record { constant = c; entries = es }

    parts : (m : ℕ) → term_cell (product a k whole) i m ≡ term_cell (product a k front) i m +ℤ term_cell (product a k (sum fs)) i m
    parts zero =
        ap (λ z. a *ℤ (k.constant *ℤ z +ℤ coefficient k i *ℤ c +ℤ coefficient k i *ℤ z)) (coef_append es fs i)
        ∙ solve (var 0 ⊗ (var 1 ⊗ (var 4 ⊕ var 5) ⊕ var 2 ⊗ var 3 ⊕ var 2 ⊗ (var 4 ⊕ var 5)))
        (var 0 ⊗ (var 1 ⊗ var 4 ⊕ var 2 ⊗ var 3 ⊕ var 2 ⊗ var 4) ⊕ var 0 ⊗ (var 1 ⊗ var 5 ⊕ var 2 ⊗ con (pos 0) ⊕ var 2 ⊗ var 5)) tt
        (a ∷ k.constant ∷ coefficient k i ∷ c ∷ coef es i ∷ coef fs i ∷ [])
    parts (suc m) =
        ap₂ (λ y z. a *ℤ (coefficient k i *ℤ y +ℤ coefficient k (i + suc m) *ℤ z)) (coef_append es fs (i + suc m)) (coef_append es fs i)
        ∙ solve (var 0 ⊗ (var 1 ⊗ (var 3 ⊕ var 4) ⊕ var 2 ⊗ (var 5 ⊕ var 6))) (var 0 ⊗ (var 1 ⊗ var 3 ⊕ var 2 ⊗ var 5) ⊕ var 0 ⊗ (var 1 ⊗ var 4 ⊕ var 2 ⊗ var 6)) tt
        (a ∷ coefficient k i ∷ coefficient k (i + suc m) ∷ coef es (i + suc m) ∷ coef fs (i + suc m) ∷ coef es i ∷ coef fs i ∷ [])

pub product_empty : (a : ℤ) (k : Linear) (i : ℕ) (r : List ℤ) → add_terms (product a k (sum []) ∷ []) i r ≡ r
product_empty a k i r = add_one_term (product a k (sum [])) i r ∙ plus_none r (term_cell (product a k (sum [])) i) none
  where
    none : (m : ℕ) → term_cell (product a k (sum [])) i m ≡ pos 0
    none zero = solve (var 0 ⊗ (var 1 ⊗ con (pos 0) ⊕ var 2 ⊗ con (pos 0) ⊕ var 2 ⊗ con (pos 0))) (con (pos 0)) tt (a ∷ k.constant ∷ coefficient k i ∷ [])
    none (suc m) = solve (var 0 ⊗ (var 1 ⊗ con (pos 0) ⊕ var 2 ⊗ con (pos 0))) (con (pos 0)) tt (a ∷ coefficient k i ∷ coefficient k (i + suc m) ∷ [])

-- a common factor w of the entries goes to the front
pub product_scale : (a w : ℤ) (k : Linear) (es fs : List (ℕ × ℤ)) → ((j : ℕ) → coef es j ≡ w *ℤ coef fs j) → (i : ℕ) (r : List ℤ) → add_terms (product a k (sum es) ∷ []) i r ≡ add_terms (product (a *ℤ w) k (sum fs) ∷ []) i r
product_scale a w k es fs h i r = add_same (product a k (sum es)) (product (a *ℤ w) k (sum fs)) i r same
  where
    same : (m : ℕ) → term_cell (product a k (sum es)) i m ≡ term_cell (product (a *ℤ w) k (sum fs)) i m
    same zero =
        ap (λ z. a *ℤ (k.constant *ℤ z +ℤ coefficient k i *ℤ pos 0 +ℤ coefficient k i *ℤ z)) (h i)
        ∙ solve (var 0 ⊗ (var 2 ⊗ (var 1 ⊗ var 4) ⊕ var 3 ⊗ con (pos 0) ⊕ var 3 ⊗ (var 1 ⊗ var 4))) (var 0 ⊗ var 1 ⊗ (var 2 ⊗ var 4 ⊕ var 3 ⊗ con (pos 0) ⊕ var 3 ⊗ var 4)) tt
        (a ∷ w ∷ k.constant ∷ coefficient k i ∷ coef fs i ∷ [])
    same (suc m) =
        ap₂ (λ y z. a *ℤ (coefficient k i *ℤ y +ℤ coefficient k (i + suc m) *ℤ z)) (h (i + suc m)) (h i)
        ∙ solve (var 0 ⊗ (var 2 ⊗ (var 1 ⊗ var 4) ⊕ var 3 ⊗ (var 1 ⊗ var 5))) (var 0 ⊗ var 1 ⊗ (var 2 ⊗ var 4 ⊕ var 3 ⊗ var 5)) tt
        (a ∷ w ∷ coefficient k i ∷ coefficient k (i + suc m) ∷ coef fs (i + suc m) ∷ coef fs i ∷ [])

-- one entry
pub product_entry : (a w : ℤ) (k : Linear) (j i : ℕ) (r : List ℤ) → add_terms (product a k (sum ((j, w) ∷ [])) ∷ []) i r ≡ add_terms (product (a *ℤ w) k (bit j) ∷ []) i r
product_entry a w k j i r = product_scale a w k ((j, w) ∷ []) ((j, pos 1) ∷ []) factor i r
  where
    factor : (b : ℕ) → only j w b +ℤ pos 0 ≡ w *ℤ (only j (pos 1) b +ℤ pos 0)
    factor b = sym (ap (λ z. w *ℤ z) (+ℤ_idr (only j (pos 1) b)) ∙ only_times w j (pos 1) b ∙ ap (λ z. only j z b) (times_one w) ∙ sym (+ℤ_idr (only j w b)))

-- bits of one coefficient
pub coef_scaled : (w : ℤ) (n : ℕ) (b : ℕ → ℕ) (j : ℕ) → coef (bits w n b) j ≡ w *ℤ coef (bits (pos 1) n b) j
coef_scaled w n b j =
    coef_bits w n b j
    ∙ sum_each_eq n (λ k. only (b k) w j) (λ k. w *ℤ only (b k) (pos 1) j) (λ k g h. sym (only_times w (b k) (pos 1) j ∙ ap (λ z. only (b k) z j) (times_one w)))
    ∙ sym (ap (λ z. w *ℤ z) (coef_bits (pos 1) n b j) ∙ sum_each_times w n (λ k. only (b k) (pos 1) j))

pub product_bits : (a w : ℤ) (k : Linear) (n : ℕ) (b : ℕ → ℕ) (i : ℕ) (r : List ℤ) → add_terms (product a k (sum (bits w n b)) ∷ []) i r ≡ add_terms (product (a *ℤ w) k (sum (bits (pos 1) n b)) ∷ []) i r
product_bits a w k n b i r = product_scale a w k (bits w n b) (bits (pos 1) n b) (coef_scaled w n b) i r

-- bit p times a constant
pub product_constant : (a c : ℤ) (p i : ℕ) (r : List ℤ) → add_terms (product a (bit p) (record { constant = c; entries = [] }) ∷ []) i r ≡ add_terms (single (a *ℤ c) p ∷ []) i r
product_constant a c p i r = add_same (product a (bit p) (record { constant = c; entries = [] })) (single (a *ℤ c) p) i r same
  where
    same : (m : ℕ) → term_cell (product a (bit p) (record { constant = c; entries = [] })) i m ≡ term_cell (single (a *ℤ c) p) i m
    same zero =
        solve (var 0 ⊗ (con (pos 0) ⊗ con (pos 0) ⊕ var 2 ⊗ var 1 ⊕ var 2 ⊗ con (pos 0))) (var 0 ⊗ var 1 ⊗ (con (pos 0) ⊗ con (pos 0) ⊕ var 2 ⊗ con (pos 1) ⊕ var 2 ⊗ con (pos 0))) tt
        (a ∷ c ∷ coefficient (bit p) i ∷ [])
    same (suc m) =
        solve (var 0 ⊗ (var 2 ⊗ con (pos 0) ⊕ var 3 ⊗ con (pos 0))) (var 0 ⊗ var 1 ⊗ (var 2 ⊗ con (pos 0) ⊕ var 3 ⊗ con (pos 0))) tt
        (a ∷ c ∷ coefficient (bit p) i ∷ coefficient (bit p) (i + suc m) ∷ [])

-- ---- the number of bit i itself
single_cell : (q : ℤ) (i k : ℕ) → term_cell (single q i) i k ≡ only 0 q k
single_cell q i zero =
    ap (λ z. q *ℤ (pos 0 *ℤ pos 0 +ℤ z *ℤ pos 1 +ℤ z *ℤ pos 0)) (bit_here i)
    ∙ solve (var 0 ⊗ (con (pos 0) ⊗ con (pos 0) ⊕ con (pos 1) ⊗ con (pos 1) ⊕ con (pos 1) ⊗ con (pos 0))) (var 0) tt (q ∷ [])
    ∙ sym (only_same 0 q)
single_cell q i (suc k) =
    solve (var 0 ⊗ (var 1 ⊗ con (pos 0) ⊕ var 2 ⊗ con (pos 0))) (con (pos 0)) tt (q ∷ coefficient (bit i) i ∷ coefficient (bit i) (i + suc k) ∷ [])
    ∙ sym (only_other 0 (suc k) q (omega arith))

pub single_here : (q : ℤ) (i : ℕ) (r : List ℤ) → add_terms (single q i ∷ []) i r ≡ plus r (only 0 q)
single_here q i r = add_one_term (single q i) i r ∙ plus_eq r (term_cell (single q i) i) (only 0 q) (single_cell q i)

-- ---- bit i times a sum: its entries, at the places of their bits
times_cell : (q : ℤ) (i : ℕ) (es : List (ℕ × ℤ)) (k : ℕ) → term_cell (times q i es) i k ≡ q *ℤ coef es (i + k)
times_cell q i es zero =
    ap (λ z. q *ℤ (pos 0 *ℤ coef es i +ℤ z *ℤ pos 0 +ℤ z *ℤ coef es i)) (bit_here i)
    ∙ solve (var 0 ⊗ (con (pos 0) ⊗ var 1 ⊕ con (pos 1) ⊗ con (pos 0) ⊕ con (pos 1) ⊗ var 1)) (var 0 ⊗ var 1) tt (q ∷ coef es i ∷ [])
    ∙ ap (λ (j : ℕ). q *ℤ coef es j) (sym (add-zero i))
times_cell q i es (suc k) =
    ap₂ (λ y z. q *ℤ (y *ℤ coef es (i + suc k) +ℤ z *ℤ coef es i)) (bit_here i) (bit_other i (i + suc k) (omega arith))
    ∙ solve (var 0 ⊗ (con (pos 1) ⊗ var 1 ⊕ con (pos 0) ⊗ var 2)) (var 0 ⊗ var 1) tt (q ∷ coef es (i + suc k) ∷ coef es i ∷ [])

pub add_times : (q : ℤ) (i : ℕ) (es : List (ℕ × ℤ)) (r : List ℤ) → add_terms (times q i es ∷ []) i r ≡ plus r (λ k. q *ℤ coef es (i + k))
add_times q i es r = add_one_term (times q i es) i r ∙ plus_eq r (term_cell (times q i es) i) (λ k. q *ℤ coef es (i + k)) (times_cell q i es)

-- ---- two bits: their number stands in the row of the lower one
pub pair_here : (q : ℤ) (i j : ℕ) (r : List ℤ) → i ≤ j → add_terms (pair q i j ∷ []) i r ≡ plus r (only (j - i) q)
pair_here q i j r h = add_times q i ((j, pos 1) ∷ []) r ∙ plus_eq r (λ k. q *ℤ (only j (pos 1) (i + k) +ℤ pos 0)) (only (j - i) q) place
  where
    place : (k : ℕ) → q *ℤ (only j (pos 1) (i + k) +ℤ pos 0) ≡ only (j - i) q k
    place k =
        ap (λ z. q *ℤ z) (+ℤ_idr (only j (pos 1) (i + k))) ∙ only_times q j (pos 1) (i + k)
        ∙ ap (λ z. only j z (i + k)) (times_one q)
        ∙ only_shift j q i k h

pub pair_below : (q : ℤ) (i j : ℕ) (r : List ℤ) → j < i → add_terms (pair q i j ∷ []) i r ≡ r
pair_below q i j r h = add_times q i ((j, pos 1) ∷ []) r ∙ plus_none r (λ k. q *ℤ (only j (pos 1) (i + k) +ℤ pos 0)) none
  where
    none : (k : ℕ) → q *ℤ (only j (pos 1) (i + k) +ℤ pos 0) ≡ pos 0
    none k = ap (λ z. q *ℤ (z +ℤ pos 0)) (only_other j (i + k) (pos 1) (omega arith)) ∙ *ℤ-zero q

-- a pair stands in the row of its lower bit alone
pub pair_nothing : (w : ℤ) (p q i : ℕ) (r : List ℤ) → p < q → (p ≡ i → ⊥) → add_terms (pair w p q ∷ []) i r ≡ r
pair_nothing w p q i r h ne =
    elim (ℕ_discrete q i) [
      | yes e ↦ product_swap w (bit p) (bit q) i r ∙ ap (λ (j : ℕ). add_terms (pair w j p ∷ []) i r) e ∙ pair_below w i p r (omega arith)
      | no e ↦ add_absent (pair w p q ∷ []) i r (pair_absent w p q i ne e)
    ]

-- ---- a product of forms whose coefficients of bit i are u and w: a number of bit i itself, and bit i times the sums of the two
-- that number, but for what comes of bit i's own entries
abbrev pub own : ℤ → ℤ → ℤ → ℤ → ℤ → ℤ
own a c d u w = a *ℤ (c *ℤ w +ℤ u *ℤ d -ℤ u *ℤ w)

abbrev pub product_parts : ℤ → Linear → Linear → ℕ → ℤ → ℤ → Formula
product_parts a k l i u w = single (own a k.constant l.constant u w) i ∷ times (a *ℤ u) i l.entries ∷ times (a *ℤ w) i k.entries ∷ []

parts_cell : (a : ℤ) (k l : Linear) (i : ℕ) (u w : ℤ) → coefficient k i ≡ u → coefficient l i ≡ w → (m : ℕ) → term_cell (product a k l) i m ≡ cell (product_parts a k l i u w) i m
parts_cell a k l i u w e d zero =
    ap₂ (λ y z. a *ℤ (k.constant *ℤ z +ℤ y *ℤ l.constant +ℤ y *ℤ z)) e d
    ∙ solve (var 0 ⊗ (var 1 ⊗ var 4 ⊕ var 3 ⊗ var 2 ⊕ var 3 ⊗ var 4)) (var 0 ⊗ (var 1 ⊗ var 4 ⊕ var 3 ⊗ var 2 ⊖ var 3 ⊗ var 4) ⊕ (var 0 ⊗ var 3 ⊗ var 4 ⊕ (var 0 ⊗ var 4 ⊗ var 3 ⊕ con (pos 0)))) tt
    (a ∷ k.constant ∷ l.constant ∷ u ∷ w ∷ [])
    ∙ sym (ap₂ (λ y z. y +ℤ z) (single_cell (own a k.constant l.constant u w) i zero ∙ only_same 0 (own a k.constant l.constant u w))
    (ap₂ (λ y z. y +ℤ (z +ℤ pos 0)) (here (a *ℤ u) l w d) (here (a *ℤ w) k u e)))
  where
    here : (q : ℤ) (m : Linear) (v : ℤ) → coefficient m i ≡ v → term_cell (times q i m.entries) i zero ≡ q *ℤ v
    here q m v h = times_cell q i m.entries zero ∙ ap (λ (j : ℕ). q *ℤ coefficient m j) (add-zero i) ∙ ap (λ z. q *ℤ z) h
parts_cell a k l i u w e d (suc m) =
    ap₂ (λ y z. a *ℤ (y *ℤ coefficient l (i + suc m) +ℤ coefficient k (i + suc m) *ℤ z)) e d
    ∙ solve (var 0 ⊗ (var 1 ⊗ var 3 ⊕ var 4 ⊗ var 2)) (con (pos 0) ⊕ (var 0 ⊗ var 1 ⊗ var 3 ⊕ (var 0 ⊗ var 2 ⊗ var 4 ⊕ con (pos 0)))) tt (a ∷ u ∷ w ∷ coefficient l (i + suc m) ∷ coefficient k (i + suc m) ∷ [])
    ∙ sym (ap₂ (λ y z. y +ℤ z)
    (single_cell (own a k.constant l.constant u w) i (suc m) ∙ only_other 0 (suc m) (own a k.constant l.constant u w) (omega arith))
    (ap₂ (λ y z. y +ℤ (z +ℤ pos 0)) (times_cell (a *ℤ u) i l.entries (suc m)) (times_cell (a *ℤ w) i k.entries (suc m))))

pub product_row : (a : ℤ) (k l : Linear) (i : ℕ) (u w : ℤ) → coefficient k i ≡ u → coefficient l i ≡ w → (r : List ℤ) → add_terms (product a k l ∷ []) i r ≡ add_terms (product_parts a k l i u w) i r
product_row a k l i u w e d r = add_one_term (product a k l) i r ∙ plus_eq r (term_cell (product a k l) i) (cell (product_parts a k l i u w) i) (parts_cell a k l i u w e d) ∙ add_is (product_parts a k l i u w) i r

-- a square, in the row of a bit whose coefficient in the form is w: the two sums are one
abbrev pub square_parts : ℤ → Linear → ℕ → ℤ → Formula
square_parts a l i w = single (own a l.constant l.constant w w) i ∷ times (pos 2 *ℤ (a *ℤ w)) i l.entries ∷ []

pub square_row : (a : ℤ) (l : Linear) (i : ℕ) (w : ℤ) → coefficient l i ≡ w → (r : List ℤ) → add_terms (square a l ∷ []) i r ≡ add_terms (square_parts a l i w) i r
square_row a l i w e r =
    add_one_term (square a l) i r
    ∙ plus_eq r (term_cell (square a l) i) (cell (square_parts a l i w) i) (λ m. square_product a l i m ∙ parts_cell a l l i w w e e m ∙ twice m)
    ∙ add_is (square_parts a l i w) i r
  where
    S : ℕ → ℤ
    S m = term_cell (single (own a l.constant l.constant w w) i) i m

    twice : (m : ℕ) → cell (product_parts a l l i w w) i m ≡ cell (square_parts a l i w) i m
    twice m =
        cell_sum (product_parts a l l i w w) i m
        ∙ ap (λ z. S m +ℤ (z +ℤ (z +ℤ pos 0))) (times_cell (a *ℤ w) i l.entries m)
        ∙ solve (var 0 ⊕ (var 1 ⊗ var 2 ⊕ (var 1 ⊗ var 2 ⊕ con (pos 0)))) (var 0 ⊕ (con (pos 2) ⊗ var 1 ⊗ var 2 ⊕ con (pos 0))) tt (S m ∷ (a *ℤ w) ∷ coef l.entries (i + m) ∷ [])
        ∙ ap (λ z. S m +ℤ (z +ℤ pos 0)) (sym (times_cell (pos 2 *ℤ (a *ℤ w)) i l.entries m))
        ∙ sym (cell_sum (square_parts a l i w) i m)

-- a form and its opposite have one square
pub square_flip : (a : ℤ) (k l : Linear) → k.constant ≡ neg_ℤ l.constant → ((j : ℕ) → coefficient k j ≡ neg_ℤ (coefficient l j)) → (i : ℕ) (r : List ℤ) → add_terms (square a k ∷ []) i r ≡ add_terms (square a l ∷ []) i r
square_flip a k l e h i r = add_same (square a k) (square a l) i r same
  where
    same : (m : ℕ) → term_cell (square a k) i m ≡ term_cell (square a l) i m
    same zero =
        ap₂ (λ y z. a *ℤ (pos 2 *ℤ (y *ℤ z) +ℤ z *ℤ z)) e (h i)
        ∙ solve (var 0 ⊗ (con (pos 2) ⊗ (neg (var 1) ⊗ neg (var 2)) ⊕ neg (var 2) ⊗ neg (var 2))) (var 0 ⊗ (con (pos 2) ⊗ (var 1 ⊗ var 2) ⊕ var 2 ⊗ var 2)) tt (a ∷ l.constant ∷ coefficient l i ∷ [])
    same (suc m) =
        ap₂ (λ y z. a *ℤ (pos 2 *ℤ (y *ℤ z))) (h i) (h (i + suc m))
        ∙ solve (var 0 ⊗ (con (pos 2) ⊗ (neg (var 1) ⊗ neg (var 2)))) (var 0 ⊗ (con (pos 2) ⊗ (var 1 ⊗ var 2))) tt (a ∷ coefficient l i ∷ coefficient l (i + suc m) ∷ [])

-- ---- norms
pub single_norm : (q : ℤ) (p : ℕ) → term_norm (single q p) ≡ nat_abs q
single_norm q p = omega arith

pub times_norm : (q : ℤ) (p : ℕ) (es : List (ℕ × ℤ)) → term_norm (times q p es) ≡ nat_abs q * entries_norm es
times_norm q p es = omega arith

product_times_norm : (a u : ℤ) (p : ℕ) (es : List (ℕ × ℤ)) → term_norm (times (a *ℤ u) p es) ≡ nat_abs a * nat_abs u * entries_norm es
product_times_norm a u p es = times_norm (a *ℤ u) p es ∙ ap (λ (z : ℕ). z * entries_norm es) (nat_abs_*ℤ a u)

-- ---- room for the parts: three times that of the whole
part_norm : (c e u d f w : ℕ) → u ≤ e → w ≤ f → c * w + u * d + u * w + u * f + w * e ≤ 3 * ((c + e) * (d + f))
part_norm c e u d f w p q = omega (arith, mul-le-mul_left c q, mul-le-mul_right d p, mul-le-mul p q, mul-le-mul_right f p, mul-le-mul_right e q)

own_abs : (a c d u w : ℤ) → nat_abs (own a c d u w) ≤ nat_abs a * (nat_abs c * nat_abs w + nat_abs u * nat_abs d + nat_abs u * nat_abs w)
own_abs a c d u w =
    let h : nat_abs (c *ℤ w +ℤ u *ℤ d -ℤ u *ℤ w) ≤ nat_abs c * nat_abs w + nat_abs u * nat_abs d + nat_abs u * nat_abs w =
    omega (arith, nat_abs_+ℤ (c *ℤ w +ℤ u *ℤ d) (neg_ℤ (u *ℤ w)), nat_abs_+ℤ (c *ℤ w) (u *ℤ d), nat_abs_negℤ (u *ℤ w), nat_abs_*ℤ c w, nat_abs_*ℤ u d, nat_abs_*ℤ u w) in
    omega (arith, nat_abs_*ℤ a (c *ℤ w +ℤ u *ℤ d -ℤ u *ℤ w), mul-le-mul_left (nat_abs a) h)

parts_norm : (a : ℤ) (k l : Linear) (i : ℕ) (u w : ℤ) → coefficient k i ≡ u → coefficient l i ≡ w → formula_norm (product_parts a k l i u w) ≤ 3 * term_norm (product a k l)
parts_norm a k l i u w e d =
    let p : nat_abs u ≤ entries_norm k.entries = rw e at (coef_bound k.entries i) in
    let q : nat_abs w ≤ entries_norm l.entries = rw d at (coef_bound l.entries i) in
    omega (
      arith,
      own_abs a k.constant l.constant u w,
      single_norm (own a k.constant l.constant u w) i,
      product_times_norm a u i l.entries,
      product_times_norm a w i k.entries,
      mul-le-mul_left (nat_abs a) (part_norm (nat_abs k.constant) (entries_norm k.entries) (nat_abs u) (nat_abs l.constant) (entries_norm l.entries) (nat_abs w) p q),
    )

pub product_room : (limit : ℕ) (a : ℤ) (k l : Linear) (i : ℕ) (u w : ℤ) (r : List ℤ) → coefficient k i ≡ u → coefficient l i ≡ w → Room limit (product a k l ∷ []) r → Room (3 * limit) (product_parts a k l i u w) r
product_room limit a k l i u w r e d h = record { room = λ m. omega (arith, h.room m, parts_norm a k l i u w e d) }

pub square_room : (limit : ℕ) (a : ℤ) (l : Linear) (i : ℕ) (w : ℤ) (r : List ℤ) → coefficient l i ≡ w → Room limit (square a l ∷ []) r → Room (3 * limit) (square_parts a l i w) r
square_room limit a l i w r e h = record { room = λ m. omega (arith, h.room m, parts_norm a l l i w w e e, times_norm (a *ℤ w) i l.entries, product_times_norm (pos 2) (a *ℤ w) i l.entries) }
