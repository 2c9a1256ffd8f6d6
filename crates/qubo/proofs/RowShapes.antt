-- What one-hot squares, squared differences over runs and the terms of two unequal bits add to the row of bit i.
-- Assumes nothing.
use mathlib.Core.Path.{◌≡◌, refl, sym, ap, ap₂, ◌∙◌}
use mathlib.Core.List.{List, [], ◌∷◌, ◌++◌}
use Prim.Native.Nat.{ℕ, ◌+◌, ◌*◌, ◌≤◌, ◌<◌}
use native.Mathlib.Omega.{arith}
use lib.IntN.{ℤ, pos, negsuc, neg_ℤ, nat_abs, ◌+ℤ◌, ◌-ℤ◌, ◌*ℤ◌}
use Rattle.qubo.specs.Table.{only, coef, coefficient}
use Rattle.qubo.specs.Norm.{entries_norm, term_norm}
use Rattle.qubo.specs.Terms.{bit, bits, one_less, difference, single, times, pair, unequal, one_hot, squared_difference}
use Rattle.qubo.specs.Rows.{plus, add_terms, run_bit, run_sum, run_one_hot, run_difference, IsNumber, later}
use Rattle.qubo.specs.declared.Run.{Run}
use Rattle.qubo.proofs.Ring.{var, con, ◌⊕◌, ◌⊖◌, ◌⊗◌, neg, solve}
use Rattle.qubo.proofs.Families.{coef_append, entries_norm_append, bits_norm}
use Rattle.qubo.proofs.RowAction.{plus_eq, plus_plus, add_two, Absent}
use Rattle.qubo.proofs.RowTerms.{only_times, only_add, single_here, pair_below, add_times, product_bits, product_split, product_empty, coef_scaled, square_absent, own, square_row, square_flip, times_norm}
use Rattle.qubo.proofs.Runs.{run_lacks, later_coef, run_has}

-- two numbers of bit i add up
single_sum : (p q : ℤ) (i : ℕ) (r : List ℤ) → add_terms (single q i ∷ []) i (add_terms (single p i ∷ []) i r) ≡ add_terms (single (p +ℤ q) i ∷ []) i r
single_sum p q i r =
    single_here q i (add_terms (single p i ∷ []) i r)
    ∙ ap (λ (s : List ℤ). plus s (only 0 q)) (single_here p i r)
    ∙ plus_plus r (only 0 p) (only 0 q)
    ∙ plus_eq r (λ k. only 0 p k +ℤ only 0 q k) (only 0 (p +ℤ q)) (only_add 0 p q)
    ∙ sym (single_here (p +ℤ q) i r)

-- bit i times a run that has it: its own number, and the bits after it. Those before it are in other rows
run_from : (q : ℤ) (run : Run) (i t : ℕ) (r : List ℤ) → 1 ≤ run.step → IsNumber run i t
    → add_terms (times q i (run_sum run) ∷ []) i r ≡ add_terms (times q i (run_sum (later run i t)) ∷ []) i (add_terms (single q i ∷ []) i r)
run_from q run i t r h n =
    add_times q i (run_sum run) r
    ∙ plus_eq r (λ k. q *ℤ coef (run_sum run) (i + k)) (λ k. only 0 q k +ℤ q *ℤ coef (run_sum (later run i t)) (i + k)) both
    ∙ sym (plus_plus r (only 0 q) (λ k. q *ℤ coef (run_sum (later run i t)) (i + k)))
    ∙ sym (add_times q i (run_sum (later run i t)) (plus r (only 0 q)))
    ∙ ap (add_terms (times q i (run_sum (later run i t)) ∷ []) i) (sym (single_here q i r))
  where
    both : (k : ℕ) → q *ℤ coef (run_sum run) (i + k) ≡ only 0 q k +ℤ q *ℤ coef (run_sum (later run i t)) (i + k)
    both k =
        let w = coef (run_sum (later run i t)) (i + k) in
        ap (λ z. q *ℤ z) (later_coef run i t h n k)
        ∙ solve (var 0 ⊗ (var 1 ⊕ var 2)) (var 0 ⊗ var 1 ⊕ var 0 ⊗ var 2) tt (q ∷ only 0 (pos 1) k ∷ w ∷ [])
        ∙ ap (λ z. z +ℤ q *ℤ w) (only_times q 0 (pos 1) k ∙ ap (λ z. only 0 z k) (solve (var 0 ⊗ con (pos 1)) (var 0) tt (q ∷ [])))

-- what bit i's own number and the bits after it in a run get from a square
abbrev pub own_and_later : ℤ → ℤ → Run → ℕ → ℕ → List ℤ → List ℤ
own_and_later p q run i t r = add_terms (times q i (run_sum (later run i t)) ∷ []) i (add_terms (single p i ∷ []) i r)

own_then_run : (p q s : ℤ) (run : Run) (i t : ℕ) (r : List ℤ) → 1 ≤ run.step → IsNumber run i t → p +ℤ q ≡ s → add_terms (times q i (run_sum run) ∷ []) i (add_terms (single p i ∷ []) i r) ≡ own_and_later s q run i t r
own_then_run p q s run i t r h n e =
    run_from q run i t (add_terms (single p i ∷ []) i r) h n
    ∙ ap (add_terms (times q i (run_sum (later run i t)) ∷ []) i) (single_sum p q i r ∙ ap (λ z. add_terms (single z i ∷ []) i r) e)

-- ---- one-hot squares: -a at a bit of the run, and 2 a at each bit after it
less_count : (n : ℕ) (b : ℕ → ℕ) (i : ℕ) (w : ℤ) → coef (bits (pos 1) n b) i ≡ w → coefficient (one_less n b) i ≡ negsuc 0 *ℤ w
less_count n b i w e = coef_scaled (negsuc 0) n b i ∙ ap (λ z. negsuc 0 *ℤ z) e

pub one_hot_absent : (a : ℤ) (run : Run) (i : ℕ) → coef (run_sum run) i ≡ pos 0 → Absent (run_one_hot a run ∷ []) i
one_hot_absent a run i e = square_absent a (one_less run.count (run_bit run)) i (less_count run.count (run_bit run) i (pos 0) e)

pub one_hot_row : (a : ℤ) (run : Run) (i t : ℕ) (r : List ℤ) → 1 ≤ run.step → IsNumber run i t → add_terms (run_one_hot a run ∷ []) i r ≡ own_and_later (pos 0 -ℤ a) (pos 2 *ℤ a) run i t r
one_hot_row a run i t r h n =
    let q = pos 2 *ℤ (a *ℤ negsuc 0) in
    let o = own a (pos 1) (pos 1) (negsuc 0) (negsuc 0) in
    let s = add_terms (single o i ∷ []) i r in
    square_row a (one_less run.count (run_bit run)) i (negsuc 0) (less_count run.count (run_bit run) i (pos 1) (run_has run i t h n)) r
    ∙ add_two (single o i) (times q i (bits (negsuc 0) run.count (run_bit run))) i r
    ∙ product_bits q (negsuc 0) (bit i) run.count (run_bit run) i s
    ∙ ap (λ z. add_terms (times z i (run_sum run) ∷ []) i s) (solve (con (pos 2) ⊗ (var 0 ⊗ con (negsuc 0)) ⊗ con (negsuc 0)) (con (pos 2) ⊗ var 0) tt (a ∷ []))
    ∙ own_then_run o (pos 2 *ℤ a) (pos 0 -ℤ a) run i t r h n
    (solve (var 0 ⊗ (con (pos 1) ⊗ con (negsuc 0) ⊕ con (negsuc 0) ⊗ con (pos 1) ⊖ con (negsuc 0) ⊗ con (negsuc 0)) ⊕ con (pos 2) ⊗ var 0) (con (pos 0) ⊖ var 0) tt (a ∷ []))

-- ---- squared differences: where bit i is of the first run alone, a at it, 2 a at each bit of the run after it, -2 a at each bit of the other
module _ (n : ℕ) (b : ℕ → ℕ) (m : ℕ) (c : ℕ → ℕ) (i : ℕ) where
  difference_coef : (u w : ℤ) → coef (bits (pos 1) n b) i ≡ u → coef (bits (pos 1) m c) i ≡ w → coefficient (difference n b m c) i ≡ u +ℤ negsuc 0 *ℤ w
  difference_coef u w e d = coef_append (bits (pos 1) n b) (bits (negsuc 0) m c) i ∙ ap₂ ◌+ℤ◌ e (coef_scaled (negsuc 0) m c i ∙ ap (λ z. negsuc 0 *ℤ z) d)

-- bit i is in neither, or in both
pub difference_absent : (a : ℤ) (left right : Run) (i : ℕ) → coef (run_sum left) i ≡ coef (run_sum right) i → Absent (run_difference a left right ∷ []) i
difference_absent a left right i e =
    let w = coef (run_sum right) i in
    square_absent a (difference left.count (run_bit left) right.count (run_bit right)) i
    (difference_coef left.count (run_bit left) right.count (run_bit right) i w w e refl ∙ solve (var 0 ⊕ con (negsuc 0) ⊗ var 0) (con (pos 0)) tt (w ∷ []))

pub difference_row : (a : ℤ) (left right : Run) (i t : ℕ) (r : List ℤ) → 1 ≤ left.step → IsNumber left i t → coef (run_sum right) i ≡ pos 0
    → add_terms (run_difference a left right ∷ []) i r ≡ add_terms (times (pos 0 -ℤ pos 2 *ℤ a) i (run_sum right) ∷ []) i (own_and_later a (pos 2 *ℤ a) left i t r)
difference_row a left right i t r h n d =
    let q = pos 2 *ℤ (a *ℤ pos 1) in
    let o = own a (pos 0) (pos 0) (pos 1) (pos 1) in
    let s = add_terms (single o i ∷ []) i r in
    let u = bits (negsuc 0) right.count (run_bit right) in
    square_row a (difference left.count (run_bit left) right.count (run_bit right)) i (pos 1) (difference_coef left.count (run_bit left) right.count (run_bit right) i (pos 1) (pos 0) (run_has left i t h n) d) r
    ∙ add_two (single o i) (times q i (run_sum left ++ u)) i r
    ∙ product_split q (bit i) (pos 0) (run_sum left) u i s
    ∙ ap (λ z. add_terms (times q i u ∷ []) i (add_terms (times z i (run_sum left) ∷ []) i s)) (solve (con (pos 2) ⊗ (var 0 ⊗ con (pos 1))) (con (pos 2) ⊗ var 0) tt (a ∷ []))
    ∙ ap (add_terms (times q i u ∷ []) i) (own_then_run o (pos 2 *ℤ a) a left i t r h n
    (solve (var 0 ⊗ (con (pos 0) ⊗ con (pos 1) ⊕ con (pos 1) ⊗ con (pos 0) ⊖ con (pos 1) ⊗ con (pos 1)) ⊕ con (pos 2) ⊗ var 0) (var 0) tt (a ∷ [])))
    ∙ product_bits q (negsuc 0) (bit i) right.count (run_bit right) i (own_and_later a (pos 2 *ℤ a) left i t r)
    ∙ ap (λ z. add_terms (times z i (run_sum right) ∷ []) i (own_and_later a (pos 2 *ℤ a) left i t r)) (solve (con (pos 2) ⊗ (var 0 ⊗ con (pos 1)) ⊗ con (negsuc 0)) (con (pos 0) ⊖ con (pos 2) ⊗ var 0) tt (a ∷ []))

-- the difference the other way round
pub difference_swap : (a : ℤ) (left right : Run) (i : ℕ) (r : List ℤ) → add_terms (run_difference a left right ∷ []) i r ≡ add_terms (run_difference a right left ∷ []) i r
difference_swap a left right i r = square_flip a (difference left.count (run_bit left) right.count (run_bit right)) (difference right.count (run_bit right) left.count (run_bit left)) refl opposite i r
  where
    opposite : (j : ℕ) → coefficient (difference left.count (run_bit left) right.count (run_bit right)) j ≡ neg_ℤ (coefficient (difference right.count (run_bit right) left.count (run_bit left)) j)
    opposite j =
        let x = coef (run_sum left) j in
        let y = coef (run_sum right) j in
        difference_coef left.count (run_bit left) right.count (run_bit right) j x y refl refl
        ∙ solve (var 0 ⊕ con (negsuc 0) ⊗ var 1) (neg (var 1 ⊕ con (negsuc 0) ⊗ var 0)) tt (x ∷ y ∷ [])
        ∙ ap neg_ℤ (sym (difference_coef right.count (run_bit right) left.count (run_bit left) j y x refl refl))

-- ---- two unequal bits: the squared difference of two runs of one bit
abbrev one_bit : ℕ → Run
one_bit p = record { start = p; step = 1; count = 1 }

one_bit_is : (p : ℕ) → run_bit (one_bit p) 1 ≡ p
one_bit_is p = omega arith

one_bit_has : (p : ℕ) → IsNumber (one_bit p) p 0
one_bit_has p = record { below = omega arith; here = omega arith }

one_bit_lacks : (p i : ℕ) → (p ≡ i → ⊥) → coef (run_sum (one_bit p)) i ≡ pos 0
one_bit_lacks p i ne = run_lacks (one_bit p) i (λ t h e. ne (omega arith))

unequal_difference : (q : ℤ) (p r : ℕ) → unequal q p r ≡ run_difference q (one_bit p) (one_bit r)
unequal_difference q p r = sym (ap₂ (λ (s t : ℕ). unequal q s t) (one_bit_is p) (one_bit_is r))

-- bit i is neither of the two
pub unequal_absent : (q : ℤ) (p r i : ℕ) → (p ≡ i → ⊥) → (r ≡ i → ⊥) → Absent (unequal q p r ∷ []) i
unequal_absent q p r i np nr = rw (unequal_difference q p r) (difference_absent q (one_bit p) (one_bit r) i (one_bit_lacks p i np ∙ sym (one_bit_lacks r i nr)))

-- it is the first of the two: q at it, -2 q at the pair
own_unequal : (q : ℤ) (i r : ℕ) (row : List ℤ) → (r ≡ i → ⊥) → add_terms (run_difference q (one_bit i) (one_bit r) ∷ []) i row ≡ add_terms (pair (pos 0 -ℤ pos 2 *ℤ q) i r ∷ []) i (add_terms (single q i ∷ []) i row)
own_unequal q i r row ne =
    difference_row q (one_bit i) (one_bit r) i 0 row (omega arith) (one_bit_has i) (one_bit_lacks r i ne)
    ∙ ap₂ (λ (t : ℕ) (s : List ℤ). add_terms (pair (pos 0 -ℤ pos 2 *ℤ q) i t ∷ []) i s) (one_bit_is r) (product_empty (pos 2 *ℤ q) (bit i) i (add_terms (single q i ∷ []) i row))

-- it is the lower one: the pair stands in its row
pub unequal_low : (q : ℤ) (i r : ℕ) (row : List ℤ) → i < r → add_terms (unequal q i r ∷ []) i row ≡ add_terms (pair (pos 0 -ℤ pos 2 *ℤ q) i r ∷ []) i (add_terms (single q i ∷ []) i row)
unequal_low q i r row h = rw (unequal_difference q i r) (own_unequal q i r row (omega arith))

-- it is the higher one: the pair stands in the other's row
pub unequal_high : (q : ℤ) (p r i : ℕ) (row : List ℤ) → r ≡ i → p < i → add_terms (unequal q p r ∷ []) i row ≡ add_terms (single q i ∷ []) i row
unequal_high q p r i row e h =
    rw (e, unequal_difference q p i)
    (difference_swap q (one_bit p) (one_bit i) i row ∙ own_unequal q i p row (omega arith) ∙ pair_below (pos 0 -ℤ pos 2 *ℤ q) i p (add_terms (single q i ∷ []) i row) h)

-- ---- norms
pub bits_times_norm : (q : ℤ) (i n : ℕ) (b : ℕ → ℕ) → term_norm (times q i (bits (pos 1) n b)) ≡ nat_abs q * n
bits_times_norm q i n b = times_norm q i (bits (pos 1) n b) ∙ ap (λ (k : ℕ). nat_abs q * k) (let e : entries_norm (bits (pos 1) n b) ≡ n = omega (arith, bits_norm (pos 1) n b) in e)

pub one_hot_norm : (a : ℤ) (n : ℕ) (b : ℕ → ℕ) → term_norm (one_hot a n b) ≡ nat_abs a * ((1 + n) * (1 + n))
one_hot_norm a n b = let e : 1 + entries_norm (bits (negsuc 0) n b) ≡ 1 + n = omega (arith, bits_norm (negsuc 0) n b) in ap (λ (k : ℕ). nat_abs a * (k * k)) e

pub difference_norm : (a : ℤ) (n : ℕ) (b : ℕ → ℕ) (m : ℕ) (c : ℕ → ℕ) → term_norm (squared_difference a n b m c) ≡ nat_abs a * ((n + m) * (n + m))
difference_norm a n b m c =
    let e : 0 + entries_norm (bits (pos 1) n b ++ bits (negsuc 0) m c) ≡ n + m = omega (arith, entries_norm_append (bits (pos 1) n b) (bits (negsuc 0) m c), bits_norm (pos 1) n b, bits_norm (negsuc 0) m c) in
    ap (λ (k : ℕ). nat_abs a * (k * k)) e

pub unequal_norm : (q : ℤ) (p r : ℕ) → term_norm (unequal q p r) ≡ nat_abs q * 4
unequal_norm q p r = difference_norm q 1 (run_bit (one_bit p)) 1 (run_bit (one_bit r))
