-- Adding terms to a row is an action: parts of a formula are added one after another, in a loop over a family turn by turn, and what is added to a row of zeros is the formula's row.
-- Assumes nothing.
use mathlib.Core.Path.{◌≡◌, refl, sym, ap, ap₂, ◌∙◌}
use mathlib.Core.List.{List, [], ◌∷◌, ◌++◌}
use Prim.Native.Nat.{ℕ, zero, suc, ◌+◌, ◌-◌, ◌≤◌, ◌<◌}
use native.Mathlib.Numerals.{add-one}
use native.Mathlib.Omega.{arith}
use native.Mathlib.Decide.{ℕ_discrete}
use lib.ListN.{length, get_or, set, take}
use lib.Seq.{length-take-le}
use lib.IntN.{ℤ, pos, nat_abs, ◌+ℤ◌, +ℤ_idl, +ℤ_idr, +ℤ_assoc, +ℤ_comm}
use Rattle.qubo.specs.Formula.{Term, Formula}
use Rattle.qubo.specs.Table.{only, term_single, term_pair, cell, list_of, row_of}
use Rattle.qubo.specs.Norm.{formula_norm}
use Rattle.qubo.specs.Terms.{each_of, over}
use Rattle.qubo.specs.Rows.{zeros, plus, add_terms, Room}
use Rattle.qubo.proofs.Ints.{nat_abs_+ℤ}
use Rattle.qubo.proofs.TableValue.{only_same, only_other}
use Rattle.qubo.proofs.TableBound.{cell_bound}
use Rattle.qubo.proofs.Families.{sum_over, sum_over_append, norm_append, norm_part}

-- ---- a row plus a number at each place
pub plus_length : (r : List ℤ) (f : ℕ → ℤ) → length (plus r f) ≡ length r
unfolding plus
plus_length [] f = refl
plus_length (q ∷ r) f = ap suc (plus_length r (λ k. f (suc k)))

pub plus_plus : (r : List ℤ) (f g : ℕ → ℤ) → plus (plus r f) g ≡ plus r (λ k. f k +ℤ g k)
unfolding plus
plus_plus [] f g = refl
plus_plus (q ∷ r) f g = ap₂ ◌∷◌ (+ℤ_assoc q (f 0) (g 0)) (plus_plus r (λ k. f (suc k)) (λ k. g (suc k)))

pub plus_eq : (r : List ℤ) (f g : ℕ → ℤ) → ((k : ℕ) → f k ≡ g k) → plus r f ≡ plus r g
unfolding plus
plus_eq [] f g h = refl
plus_eq (q ∷ r) f g h = ap₂ ◌∷◌ (ap (λ z. q +ℤ z) (h 0)) (plus_eq r (λ k. f (suc k)) (λ k. g (suc k)) (λ k. h (suc k)))

pub plus_none : (r : List ℤ) (f : ℕ → ℤ) → ((k : ℕ) → f k ≡ pos 0) → plus r f ≡ r
unfolding plus
plus_none [] f h = refl
plus_none (q ∷ r) f h = ap₂ ◌∷◌ (ap (λ z. q +ℤ z) (h 0) ∙ +ℤ_idr q) (plus_none r (λ k. f (suc k)) (λ k. h (suc k)))

plus_zeros : (n : ℕ) (f : ℕ → ℤ) → plus (zeros n) f ≡ list_of n f
unfolding plus
plus_zeros zero f = refl
plus_zeros (suc n) f = ap₂ ◌∷◌ (+ℤ_idl (f 0)) (plus_zeros n (λ k. f (suc k)))

plus_abs : (r : List ℤ) (f : ℕ → ℤ) (k : ℕ) → nat_abs (get_or (plus r f) k (pos 0)) ≤ nat_abs (get_or r k (pos 0)) + nat_abs (f k)
unfolding plus
plus_abs [] f k = omega arith
plus_abs (q ∷ r) f zero = nat_abs_+ℤ q (f 0)
plus_abs (q ∷ r) f (suc k) = plus_abs r (λ k. f (suc k)) k

only_suc : (m : ℕ) (v : ℤ) (j : ℕ) → only (suc m) v (suc j) ≡ only m v j
only_suc m v j = elim (ℕ_discrete m j) [
  | yes e ↦ ap (λ (k : ℕ). only (suc m) v (suc k)) (sym e) ∙ only_same (suc m) v ∙ sym (ap (only m v) (sym e) ∙ only_same m v)
  | no e ↦ only_other (suc m) (suc j) v (omega arith) ∙ sym (only_other m j v e)
]

-- what a store of a sum adds
pub plus_set : (r : List ℤ) (k : ℕ) (v : ℤ) → set r k (get_or r k (pos 0) +ℤ v) ≡ plus r (only k v)
unfolding plus
plus_set [] k v = refl
plus_set (q ∷ r) zero v = ap (λ (l : List ℤ). (q +ℤ v) ∷ l) (sym (plus_none r (λ k. only 0 v (suc k)) (λ k. only_other 0 (suc k) v (omega arith))))
plus_set (q ∷ r) (suc k) v =
    ap₂ ◌∷◌ (sym (ap (λ z. q +ℤ z) (only_other (suc k) 0 v (omega arith)) ∙ +ℤ_idr q))
    (plus_set r k v ∙ plus_eq r (only k v) (λ j. only (suc k) v (suc j)) (λ j. sym (only_suc k v j)))

-- ---- zeros
pub zeros_at : (n k : ℕ) → get_or (zeros n) k (pos 0) ≡ pos 0
zeros_at zero k = refl
zeros_at (suc n) zero = refl
zeros_at (suc n) (suc k) = zeros_at n k

length_list_of : {A : Type 0} (n : ℕ) (f : ℕ → A) → length (list_of n f) ≡ n
length_list_of zero f = refl
length_list_of (suc n) f = ap suc (length_list_of n (λ k. f (suc k)))

-- ---- the part of a term in a row
abbrev pub term_cell : Term → ℕ → ℕ → ℤ
term_cell t i zero = term_single t i
term_cell t i (suc k) = term_pair t i (i + suc k)

pub cell_sum : (f : Formula) (i k : ℕ) → cell f i k ≡ sum_over f (λ t. term_cell t i k)
cell_sum [] i zero = refl
cell_sum [] i (suc k) = refl
cell_sum (t ∷ f) i zero = ap (λ z. term_single t i +ℤ z) (cell_sum f i zero)
cell_sum (t ∷ f) i (suc k) = ap (λ z. term_pair t i (i + suc k) +ℤ z) (cell_sum f i (suc k))

cell_append : (f g : Formula) (i k : ℕ) → cell (f ++ g) i k ≡ cell f i k +ℤ cell g i k
cell_append f g i k = cell_sum (f ++ g) i k ∙ sum_over_append f g (λ t. term_cell t i k) ∙ sym (ap₂ ◌+ℤ◌ (cell_sum f i k) (cell_sum g i k))

-- ---- the action
pub add_none : (i : ℕ) (r : List ℤ) → add_terms [] i r ≡ r
unfolding add_terms
add_none i r = plus_none r (cell [] i) (λ k. cell_sum [] i k)

pub add_one_term : (t : Term) (i : ℕ) (r : List ℤ) → add_terms (t ∷ []) i r ≡ plus r (term_cell t i)
unfolding add_terms
add_one_term t i r = plus_eq r (cell (t ∷ []) i) (term_cell t i) (λ k. cell_sum (t ∷ []) i k ∙ +ℤ_idr (term_cell t i k))

pub add_append : (f g : Formula) (i : ℕ) (r : List ℤ) → add_terms (f ++ g) i r ≡ add_terms g i (add_terms f i r)
unfolding add_terms
add_append f g i r = plus_eq r (cell (f ++ g) i) (λ k. cell f i k +ℤ cell g i k) (cell_append f g i) ∙ sym (plus_plus r (cell f i) (cell g i))

-- in either order
pub add_swap : (f g : Formula) (i : ℕ) (r : List ℤ) → add_terms (f ++ g) i r ≡ add_terms (g ++ f) i r
unfolding add_terms
add_swap f g i r = plus_eq r (cell (f ++ g) i) (cell (g ++ f) i) (λ k. cell_append f g i k ∙ +ℤ_comm (cell f i k) (cell g i k) ∙ sym (cell_append g f i k))

pub add_two : (s t : Term) (i : ℕ) (r : List ℤ) → add_terms (s ∷ t ∷ []) i r ≡ add_terms (t ∷ []) i (add_terms (s ∷ []) i r)
add_two s t i r = add_append (s ∷ []) (t ∷ []) i r

pub add_length : (f : Formula) (i : ℕ) (r : List ℤ) → length (add_terms f i r) ≡ length r
unfolding add_terms
add_length f i r = plus_length r (cell f i)

-- so a table keeps its bit count
pub add_top : (f : Formula) (i : ℕ) (r s : List ℤ) → s ≡ add_terms f i r → i + length r ≡ i + length s
add_top f i r s e = omega (arith, ap length e ∙ add_length f i r)

-- a loop's turns, over F 1, F 2, .. and over a list
pub add_turn : (G : ℕ → Formula) (t i : ℕ) (r : List ℤ) → add_terms (G (t + 1)) i (add_terms (each_of t G) i r) ≡ add_terms (each_of (t + 1) G) i r
add_turn G t i r = rw (add-one t) (sym (add_append (each_of t G) (G (suc t)) i r))

pub add_over : {A : Type 0} (x : A) (xs : List A) (G : A → Formula) (i : ℕ) (r : List ℤ) → add_terms (over (x ∷ xs) G) i r ≡ add_terms (over xs G) i (add_terms (G x) i r)
add_over x xs G i r = add_append (G x) (over xs G) i r

-- what is added to zeros is the row
pub row_added : (f : Formula) (bits i : ℕ) → add_terms f i (zeros (bits - i)) ≡ row_of f bits i
unfolding add_terms row_of
row_added f bits i = plus_zeros (bits - i) (cell f i)

pub row_length : (f : Formula) (bits i : ℕ) → length (row_of f bits i) ≡ bits - i
unfolding row_of
row_length f bits i = length_list_of (bits - i) (cell f i)

-- ---- a row on the way: once the terms f are added, it is row i of the formula f
pub row_none : (bits n i : ℕ) (r : List ℤ) → i + n ≡ bits → r ≡ zeros n → r ≡ row_of [] bits i
row_none bits n i r e z =
    let m : n ≡ bits - i = omega arith in
    z ∙ ap zeros m ∙ sym (add_none i (zeros (bits - i))) ∙ row_added [] bits i

pub row_next : (bits : ℕ) (f g : Formula) (i : ℕ) (r s : List ℤ) → r ≡ row_of f bits i → s ≡ add_terms g i r → s ≡ row_of (f ++ g) bits i
row_next bits f g i r s e a =
    a ∙ ap (add_terms g i) (e ∙ sym (row_added f bits i)) ∙ sym (add_append f g i (zeros (bits - i))) ∙ row_added (f ++ g) bits i

pub row_top : (bits : ℕ) (f : Formula) (i : ℕ) (r : List ℤ) → i ≤ bits → r ≡ row_of f bits i → i + length r ≡ bits
row_top bits f i r h e = omega (arith, ap length e ∙ row_length f bits i)

-- ---- terms that add nothing to a row
-- bit i occurs in none of the terms: none of them has a number in row i
abbrev pub Absent : Formula → ℕ → Type 0
Absent f i = (k : ℕ) → cell f i k ≡ pos 0

pub add_absent : (f : Formula) (i : ℕ) (r : List ℤ) → Absent f i → add_terms f i r ≡ r
unfolding add_terms
add_absent f i r h = plus_none r (cell f i) h

pub absent_append : (f g : Formula) (i : ℕ) → Absent f i → Absent g i → Absent (f ++ g) i
absent_append f g i h l k = cell_append f g i k ∙ ap₂ ◌+ℤ◌ (h k) (l k)

pub absent_each_of : (n : ℕ) (G : ℕ → Formula) (i : ℕ) → ((t : ℕ) → 1 ≤ t → t ≤ n → Absent (G t) i) → Absent (each_of n G) i
absent_each_of zero G i h = cell_sum [] i
absent_each_of (suc n) G i h = absent_append (each_of n G) (G (suc n)) i (absent_each_of n G i (λ t p q. h t p (omega arith))) (h (suc n) (omega arith) (omega arith))

-- of a family, the part m alone has bit i
pub add_only : (n : ℕ) (G : ℕ → Formula) (m i : ℕ) (r : List ℤ) → 1 ≤ m → m ≤ n → ((t : ℕ) → 1 ≤ t → t ≤ n → (t ≡ m → ⊥) → Absent (G t) i) → add_terms (each_of n G) i r ≡ add_terms (G m) i r
add_only zero G m i r a b h = let z : ⊥ = omega arith in absurd z
add_only (suc n) G m i r a b h =
    elim (ℕ_discrete m (suc n)) [
      | yes e ↦ add_append (each_of n G) (G (suc n)) i r
          ∙ ap (add_terms (G (suc n)) i) (add_absent (each_of n G) i r (absent_each_of n G i (λ t p q. h t p (omega arith) (omega arith))))
          ∙ ap (λ (t : ℕ). add_terms (G t) i r) (sym e)
      | no e ↦ add_append (each_of n G) (G (suc n)) i r
          ∙ add_absent (G (suc n)) i (add_terms (each_of n G) i r) (h (suc n) (omega arith) (omega arith) (omega arith))
          ∙ add_only n G m i r a (omega arith) (λ t p q. h t p (omega arith))
    ]

-- a family of which no part adds anything
pub each_nothing : (n : ℕ) (G : ℕ → Formula) (i : ℕ) → ((t : ℕ) → 1 ≤ t → t ≤ n → (r : List ℤ) → add_terms (G t) i r ≡ r) → (r : List ℤ) → add_terms (each_of n G) i r ≡ r
each_nothing zero G i h r = add_none i r
each_nothing (suc n) G i h r =
    add_append (each_of n G) (G (suc n)) i r
    ∙ ap (add_terms (G (suc n)) i) (each_nothing n G i (λ t p q. h t p (omega arith)) r)
    ∙ h (suc n) (omega arith) (omega arith) r

-- ---- room
pub added_abs : (f : Formula) (i : ℕ) (r : List ℤ) (k : ℕ) → nat_abs (get_or (add_terms f i r) k (pos 0)) ≤ nat_abs (get_or r k (pos 0)) + formula_norm f
unfolding add_terms
added_abs f i r k = omega (arith, plus_abs r (cell f i) k, cell_bound f i k)

pub room_zeros : (limit : ℕ) (f : Formula) (n : ℕ) → formula_norm f ≤ limit → Room limit f (zeros n)
room_zeros limit f n h = record { room = λ k. omega (arith, ap nat_abs (zeros_at n k)) }

pub room_more : (limit more : ℕ) (f : Formula) (r : List ℤ) → limit ≤ more → Room limit f r → Room more f r
room_more limit more f r h a = record { room = λ k. omega (arith, a.room k) }

pub room_front : (limit : ℕ) (f g : Formula) (r : List ℤ) → Room limit (f ++ g) r → Room limit f r
room_front limit f g r h = record { room = λ k. omega (arith, h.room k, norm_append f g) }

pub room_back : (limit : ℕ) (f g : Formula) (i : ℕ) (r : List ℤ) → Room limit (f ++ g) r → Room limit g (add_terms f i r)
room_back limit f g i r h = record { room = λ k. omega (arith, h.room k, norm_append f g, added_abs f i r k) }

pub room_turn : (limit n : ℕ) (G : ℕ → Formula) (t i : ℕ) (r : List ℤ) → t < n → Room limit (each_of n G) r → Room limit (G (t + 1)) (add_terms (each_of t G) i r)
room_turn limit n G t i r l h = rw (add-one t) (record { room = λ k. omega (arith, h.room k, norm_part n G t l, added_abs (each_of t G) i r k) })

-- the next terms have room by the norm of those so far and their own
pub row_room : (limit bits : ℕ) (f g : Formula) (i : ℕ) (r : List ℤ) → r ≡ row_of f bits i → formula_norm f + formula_norm g ≤ limit → Room limit g r
row_room limit bits f g i r e h = rw (e ∙ sym (row_added f bits i)) (room_back limit f g i (zeros (bits - i)) (room_zeros limit (f ++ g) (bits - i) (omega (arith, norm_append f g))))

-- ---- the front of a lent slice is as long as the row
module _ (d : List ℤ) (bits i : ℕ) (h : bits ≤ i + length d) where
  pub front_length : length (take (bits - i) d) ≡ bits - i
  front_length = length-take-le (bits - i) d (omega arith)

  pub front_top : i < bits → i + length (take (bits - i) d) ≡ bits
  front_top g = omega (arith, front_length)
