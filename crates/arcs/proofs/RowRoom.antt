-- Room in a row for what depths and arcs add: numbers so far are at most 2^59, and the parts of one term are small. Assumes nothing.
use Prim.Native.Nat.{ℕ, zero, suc, ◌*◌, ◌^◌, ◌≤◌}
use mathlib.Core.Path.{◌≡◌, sym, ap, ◌∙◌}
use mathlib.Core.Bool.{Bool, true, false, cond, ◌&&◌}
use mathlib.Core.List.{List, [], ◌∷◌, ◌++◌}
use native.Mathlib.Omega.{arith}
use native.Mathlib.Nat.{le_trans, mul-le-mul, mul-le-mul_left}
use lib.Dec.{eqb, leb}
use lib.ListN.{length, get_or}
use lib.IntN.{ℤ, pos, nat_abs, ◌-ℤ◌, ◌*ℤ◌}
use Rattle.links.specs.declared.Link.{Link}
use Rattle.qubo.specs.Formula.{Formula}
use Rattle.qubo.specs.Norm.{formula_norm}
use Rattle.qubo.specs.Terms.{single, pair}
use Rattle.qubo.specs.Rows.{add_terms, Room}
use Rattle.qubo.proofs.Ints.{nat_abs_*ℤ}
use Rattle.qubo.proofs.Families.{norm_over}
use Rattle.qubo.proofs.RowAction.{added_abs, room_front, room_back}
use Rattle.qubo.proofs.Turns.{less_abs}
use Rattle.arcs.specs.Arcs.{Arc, arcs, depth_bit, arc_bit}
use Rattle.arcs.specs.Inner.{Row, end_of, pair_at, pairs_at, pairs_within, Held}
use Rattle.arcs.specs.declared.rows.End.{End}
use Rattle.arcs.specs.declared.rows.End.TheVariants.{Child}
use Rattle.arcs.proofs.ArcLists.{arcs_length}

-- there is room for terms of norm up to 2^58
pub room_for : (f : Formula) (r : List ℤ) → ((k : ℕ) → nat_abs (get_or r k (pos 0)) ≤ 2 ^ 59) → formula_norm f ≤ 2 ^ 58 → Room (2 ^ 61) f r
room_for f r small h = record { room = λ k. omega (arith, small k) }

-- bit i times arcs: at most |q| for each
pub pairs_norm : (e : End) (q : ℤ) (i N D v t : ℕ) (ks : List Arc) → formula_norm (pairs_at e q i N D v t ks) ≤ length ks * nat_abs q
unfolding pairs_at
pairs_norm e q i N D v t ks = norm_over (nat_abs q) ks (λ a. pair_at q i (arc_bit N D a t) (end_of e a) v) (λ a. one (arc_bit N D a t) (eqb (end_of e a) v))
  where
    one : (p : ℕ) (b : Bool) → formula_norm (cond b (pair q i p ∷ []) []) ≤ nat_abs q
    one p true = omega arith
    one p false = omega arith

-- a number whose square is 1 is 1 or -1
unit_abs : (w : ℤ) → w *ℤ w ≡ pos 1 → nat_abs w ≤ 1
unit_abs w e = go (nat_abs w) (sym (nat_abs_*ℤ w w) ∙ ap nat_abs e)
  where
    go : (n : ℕ) → n * n ≡ 1 → n ≤ 1
    go zero h = omega arith
    go (suc zero) h = omega arith
    go (suc (suc n)) h = let two : 2 ≤ suc (suc n) = omega arith in absurd (omega (arith, mul-le-mul {n₂ = suc (suc n)} {m₂ = suc (suc n)} two two))

pub held_abs : (A N D : ℕ) (ks : List Arc) (v t i : ℕ) (q : ℤ) → Held A N D ks v t i q → nat_abs q ≤ 2 * A
held_abs A N D ks v t i q h =
    omega (arith, ap nat_abs h.twice, nat_abs_*ℤ (pos 2) (pos A *ℤ h.factor), nat_abs_*ℤ (pos A) h.factor, mul-le-mul_left A (unit_abs h.factor h.unit))

-- ---- the parts of an entry's term

module _ (A N D : ℕ) (ls : List Link) (v t i : ℕ) (q : ℤ) (r : List ℤ) (row : Row (2 ^ 59) N D A (length ls) i r) (few : length ls ≤ 256) (h : Held A N D (arcs ls) v t i q) where
  abbrev less : ℤ
  less = pos 0 -ℤ pos A

  abbrev rest : Formula
  rest = (pair q i (depth_bit D v t) ∷ []) ++ pairs_at Child (pos 0 -ℤ q) i N D v t (arcs ls)

  parts_norm : formula_norm ((single less i ∷ []) ++ rest) ≤ 2 ^ 58
  parts_norm =
      let a = row.penalty in
      let b = held_abs A N D (arcs ls) v t i q h in
      let m : length (arcs ls) ≤ 512 = omega (arith, arcs_length ls) in
      let n : nat_abs (pos 0 -ℤ q) ≤ 40000000 = omega (arith, less_abs q) in
      let g = mul-le-mul {n₂ = 512} {m₂ = 40000000} m n in
      omega (arith, less_abs (pos A), pairs_norm Child (pos 0 -ℤ q) i N D v t (arcs ls), g)

  whole : Room (2 ^ 61) ((single less i ∷ []) ++ rest) r
  whole = room_for ((single less i ∷ []) ++ rest) r row.small parts_norm

  module _ (r₁ : List ℤ) (e₁ : r₁ ≡ add_terms (single (pos 0 -ℤ pos A) i ∷ []) i r) where
    rest_room : Room (2 ^ 61) rest r₁
    rest_room = rw e₁ (room_back (2 ^ 61) (single less i ∷ []) rest i r whole)

    -- q at the depth bit
    pub depth_room : Room (2 ^ 61) (pair q i (depth_bit D v t) ∷ []) r₁
    depth_room = room_front (2 ^ 61) (pair q i (depth_bit D v t) ∷ []) (pairs_at Child (pos 0 -ℤ q) i N D v t (arcs ls)) r₁ rest_room

    -- -q at the arcs
    pub arcs_room : (r₂ : List ℤ) → r₂ ≡ add_terms (pair q i (depth_bit D v t) ∷ []) i r₁ → Room (2 ^ 61) (pairs_at Child (pos 0 -ℤ q) i N D v t (arcs ls)) r₂
    arcs_room r₂ e₂ = rw e₂ (room_back (2 ^ 61) (pair q i (depth_bit D v t) ∷ []) (pairs_at Child (pos 0 -ℤ q) i N D v t (arcs ls)) i r₁ rest_room)

-- ---- the pairs of a depth bit with the arcs at its meter, twice

within_norm : (e : End) (q : ℤ) (i N D v t : ℕ) (ls : List Link) → nat_abs q ≤ 20000000 → length ls ≤ 256 → formula_norm (pairs_within e q i N D v t (arcs ls)) ≤ 10240000000
unfolding pairs_within
within_norm e q i N D v t ls a few = go (leb 1 t && leb t D)
  where
    m : length (arcs ls) ≤ 512
    m = omega (arith, arcs_length ls)

    go : (b : Bool) → formula_norm (cond b (pairs_at e q i N D v t (arcs ls)) []) ≤ 10240000000
    go true = le_trans (pairs_norm e q i N D v t (arcs ls)) (mul-le-mul {n₂ = 512} {m₂ = 20000000} m a)
    go false = omega arith

module _ (e : End) (q : ℤ) (i N D v t : ℕ) (ls : List Link) (r : List ℤ) (small : nat_abs q ≤ 20000000) (few : length ls ≤ 256) where
  pub within_room : ((k : ℕ) → nat_abs (get_or r k (pos 0)) ≤ 2 ^ 60) → Room (2 ^ 61) (pairs_within e q i N D v t (arcs ls)) r
  within_room h = record { room = λ k. omega (arith, h k, within_norm e q i N D v t ls small few) }

  pub within_small : ((k : ℕ) → nat_abs (get_or r k (pos 0)) ≤ 2 ^ 59) → (s : List ℤ) → s ≡ add_terms (pairs_within e q i N D v t (arcs ls)) i r → (k : ℕ) → nat_abs (get_or s k (pos 0)) ≤ 2 ^ 60
  within_small h s d k = rw d (omega (arith, h k, added_abs (pairs_within e q i N D v t (arcs ls)) i r k, within_norm e q i N D v t ls small few))

-- ---- a number of bit i itself
