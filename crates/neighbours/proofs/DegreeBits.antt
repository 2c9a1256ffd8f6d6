-- Which bits the form of a meter's neighbours has, and with which coefficient: none of a depth, -1 at the arcs in or out of the meter, j at its own bit of j neighbours. Assumes nothing.
use Prim.Native.Nat.{ℕ, zero, suc, pred, ◌+◌, ◌-◌, ◌*◌, ◌/◌, ◌%◌, ◌≤◌, ◌<◌}
use mathlib.Core.Path.{◌≡◌, refl, sym, ap, ap₂, ◌∙◌}
use mathlib.Core.Bool.{Bool, true, false, ◌||◌, cond}
use mathlib.Core.List.{List, [], ◌∷◌, Memᴰ}
use native.Mathlib.Omega.{arith}
use native.Mathlib.Nat.{mod-lt, div-add-mod'}
use native.Mathlib.Numerals.{add-one}
use lib.Dec.{eqb}
use lib.ListN.{length}
use lib.IntN.{ℤ, pos, negsuc, ◌+ℤ◌, +ℤ_idl, +ℤ_idr}
use Rattle.links.specs.declared.Link.{Link}
use Rattle.qubo.specs.Table.{only, coef}
use Rattle.qubo.specs.Terms.{over, bits}
use Rattle.qubo.proofs.Families.{sum_each, sum_over, sum_each_none, sum_each_only, sum_over_each, coef_sum, coef_append, coef_bits}
use Rattle.qubo.proofs.TableValue.{only_same, only_other}
use Rattle.arcs.specs.Arcs.{Arc, arcs_from, arcs, arc_bit, arcs_end}
use Rattle.arcs.specs.Inner.{IsArc}
use Rattle.arcs.proofs.ArcLists.{arc_high, sum_over_none, sum_over_arc}
use Rattle.arcs.proofs.BitsApart.{arc_above, arc_below, arc_number}
use Rattle.neighbours.specs.Formula.{touching}
use Rattle.neighbours.specs.Inner.{numbered, count_start, degree_entries}
use Rattle.neighbours.proofs.CountRows.{count_meter}

-- ---- the numbered bits

numbered_sum : (d start i : ℕ) → coef (numbered d start) i ≡ sum_each d (λ j. only (start + pred j) (pos j) i)
numbered_sum d start i = coef_sum (numbered d start) i ∙ sum_over_each d (λ j. (start + pred j, pos j)) (λ e. only e.0 e.1 i)

-- none of them is bit i
numbered_none : (d start i : ℕ) → ((j : ℕ) → 1 ≤ j → j ≤ d → start + pred j ≡ i → ⊥) → coef (numbered d start) i ≡ pos 0
numbered_none d start i h = numbered_sum d start i ∙ sum_each_none d (λ j. only (start + pred j) (pos j) i) (λ j p q. only_other (start + pred j) i (pos j) (h j p q))

-- bit j is
numbered_at : (d start i j : ℕ) → 1 ≤ j → j ≤ d → start + pred j ≡ i → coef (numbered d start) i ≡ pos j
numbered_at d start i j a b e =
    numbered_sum d start i
    ∙ sum_each_only d (λ k. only (start + pred k) (pos k) i) j a b (λ k p q ne. only_other (start + pred k) i (pos k) (λ f. ne (one_place k j p a (f ∙ sym e))))
    ∙ ap (λ (s : ℕ). only s (pos j) i) e
    ∙ only_same i (pos j)
  where
    one_place : (k l : ℕ) → 1 ≤ k → 1 ≤ l → start + pred k ≡ start + pred l → k ≡ l
    one_place zero l p q f = absurd (omega arith)
    one_place (suc k) zero p q f = absurd (omega arith)
    one_place (suc k) (suc l) p q f = omega arith

-- ---- the bits of arcs

module _ (N D v i : ℕ) where
  -- what the bits of an arc at meter v are, at bit i
  abbrev at_meter : Arc → ℤ
  at_meter a = cond (eqb a.parent v || eqb a.child v) (negsuc 0) (pos 0)

  -- bit i is none of the arc's
  arc_lacks : (a : Arc) → ((t : ℕ) → 1 ≤ t → t ≤ D → arc_bit N D a t ≡ i → ⊥) → coef (touching N D v a) i ≡ pos 0
  arc_lacks a h = go (eqb a.parent v || eqb a.child v)
    where
      go : (s : Bool) → coef (cond s (bits (negsuc 0) D (arc_bit N D a)) []) i ≡ pos 0
      go true = coef_bits (negsuc 0) D (arc_bit N D a) i ∙ sum_each_none D (λ t. only (arc_bit N D a t) (negsuc 0) i) (λ t p q. only_other (arc_bit N D a t) i (negsuc 0) (h t p q))
      go false = refl

  -- it is one of them
  arc_has : (a : Arc) (t : ℕ) → 1 ≤ t → t ≤ D → arc_bit N D a t ≡ i → coef (touching N D v a) i ≡ at_meter a
  arc_has a t p q e = go (eqb a.parent v || eqb a.child v)
    where
      one_place : (k l : ℕ) → 1 ≤ k → 1 ≤ l → arc_bit N D a k ≡ arc_bit N D a l → k ≡ l
      one_place zero l x y f = absurd (omega arith)
      one_place (suc k) zero x y f = absurd (omega arith)
      one_place (suc k) (suc l) x y f = omega arith

      go : (s : Bool) → coef (cond s (bits (negsuc 0) D (arc_bit N D a)) []) i ≡ cond s (negsuc 0) (pos 0)
      go true =
          coef_bits (negsuc 0) D (arc_bit N D a) i
          ∙ sum_each_only D (λ k. only (arc_bit N D a k) (negsuc 0) i) t p q (λ k x y ne. only_other (arc_bit N D a k) i (negsuc 0) (λ f. ne (one_place k t x p (f ∙ sym e))))
          ∙ ap (λ (s : ℕ). only s (negsuc 0) i) e
          ∙ only_same i (negsuc 0)
      go false = refl

  -- those of all arcs add up
  over_coef : (ks : List Arc) → coef (over ks (touching N D v)) i ≡ sum_over ks (λ a. coef (touching N D v a) i)
  over_coef [] = refl
  over_coef (a ∷ ks) = coef_append (touching N D v a) (over ks (touching N D v)) i ∙ ap (λ z. coef (touching N D v a) i +ℤ z) (over_coef ks)

  -- bit i is none of them
  touches_none : (ls : List Link) → ((a : Arc) → Memᴰ a (arcs ls) → (t : ℕ) → 1 ≤ t → t ≤ D → arc_bit N D a t ≡ i → ⊥) → coef (over (arcs ls) (touching N D v)) i ≡ pos 0
  touches_none ls h = over_coef (arcs ls) ∙ sum_over_none (arcs ls) (λ a. coef (touching N D v a) i) (λ a m. arc_lacks a (h a m))

  -- it is one of arc a
  touches_at : (ls : List Link) (a : Arc) (t : ℕ) → Memᴰ a (arcs ls) → 1 ≤ t → t ≤ D → arc_bit N D a t ≡ i → coef (over (arcs ls) (touching N D v)) i ≡ at_meter a
  unfolding arcs
  touches_at ls a t m p q e =
      over_coef (arcs_from 0 ls)
      ∙ sum_over_arc (λ b. coef (touching N D v b) i) a 0 ls m (λ b n ne. arc_lacks b (λ s x y f. ne (arc_number N D b a s t x y p q (f ∙ sym e))))
      ∙ arc_has a t p q e

-- ---- the form of meter v at bit i

module _ (N D M d : ℕ) (ls : List Link) (all-links : length ls ≡ M) (v i : ℕ) where
  abbrev form : ℤ
  form = coef (degree_entries N D M d (arcs ls) v) i

  number_below : (a : Arc) → Memᴰ a (arcs ls) → a.number < 2 * M
  number_below a m = omega (arith, arc_high ls a m)

  form_split : form ≡ coef (numbered d (count_start N D M d v)) i +ℤ coef (over (arcs ls) (touching N D v)) i
  form_split = coef_append (numbered d (count_start N D M d v)) (over (arcs ls) (touching N D v)) i

  -- a bit before the neighbour-count bits is none of those
  no_count : i < arcs_end N D M → coef (numbered d (count_start N D M d v)) i ≡ pos 0
  no_count h = numbered_none d (count_start N D M d v) i (λ j p q e. omega arith)

  -- a bit of a depth
  pub form_depth : i < N * suc D → form ≡ pos 0
  form_depth h = form_split ∙ ap₂ ◌+ℤ◌ (no_count (omega arith)) (touches_none N D v i ls (λ a m t p q e. omega (arith, arc_above N D a t)))

  -- a bit of an arc
  pub form_arc : (a : Arc) (t : ℕ) → IsArc N D ls i a t → form ≡ cond (eqb a.parent v || eqb a.child v) (negsuc 0) (pos 0)
  form_arc a t p =
      form_split
      ∙ ap₂ ◌+ℤ◌ (no_count (omega (arith, p.here, arc_below N D M a t (number_below a p.among) p.low p.deep))) (touches_at N D v i ls a t p.among p.low p.deep p.here)
      ∙ +ℤ_idl (cond (eqb a.parent v || eqb a.child v) (negsuc 0) (pos 0))

  module _ (behind : arcs_end N D M ≤ i) where
    no_arc : coef (over (arcs ls) (touching N D v)) i ≡ pos 0
    no_arc = touches_none N D v i ls (λ a m t p q e. omega (arith, arc_below N D M a t (number_below a m) p q))

    abbrev off : ℕ
    off = i - arcs_end N D M

    -- a neighbour-count bit of this meter
    pub form_own : 1 ≤ d → v ≡ off / d + 1 → form ≡ pos (off % d + 1)
    form_own d1 e =
        form_split
        ∙ ap₂ ◌+ℤ◌ (numbered_at d (count_start N D M d v) i (off % d + 1) (omega arith) (omega (arith, mod-lt off d1)) here) no_arc
        ∙ +ℤ_idr (pos (off % d + 1))
      where
        place : (m : ℕ) → m ≡ off / d + 1 → arcs_end N D M + pred m * d + off % d ≡ i
        place zero f = absurd (omega arith)
        place (suc m) f = let g : m ≡ off / d = omega arith in omega (arith, div-add-mod' off d, ap (λ (s : ℕ). s * d) g)

        here : count_start N D M d v + pred (off % d + 1) ≡ i
        here = ap (λ (s : ℕ). count_start N D M d v + pred s) (add-one (off % d)) ∙ place v e

    -- of another
    pub form_other : 1 ≤ v → (v ≡ off / d + 1 → ⊥) → form ≡ pos 0
    form_other v1 ne =
        form_split ∙ ap₂ ◌+ℤ◌ (numbered_none d (count_start N D M d v) i (λ j p q e. ne (count_meter N D M d i behind v j v1 p q e))) no_arc
