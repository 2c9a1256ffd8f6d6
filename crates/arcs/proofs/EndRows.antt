-- What the terms of arcs and their ends add to row i: "its bit times (2 - [u at i-1] - [v at i])", and the weights. An arc's bit has a number of its own there; a depth bit has a pair with each arc that begins or ends there. Assumes nothing.
use Prim.Native.Nat.{ℕ, suc, pred, ◌+◌, ◌*◌, ◌≤◌}
use mathlib.Core.Path.{◌≡◌, refl, sym, ap, ap₂, ◌∙◌}
use mathlib.Core.List.{List, [], ◌∷◌, ◌++◌, Memᴰ}
use native.Mathlib.Omega.{arith}
use native.Mathlib.Decide.{ℕ_discrete, dec_le}
use borrow.Author.Tests.{eq-eqb, ne_eqb}
use lib.ListN.{length}
use lib.IntN.{ℤ, pos, negsuc, ◌-ℤ◌, ◌*ℤ◌}
use Rattle.links.specs.Survey.{IsGraph}
use Rattle.links.specs.declared.Link.{Link}
use Rattle.qubo.specs.Formula.{Formula, product}
use Rattle.qubo.specs.Terms.{each_of, each, over, bit, single, pair}
use Rattle.qubo.specs.Rows.{add_terms}
use Rattle.qubo.proofs.Ring.{var, con, ◌⊖◌, ◌⊗◌, solve}
use Rattle.qubo.proofs.RowAction.{add_none, add_append, Absent, add_absent, absent_each_of, add_only, each_nothing}
use Rattle.qubo.proofs.RowTerms.{single_absent, pair_absent, pair_nothing, product_swap, product_split, product_entry, product_constant}
use Rattle.arcs.specs.Arcs.{Arc, arcs, depth_bit, arc_bit, arcs_end}
use Rattle.arcs.specs.Formula.{ends_missing, end_terms, weight_terms}
use Rattle.arcs.specs.Inner.{IsDepth, IsArc, IsPlace, pair_at, pairs_at, pairs_within}
use Rattle.arcs.specs.declared.place.Place.{Place}
use Rattle.arcs.specs.declared.place.Place.TheVariants.{OfDepth, OfArc, Behind}
use Rattle.arcs.specs.declared.rows.End.TheVariants.{Parent, Child}
use Rattle.arcs.proofs.ArcLists.{arc_high, ArcOf, arc_of}
use Rattle.arcs.proofs.ArcWalk.{within_yes, within_zero, within_deep, within_none}
use Rattle.arcs.proofs.Alike.{Alike, alike_append, alike_over, alike_each, over_nothing, over_split, each_split, arc_only}
use Rattle.arcs.proofs.BitsApart.{depth_below, depth_meter, depth_depth, arc_above, arc_below, arc_number, same_depth}

-- ---- numbers of arc bits

-- w a times the bit of each arc a, at each depth
abbrev singles : (Arc → ℤ) → ℕ → ℕ → List Arc → Formula
singles w N D ks = over ks (λ a. each D (λ t. single (w a) (arc_bit N D a t)))

-- in the row of an arc's bit: its own
singles_own : (w : Arc → ℤ) (N D : ℕ) (ls : List Link) (i : ℕ) (a : Arc) (t : ℕ) → IsArc N D ls i a t → (r : List ℤ) → add_terms (singles w N D (arcs ls)) i r ≡ add_terms (single (w a) i ∷ []) i r
singles_own w N D ls i a t is r =
    arc_only ls (λ b. each D (λ s. single (w b) (arc_bit N D b s))) a i is.among
    (λ b m ne. absent_each_of D (λ s. single (w b) (arc_bit N D b s) ∷ []) i (λ s l h. single_absent (w b) (arc_bit N D b s) i (λ e. ne (arc_number N D b a s t l h is.low is.deep (e ∙ sym is.here))))) r
    ∙ add_only D (λ s. single (w a) (arc_bit N D a s) ∷ []) t i r is.low is.deep (λ s l h ne. single_absent (w a) (arc_bit N D a s) i (λ e. ne (same_depth N D a a s t l h is.low is.deep (e ∙ sym is.here))))
    ∙ ap (λ (p : ℕ). add_terms (single (w a) p ∷ []) i r) is.here

-- in any other: none
singles_none : (w : Arc → ℤ) (N D : ℕ) (ks : List Arc) (i : ℕ) → ((a : Arc) → Memᴰ a ks → (s : ℕ) → 1 ≤ s → s ≤ D → arc_bit N D a s ≡ i → ⊥) → (r : List ℤ) → add_terms (singles w N D ks) i r ≡ r
singles_none w N D ks i h =
    over_nothing ks (λ a. each D (λ s. single (w a) (arc_bit N D a s))) i
    (λ a m r. add_absent (each D (λ s. single (w a) (arc_bit N D a s))) i r (absent_each_of D (λ s. single (w a) (arc_bit N D a s) ∷ []) i (λ s l g. single_absent (w a) (arc_bit N D a s) i (h a m s l g))))

-- such are those of depths
depth_singles : (w : Arc → ℤ) (N D : ℕ) (ks : List Arc) (i v t : ℕ) → IsDepth N D i v t → (r : List ℤ) → add_terms (singles w N D ks) i r ≡ r
depth_singles w N D ks i v t is = singles_none w N D ks i (λ a m s l h e. omega (arith, is.here, arc_above N D a s, depth_below N D v t is.low is.high is.deep))

-- and those behind
behind_singles : (w : Arc → ℤ) (N D : ℕ) (ls : List Link) (i : ℕ) → arcs_end N D (length ls) ≤ i → (r : List ℤ) → add_terms (singles w N D (arcs ls)) i r ≡ r
behind_singles w N D ls i g = singles_none w N D (arcs ls) i (λ a m s l h e. omega (arith, arc_below N D (length ls) a s (arc_high ls a m) l h))

-- ---- pairs of an arc bit and the depth bit of one of its ends

-- q times the bit of each arc a at each depth s times the bit of meter f a at depth g s
abbrev touches : ℤ → ℕ → ℕ → (Arc → ℕ) → (ℕ → ℕ) → List Arc → Formula
touches q N D f g ks = over ks (λ a. each D (λ s. pair q (arc_bit N D a s) (depth_bit D (f a) (g s))))

module _ (q : ℤ) (N D : ℕ) (f : Arc → ℕ) (g : ℕ → ℕ) (ks : List Arc) (low : (a : Arc) → Memᴰ a ks → 1 ≤ f a) (deep : (s : ℕ) → s ≤ D → g s ≤ D) where
  -- nothing behind the depth bits: a pair stands in the row of its lower bit
  touches_high : (i : ℕ) → ((a : Arc) → Memᴰ a ks → f a ≤ N) → N * suc D ≤ i → (r : List ℤ) → add_terms (touches q N D f g ks) i r ≡ r
  touches_high i high h =
      over_nothing ks (λ a. each D (λ s. pair q (arc_bit N D a s) (depth_bit D (f a) (g s)))) i
      (λ a m. each_nothing D (λ s. pair q (arc_bit N D a s) (depth_bit D (f a) (g s)) ∷ []) i
      (λ s l d r. product_swap q (bit (arc_bit N D a s)) (bit (depth_bit D (f a) (g s))) i r
      ∙ (let b = depth_below N D (f a) (g s) (low a m) (high a m) (deep s d) in pair_nothing q (depth_bit D (f a) (g s)) (arc_bit N D a s) i r (omega (arith, arc_above N D a s)) (omega arith))))

  -- in the row of meter v at depth t
  module _ (i v t : ℕ) (is : IsDepth N D i v t) where
    no_arc : (a : Arc) (s : ℕ) → arc_bit N D a s ≡ i → ⊥
    no_arc a s e = omega (arith, is.here, arc_above N D a s, depth_below N D v t is.low is.high is.deep)

    term_absent : (a : Arc) → Memᴰ a ks → (s : ℕ) → s ≤ D → (f a ≡ v → g s ≡ t → ⊥) → Absent (pair q (arc_bit N D a s) (depth_bit D (f a) (g s)) ∷ []) i
    term_absent a m s d ne =
        pair_absent q (arc_bit N D a s) (depth_bit D (f a) (g s)) i (no_arc a s)
        (λ e. ne (depth_meter D (f a) v (g s) t (low a m) is.low (deep s d) is.deep (e ∙ sym is.here)) (depth_depth D (f a) v (g s) t (deep s d) is.deep (e ∙ sym is.here)))

    -- nothing, where no depth s has g s ≡ t
    touches_none : ((s : ℕ) → 1 ≤ s → s ≤ D → g s ≡ t → ⊥) → (r : List ℤ) → add_terms (touches q N D f g ks) i r ≡ r
    touches_none none =
        over_nothing ks (λ a. each D (λ s. pair q (arc_bit N D a s) (depth_bit D (f a) (g s)))) i
        (λ a m r. add_absent (each D (λ s. pair q (arc_bit N D a s) (depth_bit D (f a) (g s)))) i r (absent_each_of D (λ s. pair q (arc_bit N D a s) (depth_bit D (f a) (g s)) ∷ []) i (λ s l d. term_absent a m s d (λ e. none s l d))))

    -- where one has, its pair with each arc whose end is v
    module _ (s₀ : ℕ) (l₀ : 1 ≤ s₀) (d₀ : s₀ ≤ D) (here : g s₀ ≡ t) (one : (s : ℕ) → 1 ≤ s → g s ≡ t → s ≡ s₀) where
      arc_touches : (a : Arc) → Memᴰ a ks → Alike (each D (λ s. pair q (arc_bit N D a s) (depth_bit D (f a) (g s)))) (pair_at q i (arc_bit N D a s₀) (f a) v) i
      arc_touches a m r = elim (ℕ_discrete (f a) v) [
        | yes e ↦ add_only D (λ s. pair q (arc_bit N D a s) (depth_bit D (f a) (g s)) ∷ []) s₀ i r l₀ d₀ (λ s l d ne. term_absent a m s d (λ h k. ne (one s l k)))
            ∙ ap (λ (p : ℕ). add_terms (pair q (arc_bit N D a s₀) p ∷ []) i r) (ap₂ (depth_bit D) e here ∙ is.here)
            ∙ product_swap q (bit (arc_bit N D a s₀)) (bit i) i r
            ∙ rw (eq-eqb (f a) v e) refl
        | no e ↦ add_absent (each D (λ s. pair q (arc_bit N D a s) (depth_bit D (f a) (g s)))) i r (absent_each_of D (λ s. pair q (arc_bit N D a s) (depth_bit D (f a) (g s)) ∷ []) i (λ s l d. term_absent a m s d (λ h k. e h)))
            ∙ rw (ne_eqb (f a) v e) (sym (add_none i r))
      ]

      touches_at : Alike (touches q N D f g ks) (over ks (λ a. pair_at q i (arc_bit N D a s₀) (f a) v)) i
      touches_at = alike_over ks (λ a. each D (λ s. pair q (arc_bit N D a s) (depth_bit D (f a) (g s)))) (λ a. pair_at q i (arc_bit N D a s₀) (f a) v) i arc_touches

-- ---- the terms of ends, taken apart: twice A at each arc bit, and -A at its pair with each end

module _ (A N D : ℕ) (i : ℕ) where
  abbrev less : ℤ
  less = pos 0 -ℤ pos A

  -- the three parts of the term of arc a at depth s
  abbrev own_part : Arc → ℕ → Formula
  own_part a s = single (pos (2 * A)) (arc_bit N D a s) ∷ []

  abbrev parent_part : Arc → ℕ → Formula
  parent_part a s = pair less (arc_bit N D a s) (depth_bit D a.parent (pred s)) ∷ []

  abbrev child_part : Arc → ℕ → Formula
  child_part a s = pair less (arc_bit N D a s) (depth_bit D a.child s) ∷ []

  end_parts : (b p c : ℕ) → Alike (product (pos A) (bit b) (record { constant = pos 2; entries = (p, negsuc 0) ∷ (c, negsuc 0) ∷ [] }) ∷ []) ((single (pos (2 * A)) b ∷ []) ++ ((pair less b p ∷ []) ++ (pair less b c ∷ []))) i
  end_parts b p c r =
      product_split (pos A) (bit b) (pos 2) ((p, negsuc 0) ∷ []) ((c, negsuc 0) ∷ []) i r
      ∙ product_entry (pos A) (negsuc 0) (bit b) c i (add_terms (product (pos A) (bit b) (record { constant = pos 2; entries = (p, negsuc 0) ∷ [] }) ∷ []) i r)
      ∙ ap (add_terms (pair (pos A *ℤ negsuc 0) b c ∷ []) i)
      (product_split (pos A) (bit b) (pos 2) [] ((p, negsuc 0) ∷ []) i r
      ∙ product_entry (pos A) (negsuc 0) (bit b) p i (add_terms (product (pos A) (bit b) (record { constant = pos 2; entries = [] }) ∷ []) i r)
      ∙ ap (add_terms (pair (pos A *ℤ negsuc 0) b p ∷ []) i) (product_constant (pos A) (pos 2) b i r))
      ∙ ap₂ (λ (y z : ℤ). add_terms (pair y b c ∷ []) i (add_terms (pair y b p ∷ []) i (add_terms (single z b ∷ []) i r)))
      (solve (var 0 ⊗ con (negsuc 0)) (con (pos 0) ⊖ var 0) tt (pos A ∷ [])) (solve (var 0 ⊗ con (pos 2)) (con (pos 2) ⊗ var 0) tt (pos A ∷ []))
      ∙ sym (add_append (single (pos (2 * A)) b ∷ []) ((pair less b p ∷ []) ++ (pair less b c ∷ [])) i r ∙ add_append (pair less b p ∷ []) (pair less b c ∷ []) i (add_terms (single (pos (2 * A)) b ∷ []) i r))

  arc_split : (a : Arc) → Alike (each D (λ s. product (pos A) (bit (arc_bit N D a s)) (ends_missing D a s))) (each_of D (own_part a) ++ (each_of D (parent_part a) ++ each_of D (child_part a))) i
  arc_split a r =
      alike_each D (λ s. product (pos A) (bit (arc_bit N D a s)) (ends_missing D a s) ∷ []) (λ s. own_part a s ++ (parent_part a s ++ child_part a s)) i (λ s. end_parts (arc_bit N D a s) (depth_bit D a.parent (pred s)) (depth_bit D a.child s)) r
      ∙ each_split D (own_part a) (λ s. parent_part a s ++ child_part a s) i r
      ∙ alike_append (each_of D (own_part a)) (each_of D (own_part a)) (each_of D (λ s. parent_part a s ++ child_part a s)) (each_of D (parent_part a) ++ each_of D (child_part a)) i (λ s. refl) (each_split D (parent_part a) (child_part a) i) r

  ends_split : (ks : List Arc) → Alike (end_terms A N D ks) (singles (λ a. pos (2 * A)) N D ks ++ (touches less N D (λ a. a.parent) pred ks ++ touches less N D (λ a. a.child) (λ s. s) ks)) i
  unfolding end_terms
  ends_split ks r =
      alike_over ks (λ a. each D (λ s. product (pos A) (bit (arc_bit N D a s)) (ends_missing D a s))) (λ a. each_of D (own_part a) ++ (each_of D (parent_part a) ++ each_of D (child_part a))) i (λ a m. arc_split a) r
      ∙ over_split ks (λ a. each_of D (own_part a)) (λ a. each_of D (parent_part a) ++ each_of D (child_part a)) i r
      ∙ alike_append (over ks (λ a. each_of D (own_part a))) (over ks (λ a. each_of D (own_part a))) (over ks (λ a. each_of D (parent_part a) ++ each_of D (child_part a))) (over ks (λ a. each_of D (parent_part a)) ++ over ks (λ a. each_of D (child_part a))) i (λ s. refl) (over_split ks (λ a. each_of D (parent_part a)) (λ a. each_of D (child_part a)) i) r

-- ---- add_weights, by the place of bit i

module _ (N D : ℕ) (ls : List Link) (i : ℕ) (r : List ℤ) where
  pub arc_weight_row : (a : Arc) (t : ℕ) → IsArc N D ls i a t → (s : List ℤ) → s ≡ add_terms (single (pos a.weight) i ∷ []) i r → s ≡ add_terms (weight_terms N D (arcs ls)) i r
  unfolding weight_terms
  arc_weight_row a t is s e = e ∙ sym (singles_own (λ b. pos b.weight) N D ls i a t is r)

  pub behind_weight_row : arcs_end N D (length ls) ≤ i → r ≡ add_terms (weight_terms N D (arcs ls)) i r
  unfolding weight_terms
  behind_weight_row h = sym (behind_singles (λ b. pos b.weight) N D ls i h r)

  pub depth_weight_row : (v t : ℕ) → IsDepth N D i v t → r ≡ add_terms (weight_terms N D (arcs ls)) i r
  unfolding weight_terms
  depth_weight_row v t is = sym (depth_singles (λ b. pos b.weight) N D (arcs ls) i v t is r)

  pub other_weight_row : (q : Place) → ((k u v w t : ℕ) → q ≡ OfArc k u v w t → ⊥) → IsPlace N D ls i q → r ≡ add_terms (weight_terms N D (arcs ls)) i r
  other_weight_row (OfDepth v t) h is = depth_weight_row v t is
  other_weight_row (OfArc k u v w t) h is = absurd (h k u v w t refl)
  other_weight_row Behind h is = behind_weight_row is

-- ---- add_ends, by the place of bit i

module _ (A N D : ℕ) (ls : List Link) (graph : IsGraph N ls) where
  abbrev ks : List Arc
  ks = arcs ls

  ends_of : (a : Arc) → Memᴰ a (arcs ls) → ArcOf N a
  ends_of = arc_of N ls graph

  -- what the singles and the two families of pairs come to
  ends_are : (i : ℕ) (r s : List ℤ) → add_terms (touches (pos 0 -ℤ pos A) N D (λ a. a.child) (λ t. t) ks) i (add_terms (touches (pos 0 -ℤ pos A) N D (λ a. a.parent) pred ks) i (add_terms (singles (λ a. pos (2 * A)) N D ks) i r)) ≡ s → s ≡ add_terms (end_terms A N D ks) i r
  ends_are i r s e =
      sym (ends_split A N D i ks r
      ∙ add_append (singles (λ a. pos (2 * A)) N D ks) (touches (pos 0 -ℤ pos A) N D (λ a. a.parent) pred ks ++ touches (pos 0 -ℤ pos A) N D (λ a. a.child) (λ t. t) ks) i r
      ∙ add_append (touches (pos 0 -ℤ pos A) N D (λ a. a.parent) pred ks) (touches (pos 0 -ℤ pos A) N D (λ a. a.child) (λ t. t) ks) i (add_terms (singles (λ a. pos (2 * A)) N D ks) i r)
      ∙ e)

  -- behind the depth bits the pairs add nothing
  no_pairs : (i : ℕ) → N * suc D ≤ i → (r : List ℤ) → add_terms (touches (pos 0 -ℤ pos A) N D (λ a. a.child) (λ t. t) ks) i (add_terms (touches (pos 0 -ℤ pos A) N D (λ a. a.parent) pred ks) i r) ≡ r
  no_pairs i h r =
      touches_high (pos 0 -ℤ pos A) N D (λ a. a.child) (λ t. t) ks (λ a m. (ends_of a m).child_low) (λ s d. d) i (λ a m. (ends_of a m).child_high) h (add_terms (touches (pos 0 -ℤ pos A) N D (λ a. a.parent) pred ks) i r)
      ∙ touches_high (pos 0 -ℤ pos A) N D (λ a. a.parent) pred ks (λ a m. (ends_of a m).parent_low) (λ s d. omega arith) i (λ a m. (ends_of a m).parent_high) h r

  -- an arc's bit
  pub arc_ends_row : (i : ℕ) (a : Arc) (t : ℕ) → IsArc N D ls i a t → (r s : List ℤ) → s ≡ add_terms (single (pos (2 * A)) i ∷ []) i r → s ≡ add_terms (end_terms A N D (arcs ls)) i r
  arc_ends_row i a t is r s e =
      ends_are i r s (no_pairs i (omega (arith, is.here, arc_above N D a t)) (add_terms (singles (λ b. pos (2 * A)) N D ks) i r)
      ∙ singles_own (λ b. pos (2 * A)) N D ls i a t is r ∙ sym e)

  -- a bit behind
  pub behind_ends_row : (i : ℕ) → arcs_end N D (length ls) ≤ i → (r : List ℤ) → r ≡ add_terms (end_terms A N D (arcs ls)) i r
  behind_ends_row i h r =
      ends_are i r r (no_pairs i (omega arith) (add_terms (singles (λ b. pos (2 * A)) N D ks) i r) ∙ behind_singles (λ b. pos (2 * A)) N D ls i h r)

  -- a depth's bit
  module _ (i v t : ℕ) (is : IsDepth N D i v t) where
    -- the arcs out of the meter, one deeper
    out_row : Alike (touches (pos 0 -ℤ pos A) N D (λ a. a.parent) pred ks) (pairs_within Parent (pos 0 -ℤ pos A) i N D v (t + 1) (arcs ls)) i
    unfolding pairs_at
    out_row r = elim (dec_le (t + 1) D) [
      | yes h ↦ touches_at (pos 0 -ℤ pos A) N D (λ a. a.parent) pred ks (λ a m. (ends_of a m).parent_low) (λ s d. omega arith) i v t is (t + 1) (omega arith) h (omega arith) (λ s l e. omega arith) r
          ∙ ap (λ (f : Formula). add_terms f i r) (sym (within_yes Parent (pos 0 -ℤ pos A) i N D v (t + 1) (arcs ls) (omega arith) h))
      | no h ↦ touches_none (pos 0 -ℤ pos A) N D (λ a. a.parent) pred ks (λ a m. (ends_of a m).parent_low) (λ s d. omega arith) i v t is (λ s l d e. h (omega arith)) r
          ∙ within_none Parent (pos 0 -ℤ pos A) i N D v (t + 1) (arcs ls) r (within_deep Parent (pos 0 -ℤ pos A) i N D v (t + 1) (arcs ls) (omega arith))
    ]

    -- the arcs into it
    in_row : Alike (touches (pos 0 -ℤ pos A) N D (λ a. a.child) (λ s. s) ks) (pairs_within Child (pos 0 -ℤ pos A) i N D v t (arcs ls)) i
    unfolding pairs_at
    in_row r = elim (dec_le 1 t) [
      | yes h ↦ touches_at (pos 0 -ℤ pos A) N D (λ a. a.child) (λ s. s) ks (λ a m. (ends_of a m).child_low) (λ s d. d) i v t is t h is.deep refl (λ s l e. e) r
          ∙ ap (λ (f : Formula). add_terms f i r) (sym (within_yes Child (pos 0 -ℤ pos A) i N D v t (arcs ls) h is.deep))
      | no h ↦ touches_none (pos 0 -ℤ pos A) N D (λ a. a.child) (λ s. s) ks (λ a m. (ends_of a m).child_low) (λ s d. d) i v t is (λ s l d e. h (omega arith)) r
          ∙ within_none Child (pos 0 -ℤ pos A) i N D v t (arcs ls) r (within_zero Child (pos 0 -ℤ pos A) i N D v t (arcs ls) (omega arith))
    ]

    pub depth_ends_row : (r r₁ r₂ : List ℤ) → r₁ ≡ add_terms (pairs_within Parent (pos 0 -ℤ pos A) i N D v (t + 1) (arcs ls)) i r → r₂ ≡ add_terms (pairs_within Child (pos 0 -ℤ pos A) i N D v t (arcs ls)) i r₁ → r₂ ≡ add_terms (end_terms A N D (arcs ls)) i r
    depth_ends_row r r₁ r₂ e₁ e₂ =
        ends_are i r r₂
        (in_row (add_terms (touches (pos 0 -ℤ pos A) N D (λ a. a.parent) pred ks) i (add_terms (singles (λ b. pos (2 * A)) N D ks) i r))
        ∙ ap (add_terms (pairs_within Child (pos 0 -ℤ pos A) i N D v t (arcs ls)) i)
        (out_row (add_terms (singles (λ b. pos (2 * A)) N D ks) i r) ∙ ap (add_terms (pairs_within Parent (pos 0 -ℤ pos A) i N D v (t + 1) (arcs ls)) i) (depth_singles (λ b. pos (2 * A)) N D ks i v t is r) ∙ sym e₁)
        ∙ sym e₂)
