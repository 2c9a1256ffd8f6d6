-- All squares of meters' neighbours in row i: none of them has a bit of a depth, those of its two ends have that of an arc, and its own meter's has a neighbour-count bit. The function add_degrees of src/degrees.rt cites these. Assumes nothing.
use Prim.Native.Nat.{ℕ, zero, suc, ◌+◌, ◌-◌, ◌*◌, ◌/◌, ◌%◌, ◌^◌, ◌≤◌, ◌<◌}
use mathlib.Core.Path.{◌≡◌, refl, sym, ap, subst, ◌∙◌}
use mathlib.Core.Bool.{Bool, true, false, ◌||◌, cond}
use mathlib.Core.List.{List, [], ◌∷◌}
use native.Mathlib.Omega.{arith}
use native.Mathlib.Decide.{ℕ_discrete}
use native.Mathlib.Nat.{mod-lt}
use lib.Dec.{eqb}
use lib.ListN.{length}
use lib.IntN.{ℤ, pos, negsuc}
use mir.Facts.{to_z_pos}
use mir.Syntax.{w64}
use mir.Val.{to_z}
use borrow.Author.Tests.{eq-eqb, ne_eqb}
use Rattle.links.specs.declared.Link.{Link}
use Rattle.qubo.specs.Formula.{Formula}
use Rattle.qubo.specs.Norm.{term_norm}
use Rattle.qubo.specs.Terms.{each_of, each, sum}
use Rattle.qubo.specs.Rows.{add_terms}
use Rattle.qubo.proofs.RowAction.{Absent, add_absent, add_append, add_swap, absent_each_of, add_only, add_length, added_abs}
use Rattle.qubo.proofs.RowTerms.{square_absent}
use Rattle.arcs.specs.Arcs.{Arc, arcs, depths_end, arcs_end}
use Rattle.arcs.specs.Inner.{IsArc, IsPlace}
use Rattle.arcs.specs.declared.place.Place.{Place}
use Rattle.arcs.specs.declared.place.Place.TheVariants.{OfDepth, OfArc, Behind}
use Rattle.arcs.proofs.ArcLists.{ArcOf, arc_of}
use Rattle.arcs.proofs.BitsApart.{depth_below}
use Rattle.arcs.proofs.Graph.{graph}
use Rattle.arcs.proofs.EntryRows.{arc_link, arc_from}
use Rattle.neighbours.specs.Formula.{degree_term, degree_terms}
use Rattle.neighbours.specs.Inner.{degree_entries, TableRow}
use Rattle.neighbours.specs.declared.counts.Neighbours.{Neighbours}
use Rattle.neighbours.proofs.Asked.{RowOf, form, Asked}
use Rattle.neighbours.proofs.CountValue.{degree_norm}
use Rattle.neighbours.proofs.CountRows.{count_inside}
use Rattle.neighbours.proofs.DegreeBits.{form_depth, form_arc, form_own, form_other}

-- ---- of a family, two parts alone have bit i

pub add_both : (n : ℕ) (G : ℕ → Formula) (m k i : ℕ) (r : List ℤ) → 1 ≤ m → m ≤ n → 1 ≤ k → k ≤ n → (m ≡ k → ⊥) → ((t : ℕ) → 1 ≤ t → t ≤ n → (t ≡ m → ⊥) → (t ≡ k → ⊥) → Absent (G t) i)
    → add_terms (each_of n G) i r ≡ add_terms (G k) i (add_terms (G m) i r)
add_both zero G m k i r a b c d ne h = absurd (omega arith)
add_both (suc n) G m k i r a b c d ne h =
    add_append (each_of n G) (G (suc n)) i r
    ∙ elim (ℕ_discrete k (suc n)) [
      | yes e ↦
          ap (add_terms (G (suc n)) i) (add_only n G m i r a (omega arith) (λ t p q u. h t p (omega arith) u (omega arith)))
          ∙ ap (λ (t : ℕ). add_terms (G t) i (add_terms (G m) i r)) (sym e)
      | no e ↦ elim (ℕ_discrete m (suc n)) [
        | yes f ↦
            ap (add_terms (G (suc n)) i) (add_only n G k i r c (omega arith) (λ t p q u. h t p (omega arith) (omega arith) u))
            ∙ ap (λ (t : ℕ). add_terms (G t) i (add_terms (G k) i r)) (sym f)
            ∙ sym (add_append (G k) (G m) i r) ∙ add_swap (G k) (G m) i r ∙ add_append (G m) (G k) i r
        | no f ↦
            add_absent (G (suc n)) i (add_terms (each_of n G) i r) (h (suc n) (omega arith) (omega arith) (omega arith) (omega arith))
            ∙ add_both n G m k i r a (omega arith) c (omega arith) ne (λ t p q. h t p (omega arith))
      ]
    ]

-- ---- a row with room to spare

row_more : (limit more N D M d A i : ℕ) (r s : List ℤ) → limit ≤ more → s ≡ r → TableRow limit N D M d A i r → TableRow more N D M d A i s
row_more limit more N D M d A i r s h e row = rw e (record { own = row.own; whole = row.whole; small = λ k. omega (arith, row.small k); penalty = row.penalty })

-- ---- add_degrees, by the place q of bit i

module _ (n : Neighbours) {A i : ℕ} (q : Place) {r : List ℤ} (asked : IsPlace n.arcs.layout.meters n.arcs.layout.deepest n.arcs.links.now i q × (1 ≤ n.d) × RowOf (2 ^ 59) n A i r) where
  abbrev N : ℕ
  N = n.arcs.layout.meters

  abbrev D : ℕ
  D = n.arcs.layout.deepest

  abbrev ls : List Link
  ls = n.arcs.links.now

  abbrev M : ℕ
  M = length ls

  abbrev terms : ℕ → Formula
  terms v = degree_term A N D M n.d (arcs ls) v ∷ []

  -- what the place says, once it is known which it is
  placed : {p : Place} → q ≡ p → IsPlace N D ls i p
  placed e = subst (IsPlace N D ls i) e asked.0

  -- the family as it is added
  as_family : (s : List ℤ) → s ≡ add_terms (each N (degree_term A N D M n.d (arcs ls))) i r → s ≡ add_terms (degree_terms A N D M n.d (arcs ls)) i r
  unfolding degree_terms
  as_family s e = e

  -- a meter whose form has no bit i
  absent : (v : ℕ) → form n i v ≡ pos 0 → Absent (terms v) i
  absent v e = square_absent (pos A) (sum (degree_entries N D M n.d (arcs ls) v)) i e

  roomy : RowOf (3 * 2 ^ 58) n A i r
  roomy = row_more _ _ _ _ _ _ _ _ _ _ (omega arith) refl asked.2

  -- ---- a bit of a depth

  pub degrees_depth : {v t : ℕ} → q ≡ OfDepth v t → r ≡ add_terms (degree_terms A N D M n.d (arcs ls)) i r
  degrees_depth {v = v} {t = t} e =
      let p = placed e in
      let h : i < depths_end N D = omega (arith, p.here, depth_below N D v t p.low p.high p.deep) in
      as_family r (sym (add_absent (each_of N terms) i r (absent_each_of N terms i (λ m a b. absent m (form_depth N D M n.d ls refl m i h)))))

  -- ---- a bit of an arc

  module _ {k parent child w t : ℕ} (is : q ≡ OfArc k parent child w t) where
    abbrev arc : Arc
    arc = record { number = k; parent = parent; child = child; weight = w }

    p : IsArc N D ls i arc t
    p = placed is

    at_end : (v : ℕ) → form n i v ≡ cond (eqb parent v || eqb child v) (negsuc 0) (pos 0)
    at_end v = form_arc N D M n.d ls refl v i arc t p

    at_parent : form n i parent ≡ negsuc 0
    at_parent = at_end parent ∙ rw (eq-eqb parent parent refl) refl

    at_child : form n i child ≡ negsuc 0
    at_child = at_end child ∙ rw (eq-eqb child child refl) (go (eqb parent child))
      where
        go : (s : Bool) → cond (s || true) (negsuc 0) (pos 0) ≡ negsuc 0
        go true = refl
        go false = refl

    ends : ArcOf N arc
    ends = arc_of N ls (graph n.arcs) arc p.among

    -- its link is one of them, and the arc bits of those before it are below bit i
    of_link : (k / 2 ≤ M) × (arcs_end N D (k / 2) ≤ i)
    of_link = (arc_link N D ls i arc t p, arc_from N D ls i arc t p)

    pub parent_ready : Asked n A i (k / 2) parent (negsuc 0) r
    parent_ready = record { bounds = (ends.parent_low, ends.parent_high, omega arith, roomy); from_in_bounds = of_link; i_value = at_parent }

    module _ {s : List ℤ} (e : s ≡ add_terms (terms parent) i r) where
      pub child_ready : Asked n A i (k / 2) child (negsuc 0) s
      child_ready = record { bounds = (ends.child_low, ends.child_high, omega arith, rw e later); from_in_bounds = of_link; i_value = at_child }
        where
          small : term_norm (degree_term A N D M n.d (arcs ls) parent) ≤ A * 11451456
          small = degree_norm N D n.d ls (graph n.arcs) n.arcs.layout.shallow n.high A M parent

          later : RowOf (3 * 2 ^ 58) n A i (add_terms (terms parent) i r)
          later = record {
            own = omega (arith, asked.2.own, add_length (terms parent) i r);
            whole = omega (arith, asked.2.whole, add_length (terms parent) i r);
            small = λ j. omega (arith, asked.2.small j, added_abs (terms parent) i r j, small, asked.2.penalty);
            penalty = asked.2.penalty;
          }

      pub arc_done : {z : List ℤ} → z ≡ add_terms (terms child) i s → z ≡ add_terms (degree_terms A N D M n.d (arcs ls)) i r
      arc_done {z = z} f =
          as_family z (f ∙ ap (add_terms (terms child) i) e
          ∙ sym (add_both N terms parent child i r ends.parent_low ends.parent_high ends.child_low ends.child_high ends.apart
          (λ m x y np nc. absent m (at_end m ∙ rw (ne_eqb parent m (λ g. np (sym g)), ne_eqb child m (λ g. nc (sym g))) refl))))

  -- ---- a neighbour-count bit, where m is its meter and j its number, counted from the first of them

  module _ (is : q ≡ Behind) {first : ℕ} (first_is : first ≡ arcs_end N D M) where
    behind : arcs_end N D M ≤ i
    behind = placed is

    abbrev off : ℕ
    off = i - arcs_end N D M

    inside : off / n.d < N
    inside = count_inside N D M n.d i behind asked.1 (omega (arith, asked.2.whole, asked.2.own))

    module _ {m j : ℕ} (meter : m ≡ (i - first) / n.d + 1) (count : j ≡ (i - first) % n.d + 1) where
      meter_is : m ≡ off / n.d + 1
      meter_is = meter ∙ rw first_is refl

      count_is : j ≡ off % n.d + 1
      count_is = count ∙ rw first_is refl

      count_number : j ≤ 47
      count_number = omega (arith, mod-lt off asked.1, count_is, n.high)

      -- the number as a word of 64 bits
      pub count_ready : Asked n A i M m (to_z w64 j) r
      count_ready =
          rw (to_z_pos w64 {n = j} (omega (arith, count_number)))
          (record {
            bounds = (omega (arith, meter_is), omega (arith, inside, meter_is), count_number, roomy);
            from_in_bounds = (omega arith, behind);
            i_value = rw count_is (form_own N D M n.d ls refl m i behind asked.1 meter_is);
          })

      pub count_done : {z : List ℤ} → z ≡ add_terms (terms m) i r → z ≡ add_terms (degree_terms A N D M n.d (arcs ls)) i r
      count_done {z = z} e =
          as_family z (e ∙ sym (add_only N terms m i r (omega (arith, meter_is)) (omega (arith, inside, meter_is))
          (λ v x y ne. absent v (form_other N D M n.d ls refl v i behind x (λ g. ne (g ∙ sym meter_is))))))
