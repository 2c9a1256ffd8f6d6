-- What the terms "its depth-i bit - depth-i arcs into it" add to row i: a depth bit and an arc bit each stand in the term of one meter and one depth, with the coefficient 1 or -1. Assumes nothing.
use Prim.Native.Nat.{ℕ, suc, ◌+◌, ◌*◌, ◌/◌, ◌≤◌, ◌<◌}
use mathlib.Core.Path.{◌≡◌, refl, sym, ap, ap₂, ◌∙◌}
use mathlib.Core.Bool.{Bool, true, false, cond}
use mathlib.Core.List.{List, [], ◌∷◌, Memᴰ}
use native.Mathlib.Omega.{arith}
use native.Mathlib.Decide.{ℕ_discrete}
use native.Mathlib.Nat.{div-add-mod', mul-le-mul_right}
use borrow.Author.Tests.{eq-eqb, ne_eqb}
use lib.Dec.{eqb}
use lib.ListN.{length}
use lib.IntN.{ℤ, pos, negsuc, ◌+ℤ◌, ◌-ℤ◌, ◌*ℤ◌, +ℤ_idr}
use Rattle.links.specs.declared.Link.{Link}
use Rattle.links.specs.Survey.{IsGraph}
use Rattle.qubo.specs.Table.{only, coef}
use Rattle.qubo.specs.Terms.{each_of, each, over, sum, bit, single, pair, times}
use Rattle.qubo.specs.Rows.{add_terms}
use Rattle.qubo.proofs.Ring.{var, con, ◌⊕◌, ◌⊖◌, ◌⊗◌, solve}
use Rattle.qubo.proofs.Families.{sum_over, coef_append}
use Rattle.qubo.proofs.TableValue.{only_same, only_other}
use Rattle.qubo.proofs.RowAction.{add_none, add_append, add_two, add_absent, absent_each_of, add_only}
use Rattle.qubo.proofs.RowTerms.{own, square_absent, square_row, product_split, product_empty, product_entry}
use Rattle.arcs.specs.Arcs.{Arc, arcs, depth_bit, arc_bit, arcs_end}
use Rattle.arcs.specs.Formula.{entering, entry_term, entry_terms}
use Rattle.arcs.specs.Inner.{IsDepth, IsArc, pair_at, pairs_at, Held}
use Rattle.arcs.specs.declared.rows.End.TheVariants.{Child}
use Rattle.arcs.proofs.ArcLists.{sum_over_none, sum_over_arc, arc_high, ArcOf, arc_of}
use Rattle.arcs.proofs.BitsApart.{depth_below, depth_meter, depth_depth, arc_above, arc_below, arc_number, same_depth}

-- ---- coefficients

coef_over : {A : Type 0} (xs : List A) (G : A → List (ℕ × ℤ)) (i : ℕ) → coef (over xs G) i ≡ sum_over xs (λ x. coef (G x) i)
coef_over [] G i = refl
coef_over (x ∷ xs) G i = coef_append (G x) (over xs G) i ∙ ap (λ z. coef (G x) i +ℤ z) (coef_over xs G i)

module _ (N D v t : ℕ) (a : Arc) (i : ℕ) where
  -- an arc's entry, where its bit is another, where it leads elsewhere, and where it is bit i and leads to the meter
  entering_other : (arc_bit N D a t ≡ i → ⊥) → coef (entering N D v t a) i ≡ pos 0
  entering_other ne = go (eqb a.child v)
    where
      go : (b : Bool) → coef (cond b ((arc_bit N D a t, negsuc 0) ∷ []) []) i ≡ pos 0
      go true = +ℤ_idr (only (arc_bit N D a t) (negsuc 0) i) ∙ only_other (arc_bit N D a t) i (negsuc 0) ne
      go false = refl

  entering_away : (a.child ≡ v → ⊥) → coef (entering N D v t a) i ≡ pos 0
  entering_away ne = rw (ne_eqb a.child v ne) refl

  entering_here : a.child ≡ v → arc_bit N D a t ≡ i → coef (entering N D v t a) i ≡ negsuc 0
  entering_here e d = rw (eq-eqb a.child v e) (+ℤ_idr (only (arc_bit N D a t) (negsuc 0) i) ∙ ap (only (arc_bit N D a t) (negsuc 0)) (sym d) ∙ only_same (arc_bit N D a t) (negsuc 0))

-- the entries of the term of meter v at depth t
abbrev entry_form : ℕ → ℕ → List Arc → ℕ → ℕ → List (ℕ × ℤ)
entry_form N D ks v t = (depth_bit D v t, pos 1) ∷ over ks (entering N D v t)

-- no arc has bit i
arcs_lack : (N D : ℕ) (ks : List Arc) (v t i : ℕ) → ((a : Arc) → Memᴰ a ks → arc_bit N D a t ≡ i → ⊥) → coef (over ks (entering N D v t)) i ≡ pos 0
arcs_lack N D ks v t i h = coef_over ks (entering N D v t) i ∙ sum_over_none ks (λ a. coef (entering N D v t a) i) (λ a m. entering_other N D v t a i (h a m))

-- bit i is that of meter v at depth t
module _ (N D i v t : ℕ) (is : IsDepth N D i v t) (ks : List Arc) where
  below : i < N * suc D
  below = rw is.here at (depth_below N D v t is.low is.high is.deep)

  lack : (u s : ℕ) → coef (over ks (entering N D u s)) i ≡ pos 0
  lack u s = arcs_lack N D ks u s i (λ a m e. omega (arith, below, arc_above N D a s))

  depth_own : coef (entry_form N D ks v t) i ≡ pos 1
  depth_own = ap₂ ◌+ℤ◌ (ap (only (depth_bit D v t) (pos 1)) (sym is.here) ∙ only_same (depth_bit D v t) (pos 1)) (lack v t)

  depth_other : (u s : ℕ) → 1 ≤ u → s ≤ D → (u ≡ v → s ≡ t → ⊥) → coef (entry_form N D ks u s) i ≡ pos 0
  depth_other u s a b ne =
      ap₂ ◌+ℤ◌ (only_other (depth_bit D u s) i (pos 1) (λ e. ne (depth_meter D u v s t a is.low b is.deep (e ∙ sym is.here)) (depth_depth D u v s t b is.deep (e ∙ sym is.here)))) (lack u s)

-- bit i is that of arc a at depth t
module _ (N D : ℕ) (ls : List Link) (i : ℕ) (a : Arc) (t : ℕ) (is : IsArc N D ls i a t) where
  above : N * suc D ≤ i
  above = rw is.here at (arc_above N D a t)

  no_depth : (u s : ℕ) → 1 ≤ u → u ≤ N → s ≤ D → only (depth_bit D u s) (pos 1) i ≡ pos 0
  no_depth u s p q r = only_other (depth_bit D u s) i (pos 1) (λ e. omega (arith, above, depth_below N D u s p q r))

  arc_own : 1 ≤ a.child → a.child ≤ N → coef (entry_form N D (arcs ls) a.child t) i ≡ negsuc 0
  unfolding arcs
  arc_own p q =
      ap₂ ◌+ℤ◌ (no_depth a.child t p q is.deep)
      (coef_over (arcs ls) (entering N D a.child t) i
      ∙ sum_over_arc (λ b. coef (entering N D a.child t b) i) a 0 ls is.among (λ b m ne. entering_other N D a.child t b i (λ e. ne (arc_number N D b a t t is.low is.deep is.low is.deep (e ∙ sym is.here))))
      ∙ entering_here N D a.child t a i refl is.here)

  others : (u s : ℕ) → 1 ≤ s → s ≤ D → (u ≡ a.child → s ≡ t → ⊥) → sum_over (arcs ls) (λ b. coef (entering N D u s b) i) ≡ pos 0
  unfolding arcs
  others u s l h ne = elim (ℕ_discrete s t) [
    | yes e ↦ sum_over_arc (λ b. coef (entering N D u s b) i) a 0 ls is.among (λ b m no. entering_other N D u s b i (λ d. no (arc_number N D b a s t l h is.low is.deep (d ∙ sym is.here))))
        ∙ entering_away N D u s a i (λ d. ne (sym d) e)
    | no e ↦ sum_over_none (arcs ls) (λ b. coef (entering N D u s b) i) (λ b m. entering_other N D u s b i (λ d. e (same_depth N D b a s t l h is.low is.deep (d ∙ sym is.here))))
  ]

  arc_other : (u s : ℕ) → 1 ≤ u → u ≤ N → 1 ≤ s → s ≤ D → (u ≡ a.child → s ≡ t → ⊥) → coef (entry_form N D (arcs ls) u s) i ≡ pos 0
  arc_other u s p q l h ne = ap₂ ◌+ℤ◌ (no_depth u s p q h) (coef_over (arcs ls) (entering N D u s) i ∙ others u s l h ne)

-- bit i is behind all these
behind_other : (N D : ℕ) (ls : List Link) (i : ℕ) → arcs_end N D (length ls) ≤ i → (u s : ℕ) → 1 ≤ u → u ≤ N → 1 ≤ s → s ≤ D → coef (entry_form N D (arcs ls) u s) i ≡ pos 0
behind_other N D ls i g u s p q l h =
    ap₂ ◌+ℤ◌ (only_other (depth_bit D u s) i (pos 1) (λ e. omega (arith, depth_below N D u s p q h)))
    (arcs_lack N D (arcs ls) u s i (λ a m e. omega (arith, arc_below N D (length ls) a s (arc_high ls a m) l h)))

-- ---- the terms that hold bit i

module _ (A N D : ℕ) (ks : List Arc) (i : ℕ) where
  -- none, where it has no coefficient
  entry_none : ((u s : ℕ) → 1 ≤ u → u ≤ N → 1 ≤ s → s ≤ D → coef (entry_form N D ks u s) i ≡ pos 0) → (r : List ℤ) → add_terms (entry_terms A N D ks) i r ≡ r
  unfolding entry_terms
  entry_none h r =
      add_absent (each_of N (λ u. each D (entry_term A N D ks u))) i r (absent_each_of N (λ u. each D (entry_term A N D ks u)) i
      (λ u p q. absent_each_of D (λ s. entry_term A N D ks u s ∷ []) i (λ s l m. square_absent (pos A) (sum (entry_form N D ks u s)) i (h u s p q l m))))

  -- one, where it has none in the others
  entry_only : (v t : ℕ) → 1 ≤ v → v ≤ N → 1 ≤ t → t ≤ D → ((u s : ℕ) → 1 ≤ u → u ≤ N → 1 ≤ s → s ≤ D → (u ≡ v → s ≡ t → ⊥) → coef (entry_form N D ks u s) i ≡ pos 0)
      → (r : List ℤ) → add_terms (entry_terms A N D ks) i r ≡ add_terms (entry_term A N D ks v t ∷ []) i r
  unfolding entry_terms
  entry_only v t a b c d h r =
      add_only N (λ u. each D (entry_term A N D ks u)) v i r a b
      (λ u p q ne. absent_each_of D (λ s. entry_term A N D ks u s ∷ []) i (λ s l m. square_absent (pos A) (sum (entry_form N D ks u s)) i (h u s p q l m (λ e. absurd (ne e)))))
      ∙ add_only D (λ s. entry_term A N D ks v s ∷ []) t i r c d (λ s l m ne. square_absent (pos A) (sum (entry_form N D ks v s)) i (h v s a b l m (λ e f. ne f)))

-- ---- what such a term adds: -A at bit i, q at the depth bit, and -q at each arc into the meter

-- bit i times the arcs into the meter
times_into : (q : ℤ) (N D : ℕ) (v t : ℕ) (ks : List Arc) (i : ℕ) (r : List ℤ) → add_terms (times q i (over ks (entering N D v t)) ∷ []) i r ≡ add_terms (pairs_at Child (q *ℤ negsuc 0) i N D v t ks) i r
unfolding pairs_at
times_into q N D v t [] i r = product_empty q (bit i) i r ∙ sym (add_none i r)
times_into q N D v t (a ∷ ks) i r =
    product_split q (bit i) (pos 0) (entering N D v t a) (over ks (entering N D v t)) i r
    ∙ times_into q N D v t ks i (add_terms (times q i (entering N D v t a) ∷ []) i r)
    ∙ ap (add_terms (over ks (λ b. pair_at (q *ℤ negsuc 0) i (arc_bit N D b t) b.child v)) i) (one (eqb a.child v))
    ∙ sym (add_append (pair_at (q *ℤ negsuc 0) i (arc_bit N D a t) a.child v) (over ks (λ b. pair_at (q *ℤ negsuc 0) i (arc_bit N D b t) b.child v)) i r)
  where
    one : (b : Bool) → add_terms (times q i (cond b ((arc_bit N D a t, negsuc 0) ∷ []) []) ∷ []) i r ≡ add_terms (cond b (pair (q *ℤ negsuc 0) i (arc_bit N D a t) ∷ []) []) i r
    one true = product_entry q (negsuc 0) (bit i) (arc_bit N D a t) i r
    one false = product_empty q (bit i) i r ∙ sym (add_none i r)

entry_parts : (A N D : ℕ) (ks : List Arc) (v t i : ℕ) (q : ℤ) → Held A N D ks v t i q → (r : List ℤ)
    → add_terms (entry_term A N D ks v t ∷ []) i r ≡ add_terms (pairs_at Child (pos 0 -ℤ q) i N D v t ks) i (add_terms (pair q i (depth_bit D v t) ∷ []) i (add_terms (single (pos 0 -ℤ pos A) i ∷ []) i r))
entry_parts A N D ks v t i q h r =
    square_row (pos A) (sum (entry_form N D ks v t)) i h.factor h.has r
    ∙ add_two (single (own (pos A) (pos 0) (pos 0) h.factor h.factor) i) (times (pos 2 *ℤ (pos A *ℤ h.factor)) i (entry_form N D ks v t)) i r
    ∙ ap₂ (λ (y z : ℤ). add_terms (times y i (entry_form N D ks v t) ∷ []) i (add_terms (single z i ∷ []) i r)) (sym h.twice) (own_less (pos A) h.factor h.unit)
    ∙ product_split q (bit i) (pos 0) ((depth_bit D v t, pos 1) ∷ []) (over ks (entering N D v t)) i (add_terms (single (pos 0 -ℤ pos A) i ∷ []) i r)
    ∙ times_into q N D v t ks i (add_terms (pair q i (depth_bit D v t) ∷ []) i (add_terms (single (pos 0 -ℤ pos A) i ∷ []) i r))
    ∙ ap (λ (z : ℤ). add_terms (pairs_at Child z i N D v t ks) i (add_terms (pair q i (depth_bit D v t) ∷ []) i (add_terms (single (pos 0 -ℤ pos A) i ∷ []) i r))) (solve (var 0 ⊗ con (negsuc 0)) (con (pos 0) ⊖ var 0) tt (q ∷ []))
  where
    own_less : (a w : ℤ) → w *ℤ w ≡ pos 1 → own a (pos 0) (pos 0) w w ≡ pos 0 -ℤ a
    own_less a w e =
        solve (var 0 ⊗ (con (pos 0) ⊗ var 1 ⊕ var 1 ⊗ con (pos 0) ⊖ var 1 ⊗ var 1)) (con (pos 0) ⊖ var 0 ⊗ (var 1 ⊗ var 1)) tt (a ∷ w ∷ [])
        ∙ ap (λ z. pos 0 -ℤ a *ℤ z) e
        ∙ solve (con (pos 0) ⊖ var 0 ⊗ con (pos 1)) (con (pos 0) ⊖ var 0) tt (a ∷ [])

-- so it is added in three steps
pub entry_done : (A N D : ℕ) (ks : List Arc) (v t i : ℕ) (q : ℤ) → Held A N D ks v t i q → (r r₁ r₂ r₃ : List ℤ)
    → r₁ ≡ add_terms (single (pos 0 -ℤ pos A) i ∷ []) i r → r₂ ≡ add_terms (pair q i (depth_bit D v t) ∷ []) i r₁ → r₃ ≡ add_terms (pairs_at Child (pos 0 -ℤ q) i N D v t ks) i r₂
    → r₃ ≡ add_terms (entry_term A N D ks v t ∷ []) i r
entry_done A N D ks v t i q h r r₁ r₂ r₃ e₁ e₂ e₃ =
    e₃ ∙ ap (add_terms (pairs_at Child (pos 0 -ℤ q) i N D v t ks) i) (e₂ ∙ ap (add_terms (pair q i (depth_bit D v t) ∷ []) i) e₁) ∙ sym (entry_parts A N D ks v t i q h r)

-- ---- add_entries: the term of the place of bit i

-- the link of an arc is one of the links, and the arc bits of those before it are below the arc's
module _ (N D : ℕ) (ls : List Link) (i : ℕ) (a : Arc) (t : ℕ) (is : IsArc N D ls i a t) where
  pub arc_link : a.number / 2 ≤ length ls
  arc_link = omega (arith, div-add-mod' a.number 2, arc_high ls a is.among)

  pub arc_from : arcs_end N D (a.number / 2) ≤ i
  arc_from = let h : 2 * (a.number / 2) ≤ a.number = omega (arith, div-add-mod' a.number 2) in omega (arith, is.here, mul-le-mul_right D h)

  -- link by link
  pub arc_under : (k : ℕ) → k < a.number / 2 → arcs_end N D (k + 1) ≤ i
  arc_under k h = let g : 2 * (k + 1) ≤ 2 * (a.number / 2) = omega arith in omega (arith, arc_from, mul-le-mul_right D g)

module _ (A N D : ℕ) (ls : List Link) where
  -- that of a meter's depth
  module _ (i v t : ℕ) (is : IsDepth N D i v t) where
    pub depth_held : Held A N D (arcs ls) v t i (pos (2 * A))
    depth_held = record { factor = pos 1; has = depth_own N D i v t is (arcs ls); unit = refl; twice = solve (con (pos 2) ⊗ var 0) (con (pos 2) ⊗ (var 0 ⊗ con (pos 1))) tt (pos A ∷ []) }

    pub depth_entry : 1 ≤ t → (r s : List ℤ) → s ≡ add_terms (entry_term A N D (arcs ls) v t ∷ []) i r → s ≡ add_terms (entry_terms A N D (arcs ls)) i r
    depth_entry l r s e = e ∙ sym (entry_only A N D (arcs ls) i v t is.low is.high l is.deep (λ u d p q m n ne. depth_other N D i v t is (arcs ls) u d p n ne) r)

    -- depth 0 has no term
    pub root_entry : t ≤ 0 → (r : List ℤ) → r ≡ add_terms (entry_terms A N D (arcs ls)) i r
    root_entry l r = sym (entry_none A N D (arcs ls) i (λ u d p q m n. depth_other N D i v t is (arcs ls) u d p n (λ e f. omega arith)) r)

  -- that of an arc: the term of its child
  module _ (graph : IsGraph N ls) (i : ℕ) (a : Arc) (t : ℕ) (is : IsArc N D ls i a t) where
    ends : ArcOf N a
    ends = arc_of N ls graph a is.among

    pub arc_held : Held A N D (arcs ls) a.child t i (pos 0 -ℤ pos (2 * A))
    arc_held = record { factor = negsuc 0; has = arc_own N D ls i a t is ends.child_low ends.child_high; unit = refl; twice = solve (con (pos 0) ⊖ con (pos 2) ⊗ var 0) (con (pos 2) ⊗ (var 0 ⊗ con (negsuc 0))) tt (pos A ∷ []) }

    pub arc_entry : (r s : List ℤ) → s ≡ add_terms (entry_term A N D (arcs ls) a.child t ∷ []) i r → s ≡ add_terms (entry_terms A N D (arcs ls)) i r
    arc_entry r s e = e ∙ sym (entry_only A N D (arcs ls) i a.child t ends.child_low ends.child_high is.low is.deep (λ u d p q m n ne. arc_other N D ls i a t is u d p q m n ne) r)

  -- none behind
  pub behind_entry : (i : ℕ) → arcs_end N D (length ls) ≤ i → (r : List ℤ) → r ≡ add_terms (entry_terms A N D (arcs ls)) i r
  behind_entry i h r = sym (entry_none A N D (arcs ls) i (behind_other N D ls i h) r)
