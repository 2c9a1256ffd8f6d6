-- A walk over the links that adds terms of their arcs to row i, link by link, whatever the terms F of one arc are; and the walk that adds bit i times the arcs at a meter. Assumes nothing.
use Prim.Native.Nat.{ℕ, suc, pred, ◌+◌, ◌*◌, ◌^◌, ◌≤◌, ◌<◌}
use mathlib.Core.Path.{◌≡◌, refl, sym, ap, ap₂, ◌∙◌}
use mathlib.Core.Bool.{Bool, true, false, cond, ◌&&◌}
use mathlib.Core.List.{List, [], ◌∷◌, ◌++◌, append_assoc}
use native.Mathlib.Omega.{arith}
use borrow.Author.Tests.{ne_eqb, le-leb, lt-leb}
use lib.Dec.{eqb, leb}
use lib.ListN.{length}
use lib.IntN.{ℤ}
use Rattle.links.specs.Links.{link_in}
use Rattle.links.specs.declared.Link.{Link}
use Rattle.qubo.specs.Formula.{Formula}
use Rattle.qubo.specs.Terms.{over, pair}
use Rattle.qubo.specs.Rows.{add_terms, Room}
use Rattle.qubo.proofs.RowAction.{add_none, add_append, room_front, room_back}
use Rattle.qubo.proofs.RowTerms.{pair_below}
use Rattle.qubo.proofs.RowWalk.{Walked, walked_first, walked_room, walked_turn, walked_end}
use Rattle.arcs.specs.Arcs.{Arc, arcs, arc_bit, arcs_end}
use Rattle.arcs.specs.Inner.{Row, end_of, both_ends, pair_at, pairs_at, pairs_within, Walk}
use Rattle.arcs.specs.declared.rows.End.{End}
use Rattle.arcs.specs.declared.rows.End.TheVariants.{Parent, Child}
use Rattle.arcs.proofs.ArcLists.{there, back, arc_up, arc_back, arcs_left, arcs_start, arcs_turn, arcs_past}
use Rattle.arcs.proofs.BitsApart.{arc_below}

-- ---- what is left to add

module _ (F : Arc → Formula) (ls : List Link) where
  pub terms_left : ℕ → Formula
  terms_left k = over (arcs_left ls k) F

  -- at first all
  terms_all : terms_left 0 ≡ over (arcs ls) F
  unfolding terms_left
  terms_all = ap (λ (l : List Arc). over l F) (arcs_start ls)

  -- the two arcs of the link at k
  terms_at : ℕ → Formula
  terms_at k = F (arc_up ls k) ++ F (arc_back ls k)

  -- and the rest
  terms_next : (k : ℕ) → k < length ls → terms_left k ≡ terms_at k ++ terms_left (k + 1)
  unfolding terms_left terms_at
  terms_next k h = ap (λ (l : List Arc). over l F) (arcs_turn ls k h) ∙ sym (append_assoc (F (arc_up ls k)) (F (arc_back ls k)) (over (arcs_left ls (k + 1)) F))

  -- in the end none
  terms_none : terms_left (length ls) ≡ []
  unfolding terms_left
  terms_none = let e : length ls ≤ length ls = omega arith in ap (λ (l : List Arc). over l F) (arcs_past ls (length ls) e)

-- ---- one arc: it counts where its end is the meter

module _ (q : ℤ) (i p m v : ℕ) where
  pub at_no : (m ≡ v → ⊥) → (r : List ℤ) → r ≡ add_terms (pair_at q i p m v) i r
  at_no e r = rw (ne_eqb m v e) (sym (add_none i r))

  -- a bit below bit i: their pair stands in its own row
  at_under : p < i → (r : List ℤ) → add_terms (pair_at q i p m v) i r ≡ r
  at_under h r = go (eqb m v)
    where
      go : (b : Bool) → add_terms (cond b (pair q i p ∷ []) []) i r ≡ r
      go true = pair_below q i p r h
      go false = add_none i r

-- ---- the arcs that have a meter for one of their ends, link by link

-- that end of a link's two arcs
end_up : (e : End) (l : Link) (k : ℕ) → end_of e (there k l) ≡ (both_ends e l).0
end_up Parent l k = refl
end_up Child l k = refl

end_back : (e : End) (l : Link) (k : ℕ) → end_of e (back k l) ≡ (both_ends e l).1
end_back Parent l k = refl
end_back Child l k = refl

module _ (e : End) (q : ℤ) (i N D v t : ℕ) where
  -- the terms of one arc
  pub pairs_of : Arc → Formula
  pairs_of a = pair_at q i (arc_bit N D a t) (end_of e a) v

  -- those of the two of the link at k
  module _ (ls : List Link) (k : ℕ) where
    abbrev first : Formula
    first = pair_at q i (N * suc D + 2 * k * D + pred t) (both_ends e (link_in ls k)).0 v

    abbrev second : Formula
    second = pair_at q i (N * suc D + (2 * k + 1) * D + pred t) (both_ends e (link_in ls k)).1 v

    both_parts : terms_at pairs_of ls k ≡ first ++ second
    unfolding terms_at pairs_of
    both_parts =
        ap₂ (λ (m n : ℕ). pair_at q i (N * suc D + 2 * k * D + pred t) m v ++ pair_at q i (N * suc D + (2 * k + 1) * D + pred t) n v)
        (end_up e (link_in ls k) (2 * k)) (end_back e (link_in ls k) (2 * k + 1))

-- the links before k are added to the row
abbrev pub PairsTo : End → ℤ → ℕ → ℕ → ℕ → ℕ → ℕ → List Link → List ℤ → List ℤ → ℕ → Type 0
PairsTo e q i N D v t ls row₀ row k = Walked (2 ^ 61) (terms_left (pairs_of e q i N D v t) ls) (length ls) i row₀ row k

module _ (e : End) (q : ℤ) (i N D v t : ℕ) (ls : List Link) (row₀ : List ℤ) where
  abbrev at_link : ℕ → Formula
  at_link = terms_at (pairs_of e q i N D v t) ls

  module _ (low : 1 ≤ t) (high : t ≤ D) where
    -- a link whose arcs' bits are below bit i adds nothing
    link_under : (k : ℕ) → arcs_end N D (k + 1) ≤ i → (r : List ℤ) → add_terms (at_link k) i r ≡ r
    link_under k under r =
        let one = arc_below N D (k + 1) (arc_up ls k) t (omega arith) low high in
        let two = arc_below N D (k + 1) (arc_back ls k) t (omega arith) low high in
        ap (λ (f : Formula). add_terms f i r) (both_parts e q i N D v t ls k)
        ∙ add_append (first e q i N D v t ls k) (second e q i N D v t ls k) i r
        ∙ ap (add_terms (second e q i N D v t ls k) i) (at_under q i (arc_bit N D (arc_up ls k) t) (both_ends e (link_in ls k)).0 v (omega arith) r)
        ∙ at_under q i (arc_bit N D (arc_back ls k) t) (both_ends e (link_in ls k)).1 v (omega arith) r

    -- the walk begins at `from`
    pub pairs_start : (from : ℕ) → from ≤ length ls → ((k : ℕ) → k < from → arcs_end N D (k + 1) ≤ i) → Room (2 ^ 61) (pairs_at e q i N D v t (arcs ls)) row₀ → PairsTo e q i N D v t ls row₀ row₀ from
    unfolding pairs_at pairs_of
    pairs_start from h under room =
        walked_first _ at_link _ _ _ (terms_next (pairs_of e q i N D v t) ls) (terms_none (pairs_of e q i N D v t) ls) row₀ from h (λ k l. link_under k (under k l))
        (rw (terms_all (pairs_of e q i N D v t) ls) room)

  module _ (row : List ℤ) (k : ℕ) (w : PairsTo e q i N D v t ls row₀ row k) where
    pub pairs_all : length ls ≤ k → row ≡ add_terms (pairs_at e q i N D v t (arcs ls)) i row₀
    unfolding pairs_at pairs_of
    pairs_all h = walked_end _ at_link _ _ _ (terms_next (pairs_of e q i N D v t) ls) (terms_none (pairs_of e q i N D v t) ls) row₀ row k h w ∙ rw (terms_all (pairs_of e q i N D v t) ls) refl

    module _ (h : k < length ls) where
      both_room : Room (2 ^ 61) (first e q i N D v t ls k ++ second e q i N D v t ls k) row
      both_room = rw (both_parts e q i N D v t ls k) at (walked_room _ at_link _ _ _ (terms_next (pairs_of e q i N D v t) ls) (terms_none (pairs_of e q i N D v t) ls) row₀ row k h w)

      -- there is room for the link's first arc
      pub there_room : Room (2 ^ 61) (pair_at q i (N * suc D + 2 * k * D + pred t) (both_ends e (link_in ls k)).0 v) row
      there_room = room_front (2 ^ 61) (first e q i N D v t ls k) (second e q i N D v t ls k) row both_room

      module _ (mid : List ℤ) (one : mid ≡ add_terms (pair_at q i (N * suc D + 2 * k * D + pred t) (both_ends e (link_in ls k)).0 v) i row) where
        -- then for its second
        pub back_room : Room (2 ^ 61) (pair_at q i (N * suc D + (2 * k + 1) * D + pred t) (both_ends e (link_in ls k)).1 v) mid
        back_room = rw one (room_back (2 ^ 61) (first e q i N D v t ls k) (second e q i N D v t ls k) i row both_room)

        -- both are added
        pub pairs_turn : (next : List ℤ) → next ≡ add_terms (pair_at q i (N * suc D + (2 * k + 1) * D + pred t) (both_ends e (link_in ls k)).1 v) i mid → PairsTo e q i N D v t ls row₀ next (k + 1)
        pairs_turn next two = walked_turn _ at_link _ _ _ (terms_next (pairs_of e q i N D v t) ls) (terms_none (pairs_of e q i N D v t) ls) row₀ row k h w next
            (ap (λ (f : Formula). add_terms f i row) (both_parts e q i N D v t ls k)
            ∙ add_append (first e q i N D v t ls k) (second e q i N D v t ls k) i row
            ∙ ap (add_terms (second e q i N D v t ls k) i) (sym one) ∙ sym two)

-- the bits that are met are in the table
pub bit_inside : (N D M i : ℕ) (r : List ℤ) → Walk N D M i r → (t m : ℕ) → 1 ≤ t → t ≤ D → m < 2 * M → N * suc D + m * D + pred t < i + length r
bit_inside N D M i r w t m low high h = omega (arith, w.inside, arc_below N D M (record { number = m; parent = 0; child = 0; weight = 0 }) t h low high)

-- a row of the same length will do
pub walk_on : (N D M i : ℕ) (r s : List ℤ) → length s ≡ length r → Walk N D M i r → Walk N D M i s
walk_on N D M i r s e w = record { own = omega (arith, w.own); inside = omega (arith, w.inside) }

-- a table's row is one
pub row_walk : (limit N D A M i : ℕ) (r : List ℤ) → Row limit N D A M i r → Walk N D M i r
row_walk limit N D A M i r row = record { own = row.own; inside = row.inside }

-- where a depth has arcs, and where it has none
module _ (e : End) (q : ℤ) (i N D v t : ℕ) (ks : List Arc) where
  pub within_yes : 1 ≤ t → t ≤ D → pairs_within e q i N D v t ks ≡ pairs_at e q i N D v t ks
  unfolding pairs_within
  within_yes a b = rw (le-leb 1 t a, le-leb t D b) refl

  pub within_zero : t < 1 → pairs_within e q i N D v t ks ≡ []
  unfolding pairs_within
  within_zero h = rw (lt-leb 1 t h) refl

  pub within_deep : D < t → pairs_within e q i N D v t ks ≡ []
  unfolding pairs_within
  within_deep h = rw (lt-leb t D h) (go (leb 1 t))
    where
      go : (b : Bool) → cond (b && false) (pairs_at e q i N D v t ks) [] ≡ []
      go true = refl
      go false = refl

  module _ (r : List ℤ) where
    pub within_none : pairs_within e q i N D v t ks ≡ [] → r ≡ add_terms (pairs_within e q i N D v t ks) i r
    within_none d = sym (ap (λ (f : Formula). add_terms f i r) d ∙ add_none i r)

    pub within_added : 1 ≤ t → t ≤ D → (s : List ℤ) → s ≡ add_terms (pairs_at e q i N D v t ks) i r → s ≡ add_terms (pairs_within e q i N D v t ks) i r
    within_added a b s d = d ∙ ap (λ (f : Formula). add_terms f i r) (sym (within_yes a b))

    pub into_room : 1 ≤ t → t ≤ D → Room (2 ^ 61) (pairs_within e q i N D v t ks) r → Room (2 ^ 61) (pairs_at e q i N D v t ks) r
    into_room a b h = rw (within_yes a b) at h
