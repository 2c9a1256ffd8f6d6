-- row_into: zeros, then the families of depths, of neighbour counts and of arcs; after each part the row is that of the terms so far. Assumes nothing.
use Prim.Native.Nat.{ℕ, ◌+◌, ◌*◌, ◌^◌, ◌≤◌, ◌<◌}
use mathlib.Core.Path.{◌≡◌, refl, sym, ap, ◌∙◌}
use mathlib.Core.List.{List, [], ◌∷◌, ◌++◌}
use lib.ListN.{length, get_or}
use lib.IntN.{ℤ, pos, nat_abs}
use native.Mathlib.Omega.{arith}
use Rattle.links.specs.declared.Link.{Link}
use Rattle.links.specs.Survey.{IsGraph}
use Rattle.qubo.specs.Formula.{Formula}
use Rattle.qubo.specs.Norm.{formula_norm}
use Rattle.qubo.specs.Table.{row_of}
use Rattle.qubo.specs.Rows.{zeros, add_terms}
use Rattle.qubo.proofs.Families.{norm_append}
use Rattle.qubo.proofs.RowAction.{add_append, add_length, added_abs, row_none, row_next, row_top, row_room}
use Rattle.arcs.specs.Arcs.{Arc, arcs, arcs_end}
use Rattle.arcs.specs.Formula.{root_term, depth_terms, entry_terms, end_terms, weight_terms}
use Rattle.arcs.specs.Inner as below
use Rattle.neighbours.proofs.CountBits.{bits_few}
use Rattle.arcs.proofs.DepthRows.{row_depths}
use Rattle.arcs.proofs.Bound.{root_norm, depths_norm, ends_norm}
use Rattle.neighbours.specs.Formula.{count_terms, degree_terms}
use Rattle.tree.specs.Formula.{formula_to}
use Rattle.neighbours.specs.Inner.{TableRow}
use Rattle.tree.specs.Inner.{depth_part, count_part, arc_part}
use Rattle.neighbours.proofs.CountValue.{counts_norm}
use Rattle.tree.proofs.Bound.{six, six_norm}

-- ---- rows on the way, with terms f added

module _ (f : Formula) (few : formula_norm f ≤ 2 ^ 57) (i : ℕ) (r s : List ℤ) (e : s ≡ add_terms f i r) where
  -- as long as before
  as_long : length s ≡ length r
  as_long = ap length e ∙ add_length f i r

  -- and still small
  still_small : ((k : ℕ) → nat_abs (get_or r k (pos 0)) ≤ 2 ^ 58) → (k : ℕ) → nat_abs (get_or s k (pos 0)) ≤ 2 ^ 59
  still_small h k = rw e (omega (arith, added_abs f i r k, h k, few))

  -- what a family of `arcs` asks
  pub next_row : (N D A M : ℕ) → below.Row (2 ^ 58) N D A M i r → below.Row (2 ^ 59) N D A M i s
  next_row N D A M t = record {
    own = omega (arith, t.own, as_long);
    inside = omega (arith, t.inside, as_long);
    short = omega (arith, t.short, as_long);
    small = still_small t.small;
    penalty = t.penalty;
  }

  -- what a family of neighbour counts asks
  pub next_counts : (N D M d A : ℕ) → TableRow (2 ^ 58) N D M d A i r → TableRow (2 ^ 59) N D M d A i s
  next_counts N D M d A t = record { own = omega (arith, t.own, as_long); whole = omega (arith, t.whole, as_long); small = still_small t.small; penalty = t.penalty }

-- ---- the three parts

module _ (N D A M i : ℕ) (r : List ℤ) (t : below.Row (2 ^ 58) N D A M i r) where
  module _ (n : N ≤ 48) (e : D ≤ 24) (s : List ℤ) (root : s ≡ add_terms (root_term A N D ∷ []) i r) where
    pub depths_ask : below.Row (2 ^ 59) N D A 0 i s
    depths_ask = row_depths (2 ^ 59) N D A M i s (next_row (root_term A N D ∷ []) (omega (arith, root_norm A N D n, t.penalty)) i r s root N D A M t)

    module _ (u : List ℤ) (depths : u ≡ add_terms (depth_terms A N D) i s) where
      both : u ≡ add_terms ((root_term A N D ∷ []) ++ depth_terms A N D) i r
      both = depths ∙ ap (add_terms (depth_terms A N D) i) root ∙ sym (add_append (root_term A N D ∷ []) (depth_terms A N D) i r)

      pub entries_ask : below.Row (2 ^ 59) N D A M i u
      entries_ask =
          next_row ((root_term A N D ∷ []) ++ depth_terms A N D)
          (omega (arith, norm_append (root_term A N D ∷ []) (depth_terms A N D), root_norm A N D n, depths_norm A N D n e, t.penalty)) i r u both N D A M t

      pub depth_part_added : (ks : List Arc) (v : List ℤ) → v ≡ add_terms (entry_terms A N D ks) i u → v ≡ add_terms (depth_part A N D ks) i r
      unfolding depth_part
      depth_part_added ks v entries = entries ∙ ap (add_terms (entry_terms A N D ks) i) both ∙ sym (add_append ((root_term A N D ∷ []) ++ depth_terms A N D) (entry_terms A N D ks) i r)

  module _ (ls : List Link) (s : List ℤ) (ends : s ≡ add_terms (end_terms A N D (arcs ls)) i r) where
    pub weights_ask : IsGraph N ls → D ≤ 24 → below.Row (2 ^ 59) N D A M i s
    weights_ask y e = next_row (end_terms A N D (arcs ls)) (omega (arith, ends_norm A N D ls y e, t.penalty)) i r s ends N D A M t

    pub arc_part_added : (v : List ℤ) → v ≡ add_terms (weight_terms N D (arcs ls)) i s → v ≡ add_terms (arc_part A N D (arcs ls)) i r
    unfolding arc_part
    arc_part_added v weights = weights ∙ ap (add_terms (weight_terms N D (arcs ls)) i) ends ∙ sym (add_append (end_terms A N D (arcs ls)) (weight_terms N D (arcs ls)) i r)

module _ (N D M d A i : ℕ) (r : List ℤ) (t : TableRow (2 ^ 58) N D M d A i r) where
  module _ (n : N ≤ 48) (e : d ≤ 47) (s : List ℤ) (counts : s ≡ add_terms (count_terms A N D M d) i r) where
    pub degrees_ask : TableRow (2 ^ 59) N D M d A i s
    degrees_ask = next_counts (count_terms A N D M d) (omega (arith, counts_norm A N D M d n e, t.penalty)) i r s counts N D M d A t

    pub count_part_added : (ks : List Arc) (v : List ℤ) → v ≡ add_terms (degree_terms A N D M d ks) i s → v ≡ add_terms (count_part A N D M d ks) i r
    unfolding count_part
    count_part_added ks v degrees = degrees ∙ ap (add_terms (degree_terms A N D M d ks) i) counts ∙ sym (add_append (count_terms A N D M d) (degree_terms A N D M d ks) i r)

-- ---- the whole row

-- two families more
row_two : (T : ℕ) (f g h : Formula) (i : ℕ) (r s : List ℤ) → r ≡ row_of f T i → s ≡ add_terms (g ++ h) i r → s ≡ row_of (f ++ g ++ h) T i
row_two T f g h i r s e a = row_next T (f ++ g) h i (add_terms g i r) s (row_next T f g i r (add_terms g i r) e refl) (a ∙ add_append g h i r)

module _ (A N D d i : ℕ) (ls : List Link) (graph : IsGraph N ls) (high : d ≤ 47) (deep : D ≤ 24) (few : A ≤ 20000000) where
  abbrev M : ℕ
  M = length ls

  abbrev T : ℕ
  T = arcs_end N D M + N * d

  -- the formula up to a part
  abbrev depths_in : Formula
  depths_in = depth_part A N D (arcs ls)

  abbrev counts_in : Formula
  counts_in = depths_in ++ count_terms A N D M d ++ degree_terms A N D M d (arcs ls)

  formula_is : formula_to D A N d ls ≡ counts_in ++ end_terms A N D (arcs ls) ++ weight_terms N D (arcs ls)
  unfolding formula_to depth_part
  formula_is = refl

  -- what is in the row before the weights, which are added last, is small
  norm_is : formula_norm counts_in < 2 ^ 54
  unfolding six
  norm_is = omega (arith, six_norm D A N d ls graph deep high, few, norm_append counts_in (end_terms A N D (arcs ls)))

  module _ (L : ℕ) (long : i + L ≡ T) (own : 1 ≤ L) where
    -- a row of terms that are small
    filled : (f : Formula) (r : List ℤ) → r ≡ row_of f T i → formula_norm f ≤ 2 ^ 57 → below.Row (2 ^ 58) N D A M i r × TableRow (2 ^ 58) N D M d A i r
    filled f r e h =
        let top = row_top T f i r (omega arith) e in
        let s = row_room (2 ^ 58) T f [] i r e (omega arith) in
        let b = bits_few N D M d graph.few_meters deep graph.few high in (
          record { own = omega arith; inside = omega arith; short = omega (arith, b); small = λ k. omega (arith, s.room k); penalty = few },
          record { own = omega arith; whole = top; small = λ k. omega (arith, s.room k); penalty = few },
        )

    module _ (r : List ℤ) (none : r ≡ zeros L) where
      pub depths_ready : below.Row (2 ^ 58) N D A M i r
      depths_ready = (filled [] r (row_none T L i r long none) (omega arith)).0

      module _ (s : List ℤ) (depths : s ≡ add_terms depths_in i r) where
        with_depths : s ≡ row_of depths_in T i
        with_depths = row_next T [] depths_in i r s (row_none T L i r long none) depths

        pub counts_ready : TableRow (2 ^ 58) N D M d A i s
        counts_ready =
            (filled depths_in s with_depths (omega (
              arith,
              norm_is,
              norm_append (depths_in ++ count_terms A N D M d) (degree_terms A N D M d (arcs ls)),
              norm_append depths_in (count_terms A N D M d),
            ))).1

        module _ (t : List ℤ) (counts : t ≡ add_terms (count_part A N D M d (arcs ls)) i s) where
          with_counts : t ≡ row_of counts_in T i
          unfolding count_part
          with_counts = row_two T depths_in (count_terms A N D M d) (degree_terms A N D M d (arcs ls)) i s t with_depths counts

          pub arcs_ready : below.Row (2 ^ 58) N D A M i t
          arcs_ready = (filled counts_in t with_counts (omega (arith, norm_is))).0

          pub row_done : (u : List ℤ) → u ≡ add_terms (arc_part A N D (arcs ls)) i t → u ≡ row_of (formula_to D A N d ls) T i
          unfolding arc_part
          row_done u arc = row_two T counts_in (end_terms A N D (arcs ls)) (weight_terms N D (arcs ls)) i t u with_counts arc ∙ ap (λ (f : Formula). row_of f T i) (sym formula_is)
