-- Only contracts between functions cite this: a reader of the public promises may skip it. What the code of this crate and of the kinds above asks for, what bit i of a table is, and what walks over the links add. Assumes nothing.
use Rattle.std.specs.Prelude.{ℕ, ◌+◌, ◌-◌, ◌^◌, ◌≤◌, pred, ◌*◌, ◌<◌, ◌≡◌, cond, ◌&&◌, length, get_or, ℤ, pos, nat_abs, ◌*ℤ◌, eqb, leb}
use mathlib.Core.List.{List, Memᴰ, [], ◌∷◌}
use Rattle.lists.specs.Sums.{sum_to, same}
use Rattle.links.specs.Survey.{EdgeOf}
use Rattle.links.specs.declared.Link.{Link}
use Rattle.qubo.specs.Formula.{Bits, Formula}
use Rattle.qubo.specs.Table.{coef}
use Rattle.qubo.specs.Terms.{over, pair}
use Rattle.arcs.specs.Arcs.{depths_end, arcs_end, Arc, arcs, depth_bit, arc_bit, depth_at}
use Rattle.arcs.specs.declared.place.Place.{Place}
use Rattle.arcs.specs.declared.place.Place.TheVariants.{OfDepth, OfArc, Behind}
use Rattle.arcs.specs.declared.rows.End.{End}
use Rattle.arcs.specs.declared.rows.End.TheVariants.{Parent, Child}
use Rattle.arcs.specs.Formula.{entering}

-- ---- a row, and a penalty that is not too large

-- row i of a table that has all bits of depths and arcs among its bits, M links' arcs, with numbers of at most `limit` and a penalty A that is not too large
pub record Row (limit N D A M i : ℕ) (row : List ℤ) : Type 0 where
  pub own : 1 ≤ length row
  pub inside : arcs_end N D M ≤ i + length row
  pub short : i + length row ≤ 2 ^ 32
  pub small : (k : ℕ) → nat_abs (get_or row k (pos 0)) ≤ limit
  pub penalty : A ≤ 20000000

-- ---- what bit i of a table is: a meter's depth, an arc's, or one behind those

-- bit i is that of meter v at depth t
pub record IsDepth (N D i v t : ℕ) : Type 0 where
  pub low : 1 ≤ v
  pub high : v ≤ N
  pub deep : t ≤ D
  pub here : depth_bit D v t ≡ i

-- bit i is that of arc a at depth t
pub record IsArc (N D : ℕ) (ls : List Link) (i : ℕ) (a : Arc) (t : ℕ) : Type 0 where
  pub among : Memᴰ a (arcs ls)
  pub low : 1 ≤ t
  pub deep : t ≤ D
  pub here : arc_bit N D a t ≡ i

-- what a place says of bit i
abbrev pub IsPlace : ℕ → ℕ → List Link → ℕ → Place → Type 0
IsPlace N D ls i (OfDepth v t) = IsDepth N D i v t
IsPlace N D ls i (OfArc k u v w t) = IsArc N D ls i (record { number = k; parent = u; child = v; weight = w }) t
IsPlace N D ls i Behind = arcs_end N D (length ls) ≤ i

-- the weight of the arc whose bit has the place q, 0 elsewhere
abbrev pub weight_in : Place → ℕ
weight_in (OfDepth v t) = 0
weight_in (OfArc k u v w t) = w
weight_in Behind = 0

-- ---- what walks over the links add: to row i, bit i times the bits of the arcs at one meter, at one depth; in an assignment, the arcs into each meter

-- q times bit i times bit p, if the end m of an arc is meter v
abbrev pub pair_at : ℤ → ℕ → ℕ → ℕ → ℕ → Formula
pair_at q i p m v = cond (eqb m v) (pair q i p ∷ []) []

-- an end of an arc
abbrev pub end_of : End → Arc → ℕ
end_of Parent a = a.parent
end_of Child a = a.child

-- those of a link's two arcs: of that from u to v, and of that back
abbrev pub both_ends : End → Link → ℕ × ℕ
both_ends Parent l = (l.u, l.v)
both_ends Child l = (l.v, l.u)

-- q times bit i times the depth-t bit of each arc that has meter v for that end
unfoldable pub pairs_at : End → ℤ → ℕ → ℕ → ℕ → ℕ → ℕ → List Arc → Formula
pairs_at e q i N D v t ks = over ks (λ a. pair_at q i (arc_bit N D a t) (end_of e a) v)

-- the same where depth t has arcs, and nothing elsewhere
unfoldable pub pairs_within : End → ℤ → ℕ → ℕ → ℕ → ℕ → ℕ → List Arc → Formula
pairs_within e q i N D v t ks = cond (leb 1 t && leb t D) (pairs_at e q i N D v t ks) []

-- where a walk of M links begins: the arc bits of those before are below bit i
abbrev pub From : ℕ → ℕ → ℕ → ℕ → ℕ → Type 0
From N D M i from = (from ≤ M) × ((k : ℕ) → k < from → arcs_end N D (k + 1) ≤ i)

-- what is walked: a row that has the bits of M links' arcs
pub record Walk (N D M i : ℕ) (row : List ℤ) : Type 0 where
  pub own : 1 ≤ length row
  pub inside : arcs_end N D M ≤ i + length row

-- in the form of meter v at depth t ≥ 1, its depth bit less the arcs into it, bit i has the coefficient 1 or -1, and q is twice A times that
pub record Held (A N D : ℕ) (ks : List Arc) (v t i : ℕ) (q : ℤ) : Type 0 where
  pub factor : ℤ
  pub has : coef ((depth_bit D v t, pos 1) ∷ over ks (entering N D v t)) i ≡ factor
  pub unit : factor *ℤ factor ≡ pos 1
  pub twice : q ≡ pos 2 *ℤ (pos A *ℤ factor)

-- ---- what the sums in an assignment x are lent, and what their walk of the links counts

-- how many bits of the two arcs of link k are set
unfoldable pub link_set : ℕ → ℕ → List ℕ → ℕ → ℕ
link_set N D x k = sum_to (2 * D) (λ t. get_or x (depths_end N D + 2 * k * D + pred t) 0)

-- over the bits of arc q, from u to v: the bit times (2 - [u one less deep] - [v as deep])
abbrev pub arc_miss : ℕ → ℕ → List ℕ → ℕ → ℕ → ℕ → ℕ
arc_miss N D x q u v = sum_to D (λ i. get_or x (depths_end N D + q * D + pred i) 0 * (2 - (depth_at D x u (pred i) + depth_at D x v i)))

-- in place k stands how many, for each of M links
pub record Used (N D M : ℕ) (x used : List ℕ) : Type 0 where
  pub size : M ≤ length used
  pub each : (k : ℕ) → k < M → get_or used k 0 ≡ link_set N D x k

-- there is room to count the arcs of link k, which is l, in the places of their children
pub record LinkFits (N D : ℕ) (x : List ℕ) (k : ℕ) (l : Link) (counts : List ℕ) : Type 0 where
  pub few : k < 256
  pub link : EdgeOf N l
  pub bits : Bits x
  pub inside : arcs_end N D (k + 1) ≤ length x
  pub size : length counts ≡ 1200
  pub small : (w t : ℕ) → 1 ≤ w → 1 ≤ t → t ≤ D → get_or counts (depth_bit D w t) 0 ≤ 47

-- the arcs are counted: that of u to v in the places of v, that of v to u in those of u
pub record LinkAdded (N D : ℕ) (x : List ℕ) (k : ℕ) (l : Link) (entry exit : List ℕ) : Type 0 where
  pub size : length exit ≡ 1200
  pub each : (w t : ℕ) → 1 ≤ w → 1 ≤ t → t ≤ D
      → get_or exit (depth_bit D w t) 0 ≡ get_or entry (depth_bit D w t) 0 + (same l.v w * get_or x (depths_end N D + 2 * k * D + pred t) 0 + same l.u w * get_or x (depths_end N D + (2 * k + 1) * D + pred t) 0)
