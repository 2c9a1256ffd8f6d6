-- Rooted trees and spanning trees: the links of a rooted tree are a spanning tree, and every spanning tree has a root with no depth over N/2. Assumes nothing.
use Prim.Native.Nat.{ℕ, zero, suc, ◌≤◌}
use mathlib.Core.Bool.{true}
use mathlib.Core.Path.{◌≡◌, refl, sym, ap, ◌∙◌, subst}
use mathlib.Core.List.{List}
use lib.ListN.{length}
use native.Mathlib.Nat.{suc_inj}
use native.Mathlib.Decide.{ℕ_discrete}
use native.Mathlib.Omega.{arith}
use Rattle.lists.specs.Sums.{same, nth}
use Rattle.lists.proofs.Sums.{same_yes, sum_to_two}
use Rattle.links.specs.Links.{link_ok, degree}
use Rattle.links.specs.declared.Link.{Link}
use Rattle.links.specs.Survey.{IsSurvey}
use Rattle.std.specs.Prelude.{Some}
use Rattle.spanning.specs.Parents.{deepest, depth_of, roots_of, is_rooted, neighbours, tree_links}
use Rattle.spanning.specs.Spanning.{Linked, Reach, stay, go, Sub, Spanning}
use Rattle.spanning.proofs.Shape.{Shape, shape_of, shape_test, linked_flip}
use Rattle.spanning.proofs.Depths.{linked_in, parent_in, depth_parent}
use Rattle.spanning.proofs.TreeLinks.{survey_distinct, sub_all, sub_linked, sub_full, Uses, child, parent, tree_sub, tree_linked, tree_within}
use Rattle.spanning.proofs.Counting.{tree_count, tree_degree}
use Rattle.spanning.proofs.Rooted.{rooted_shape}
use Rattle.spanning.proofs.Centre.{centre}
use Rattle.spanning.proofs.Growing.{tree_over}

-- ---- reaching

-- a link first, then the way on
reach_before : {T : List Link} {a b c : ℕ} → Linked a b T → Reach T b c → Reach T a c
reach_before k stay = go stay k
reach_before k (go r m) = go (reach_before k r) m

-- the way back
reach_flip : {T : List Link} {a b : ℕ} → Reach T a b → Reach T b a
reach_flip stay = stay
reach_flip (go r k) = reach_before (linked_flip k) (reach_flip r)

-- one way after the other
reach_trans : {T : List Link} {a b c : ℕ} → Reach T a b → Reach T b c → Reach T a c
reach_trans r stay = r
reach_trans r (go s k) = go (reach_trans r s) k

-- ---- from a rooted tree to a spanning tree

-- a root that can be reached from v over T
record ToRoot (N : ℕ) (T : List Link) (p : List ℕ) (v : ℕ) : Type 0 where
  root : ℕ
  root_low : 1 ≤ root
  root_high : root ≤ N
  no_parent : nth p root ≡ 0
  reached : Reach T v root

module _ (N D : ℕ) (ls : List Link) (p : List ℕ) (s : IsSurvey N ls) (t : Shape N D ls p) where
  -- there is one root only
  only_root : (u v : ℕ) → 1 ≤ u → u ≤ N → 1 ≤ v → v ≤ N → nth p u ≡ 0 → nth p v ≡ 0 → u ≡ v
  unfolding roots_of
  only_root u v a b c d e f =
      elim (ℕ_discrete u v) [
        | yes q ↦ q
        | no q ↦ absurd (omega (arith, sum_to_two N (λ x. same (nth p x) 0) u v a b c d q, t.one_root, same_yes (nth p u) 0 e, same_yes (nth p v) 0 f))
      ]

  -- it is reached parent by parent, in as many steps as the depth
  climb : (h v : ℕ) → 1 ≤ v → v ≤ N → depth_of p N v ≡ Some h → ToRoot N (tree_links p ls) p v
  climb zero v a b e =
      elim (ℕ_discrete (nth p v) 0) [
        | yes q ↦ record { root = v; root_low = a; root_high = b; no_parent = q; reached = stay }
        | no n ↦ absurd (omega (arith, (depth_parent p N v 0 e n).1))
      ]
  climb (suc h) v a b e =
      elim (ℕ_discrete (nth p v) 0) [
        | yes q ↦ record { root = v; root_low = a; root_high = b; no_parent = q; reached = stay }
        | no n ↦
            let d = depth_parent p N v (suc h) e n in
            let i = parent_in N D ls p s t v a b n in
            let r = climb h (nth p v) i.0 i.1 (d.2 ∙ ap Some (sym (suc_inj d.1))) in
            record {
              root = r.root;
              root_low = r.root_low;
              root_high = r.root_high;
              no_parent = r.no_parent;
              reached = reach_before (tree_linked p (child refl) (t.linked v a b n)) r.reached;
            }
      ]

  -- so each meter is reached from every other
  joined : (a b : ℕ) → 1 ≤ a → a ≤ N → 1 ≤ b → b ≤ N → Reach (tree_links p ls) a b
  joined a b a1 aN b1 bN =
      let x = climb (t.low a a1 aN).0 a a1 aN (t.low a a1 aN).1 in
      let y = climb (t.low b b1 bN).0 b b1 bN (t.low b b1 bN).1 in
      let e : y.root ≡ x.root = only_root y.root x.root y.root_low y.root_high x.root_low x.root_high y.no_parent x.no_parent in
      reach_trans x.reached (subst (λ (r : ℕ). Reach (tree_links p ls) r b) e (reach_flip y.reached))

-- a rooted tree's links are a spanning tree
pub rooted_spanning : (N D : ℕ) (ls : List Link) (p : List ℕ) → IsSurvey N ls → is_rooted N D ls p ≡ true → Spanning N ls (tree_links p ls)
rooted_spanning N D ls p s e =
    let t = shape_of N D ls p e in
    record { sub = tree_sub p ls; count = tree_count N D ls p s t; joined = joined N D ls p s t }

-- a meter is an end of as many of them as it has neighbours
pub rooted_degree : (N D : ℕ) (ls : List Link) (p : List ℕ) → IsSurvey N ls → is_rooted N D ls p ≡ true → (m : ℕ) → 1 ≤ m → m ≤ N → degree m (tree_links p ls) ≡ neighbours N p m
rooted_degree N D ls p s e = tree_degree N D ls p s (shape_of N D ls p e)

-- ---- from a spanning tree to a rooted tree

-- a tree over some links is one over all
shape_sub : (N D : ℕ) (T ls : List Link) (p : List ℕ) → Sub T ls → Shape N D T p → Shape N D ls p
shape_sub N D T ls p i t = record { len = t.len; one_root = t.one_root; linked = λ v a b n. sub_linked i (t.linked v a b n); low = t.low }

module _ (N D : ℕ) (ls T : List Link) (p : List ℕ) (s : IsSurvey N ls) (i : Sub T ls) (t : Shape N D T p) where
  -- of all links it uses neighbours over its own only
  own : (a b : ℕ) → Linked a b ls → Uses p a b → Linked a b T
  own a b k (child e) =
      let r = linked_in N ls s.each k in
      subst (λ (x : ℕ). Linked a x T) e (t.linked a r.0 r.1 (λ z. omega (arith, r.2)))
  own a b k (parent e) =
      let r = linked_in N ls s.each k in
      linked_flip (subst (λ (x : ℕ). Linked b x T) e (t.linked b r.2 r.3 (λ z. omega (arith, r.0))))

  -- and where they are N - 1, all of them
  uses_all : suc (length T) ≡ N → tree_links p ls ≡ T
  uses_all c = sub_full (tree_within p i (survey_distinct N ls s) own) (suc_inj (tree_count N D ls p s (shape_sub N D T ls p i t) ∙ sym c))

-- every spanning tree has a root with no depth over N/2
pub shallow_root : (N : ℕ) (ls T : List Link) → IsSurvey N ls → Spanning N ls T → (p : List ℕ) × (is_rooted N (deepest N) ls p ≡ true) × (tree_links p ls ≡ T)
unfolding deepest
shallow_root N ls T s g =
    let r = tree_over N T (sub_all (link_ok N) g.sub s.each) s.meters_low (λ x a b. g.joined 1 x (omega arith) s.meters_low a b) in
    let c = centre N T r.0 r.1 in
    let t = rooted_shape N (deepest N) T c.0 c.1 c.2 in
    (c.0, shape_test N (deepest N) ls c.0 (shape_sub N (deepest N) T ls c.0 g.sub t), uses_all N (deepest N) ls T c.0 s g.sub t g.count)
