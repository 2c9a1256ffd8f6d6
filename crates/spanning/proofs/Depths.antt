-- The depths of a rooted tree: 0 at the root, one more than the parent's elsewhere, whatever number of steps they are found with. Assumes nothing.
use Prim.Native.Nat.{ℕ, zero, suc, ◌≤◌}
use mathlib.Core.Bool.{true}
use mathlib.Core.Path.{◌≡◌, refl, sym, ap, ◌∙◌}
use mathlib.Core.Logic.{◌⊎◌, inl, inr, ⊎_elim}
use mathlib.Core.List.{List}
use native.Mathlib.Omega.{arith}
use Rattle.std.specs.Prelude.{Option, Some, None}
use Rattle.lists.specs.Tests.{all}
use Rattle.lists.specs.Sums.{nth}
use Rattle.lists.proofs.Tests.{all_head, all_tail}
use Rattle.links.specs.Links.{link_ok}
use Rattle.links.specs.declared.Link.{Link}
use Rattle.links.specs.Survey.{LinkOf, IsSurvey}
use Rattle.links.proofs.Altered.{link_of}
use Rattle.spanning.specs.Parents.{under, depth_of}
use Rattle.spanning.specs.Spanning.{Joins, along, back, Linked, here, there}
use Rattle.spanning.proofs.Shape.{Shape}

-- ---- the ends of links

-- the ends of a link of N meters, in either order, are two meters
pub joins_in : (N : ℕ) (l : Link) → LinkOf N l → {a b : ℕ} → Joins l a b → (1 ≤ a) × (a ≤ N) × (1 ≤ b) × (b ≤ N)
joins_in N l f (along e h) = omega (arith, f.u_low, f.ordered, f.v_high)
joins_in N l f (back e h) = omega (arith, f.u_low, f.ordered, f.v_high)

linked_in_each : (N : ℕ) {a b : ℕ} (ls : List Link) → all (link_ok N) ls ≡ true → Linked a b ls → (1 ≤ a) × (a ≤ N) × (1 ≤ b) × (b ≤ N)
linked_in_each N _ o (here {l = l} {ls = ls} j) = joins_in N l (link_of N l (all_head (link_ok N) l ls o)) j
linked_in_each N _ o (there {l = l} {ls = ls} k) = linked_in_each N ls (all_tail (link_ok N) l ls o) k

-- so are neighbours over links of N meters
pub linked_in : (N : ℕ) (ls : List Link) → all (link_ok N) ls ≡ true → {a b : ℕ} → Linked a b ls → (1 ≤ a) × (a ≤ N) × (1 ≤ b) × (b ≤ N)
linked_in N ls o k = linked_in_each N ls o k

-- in a tree over a survey's links the parent of a meter is a meter
pub parent_in : (N D : ℕ) (ls : List Link) (p : List ℕ) → IsSurvey N ls → Shape N D ls p → (v : ℕ) → 1 ≤ v → v ≤ N → (nth p v ≡ 0 → ⊥) → (1 ≤ nth p v) × (nth p v ≤ N)
parent_in N D ls p s t v a b n = let r = linked_in N ls s.each (t.linked v a b n) in (r.2, r.3)

-- ---- depths

-- equal depths are equal numbers
pub at_inj : (g h : ℕ) → Some g ≡ Some h → g ≡ h
at_inj g h e = cc

-- a meter whose parent is u and has the depth d is the root, or one deeper than its parent
under_cases : (u : ℕ) (d : Option ℕ) (h : ℕ) → under u d ≡ Some h → ((u ≡ 0) × (h ≡ 0)) ⊎ ((u ≡ 0 → ⊥) × ((g : ℕ) × (d ≡ Some g) × (h ≡ suc g)))
under_cases zero d h e = inl (refl, sym (at_inj 0 h e))
under_cases (suc u) (Some g) h e = inr ((λ z. omega arith), (g, refl, sym (at_inj (suc g) h e)))
under_cases (suc u) None h e = absurd (let z : ◌≡◌ {A = ℕ} 0 1 = cc in omega arith)

-- the root's
under_root : (u : ℕ) (d : Option ℕ) → u ≡ 0 → under u d ≡ Some 0
under_root u d e = rw e

-- any other meter's
under_other : (u : ℕ) (d : Option ℕ) (g : ℕ) → (u ≡ 0 → ⊥) → d ≡ Some g → under u d ≡ Some (suc g)
under_other zero d g n e = absurd (n refl)
under_other (suc u) d g n e = rw e

-- a depth that is found with some steps is found with more
pub depth_more : (p : List ℕ) (k m v h : ℕ) → k ≤ m → depth_of p k v ≡ Some h → depth_of p m v ≡ Some h
unfolding depth_of
depth_more p zero m v h l e = absurd (let z : ◌≡◌ {A = ℕ} 0 1 = cc in omega arith)
depth_more p (suc k) zero v h l e = absurd (omega arith)
depth_more p (suc k) (suc m) v h l e =
    ⊎_elim
    (λ r. under_root (nth p v) (depth_of p m (nth p v)) r.0 ∙ ap Some (sym r.1))
    (λ r. under_other (nth p v) (depth_of p m (nth p v)) r.1.0 r.0 (depth_more p k m (nth p v) r.1.0 (omega arith) r.1.1) ∙ ap Some (sym r.1.2))
    (under_cases (nth p v) (depth_of p k (nth p v)) h e)

-- a depth found within N steps, where the meter has a parent: the parent's is one less
pub depth_parent : (p : List ℕ) (N v h : ℕ) → depth_of p N v ≡ Some h → (nth p v ≡ 0 → ⊥) → (g : ℕ) × (h ≡ suc g) × (depth_of p N (nth p v) ≡ Some g)
unfolding depth_of
depth_parent p zero v h e n = absurd (let z : ◌≡◌ {A = ℕ} 0 1 = cc in omega arith)
depth_parent p (suc k) v h e n =
    ⊎_elim
    (λ r. absurd (n r.0))
    (λ r. (r.1.0, r.1.2, depth_more p k (suc k) (nth p v) r.1.0 (omega arith) r.1.1))
    (under_cases (nth p v) (depth_of p k (nth p v)) h e)

-- the depth of a root is found with a step
pub depth_root : (p : List ℕ) (k v : ℕ) → 1 ≤ k → nth p v ≡ 0 → depth_of p k v ≡ Some 0
unfolding depth_of
depth_root p zero v l e = absurd (omega arith)
depth_root p (suc k) v l e = under_root (nth p v) (depth_of p k (nth p v)) e

-- any other depth with a step more than the parent's
pub depth_child : (p : List ℕ) (k v g : ℕ) → (nth p v ≡ 0 → ⊥) → depth_of p k (nth p v) ≡ Some g → depth_of p (suc k) v ≡ Some (suc g)
unfolding depth_of
depth_child p k v g n e = under_other (nth p v) (depth_of p k (nth p v)) g n e

-- in a tree a meter other than the root is one deeper than its parent
pub at_other : (N D : ℕ) (ls : List Link) (p : List ℕ) → Shape N D ls p → (v : ℕ) → 1 ≤ v → v ≤ N → (nth p v ≡ 0 → ⊥) → (h : ℕ) × (depth_of p N v ≡ Some (suc h)) × (depth_of p N (nth p v) ≡ Some h) × (suc h ≤ D)
at_other N D ls p t v a b n =
    let d = t.low v a b in
    let g = depth_parent p N v d.0 d.1 n in
    (g.0, d.1 ∙ ap Some g.1, g.2, omega (arith, d.2, g.1))

-- so no two meters are each other's parents
pub not_mutual : (N D : ℕ) (ls : List Link) (p : List ℕ) → Shape N D ls p → (u v : ℕ) → 1 ≤ u → u ≤ N → 1 ≤ v → v ≤ N → nth p u ≡ v → nth p v ≡ u → ⊥
not_mutual N D ls p t u v u1 uN v1 vN e f =
    let x = at_other N D ls p t u u1 uN (λ z. omega arith) in
    let y = at_other N D ls p t v v1 vN (λ z. omega arith) in
    let a : suc y.0 ≡ x.0 = at_inj _ _ (sym y.1 ∙ ap (depth_of p N) (sym e) ∙ x.2) in
    let b : suc x.0 ≡ y.0 = at_inj _ _ (sym x.1 ∙ ap (depth_of p N) (sym f) ∙ y.2) in
    omega arith
