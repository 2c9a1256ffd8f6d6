-- Rooted trees over links, by chains of parents that end, and their depths. Assumes nothing.
use Prim.Native.Nat.{ℕ, zero, suc, ◌+◌, ◌≤◌, ◌<◌}
use mathlib.Core.Path.{◌≡◌, refl, sym, ap, ◌∙◌}
use mathlib.Core.Logic.{◌≢◌}
use mathlib.Core.List.{List}
use lib.ListN.{length, set, length-set}
use lib.Seq.{get_or-set_same, get_or-set_other}
use native.Mathlib.Decide.{ℕ_discrete}
use native.Mathlib.Omega.{arith}
use Rattle.std.specs.Prelude.{Some}
use Rattle.lists.specs.Sums.{same, nth}
use Rattle.lists.proofs.Sums.{nth_zero, same_yes, same_no, sum_to_eq, sum_to_same}
use Rattle.links.specs.declared.Link.{Link}
use Rattle.spanning.specs.Parents.{depth_of, roots_of}
use Rattle.spanning.specs.Spanning.{Linked}
use Rattle.spanning.proofs.Shape.{Shape}
use Rattle.spanning.proofs.Depths.{at_inj, depth_more, depth_root, depth_child}
use Rattle.spanning.proofs.Chains.{up}

-- ---- one parent changed

-- the parent of meter v made u
pub with_parent : List ℕ → ℕ → ℕ → List ℕ
with_parent p zero u = p
with_parent p (suc i) u = set p i u

-- as many as before
pub with_length : (p : List ℕ) (v u : ℕ) → length (with_parent p v u) ≡ length p
unfolding with_parent
with_length p zero u = refl
with_length p (suc i) u = length-set p i u

-- the parent of v
pub with_same : (p : List ℕ) (v u : ℕ) → 1 ≤ v → v ≤ length p → nth (with_parent p v u) v ≡ u
unfolding nth with_parent
with_same p zero u h k = absurd (omega arith)
with_same p (suc i) u h k = get_or-set_same p i u 0 k

-- any other parent
pub with_other : (p : List ℕ) (v u x : ℕ) → x ≢ v → nth (with_parent p v u) x ≡ nth p x
unfolding nth with_parent
with_other p zero u x n = refl
with_other p (suc i) u zero n = refl
with_other p (suc i) u (suc j) n = get_or-set_other p i j u 0 (λ e. n (ap suc e))

-- ---- rooted trees

-- no depth is h or more: the h-th ancestor of each meter is none
abbrev pub Below : ℕ → List ℕ → ℕ → Type 0
Below N p h = (v : ℕ) → v ≤ N → up (nth p) h v ≡ 0

-- a tree on N meters with one root, where each other meter is linked with its parent over T, and no ring
pub record Rooted (N : ℕ) (T : List Link) (p : List ℕ) : Type 0 where
  pub len : length p ≡ N
  pub root : ℕ
  pub root_in : (1 ≤ root) × (root ≤ N)
  pub no_parent : nth p root ≡ 0
  pub others : (v : ℕ) → 1 ≤ v → v ≤ N → v ≢ root → (1 ≤ nth p v) × (nth p v ≤ N) × Linked v (nth p v) T
  pub ends : Below N p N

module _ {N : ℕ} {T : List Link} {p : List ℕ} (t : Rooted N T p) where
  -- parents are at most N
  pub parent_le : (v : ℕ) → v ≤ N → nth p v ≤ N
  parent_le v h = go (ℕ_discrete v 0) (ℕ_discrete v t.root)
    where
      go : Dec (v ≡ 0) → Dec (v ≡ t.root) → nth p v ≤ N
      go (yes e) d = rw e (omega (arith, nth_zero p))
      go (no m) (yes e) = rw e (omega (arith, t.no_parent))
      go (no m) (no k) = (t.others v (omega arith) h k).1

  -- a meter with no parent is the root
  pub is_root : (v : ℕ) → v ≢ 0 → v ≤ N → nth p v ≡ 0 → v ≡ t.root
  is_root v m h e =
      elim (ℕ_discrete v t.root) [
        | yes q ↦ q
        | no q ↦ absurd (omega (arith, (t.others v (omega arith) h q).0))
      ]

-- ---- depths

-- a chain that ends within k steps gives a depth below k
chain_depth : (p : List ℕ) (k v : ℕ) → v ≢ 0 → up (nth p) k v ≡ 0 → (h : ℕ) × (depth_of p k v ≡ Some h) × (h < k)
unfolding up
chain_depth p zero v n e = absurd (n e)
chain_depth p (suc k) v n e =
    elim (ℕ_discrete (nth p v) 0) [
      | yes q ↦ (0, depth_root p (suc k) v (omega arith) q, omega arith)
      | no q ↦ let r = chain_depth p k (nth p v) q e in (suc r.0, depth_child p k v r.0 q r.1, omega (arith, r.2))
    ]

-- a rooted tree with no depth over D has the shape that the test asks for
pub rooted_shape : (N D : ℕ) (T : List Link) (p : List ℕ) → Rooted N T p → Below N p (suc D) → Shape N D T p
unfolding roots_of
rooted_shape N D T p t b = record {
  len = t.len;
  one_root = sum_to_eq N (λ v. same (nth p v) 0) (same t.root) alone ∙ sum_to_same N t.root t.root_in.0 t.root_in.1;
  linked = λ v l k n. (t.others v l k (λ q. n (ap (nth p) q ∙ t.no_parent))).2;
  low = low;
}
  where
    alone : (v : ℕ) → 1 ≤ v → v ≤ N → same (nth p v) 0 ≡ same t.root v
    alone v l k =
        elim (ℕ_discrete v t.root) [
          | yes q ↦ same_yes (nth p v) 0 (ap (nth p) q ∙ t.no_parent) ∙ sym (same_yes t.root v (sym q))
          | no q ↦ same_no (nth p v) 0 (λ e. q (is_root t v (omega arith) k e)) ∙ sym (same_no t.root v (λ e. q (sym e)))
        ]

    low : (v : ℕ) → 1 ≤ v → v ≤ N → (h : ℕ) × (depth_of p N v ≡ Some h) × (h ≤ D)
    low v l k =
        let x = chain_depth p N v (omega arith) (t.ends v k) in
        let y = chain_depth p (suc D) v (omega arith) (b v k) in
        let e : x.0 ≡ y.0 = at_inj x.0 y.0 (sym (depth_more p N (N + suc D) v x.0 (omega arith) x.1) ∙ depth_more p (suc D) (N + suc D) v y.0 (omega arith) y.1) in
        (x.0, x.1, omega (arith, y.2))
