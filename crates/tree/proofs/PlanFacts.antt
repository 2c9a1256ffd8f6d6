-- What the test is_plan says, as facts: a rooted tree of few neighbours, whose links are a spanning tree within the limit. Assumes nothing.
use Prim.Native.Nat.{ℕ, ◌≤◌}
use mathlib.Core.Path.{◌≡◌, refl, sym, ap}
use mathlib.Core.Bool.{true, or-true}
use mathlib.Core.List.{List}
use native.Mathlib.Omega.{arith}
use native.Mathlib.Decide.{ℕ_discrete}
use lib.Dec.{eqb, leb}
use borrow.Author.Tests.{leb-true, le-leb, eq-eqb}
use Rattle.lists.proofs.Tests.{and_left, and_right, and_both, all_from, from_all}
use Rattle.links.specs.Links.{is_at, degree, total}
use Rattle.links.specs.declared.Link.{Link}
use Rattle.links.specs.Survey.{IsSurvey}
use Rattle.qubo.specs.Best.{LeastPlan}
use Rattle.spanning.specs.Parents.{deepest, is_rooted, neighbours, tree_links}
use Rattle.spanning.specs.Spanning.{along, back, Linked, here, there, Reach, stay, go, Spanning, WithinLimit, BestTree}
use Rattle.spanning.proofs.Shape.{Shape, shape_of}
use Rattle.spanning.proofs.Trees.{rooted_spanning, rooted_degree, shallow_root}
use Rattle.tree.specs.Plans.{few_neighbours, is_plan, tree_weight}

module _ (N d : ℕ) (ls : List Link) (p : List ℕ) where
  -- a plan is a rooted tree
  pub plan_rooted : is_plan N d ls p ≡ true → is_rooted N (deepest N) ls p ≡ true
  unfolding is_plan
  plan_rooted e = and_left (is_rooted N (deepest N) ls p) _ e

  -- with the facts of one
  pub plan_shape : is_plan N d ls p ≡ true → Shape N (deepest N) ls p
  plan_shape e = shape_of N (deepest N) ls p (plan_rooted e)

  -- nobody has more than d neighbours
  pub plan_few : is_plan N d ls p ≡ true → (v : ℕ) → 1 ≤ v → v ≤ N → neighbours N p v ≤ d
  unfolding is_plan few_neighbours
  plan_few e v a b = leb-true (neighbours N p v) d (all_from (λ v. leb (neighbours N p v) d) 1 N v (and_right (is_rooted N (deepest N) ls p) _ e) a (omega arith))

  -- the facts give the test
  pub plan_test : is_rooted N (deepest N) ls p ≡ true → ((v : ℕ) → 1 ≤ v → v ≤ N → neighbours N p v ≤ d) → is_plan N d ls p ≡ true
  unfolding is_plan few_neighbours
  plan_test t few = and_both (is_rooted N (deepest N) ls p) _ t (from_all (λ v. leb (neighbours N p v) d) 1 N (λ v a b. le-leb (neighbours N p v) d (few v a (omega arith))))

-- ---- every meter has a neighbour

-- an end of a link has one
linked_degree : {b v : ℕ} {T : List Link} → Linked b v T → 1 ≤ degree v T
unfolding degree is_at
linked_degree {v = v} (here {l = l} {ls = ls} (along e f)) = rw (eq-eqb l.v v f, or-true (eqb l.u v)) (omega arith)
linked_degree {v = v} (here {l = l} {ls = ls} (back e f)) = rw (eq-eqb l.u v e) (omega arith)
linked_degree (there {l = l} {ls = ls} k) = omega (arith, linked_degree k)

-- so has a meter that is reached from another
reach_degree : {T : List Link} {w v : ℕ} → (w ≡ v → ⊥) → Reach T w v → 1 ≤ degree v T
reach_degree n stay = absurd (n refl)
reach_degree n (go r k) = linked_degree k

-- so has every meter of a tree of two or more
pub some_neighbour : (N D : ℕ) (ls : List Link) (p : List ℕ) → IsSurvey N ls → 2 ≤ N → is_rooted N D ls p ≡ true → (v : ℕ) → 1 ≤ v → v ≤ N → 1 ≤ neighbours N p v
some_neighbour N D ls p s n2 t v a b =
    let q : 1 ≤ degree v (tree_links p ls) =
    elim (ℕ_discrete v 1) [
      | yes e ↦ reach_degree (λ z. omega arith) ((rooted_spanning N D ls p s t).joined 2 v (omega arith) n2 a b)
      | no e ↦ reach_degree (λ z. e (sym z)) ((rooted_spanning N D ls p s t).joined 1 v (omega arith) (omega arith) a b)
    ] in
    omega (arith, rooted_degree N D ls p s t v a b)

-- ---- plans and spanning trees

module _ (N d : ℕ) (ls : List Link) (s : IsSurvey N ls) where
  -- a plan's links are a spanning tree within the limit, of the same weight
  pub plan_spanning : (p : List ℕ) → is_plan N d ls p ≡ true → Spanning N ls (tree_links p ls) × WithinLimit N d (tree_links p ls) × (total (tree_links p ls) ≡ tree_weight ls p)
  unfolding tree_weight
  plan_spanning p e =
      let t = plan_rooted N d ls p e in
      (rooted_spanning N (deepest N) ls p s t, record { few = λ m a b. rw (rooted_degree N (deepest N) ls p s t m a b) (plan_few N d ls p e m a b) }, refl)

  -- every spanning tree within the limit is the links of some plan, of the same weight
  pub spanning_plan : (T : List Link) → Spanning N ls T → WithinLimit N d T → (p : List ℕ) × (is_plan N d ls p ≡ true) × (tree_links p ls ≡ T) × (tree_weight ls p ≡ total T)
  unfolding tree_weight
  spanning_plan T t w =
      let r = shallow_root N ls T s t in
      let few : (v : ℕ) → 1 ≤ v → v ≤ N → neighbours N r.0 v ≤ d = λ v a b. rw (← rooted_degree N (deepest N) ls r.0 s r.1 v a b) (rw r.2 (w.few v a b)) in
      (r.0, plan_test N d ls r.0 r.1 few, r.2, ap total r.2)

  -- a plan is one of least weight exactly where its links are a best tree
  pub least_best : (p : List ℕ) → LeastPlan (is_plan N d ls) (tree_weight ls) p → BestTree N d ls (tree_links p ls)
  least_best p b =
      let t = plan_spanning p b.ok in
      record { spanning = t.0; within = t.1; least = λ S u w. let q = spanning_plan S u w in omega (arith, t.2, b.least q.0 q.1, q.3) }

  -- and the other way
  pub best_least : (p : List ℕ) → is_plan N d ls p ≡ true → BestTree N d ls (tree_links p ls) → LeastPlan (is_plan N d ls) (tree_weight ls) p
  best_least p e b = record {
    ok = e;
    least = λ q f. let t = plan_spanning q f in omega (arith, (plan_spanning p e).2, t.2, b.least (tree_links q ls) t.0 t.1);
  }
