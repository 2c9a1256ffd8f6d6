-- At the code of a plan the sum that A multiplies is 0, the arcs set cost the tree's weight, and the parents read off are the plan. Assumes nothing.
use Prim.Native.Nat.{ℕ, suc, pred, ◌+◌, ◌-◌, ◌*◌, ◌≤◌, ◌<◌}
use mathlib.Core.Path.{◌≡◌, refl, sym, ap, ap₂, ◌∙◌}
use mathlib.Core.Logic.{⊎_elim}
use mathlib.Core.Bool.{Bool, true, false, cond}
use mathlib.Core.List.{List}
use lib.ListN.{length}
use lib.Seq.{ext_get_or}
use native.Mathlib.Omega.{arith}
use native.Mathlib.Decide.{ℕ_discrete}
use native.Mathlib.Nat.{mul-zero, zero-mul, one-mul, mul-one, mul_assoc, mul_comm}
use Rattle.lists.specs.Sums.{same, nth}
use Rattle.lists.proofs.Sums.{same_yes, same_no, gap_squared_same, sum_to_eq, sum_to_none, sum_to_same, sum_of_le, nth_suc, on_same, same_turn, sum_to_at}
use Rattle.lists.proofs.Members.{sum_of_eq, sum_of_none, sum_of_mul}
use Rattle.links.specs.Links.{total}
use Rattle.links.specs.declared.Link.{Link}
use Rattle.links.specs.Survey.{LinkOf, IsSurvey}
use Rattle.links.proofs.Graph.{graph_of}
use Rattle.links.proofs.Altered.{member_link}
use Rattle.qubo.specs.Terms.{each}
use Rattle.onehot.specs.Choices.{set_at, miss_squared, misses}
use Rattle.onehot.proofs.Codes.{each_length, each_at, misses_hot}
use Rattle.spanning.specs.Parents.{deepest, roots_of, depth_of, neighbours, is_used}
use Rattle.spanning.proofs.Shape.{Shape}
use Rattle.spanning.proofs.Depths.{at_other, not_mutual}
use Rattle.spanning.proofs.Counting.{used_sum}
use Rattle.spanning.proofs.TreeLinks.{Uses, child, parent, used_view}
use Rattle.arcs.specs.Arcs.{Arc, arcs, arc_at}
use Rattle.arcs.specs.Sums.{root_miss, depth_misses, entry_gaps, end_misses, arc_cost}
use Rattle.arcs.proofs.ArcLists.{sum_arcs, ArcOf, arc_of}
use Rattle.neighbours.specs.Formula.{degree_gaps}
use Rattle.tree.specs.Formula.{bits_of, broken}
use Rattle.tree.specs.Plans.{is_plan, tree_weight, bit_of_depth, code_of}
use Rattle.tree.specs.Decoding.{parent_read, candidate_to, candidate}
use Rattle.tree.proofs.Arcs.{arcs_leading}
use Rattle.tree.proofs.Agree.{broken_eq, cost_eq, parents_eq}
use Rattle.tree.proofs.CodeBits.{code_bits, list_bits, code_agrees}
use Rattle.tree.proofs.Written.{one_arc, depth_bit_same, choice_bit, depth_zero, arc_sum, entries_code, touches_code}
use Rattle.tree.proofs.PlanFacts.{plan_rooted, plan_shape, plan_few, some_neighbour}

-- ---- weights

-- a weight that counts or does not
cond_le : (t : Bool) (w : ℕ) → cond t w 0 ≤ w
cond_le true w = omega arith
cond_le false w = omega arith

-- a tree's weight is at most that of all links
pub weight_total : (ls : List Link) (p : List ℕ) → tree_weight ls p ≤ total ls
unfolding tree_weight total
weight_total ls p = omega (arith, used_sum p (λ l. l.weight) ls, sum_of_le ls (λ l. cond (is_used p l) l.weight 0) (λ l. l.weight) (λ l. cond_le (is_used p l) l.weight))

-- ---- squares that are 0

-- one bit set is no miss
miss_none : (k : ℕ) → k ≡ 1 → miss_squared k ≡ 0
unfolding miss_squared
miss_none k e = rw e refl

-- an arc at the depth below its parent's misses no end
ends_none : (h x i : ℕ) → 1 ≤ i → x * same (suc h) i * (2 - (same h (pred i) + same (suc h) i)) ≡ 0
ends_none h x i l =
    elim (ℕ_discrete (suc h) i) [
      | yes e ↦ let z : 2 - (same h (pred i) + same (suc h) i) ≡ 0 = omega (arith, same_yes (suc h) i e, same_yes h (pred i) (omega arith)) in rw z (mul-zero _)
      | no e ↦ rw (same_no (suc h) i e, mul-zero x) (zero-mul _)
    ]

module _ (N D : ℕ) (ls : List Link) (p : List ℕ) (s : IsSurvey N ls) (t : Shape N D ls p) where
  -- ---- the sums of depths and arcs

  -- one meter is at depth 0
  roots_none : root_miss N (code_bits N p).dep ≡ 0
  unfolding root_miss code_bits roots_of
  roots_none = miss_none _ (sum_to_eq N _ (λ v. same (nth p v) 0) (λ v a b. depth_zero N D ls p s t v a b) ∙ t.one_root)

  -- each meter is at one depth
  depths_none : depth_misses N D (code_bits N p).dep ≡ 0
  unfolding depth_misses code_bits set_at
  depths_none = (misses_hot N (suc D) _).1 (λ v a b. let l = t.low v a b in
      sum_to_eq (suc D) _ (same (suc l.0)) (λ i c d. let e : suc (pred i) ≡ i = omega arith in ap₂ (λ (o : ℕ) (j : ℕ). same o j) (ap bit_of_depth l.1) e)
      ∙ sum_to_same (suc D) (suc l.0) (omega arith) (omega (arith, l.2)))

  -- at each depth from 1 on, as many arcs lead into a meter as it has depth bits set
  entries_none : entry_gaps N D (arcs ls) (code_bits N p).dep (code_bits N p).arc ≡ 0
  unfolding entry_gaps code_bits
  entries_none = sum_to_none N _ (λ v a b. sum_to_none D _ (λ i c d. gap_squared_same _ _ (sym (entries_code N D ls p s t v i a b c))))

  -- an arc from its child's parent misses no end, and any other is not set
  arc_ends : (a : Arc) → ArcOf N a → (i : ℕ) → 1 ≤ i → Dec (nth p a.child ≡ a.parent)
      → same (nth p a.child) a.parent * same (bit_of_depth (depth_of p N a.child)) (suc i) * (2 - (same (bit_of_depth (depth_of p N a.parent)) (suc (pred i)) + same (bit_of_depth (depth_of p N a.child)) (suc i))) ≡ 0
  arc_ends a e i c (no n) = rw (same_no (nth p a.child) a.parent n, zero-mul (same (bit_of_depth (depth_of p N a.child)) (suc i))) (zero-mul _)
  arc_ends a e i c (yes q) =
      let o = at_other N D ls p t a.child e.child_low e.child_high (λ z. omega (arith, e.parent_low)) in
      rw (depth_bit_same _ (suc o.0) i o.1, depth_bit_same _ o.0 (pred i) (ap (depth_of p N) (sym q) ∙ o.2)) (ends_none o.0 (same (nth p a.child) a.parent) i c)

  -- so no arc that is set misses an end
  ends_zero : end_misses D (arcs ls) (code_bits N p).dep (code_bits N p).arc ≡ 0
  unfolding end_misses code_bits
  ends_zero = sum_of_none (arcs ls) _ (λ a m. sum_to_none D _ (λ i c d.
      ap (λ (x : ℕ). x * (2 - (same (bit_of_depth (depth_of p N a.parent)) (suc (pred i)) + same (bit_of_depth (depth_of p N a.child)) (suc i)))) (choice_bit N p a i c)
      ∙ arc_ends a (arc_of N ls (graph_of N ls s) a m) i c (ℕ_discrete (nth p a.child) a.parent)))

  -- ---- the sums of neighbour counts

  module _ (d : ℕ) (some : (v : ℕ) → 1 ≤ v → v ≤ N → 1 ≤ neighbours N p v) (few : (v : ℕ) → 1 ≤ v → v ≤ N → neighbours N p v ≤ d) where
    -- each meter has one neighbour count
    counts_none : misses N d (code_bits N p).cnt ≡ 0
    unfolding code_bits set_at
    counts_none = (misses_hot N d _).1 (λ v a b. sum_to_same d (neighbours N p v) (some v a b) (few v a b))

    -- and that is the number of arcs at it
    degrees_none : degree_gaps N D d (arcs ls) (code_bits N p).arc (code_bits N p).cnt ≡ 0
    unfolding degree_gaps code_bits
    degrees_none = sum_to_none N _ (λ v a b. gap_squared_same _ _ (
        sum_to_eq d _ (λ j. same (neighbours N p v) j * j) (λ j c e. mul_comm j (same (neighbours N p v) j))
        ∙ sum_to_at d (neighbours N p v) (λ j. j) (some v a b) (few v a b)
        ∙ sym (touches_code N D ls p s t v a b)))

    -- so the whole is 0
    broken_none : broken N D d (arcs ls) (code_bits N p) ≡ 0
    unfolding broken
    broken_none = omega (arith, roots_none, depths_none, entries_none, counts_none, degrees_none, ends_zero)

  -- ---- the cost

  -- the arcs of a link count its weight once where the tree uses it
  link_cost : (l : Link) → LinkOf N l → l.weight * same (nth p l.v) l.u + l.weight * same (nth p l.u) l.v ≡ cond (is_used p l) l.weight 0
  link_cost l f = ⊎_elim
      (λ q. rw q.0 (used q.1))
      (λ q. rw (q.0, same_no (nth p l.v) l.u (λ e. q.1 (parent e)), same_no (nth p l.u) l.v (λ e. q.1 (child e)), mul-zero l.weight) refl)
      (used_view p l)
    where
      apart : nth p l.u ≡ l.v → nth p l.v ≡ l.u → ⊥
      apart = not_mutual N D ls p t l.u l.v f.u_low (omega (arith, f.ordered, f.v_high)) (omega (arith, f.u_low, f.ordered)) f.v_high

      used : Uses p l.u l.v → l.weight * same (nth p l.v) l.u + l.weight * same (nth p l.u) l.v ≡ l.weight
      used (child e) = rw (same_yes (nth p l.u) l.v e, same_no (nth p l.v) l.u (λ q. apart e q), mul-zero l.weight, mul-one l.weight) (omega arith)
      used (parent e) = rw (same_yes (nth p l.v) l.u e, same_no (nth p l.u) l.v (λ q. apart q e), mul-zero l.weight, mul-one l.weight) (omega arith)

  -- all arcs together
  tree_cost : arc_cost D (arcs ls) (code_bits N p).arc ≡ tree_weight ls p
  unfolding arc_cost code_bits tree_weight total
  tree_cost =
      sum_of_eq (arcs ls) _ (λ a. a.weight * same (nth p a.child) a.parent) (λ a m. ap (λ (x : ℕ). a.weight * x) (arc_sum N D ls p s t a m))
      ∙ sum_arcs ls (λ a. a.weight * same (nth p a.child) a.parent) (λ l. cond (is_used p l) l.weight 0) (λ k l i. link_cost l (member_link N ls s.each l i))
      ∙ sym (used_sum p (λ l. l.weight) ls)

  -- ---- the parents read off

  -- the one arc set into a meter gives its parent
  parent_code : (v : ℕ) → 1 ≤ v → v ≤ N → parent_read D (arcs ls) (code_bits N p).arc v ≡ nth p v
  unfolding parent_read arcs_leading code_bits
  parent_code v a b =
      sum_of_eq (arcs ls) _ (λ k. same k.child v * same k.parent (nth p v) * nth p v)
      (λ k m. ap (λ (x : ℕ). same k.child v * x * k.parent) (arc_sum N D ls p s t k m)
      ∙ mul_assoc (same k.child v) (same (nth p k.child) k.parent) k.parent
      ∙ on_same k.child v _ (same k.parent (nth p v) * nth p v) (λ e. same_turn (λ y. y) (nth p k.child) (nth p v) k.parent (ap (nth p) e))
      ∙ sym (mul_assoc (same k.child v) (same k.parent (nth p v)) (nth p v)))
      ∙ sum_of_mul (arcs ls) (λ k. same k.child v * same k.parent (nth p v)) (nth p v)
      ∙ elim (ℕ_discrete (nth p v) 0) [
        | yes e ↦ rw e (mul-zero _)
        | no e ↦ let z : arcs_leading (arcs ls) (nth p v) v ≡ 1 = one_arc N D ls p s t v a b e in rw z (one-mul (nth p v))
      ]

  -- so all of them
  parents_code : each N (parent_read D (arcs ls) (code_bits N p).arc) ≡ p
  parents_code =
      ext_get_or 0 _ p (each_length N _ ∙ sym t.len)
      (λ i h. let k : i < N = omega (arith, h, each_length N (parent_read D (arcs ls) (code_bits N p).arc)) in
      each_at N (parent_read D (arcs ls) (code_bits N p).arc) i k ∙ parent_code (suc i) (omega arith) k ∙ nth_suc p i)

-- ---- the code of a plan

module _ (N d : ℕ) (ls : List Link) (s : IsSurvey N ls) where
  -- the sum that A multiplies is 0
  pub code_broken : 2 ≤ N → (p : List ℕ) → is_plan N d ls p ≡ true → broken N (deepest N) d (arcs ls) (bits_of N (deepest N) (length ls) d (code_of N d ls p)) ≡ 0
  code_broken n2 p e =
      broken_eq N (deepest N) d (arcs ls) _ (code_bits N p) (code_agrees N d ls p) (arc_of N ls (graph_of N ls s))
      ∙ broken_none N (deepest N) ls p s (plan_shape N d ls p e) d (some_neighbour N (deepest N) ls p s n2 (plan_rooted N d ls p e)) (plan_few N d ls p e)

  -- the arcs set cost the tree's weight
  pub code_cost : (p : List ℕ) → is_plan N d ls p ≡ true → arc_cost (deepest N) (arcs ls) (arc_at N (deepest N) (code_of N d ls p)) ≡ tree_weight ls p
  unfolding bits_of
  code_cost p e = cost_eq N (deepest N) d (arcs ls) (list_bits N d ls (code_of N d ls p)) (code_bits N p) (code_agrees N d ls p) ∙ tree_cost N (deepest N) ls p s (plan_shape N d ls p e)

  -- the parents read off are the plan
  pub candidate_code : (p : List ℕ) → is_plan N d ls p ≡ true → candidate N ls (code_of N d ls p) ≡ p
  unfolding candidate_to bits_of
  candidate_code p e = parents_eq N (deepest N) d (arcs ls) (list_bits N d ls (code_of N d ls p)) (code_bits N p) (code_agrees N d ls p) ∙ parents_code N (deepest N) ls p s (plan_shape N d ls p e)
