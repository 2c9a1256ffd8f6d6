-- The bits of a code of a rooted tree: each arc from a parent is set at its child's depth, so as many arcs are set at a meter as it has neighbours, and what they cost is the tree's weight. Assumes nothing.
use Prim.Native.Nat.{ℕ, suc, ◌+◌, ◌*◌, ◌≤◌}
use mathlib.Core.Path.{◌≡◌, refl, sym, ap, ap₂, ◌∙◌}
use mathlib.Core.List.{List, Memᴰ}
use native.Mathlib.Omega.{arith}
use native.Mathlib.Decide.{ℕ_discrete}
use native.Mathlib.Nat.{mul-zero, zero-mul, one-mul, mul-one, mul_assoc, mul_comm, add-mul}
use borrow.Author.Tests.{eq-eqb, ne_eqb}
use Rattle.lists.specs.Sums.{sum_to, sum_of, same, differ, nth}
use Rattle.lists.proofs.Sums.{same_yes, same_no, same_sym, differ_yes, differ_no, sum_to_eq, sum_to_none, sum_to_times, sum_to_same, sum_of_add, same_iff, on_same, same_turn}
use Rattle.lists.proofs.Members.{sum_of_eq, sum_of_mul, sum_of_keys, sum_of_swap}
use Rattle.links.specs.declared.Link.{Link}
use Rattle.links.specs.Survey.{IsSurvey}
use Rattle.links.proofs.Graph.{graph_of}
use Rattle.std.specs.Prelude.{Option, Some, None}
use Rattle.spanning.specs.Parents.{depth_of, neighbours}
use Rattle.spanning.proofs.Shape.{Shape, linked_flip}
use Rattle.spanning.proofs.Depths.{depth_root, at_other}
use Rattle.arcs.specs.Arcs.{Arc, arcs}
use Rattle.arcs.specs.Sums.{entries_of}
use Rattle.arcs.proofs.ArcLists.{arc_of}
use Rattle.neighbours.specs.Formula.{touches_of}
use Rattle.tree.specs.Plans.{bit_of_depth, arc_depth, arc_choice}
use Rattle.tree.proofs.Arcs.{arcs_leading, arcs_once, linked_between}

-- ---- one depth

-- a depth h has its bit at h
pub depth_bit_same : (o : Option ℕ) (h i : ℕ) → o ≡ Some h → same (bit_of_depth o) (suc i) ≡ same h i
depth_bit_same o h i e = rw e (same_iff (suc h) (suc i) h i (λ q. omega arith) (λ q. omega arith))

-- the same bit from depth 1 on
arc_depth_same : (o : Option ℕ) (i : ℕ) → 1 ≤ i → same (arc_depth o) i ≡ same (bit_of_depth o) (suc i)
arc_depth_same (Some h) i l = sym (depth_bit_same (Some h) h i refl)
arc_depth_same None i l = same_no 0 i (λ e. omega arith) ∙ sym (same_no 0 (suc i) (λ e. omega arith))

-- an arc's bit: it leads from its child's parent, and this is the child's depth
pub choice_bit : (N : ℕ) (p : List ℕ) (a : Arc) (i : ℕ) → 1 ≤ i → same (arc_choice N p a) i ≡ same (nth p a.child) a.parent * same (bit_of_depth (depth_of p N a.child)) (suc i)
unfolding arc_choice
choice_bit N p a i l =
    elim (ℕ_discrete (nth p a.child) a.parent) [
      | yes e ↦ rw (eq-eqb (nth p a.child) a.parent e, same_yes (nth p a.child) a.parent e) (arc_depth_same (depth_of p N a.child) i l ∙ sym (one-mul _))
      | no e ↦ rw (ne_eqb (nth p a.child) a.parent e, same_no (nth p a.child) a.parent e) (same_no 0 i (λ q. omega arith) ∙ sym (zero-mul _))
    ]

module _ (N D : ℕ) (ls : List Link) (p : List ℕ) (s : IsSurvey N ls) (t : Shape N D ls p) where
  -- whether meter v is at depth i
  abbrev depth_is : ℕ → ℕ → ℕ
  depth_is v i = same (bit_of_depth (depth_of p N v)) (suc i)

  -- just one arc leads from a parent to its child
  pub one_arc : (v : ℕ) → 1 ≤ v → v ≤ N → (nth p v ≡ 0 → ⊥) → arcs_leading (arcs ls) (nth p v) v ≡ 1
  one_arc v a b n = omega (arith, linked_between ls (nth p v) v (linked_flip (t.linked v a b n)), arcs_once N ls s (nth p v) v)

  -- just the root is at depth 0
  pub depth_zero : (v : ℕ) → 1 ≤ v → v ≤ N → depth_is v 0 ≡ same (nth p v) 0
  depth_zero v a b =
      elim (ℕ_discrete (nth p v) 0) [
        | yes e ↦ depth_bit_same _ 0 0 (depth_root p N v (omega arith) e) ∙ same_yes 0 0 refl ∙ sym (same_yes (nth p v) 0 e)
        | no e ↦ let o = at_other N D ls p t v a b e in depth_bit_same _ (suc o.0) 0 o.1 ∙ same_no (suc o.0) 0 (λ q. omega arith) ∙ sym (same_no (nth p v) 0 e)
      ]

  -- just the others are at one of the depths 1..D
  pub depth_sum : (v : ℕ) → 1 ≤ v → v ≤ N → sum_to D (depth_is v) ≡ differ (nth p v) 0
  depth_sum v a b =
      elim (ℕ_discrete (nth p v) 0) [
        | yes e ↦ sum_to_none D _ (λ i c d. depth_bit_same _ 0 i (depth_root p N v (omega arith) e) ∙ same_no 0 i (λ q. omega arith)) ∙ sym (differ_no (nth p v) 0 e)
        | no e ↦
            let o = at_other N D ls p t v a b e in
            sum_to_eq D _ (same (suc o.0)) (λ i c d. depth_bit_same _ (suc o.0) i o.1) ∙ sum_to_same D (suc o.0) (omega arith) o.3 ∙ sym (differ_yes (nth p v) 0 e)
      ]

  -- an arc has one bit set where it leads from its child's parent, else none
  pub arc_sum : (a : Arc) → Memᴰ a (arcs ls) → sum_to D (λ i. same (arc_choice N p a) i) ≡ same (nth p a.child) a.parent
  arc_sum a m =
      let e = arc_of N ls (graph_of N ls s) a m in
      sum_to_eq D _ (λ i. same (nth p a.child) a.parent * depth_is a.child i) (λ i c d. choice_bit N p a i c)
      ∙ sum_to_times D (same (nth p a.child) a.parent) (depth_is a.child)
      ∙ on_same (nth p a.child) a.parent _ 1 (λ q. depth_sum a.child e.child_low e.child_high ∙ differ_yes (nth p a.child) 0 (λ r. omega (arith, e.parent_low)))
      ∙ mul-one (same (nth p a.child) a.parent)

  -- the arcs into a meter at depth i ≥ 1: one where that is its depth
  pub entries_code : (v i : ℕ) → 1 ≤ v → v ≤ N → 1 ≤ i → entries_of (arcs ls) (λ a i. same (arc_choice N p a) i) v i ≡ depth_is v i
  unfolding entries_of arcs_leading
  entries_code v i a b c =
      sum_of_eq (arcs ls) _ (λ k. same k.child v * same k.parent (nth p v) * depth_is v i)
      (λ k m. on_same k.child v _ (same k.parent (nth p v) * depth_is v i) (λ e. choice_bit N p k i c ∙ rw e (ap (λ (x : ℕ). x * depth_is v i) (same_sym (nth p v) k.parent)))
      ∙ sym (mul_assoc (same k.child v) (same k.parent (nth p v)) (depth_is v i)))
      ∙ sum_of_mul (arcs ls) (λ k. same k.child v * same k.parent (nth p v)) (depth_is v i)
      ∙ close (ℕ_discrete (nth p v) 0)
    where
      close : Dec (nth p v ≡ 0) → arcs_leading (arcs ls) (nth p v) v * depth_is v i ≡ depth_is v i
      close (yes e) =
          let z : depth_is v i ≡ 0 = depth_bit_same _ 0 i (depth_root p N v (omega arith) e) ∙ same_no 0 i (λ q. omega arith) in
          rw z (mul-zero (arcs_leading (arcs ls) (nth p v) v))
      close (no e) = rw (one_arc v a b e) (one-mul (depth_is v i))

  -- ---- the arcs at a meter

  -- those set out of m lead to its children
  children : (m : ℕ) → 1 ≤ m → sum_of (arcs ls) (λ a. same a.parent m * same (nth p a.child) a.parent) ≡ sum_to N (λ v. same (nth p v) m)
  unfolding arcs_leading
  children m m1 =
      sum_of_keys (arcs ls) N (λ a. a.child) (λ a. same a.parent m * same (nth p a.child) a.parent) (λ a i. let e = arc_of N ls (graph_of N ls s) a i in (e.child_low, e.child_high))
      ∙ sum_to_eq N _ (λ v. same (nth p v) m)
      (λ v a b.
      sum_of_eq (arcs ls) _ (λ k. same k.child v * same k.parent (nth p v) * same (nth p v) m)
      (λ k i. on_same k.child v _ (same k.parent (nth p v) * same (nth p v) m) (λ e. mul_comm (same k.parent m) (same (nth p k.child) k.parent) ∙ same_turn (λ y. same y m) (nth p k.child) (nth p v) k.parent (ap (nth p) e))
      ∙ sym (mul_assoc (same k.child v) (same k.parent (nth p v)) (same (nth p v) m)))
      ∙ sum_of_mul (arcs ls) (λ k. same k.child v * same k.parent (nth p v)) (same (nth p v) m)
      ∙ mul_comm (arcs_leading (arcs ls) (nth p v) v) (same (nth p v) m)
      ∙ on_same (nth p v) m (arcs_leading (arcs ls) (nth p v) v) 1 (λ e. one_arc v a b (λ z. omega arith))
      ∙ mul-one (same (nth p v) m))

  -- all arc bits in or out of a meter number its neighbours
  pub touches_code : (m : ℕ) → 1 ≤ m → m ≤ N → touches_of D (arcs ls) (λ a i. same (arc_choice N p a) i) m ≡ neighbours N p m
  unfolding touches_of neighbours entries_of
  touches_code m a b =
      sum_of_eq (arcs ls) _ (λ k. same k.parent m * same (nth p k.child) k.parent + same k.child m * sum_to D (λ i. same (arc_choice N p k) i))
      (λ k i. add-mul (same k.parent m) (same k.child m) (sum_to D (λ i. same (arc_choice N p k) i))
      ∙ ap (λ (x : ℕ). same k.parent m * x + same k.child m * sum_to D (λ i. same (arc_choice N p k) i)) (arc_sum k i))
      ∙ sum_of_add (arcs ls) (λ k. same k.parent m * same (nth p k.child) k.parent) (λ k. same k.child m * sum_to D (λ i. same (arc_choice N p k) i))
      ∙ ap₂ ◌+◌ (children m a)
      (sum_of_eq (arcs ls) _ (λ k. sum_to D (λ i. same k.child m * same (arc_choice N p k) i)) (λ k i. sym (sum_to_times D (same k.child m) (λ i. same (arc_choice N p k) i)))
      ∙ sum_of_swap (arcs ls) D (λ k i. same k.child m * same (arc_choice N p k) i)
      ∙ sum_to_eq D _ (depth_is m) (λ i c d. entries_code m i a b c)
      ∙ depth_sum m a b)
