-- Where the sum that A multiplies is 0, the parents read off the arcs are a rooted tree of few neighbours, and the bits are those of its code. Assumes nothing.
use Prim.Native.Nat.{ℕ, zero, suc, ◌+◌, ◌*◌, ◌≤◌, ◌<◌}
use mathlib.Core.Path.{◌≡◌, refl, sym, ap, ap₂, ◌∙◌}
use mathlib.Core.Logic.{inl, inr}
use mathlib.Core.List.{List, Memᴰ}
use native.Mathlib.Omega.{arith}
use native.Mathlib.Decide.{ℕ_discrete, dec_le}
use native.Mathlib.Nat.{mul-zero, mul_comm}
use Rattle.lists.specs.Sums.{sum_to, sum_of, same, nth}
use Rattle.lists.proofs.Sums.{same_yes, same_no, same_le, sum_to_eq, sum_to_hot, nth_suc, same_iff, same_times, same_none, same_both, sum_to_at, sum_to_some}
use Rattle.lists.proofs.Members.{sum_of_eq, sum_of_term, sum_of_hot}
use Rattle.links.specs.declared.Link.{Link}
use Rattle.links.specs.Survey.{IsSurvey}
use Rattle.links.proofs.Graph.{graph_of}
use Rattle.qubo.specs.Terms.{each}
use Rattle.onehot.proofs.Codes.{each_length, each_at}
use Rattle.std.specs.Prelude.{Some}
use Rattle.spanning.specs.Parents.{depth_of, roots_of, neighbours}
use Rattle.spanning.specs.Spanning.{Linked}
use Rattle.spanning.proofs.Shape.{Shape, linked_flip}
use Rattle.spanning.proofs.Depths.{depth_root, depth_child}
use Rattle.arcs.specs.Arcs.{Arc, arcs}
use Rattle.arcs.specs.Sums.{entries_of}
use Rattle.arcs.proofs.ArcLists.{ArcOf, arc_of}
use Rattle.neighbours.specs.Formula.{touches_of}
use Rattle.tree.specs.Formula.{TreeBits}
use Rattle.tree.specs.Plans.{arc_choice}
use Rattle.tree.specs.Decoding.{parent_read}
use Rattle.tree.proofs.Arcs.{arcs_leading, arcs_once, between_linked}
use Rattle.tree.proofs.Agree.{Agree}
use Rattle.tree.proofs.CodeBits.{code_bits}
use Rattle.tree.proofs.Written.{depth_bit_same, choice_bit, touches_code}
use Rattle.tree.proofs.Unbroken.{Unbroken, depth_read, depth_le, depth_is, both_ends, the_parent, arc_in, Placed, placed}

-- ---- the parents read off are a rooted tree

module _ (N D d : ℕ) (ls : List Link) (s : IsSurvey N ls) (b : TreeBits) (c : Unbroken N D d (arcs ls) b) where
  -- the parent read off for a meter
  abbrev parent_of : ℕ → ℕ
  parent_of v = parent_read D (arcs ls) b.arc v

  -- all of them
  abbrev parents : List ℕ
  parents = each N parent_of

  -- the parent of meter v
  nth_parents : (v : ℕ) → 1 ≤ v → v ≤ N → nth parents v ≡ parent_of v
  nth_parents zero p q = absurd (omega arith)
  nth_parents (suc k) p q = nth_suc parents k ∙ each_at N parent_of k q

  -- each depth is the one that its bits give
  depth_found : (k v : ℕ) → 1 ≤ v → v ≤ N → depth_read D b v < k → depth_of parents k v ≡ Some (depth_read D b v)
  depth_found zero v p q l = absurd (omega arith)
  depth_found (suc k) v p q l = go (λ u. depth_found k u) (placed N D d ls s b c v p q)
    where
      go : ((u : ℕ) → 1 ≤ u → u ≤ N → depth_read D b u < k → depth_of parents k u ≡ Some (depth_read D b u)) → Placed N D d ls s b c v → depth_of parents (suc k) v ≡ Some (depth_read D b v)
      go ih (inl (e, h)) = depth_root parents (suc k) v (omega arith) (nth_parents v p q ∙ e) ∙ ap Some (sym h)
      go ih (inr (a1, a2, h, j)) =
          depth_child parents k v (depth_read D b (parent_of v)) (λ z. omega (arith, nth_parents v p q))
          (ap (depth_of parents k) (nth_parents v p q) ∙ ih (parent_of v) a1 a2 (omega arith))
          ∙ ap Some (sym h)

  -- just the meters at depth 0 are roots
  root_bit : (v : ℕ) → 1 ≤ v → v ≤ N → same (nth parents v) 0 ≡ b.dep v 0
  root_bit v p q =
      rw (nth_parents v p q)
      (same_iff (parent_of v) 0 (depth_read D b v) 0 (λ e. to e (placed N D d ls s b c v p q)) (λ e. from e (placed N D d ls s b c v p q)) ∙ sym (depth_is N D d ls s b c v 0 p q (omega arith)))
    where
      to : parent_of v ≡ 0 → Placed N D d ls s b c v → depth_read D b v ≡ 0
      to e (inl h) = h.1
      to e (inr h) = absurd (omega (arith, h.0))

      from : depth_read D b v ≡ 0 → Placed N D d ls s b c v → parent_of v ≡ 0
      from e (inl h) = h.0
      from e (inr h) = absurd (omega (arith, h.2))

  module _ (room : D < N) where
    -- one root, parents that are linked neighbours, and depths up to D
    pub shape_read : Shape N D ls parents
    unfolding roots_of
    shape_read = record {
      len = each_length N parent_of;
      one_root = sum_to_eq N _ (λ v. b.dep v 0) root_bit ∙ c.root;
      linked = λ v p q n. rw (nth_parents v p q) (joined v (λ z. n (nth_parents v p q ∙ z)) (placed N D d ls s b c v p q));
      low = λ v p q. (depth_read D b v, depth_found N v p q (omega (arith, depth_le N D d ls s b c v p q)), depth_le N D d ls s b c v p q);
    }
      where
        joined : (v : ℕ) → (parent_of v ≡ 0 → ⊥) → Placed N D d ls s b c v → Linked v (parent_of v) ls
        joined v n (inl h) = absurd (n h.0)
        joined v n (inr h) = linked_flip (between_linked ls (parent_of v) v h.3)

    -- ---- the bits are those of its code

    -- a meter is at the depth that its parents give
    code_depths : (v i : ℕ) → 1 ≤ v → v ≤ N → i ≤ D → b.dep v i ≡ (code_bits N parents).dep v i
    unfolding code_bits
    code_depths v i p q l = depth_is N D d ls s b c v i p q l ∙ sym (depth_bit_same _ (depth_read D b v) i (depth_found N v p q (omega (arith, depth_le N D d ls s b c v p q))))

    -- an arc is set at depth i just where it leads from the parent read off and its child is at that depth
    code_arcs : (a : Arc) → Memᴰ a (arcs ls) → (i : ℕ) → 1 ≤ i → i ≤ D → b.arc a i ≡ (code_bits N parents).arc a i
    unfolding code_bits entries_of arcs_leading
    code_arcs a m i i1 iD =
        elim (dec_le 1 (b.arc a i)) [ yes on ↦ set on | no on ↦ unset (let z : b.arc a i ≡ 0 = omega arith in z) ]
        ∙ sym (choice_bit N parents a i i1 ∙ ap₂ (λ (x y : ℕ). same x a.parent * y) (nth_parents a.child e.child_low e.child_high) (sym (code_depths a.child i e.child_low e.child_high iD) ∙ depth_is N D d ls s b c a.child i e.child_low e.child_high iD))
      where
        e : ArcOf N a
        e = arc_of N ls (graph_of N ls s) a m

        set : 1 ≤ b.arc a i → b.arc a i ≡ same (parent_of a.child) a.parent * same (depth_read D b a.child) i
        set on =
            let h = (both_ends N D d ls s b c a m i i1 iD on).0 in
            let k = the_parent N D d ls s b c a m i i1 iD on in
            let x : same a.child a.child * b.arc a i ≡ b.arc a i = same_times a.child a.child (b.arc a i) refl in
            let y : b.arc a i ≤ 1 = omega (arith, sum_of_term (arcs ls) (λ k. same k.child a.child * b.arc k i) a m, c.entry a.child i e.child_low e.child_high i1 iD, depth_is N D d ls s b c a.child i e.child_low e.child_high iD, same_le (depth_read D b a.child) i) in
            rw (same_yes (parent_of a.child) a.parent k, same_yes (depth_read D b a.child) i h) (let z : b.arc a i ≡ 1 = omega arith in z)

        -- else some other arc with the same ends would be set
        clash : parent_of a.child ≡ a.parent → depth_read D b a.child ≡ i → b.arc a i ≡ 0
            → (k : Arc) × Memᴰ k (arcs ls) × (k.child ≡ a.child) × (1 ≤ b.arc k (depth_read D b a.child)) → ⊥
        clash k h z (a0, m0, e0, on) =
            let on1 : 1 ≤ b.arc a0 i = rw h at on in
            let u : a0.parent ≡ a.parent = sym (the_parent N D d ls s b c a0 m0 i i1 iD on1) ∙ ap parent_of e0 ∙ k in
            let f1 = same_both a.child a.child a.parent a.parent refl refl in
            let f0 = same_both a0.child a.child a0.parent a.parent e0 u in
            let s : sum_of (arcs ls) (λ k. same k.child a.child * same k.parent a.parent) ≡ 1 = omega (arith, arcs_once N ls s a.parent a.child, sum_of_term (arcs ls) (λ k. same k.child a.child * same k.parent a.parent) a m, f1) in
            omega (arith, sum_of_hot (arcs ls) _ (λ k. b.arc k i) a m f1 s, sum_of_hot (arcs ls) _ (λ k. b.arc k i) a0 m0 f0 s)

        unset : b.arc a i ≡ 0 → b.arc a i ≡ same (parent_of a.child) a.parent * same (depth_read D b a.child) i
        unset z = z ∙ sym (
            elim (ℕ_discrete (parent_of a.child) a.parent) [
              | no n ↦ same_none (parent_of a.child) a.parent _ n
              | yes k ↦ elim (ℕ_discrete (depth_read D b a.child) i) [
                | no n ↦ ap (λ (x : ℕ). same (parent_of a.child) a.parent * x) (same_no (depth_read D b a.child) i n) ∙ mul-zero _
                | yes h ↦ absurd (clash k h z (arc_in N D d ls s b c a.child e.child_low e.child_high (omega arith)))
              ]
            ])

    -- the arc bits at a meter number its neighbours
    touches_read : (v : ℕ) → 1 ≤ v → v ≤ N → touches_of D (arcs ls) b.arc v ≡ neighbours N parents v
    unfolding touches_of code_bits
    touches_read v p q =
        sum_of_eq (arcs ls) _ (λ a. (same a.parent v + same a.child v) * sum_to D (λ i. same (arc_choice N parents a) i))
        (λ a m. ap (λ (x : ℕ). (same a.parent v + same a.child v) * x) (sum_to_eq D (b.arc a) (λ i. same (arc_choice N parents a) i) (λ i r s. code_arcs a m i r s)))
        ∙ touches_code N D ls parents s shape_read v p q

    -- the count bit that is set is that of the meter's neighbours
    pub counted : (v : ℕ) → 1 ≤ v → v ≤ N → (neighbours N parents v ≤ d) × ((j : ℕ) → 1 ≤ j → j ≤ d → b.cnt v j ≡ same (neighbours N parents v) j)
    counted v p q =
        let s = sum_to_some d (b.cnt v) (omega (arith, c.count v p q)) in
        let f : (j : ℕ) → 1 ≤ j → j ≤ d → b.cnt v j ≡ same s.0 j = λ j x y. sum_to_hot d (b.cnt v) s.0 j s.1 s.2 x y (c.count v p q) s.3 in
        let e : s.0 ≡ neighbours N parents v =
        sym (sum_to_eq d _ (λ j. same s.0 j * j) (λ j x y. mul_comm j (b.cnt v j) ∙ ap (λ (z : ℕ). z * j) (f j x y)) ∙ sum_to_at d s.0 (λ j. j) s.1 s.2)
        ∙ c.degree v p q ∙ touches_read v p q in
        (omega (arith, s.2), λ j x y. f j x y ∙ ap (λ (z : ℕ). same z j) e)

    -- all bits are those of the code
    pub agree_read : Agree N D d (arcs ls) b (code_bits N parents)
    unfolding code_bits
    agree_read = record { dep = code_depths; arc = code_arcs; cnt = λ v j p q x y. (counted v p q).1 j x y }
