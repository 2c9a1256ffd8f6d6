-- The sum that A multiplies is 0 exactly at the codes of plans. Assumes nothing.
use Prim.Native.Nat.{ℕ, ◌*◌, ◌≤◌, ◌<◌}
use mathlib.Core.Path.{◌≡◌, ap, ◌∙◌}
use mathlib.Core.Logic.{◌↔◌}
use mathlib.Core.Bool.{true}
use mathlib.Core.List.{List}
use lib.ListN.{length}
use native.Mathlib.Omega.{arith}
use native.Mathlib.Decide.{ℕ_discrete}
use Rattle.lists.specs.Sums.{sum_to, sum_of, same}
use Rattle.lists.proofs.Sums.{same_no, sum_to_same, sum_to_none}
use Rattle.links.specs.declared.Link.{Link}
use Rattle.links.specs.Survey.{IsSurvey}
use Rattle.qubo.specs.Formula.{Assignment}
use Rattle.qubo.specs.Best.{CodesPlan}
use Rattle.spanning.specs.Parents.{deepest}
use Rattle.spanning.proofs.Shape.{shape_test}
use Rattle.arcs.specs.Arcs.{arcs, arc_at}
use Rattle.arcs.specs.Sums.{arc_cost}
use Rattle.tree.specs.Formula.{bit_count, bits_of, broken}
use Rattle.tree.specs.Plans.{is_plan, code_of, tree_weight}
use Rattle.tree.specs.Decoding.{candidate_to, candidate}
use Rattle.tree.proofs.CodeBits.{list_bits, agree_code}
use Rattle.tree.proofs.PlanFacts.{plan_test}
use Rattle.tree.proofs.CodeSums.{code_broken, code_cost}
use Rattle.tree.proofs.Unbroken.{unbroken, depth_read, depth_le, entries_sum}
use Rattle.tree.proofs.ReadOff.{shape_read, counted, agree_read}

-- one step less than there are meters goes up from any depth
pub deepest_below : (N : ℕ) → 1 ≤ N → deepest N < N
unfolding deepest
deepest_below N h = omega arith

-- a one-hot run of bits has at most one set
one_or_none : (D h : ℕ) → h ≤ D → sum_to D (same h) ≤ 1
one_or_none D h l =
    elim (ℕ_discrete h 0) [
      | yes e ↦ omega (arith, sum_to_none D (same h) (λ i p q. same_no h i (λ z. omega arith)))
      | no e ↦ omega (arith, sum_to_same D h (omega arith) l)
    ]

module _ (N d : ℕ) (ls : List Link) (s : IsSurvey N ls) (n2 : 2 ≤ N) (x : List ℕ) (a : Assignment (bit_count N (length ls) d) x) where
  -- where it is 0, the candidate is a plan, and the bits are its code
  pub broken_plan : broken N (deepest N) d (arcs ls) (bits_of N (deepest N) (length ls) d x) ≡ 0 → (is_plan N d ls (candidate N ls x) ≡ true) × (x ≡ code_of N d ls (candidate N ls x))
  unfolding candidate_to bits_of
  broken_plan z =
      let D = deepest N in
      let b = list_bits N d ls x in
      let c = unbroken N D d (arcs ls) b z in
      let r = deepest_below N (omega arith) in (
        plan_test N d ls (candidate N ls x) (shape_test N D ls (candidate N ls x) (shape_read N D d ls s b c r)) (λ v p q. (counted N D d ls s b c r v p q).0),
        agree_code N d ls x (candidate N ls x) a.size (agree_read N D d ls s b c r),
      )

  -- and it is 0 at the code of every plan
  pub broken_exactly : (broken N (deepest N) d (arcs ls) (bits_of N (deepest N) (length ls) d x) ≡ 0) ↔ CodesPlan (is_plan N d ls) (code_of N d ls) x
  broken_exactly = (
    λ z. let r = broken_plan z in record { plan = candidate N ls x; ok = r.0; codes = r.1 },
    λ c. ap (λ (y : List ℕ). broken N (deepest N) d (arcs ls) (bits_of N (deepest N) (length ls) d y)) c.codes ∙ code_broken N d ls s n2 c.plan c.ok,
  )

  -- where it is 0, what the arcs set cost is the weight of the candidate
  pub broken_cost : broken N (deepest N) d (arcs ls) (bits_of N (deepest N) (length ls) d x) ≡ 0 → arc_cost (deepest N) (arcs ls) (arc_at N (deepest N) x) ≡ tree_weight ls (candidate N ls x)
  broken_cost z =
      let r = broken_plan z in
      ap (λ (y : List ℕ). arc_cost (deepest N) (arcs ls) (arc_at N (deepest N) y)) r.1 ∙ code_cost N d ls s (candidate N ls x) r.0

  -- where it is 0, at most one arc bit is set into each meter
  pub broken_single : broken N (deepest N) d (arcs ls) (bits_of N (deepest N) (length ls) d x) ≡ 0
      → (v : ℕ) → 1 ≤ v → v ≤ N → sum_of (arcs ls) (λ k. same k.child v * sum_to (deepest N) (arc_at N (deepest N) x k)) ≤ 1
  unfolding bits_of
  broken_single z v p q =
      let b = list_bits N d ls x in
      let c = unbroken N (deepest N) d (arcs ls) b z in
      omega (arith, entries_sum N (deepest N) d ls s b c v p q, one_or_none (deepest N) (depth_read (deepest N) b v) (depth_le N (deepest N) d ls s b c v p q))
