-- own_penalty, broken_choices, broken_arcs, constant, energy and decode: that what they give is what the definitions say. Assumes nothing.
use Prim.Native.Nat.{ℕ, ◌+◌, ◌*◌, ◌^◌, ◌≤◌, ◌<◌}
use mathlib.Core.Path.{◌≡◌, refl, sym, ap₂, ◌∙◌}
use mathlib.Core.Logic.{◌↔◌}
use mathlib.Core.Bool.{true}
use mathlib.Core.List.{List}
use native.Mathlib.Omega.{arith}
use native.Mathlib.Nat.{mul-le-mul}
use lib.ListN.{length}
use lib.IntN.{pos}
use Rattle.lists.specs.Sums.{sum_of}
use Rattle.links.specs.Links.{weights}
use Rattle.links.specs.declared.Link.{Link}
use Rattle.links.specs.Survey.{IsSurvey}
use Rattle.links.proofs.Alike.{total_weights, total_alike}
use Rattle.qubo.specs.Formula.{Assignment, value}
use Rattle.qubo.specs.Best.{CodesPlan}
use Rattle.qubo.specs.Decoding.{codes_plan, answer_of, plan_after}
use Rattle.std.specs.Prelude.{Some, None}
use Rattle.qubo.proofs.Decoding.{codes_exactly, none_decoded, plan_decoded}
use Rattle.onehot.specs.Choices.{misses}
use Rattle.spanning.specs.Parents.{deepest}
use Rattle.arcs.specs.Arcs.{Arc, arcs, depth_at, arc_at}
use Rattle.arcs.specs.Sums.{root_miss, depth_misses, entry_gaps, end_misses, arc_cost}
use Rattle.neighbours.specs.Formula.{count_at, degree_gaps}
use Rattle.tree.specs.Formula.{TreeBits, penalty, bit_count, formula, bits_of, broken}
use Rattle.tree.specs.Inner.{broken_choices, broken_arcs, Readable}
use Rattle.tree.specs.Plans.{is_plan, code_of, tree_weight}
use Rattle.tree.specs.Decoding.{candidate}
use Rattle.tree.specs.Instance.{instance}
use Rattle.tree.proofs.Value.{worth, formula_value}
use Rattle.tree.proofs.Broken.{broken_exactly, broken_single}
use Rattle.tree.proofs.CodeSums.{candidate_code}

-- ---- own_penalty

-- s is the sum that the code adds up, of the weights alone
pub penalty_is : (ls : List Link) (s : ℕ) → s ≡ sum_of (weights ls) (λ w. w) → 1 + s ≡ penalty ls
unfolding penalty
penalty_is ls s e = omega (arith, e, total_weights ls)

-- so ends have no part in A
pub penalty_alike : (ls ms : List Link) → weights ls ≡ weights ms → penalty ls ≡ penalty ms
penalty_alike ls ms e = sym (penalty_is ls _ (sym (total_weights ls))) ∙ penalty_is ms _ (total_alike ls ms e ∙ sym (total_weights ms))

-- ---- the six sums, in two parts, for any D and links

module _ (N D d : ℕ) (x : List ℕ) where
  pub choices_are : (M r e c : ℕ) → r ≡ root_miss N (depth_at D x) → e ≡ depth_misses N D (depth_at D x) → c ≡ misses N d (count_at N D M d x) → r + e + c ≡ broken_choices N D d (bits_of N D M d x)
  unfolding broken_choices bits_of
  choices_are M r e c r₁ e₁ c₁ = ap₂ ◌+◌ (ap₂ ◌+◌ r₁ e₁) c₁

  pub arcs_are : (M : ℕ) (ks : List Arc) (n g m : ℕ) → n ≡ entry_gaps N D ks (depth_at D x) (arc_at N D x) → g ≡ degree_gaps N D d ks (arc_at N D x) (count_at N D M d x) → m ≡ end_misses D ks (depth_at D x) (arc_at N D x)
      → n + g + m ≡ broken_arcs N D d ks (bits_of N D M d x)
  unfolding broken_arcs bits_of
  arcs_are M ks n g m n₁ g₁ m₁ = ap₂ ◌+◌ (ap₂ ◌+◌ n₁ g₁) m₁

module _ (N d : ℕ) (ls : List Link) (survey : IsSurvey N ls) (meters : 2 ≤ N) (x : List ℕ) (a : Assignment (bit_count N (length ls) d) x) where
  abbrev D : ℕ
  D = deepest N

  abbrev M : ℕ
  M = length ls

  -- ---- the six sums

  abbrev b : TreeBits
  b = bits_of N D M d x

  -- all of them
  abbrev B : ℕ
  B = broken N D d (arcs ls) b

  pub broken_parts : (k h : ℕ) → k ≡ broken_choices N D d b → h ≡ broken_arcs N D d (arcs ls) b → k + h ≡ B
  unfolding broken broken_choices broken_arcs
  broken_parts k h e f = omega arith

  -- ---- energy

  pub energy_is : (A k h C : ℕ) → k ≡ broken_choices N D d b → h ≡ broken_arcs N D d (arcs ls) b → C ≡ arc_cost D (arcs ls) (arc_at N D x) → pos (A * (k + h) + C) ≡ value (formula A N d ls) x
  unfolding worth
  energy_is A k h C e f c = rw (broken_parts k h e f, c) (sym (formula_value A N d ls survey x a.bits))

  -- ---- decode, whatever A is

  -- the sum is 0 exactly where bits code a plan
  zero_coded : (B ≡ 0) ↔ CodesPlan (is_plan N d ls) (code_of N d ls) x
  zero_coded = broken_exactly N d ls survey meters x a

  decides : (codes_plan (is_plan N d ls) (code_of N d ls) (candidate N ls) x ≡ true) ↔ CodesPlan (is_plan N d ls) (code_of N d ls) x
  decides = codes_exactly (is_plan N d ls) (code_of N d ls) (candidate N ls) (candidate_code N d ls survey) x

  -- it is not 0: no plan, and the lent plan is as it was
  none : (B ≡ 0 → ⊥) → (A : ℕ) (plan : List ℕ) → (None ≡ answer_of (instance A N d ls) x) × (plan ≡ plan_after (instance A N d ls) x plan)
  none n A plan = none_decoded (instance A N d ls) x decides B zero_coded n plan

  -- one of its parts settles it
  pub choices_none : (k : ℕ) → k ≡ broken_choices N D d b → (k ≡ 0 → ⊥) → (A : ℕ) (plan : List ℕ) → (None ≡ answer_of (instance A N d ls) x) × (plan ≡ plan_after (instance A N d ls) x plan)
  choices_none k e n = none (λ z. n (omega (arith, broken_parts k (broken_arcs N D d (arcs ls) b) e refl)))

  pub arcs_none : (h : ℕ) → h ≡ broken_arcs N D d (arcs ls) b → (h ≡ 0 → ⊥) → (A : ℕ) (plan : List ℕ) → (None ≡ answer_of (instance A N d ls) x) × (plan ≡ plan_after (instance A N d ls) x plan)
  arcs_none h e n = none (λ z. n (omega (arith, broken_parts (broken_choices N D d b) h refl e)))

  -- both are 0
  module _ (k : ℕ) (choices : k ≡ broken_choices N D d b) (zk : k ≡ 0) (h : ℕ) (is : h ≡ broken_arcs N D d (arcs ls) b) (zh : h ≡ 0) where
    zero : B ≡ 0
    zero = omega (arith, broken_parts k h choices is)

    -- at most one arc bit is set into each meter
    pub arcs_readable : Readable N D ls x
    arcs_readable = record { bits = a.bits; room = omega (arith, a.size); once = broken_single N d ls survey meters x a zero }

    -- and the plan is the candidate, with its own weight
    pub plan_read : (A : ℕ) (plan q : List ℕ) (w : ℕ) → q ≡ candidate N ls x → w ≡ tree_weight ls q → (Some (record { weight = w; repaired = 0 }) ≡ answer_of (instance A N d ls) x) × (q ≡ plan_after (instance A N d ls) x plan)
    plan_read A plan q w e c = plan_decoded (instance A N d ls) x decides B zero_coded zero plan q w e c

-- the energy fits, with room to spare
pub energy_small : (A k h C : ℕ) → A ≤ 20000000 → k ≤ 2 ^ 32 → h ≤ 2 ^ 34 → C ≤ 805294080 → A * (k + h) + C < 2 ^ 62
energy_small A k h C a b c e = omega (arith, mul-le-mul {n₁ = A} {m₁ = k + h} {n₂ = 20000000} {m₂ = 2 ^ 35} a (omega arith))

-- so does the constant
pub constant_small : (N A : ℕ) → N ≤ 48 → A ≤ 20000000 → A * (1 + 2 * N) ≤ 1940000000
constant_small N A n a = mul-le-mul {n₂ = 20000000} {m₂ = 97} a (omega arith)
