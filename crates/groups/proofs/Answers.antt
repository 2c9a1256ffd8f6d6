-- Laws that the proofs of src/problem.rt cite: the tests that the code makes decide what the definitions ask. Assumes nothing.
use Prim.Native.Nat.{ℕ, ◌+◌, ◌*◌, ◌≤◌}
use mathlib.Core.Path.{◌≡◌, refl, sym, ◌∙◌}
use mathlib.Core.Logic.{◌↔◌}
use mathlib.Core.Bool.{true, false}
use mathlib.Core.List.{List}
use lib.Dec.{eqb}
use lib.ListN.{length}
use native.Mathlib.Omega.{arith}
use borrow.Author.Tests.{eq-eqb, eqb-true}
use Rattle.lists.specs.Sums.{sum_of}
use Rattle.lists.proofs.Tests.{and_left, same_test}
use Rattle.links.specs.Links.{weights}
use Rattle.links.specs.declared.Link.{Link}
use Rattle.links.proofs.Alike.{total_weights, total_alike}
use Rattle.qubo.specs.Formula.{Assignment}
use Rattle.qubo.specs.Best.{CodesPlan}
use Rattle.qubo.specs.Decoding.{answer_of, plan_after}
use Rattle.std.specs.Prelude.{Some, None}
use Rattle.qubo.proofs.Decoding.{codes_exactly, none_decoded, plan_decoded}
use Rattle.onehot.specs.Choices.{bit_at, are_choices, candidate}
use Rattle.groups.specs.Sizes.{spread, equally_large}
use Rattle.groups.specs.Formula.{penalty, bracket}
use Rattle.groups.specs.Plans.{members_of, is_plan, code_of, cut_weight}
use Rattle.groups.specs.Instance.{instance}
use Rattle.groups.proofs.SizeLemma.{spread_level, large_level}
use Rattle.groups.proofs.Bracket.{candidate_plan, bracket_exactly}

-- ---- own_penalty

-- s is the sum that the code adds up, of the weights alone
pub penalty_is : (ls : List Link) (s : ℕ) → s ≡ sum_of (weights ls) (λ w. w) → 1 + 2 * s ≡ penalty ls
unfolding penalty
penalty_is ls s e = omega (arith, e, total_weights ls)

-- so ends have no part in A
pub penalty_alike : (ls ms : List Link) → weights ls ≡ weights ms → penalty ls ≡ penalty ms
penalty_alike ls ms e = sym (penalty_is ls _ (sym (total_weights ls))) ∙ penalty_is ms _ (total_alike ls ms e ∙ sym (total_weights ms))

-- ---- is_plan

-- all groups are equally large exactly where the sum of squared differences is 0
spread_test : (m : ℕ) (s : ℕ → ℕ) → eqb (spread m s) 0 ≡ equally_large m s
spread_test m s =
    same_test (eqb (spread m s) 0) (equally_large m s)
    (λ e. (large_level m s).1 ((spread_level m s).0 (eqb-true (spread m s) 0 e)))
    (λ e. eq-eqb (spread m s) 0 ((spread_level m s).1 ((large_level m s).0 e)))

module _ (N m : ℕ) (p : List ℕ) where
  -- no choices: no plan
  pub plan_no : are_choices N m p ≡ false → false ≡ is_plan N m p
  unfolding is_plan
  plan_no e = rw e refl

  -- choices: the sizes decide
  pub plan_sizes : are_choices N m p ≡ true → length p ≡ N → (r : ℕ) → r ≡ spread m (members_of (length p) p) → eqb r 0 ≡ is_plan N m p
  unfolding is_plan
  plan_sizes e l r d = rw (e, d, l) (spread_test m (members_of N p))

  -- ---- encode

  pub plan_choices : is_plan N m p ≡ true → are_choices N m p ≡ true
  unfolding is_plan
  plan_choices e = and_left (are_choices N m p) _ e

-- ---- decode: the bracket, which is r, decides what bits decode to

module _ (N m : ℕ) (ls : List Link) (m1 : 1 ≤ m) (x : List ℕ) (a : Assignment (N * m) x) (r : ℕ) (is : r ≡ bracket N m (bit_at m x)) where
  zero_coded : (r ≡ 0) ↔ CodesPlan (is_plan N m) (code_of m) x
  zero_coded = rw is (bracket_exactly N m m1 x a)

  pub none_read : (r ≡ 0 → ⊥) → (q : List ℕ) (A : ℕ) → (None ≡ answer_of (instance A N m ls) x) × (q ≡ plan_after (instance A N m ls) x q)
  none_read n q A = none_decoded (instance A N m ls) x (codes_exactly (is_plan N m) (code_of m) (candidate N m) (candidate_plan N m) x) r zero_coded n q

  pub plan_read : r ≡ 0 → (q p : List ℕ) (w : ℕ) → p ≡ candidate N m x → w ≡ cut_weight ls p → (A : ℕ) → (Some (record { weight = w; repaired = 0 }) ≡ answer_of (instance A N m ls) x) × (p ≡ plan_after (instance A N m ls) x q)
  plan_read z q p w e c A = plan_decoded (instance A N m ls) x (codes_exactly (is_plan N m) (code_of m) (candidate N m) (candidate_plan N m) x) r zero_coded z q p w e c
