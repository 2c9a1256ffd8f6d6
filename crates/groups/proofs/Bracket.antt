-- The bracket is 0 exactly at the codes of plans: one bit set at each meter, and all groups equally large. Assumes nothing.
use Prim.Native.Nat.{ℕ, ◌*◌, ◌≤◌}
use mathlib.Core.Path.{◌≡◌, sym, ap, ◌∙◌}
use mathlib.Core.Logic.{◌↔◌}
use mathlib.Core.Bool.{true}
use mathlib.Core.List.{List}
use native.Mathlib.Omega.{arith}
use Rattle.lists.specs.Sums.{sum_to, same, nth}
use Rattle.lists.proofs.Tests.{and_left, and_right, and_both}
use Rattle.lists.proofs.Sums.{sum_to_eq, sum_to_swap, sum_to_same, sum_to_const}
use Rattle.qubo.specs.Formula.{Assignment}
use Rattle.qubo.specs.Best.{CodesPlan}
use Rattle.onehot.specs.Choices.{bit_at, are_choices, code, candidate}
use Rattle.onehot.proofs.Codes.{Choices, choices_are, choices_test, bit_code, code_assigned, one_each, Hot, misses_hot}
use Rattle.onehot.proofs.Candidates.{candidate_choices, candidate_code, candidate_coded}
use Rattle.groups.specs.Formula.{bit_count, size_in, bracket}
use Rattle.groups.specs.Plans.{members_of, is_plan, code_of}
use Rattle.groups.proofs.SizeLemma.{Level, spread_level, large_level, level_eq, level_sum}

-- ---- the test of a plan, as facts

pub record Split (N m : ℕ) (p : List ℕ) : Type 0 where
  pub choices : Choices N m p
  pub level : Level m (members_of N p)

pub plan_split : (N m : ℕ) (p : List ℕ) → is_plan N m p ≡ true → Split N m p
unfolding is_plan
plan_split N m p e = record {
  choices = choices_are N m p (and_left (are_choices N m p) _ e);
  level = (large_level m (members_of N p)).0 (and_right (are_choices N m p) _ e);
}

pub split_plan : (N m : ℕ) (p : List ℕ) → Split N m p → is_plan N m p ≡ true
unfolding is_plan
split_plan N m p s = and_both (are_choices N m p) _ (choices_test N m p s.choices) ((large_level m (members_of N p)).1 s.level)

-- ---- its code

-- is an assignment
pub code_assignment : (N m : ℕ) (p : List ℕ) → is_plan N m p ≡ true → Assignment (bit_count N m) (code_of m p)
unfolding code_of
code_assignment N m p e = code_assigned N m p (plan_split N m p e).choices

-- whose candidate is that plan
pub candidate_plan : (N m : ℕ) (p : List ℕ) → is_plan N m p ≡ true → candidate N m (code_of m p) ≡ p
unfolding code_of
candidate_plan N m p e = candidate_code N m p (plan_split N m p e).choices

-- ---- the bracket

bracket_zero : (N m : ℕ) (b : ℕ → ℕ → ℕ) → bracket N m b ≡ 0 ↔ (Hot N m b × Level m (size_in N b))
unfolding bracket
bracket_zero N m b = (
  λ e. ((misses_hot N m b).0 (omega arith), (spread_level m (size_in N b)).0 (omega arith)),
  λ h. omega (arith, (misses_hot N m b).1 h.0, (spread_level m (size_in N b)).1 h.1),
)

-- the sizes in a code are those of the plan
sizes_coded : (N m : ℕ) (p : List ℕ) → Choices N m p → (g : ℕ) → 1 ≤ g → g ≤ m → size_in N (bit_at m (code m p)) g ≡ members_of N p g
unfolding size_in members_of
sizes_coded N m p ok g a b = sum_to_eq N (λ v. bit_at m (code m p) v g) (λ v. same (nth p v) g) (λ v c d. bit_code N m p ok v g c d a b)

-- the code of a plan has bracket 0
pub plan_bracket : (N m : ℕ) (p : List ℕ) → is_plan N m p ≡ true → bracket N m (bit_at m (code_of m p)) ≡ 0
unfolding code_of
plan_bracket N m p e =
    let s = plan_split N m p e in
    (bracket_zero N m (bit_at m (code m p))).1
    (one_each N m p s.choices, level_eq m (members_of N p) (size_in N (bit_at m (code m p))) (λ g a b. sym (sizes_coded N m p s.choices g a b)) s.level)

-- bits with bracket 0 are the code of their candidate, and that is a plan
module _ (N m : ℕ) (m1 : 1 ≤ m) (x : List ℕ) (a : Assignment (N * m) x) (z : bracket N m (bit_at m x) ≡ 0) where
  hot : Hot N m (bit_at m x)
  hot = ((bracket_zero N m (bit_at m x)).0 z).0

  pub bracket_coded : x ≡ code_of m (candidate N m x)
  unfolding code_of
  bracket_coded = candidate_coded N m x hot m1 a

  pub bracket_plan : is_plan N m (candidate N m x) ≡ true
  unfolding code_of
  bracket_plan =
      let ok = candidate_choices N m x hot in
      split_plan N m (candidate N m x) (record {
        choices = ok;
        level = level_eq m (size_in N (bit_at m x)) (members_of N (candidate N m x))
            (λ g c d. ap (λ (y : List ℕ). size_in N (bit_at m y) g) bracket_coded ∙ sizes_coded N m (candidate N m x) ok g c d)
            ((bracket_zero N m (bit_at m x)).0 z).1;
      })

pub bracket_exactly : (N m : ℕ) → 1 ≤ m → (x : List ℕ) → Assignment (N * m) x → (bracket N m (bit_at m x) ≡ 0) ↔ CodesPlan (is_plan N m) (code_of m) x
bracket_exactly N m m1 x a = (
  λ z. record { plan = candidate N m x; ok = bracket_plan N m m1 x a z; codes = bracket_coded N m m1 x a z },
  λ c. rw c.codes (plan_bracket N m c.plan c.ok),
)

-- ---- m divides N where there is a plan

members_sum : (N m : ℕ) (p : List ℕ) → Choices N m p → sum_to m (members_of N p) ≡ N
unfolding members_of
members_sum N m p ok =
    sum_to_swap m N (λ g v. same (nth p v) g)
    ∙ sum_to_const N 1 (λ v. sum_to m (λ g. same (nth p v) g)) (λ v a b. sum_to_same m (nth p v) (ok.fits v a b).0 (ok.fits v a b).1)
    ∙ omega arith

pub plan_divides : (N m : ℕ) → 1 ≤ m → (p : List ℕ) → is_plan N m p ≡ true → N ≡ members_of N p 1 * m
plan_divides N m m1 p e = let s = plan_split N m p e in sym (members_sum N m p s.choices) ∙ level_sum m (members_of N p) m1 s.level
