-- What holds of the instance of any kind, by cases of the kind: each case is a theorem of that kind's own crate, for any A from 01's on that its code takes. Assumes nothing.
use Prim.Native.Nat.{ℕ, ◌+◌, ◌≤◌, ◌<◌}
use mathlib.Core.Bool.{true}
use mathlib.Core.Path.{◌≡◌, refl}
use native.Mathlib.Omega.{arith}
use Rattle.links.specs.Survey.{IsSurvey}
use Rattle.qubo.specs.Formula.{Formula}
use Rattle.qubo.specs.Instance.{Instance}
use Rattle.qubo.proofs.Plans.{Sound}
use Rattle.links.specs.declared.survey.Survey.{Survey}
use Rattle.links.proofs.Walk.{is_survey}
use Rattle.channels.specs.Formula as channels-formula
use Rattle.groups.specs.Formula as groups-formula
use Rattle.tree.specs.Formula as tree-formula
use Rattle.channels.proofs.Asking as channels-asking
use Rattle.channels.proofs.Demands as channels
use Rattle.groups.proofs.Asking as groups-asking
use Rattle.groups.proofs.Demands as groups
use Rattle.tree.proofs.Asking as tree-asking
use Rattle.tree.proofs.Demands as tree
use Rattle.plans.specs.declared.Ask.{Ask}
use Rattle.plans.specs.declared.Kind.{Kind}
use Rattle.plans.specs.declared.Kind.TheVariants.{Channels, Groups, Tree}
use Rattle.plans.specs.Kinds.{Site, kind_of, limits_hold, penalty_of, penalty_asked, instance_by}
use Rattle.plans.specs.Refusals.{most_margin}
use Rattle.plans.specs.Best.{SamePlans}
use Rattle.plans.specs.Inner.{most_penalty, surveyed}

-- the penalty is the A that is given
pub penalty_is : (A : ℕ) (s : Site) (k : Kind) → A ≡ (instance_by A s k).penalty
unfolding instance_by
penalty_is A s (Channels n) = refl
penalty_is A s (Groups m) = refl
penalty_is A s (Tree d) = refl

-- "A plan is N bytes", whatever the kind is
pub plan_bytes_length : (A : ℕ) (s : Site) (k : Kind) → s.meters ≡ (instance_by A s k).plan_bytes
unfolding instance_by
plan_bytes_length A s (Channels n) = refl
plan_bytes_length A s (Groups m) = refl
plan_bytes_length A s (Tree d) = refl

-- an instance with another A and another energy
other : Instance → ℕ → Formula → Instance
other I A f = record {
  bits = I.bits;
  plan_bytes = I.plan_bytes;
  penalty = A;
  formula = f;
  is_plan = I.is_plan;
  weight = I.weight;
  code_of = I.code_of;
  decodes = I.decodes;
  decoded = I.decoded;
  repaired = I.repaired;
}

-- has the same plans
other_same : (I : Instance) (A : ℕ) (f : Formula) → SamePlans (other I A f) I
unfolding other
other_same I A f = record { bits = refl; bytes = refl; plans = λ q. refl; weights = λ q. refl; codes = λ q. refl; decode = λ x. refl; decoded = λ x. refl; repaired = λ x. refl }

-- so two instances of a kind have the same plans, whatever their A
pub same_plans : (A B : ℕ) (s : Site) (k : Kind) → SamePlans (instance_by A s k) (instance_by B s k)
unfolding instance_by other
same_plans A B s (Channels n) = other_same (instance_by B s (Channels n)) A (instance_by A s (Channels n)).formula
same_plans A B s (Groups m) = other_same (instance_by B s (Groups m)) A (instance_by A s (Groups m)).formula
same_plans A B s (Tree d) = other_same (instance_by B s (Tree d)) A (instance_by A s (Tree d)).formula

-- no greater A can be asked for: 01's with 256 links of weight 65,535, and a margin of 1,000,000. Groups and trees reach it; a meter has at most 47 links, so channels do not
pub most_asked : Kind → ℕ
most_asked (Channels n) = 17776961
most_asked (Groups m) = 34553921
most_asked (Tree d) = 17776961

module _ (s : Site) (v : IsSurvey s.meters s.links) where
  -- demand 2
  pub sound : (A : ℕ) (k : Kind) → limits_hold s.meters k ≡ true → A ≤ most_penalty k → Sound (instance_by A s k)
  unfolding limits_hold most_penalty instance_by
  sound A (Channels n) w a = channels.sound s.meters n s.links v w A a
  sound A (Groups m) w a = groups.sound s.meters m s.links v w A a
  sound A (Tree d) w a = tree.sound s.meters d s.links v w A a

  -- 01's A with the greatest margin on it
  penalty_small : (k : Kind) → penalty_of s k + most_margin ≤ most_asked k
  unfolding penalty_of most_asked
  penalty_small (Channels n) = omega (arith, channels-asking.penalty_small s.meters s.links v)
  penalty_small (Groups m) = omega (arith, groups-asking.penalty_small s.meters s.links v)
  penalty_small (Tree d) = omega (arith, tree-asking.penalty_small s.meters s.links v)

-- the code takes that
most_taken : (k : Kind) → most_asked k ≤ most_penalty k
unfolding most_asked most_penalty
most_taken (Channels n) = omega arith
most_taken (Groups m) = omega arith
most_taken (Tree d) = omega arith

-- whatever it takes is below 2^33
pub most_small : (k : Kind) → most_penalty k < 8589934592
unfolding most_penalty
most_small (Channels n) = omega arith
most_small (Groups m) = omega arith
most_small (Tree d) = omega arith

-- so it takes 01's A with a margin that is not too large
pub raised_small : (s : Site) → IsSurvey s.meters s.links → (k : Kind) (margin : ℕ) → margin ≤ most_margin → penalty_of s k + margin ≤ most_penalty k
raised_small s v k margin h = omega (arith, penalty_small s v k, most_taken k)

-- ---- of the A that is asked for: it is 01's or more, and with a margin that is not too large the code takes it

pub asked_from : (s : Site) (a : Ask) → penalty_of s (kind_of a) ≤ penalty_asked s a
unfolding penalty_asked
asked_from s a = omega arith

module _ (s : Site) (v : IsSurvey s.meters s.links) (a : Ask) (m : a.margin ≤ most_margin) where
  -- in figures: at most 17,776,961 for channels and trees, 34,553,921 for groups
  pub asked_most : penalty_asked s a ≤ most_asked (kind_of a)
  unfolding penalty_asked
  asked_most = omega (arith, m, penalty_small s v (kind_of a))

  pub asked_small : penalty_asked s a ≤ most_penalty (kind_of a)
  asked_small = omega (arith, asked_most, most_taken (kind_of a))

-- ---- src/problem.rt, new: what the type of each kind's problems asks for

module _ (s : Survey) (k : Kind) (margin : ℕ) (h : (limits_hold s.meters k ≡ true) × (margin ≤ most_margin)) where
  pub channels_made : (n own : ℕ) → k ≡ Channels n → own ≡ channels-formula.penalty s.meters s.links.now → (1 ≤ n) × (n ≤ 16) × (own + margin ≤ 4294967296)
  unfolding limits_hold penalty_of most_penalty
  channels_made n own e f =
      let w = rw e at h.0 in
      (channels-asking.limit_low n w, channels-asking.limit_high n w, omega (arith, f, raised_small (surveyed s) (is_survey s) (Channels n) margin h.1))

  pub groups_made : (m own : ℕ) → k ≡ Groups m → own ≡ groups-formula.penalty s.links.now → (1 ≤ m) × (m ≤ 16) × (own + margin ≤ 4294967296)
  unfolding limits_hold penalty_of most_penalty
  groups_made m own e f =
      let w = rw e at h.0 in
      (groups-asking.limit_low m w, groups-asking.limit_high m w, omega (arith, f, raised_small (surveyed s) (is_survey s) (Groups m) margin h.1))

  pub tree_made : (d own : ℕ) → k ≡ Tree d → own ≡ tree-formula.penalty s.links.now → (2 ≤ s.meters) × (1 ≤ d) × (d ≤ 47) × (own + margin ≤ 20000000)
  unfolding limits_hold penalty_of most_penalty
  tree_made d own e f =
      let w = rw e at h.0 in
      (tree-asking.two_meters s.meters d w, tree-asking.limit_low s.meters d w, tree-asking.limit_high s.meters d w, omega (arith, f, raised_small (surveyed s) (is_survey s) (Tree d) margin h.1))
