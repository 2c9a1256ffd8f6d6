-- What the type of channels asks of its caller, out of the tests that the caller makes, and what it says. Assumes nothing.
use Prim.Native.Nat.{ℕ, ◌≤◌}
use mathlib.Core.Bool.{true}
use mathlib.Core.Path.{◌≡◌}
use mathlib.Core.List.{List}
use lib.Dec.{leb}
use native.Mathlib.Omega.{arith}
use borrow.Author.Tests.{leb-true}
use Rattle.lists.proofs.Tests.{and_left, and_right}
use Rattle.lists.proofs.Sums.{greatest_term, greatest_bound}
use Rattle.links.specs.declared.Link.{Link}
use Rattle.links.specs.Survey.{IsSurvey}
use Rattle.links.proofs.Walk.{is_survey}
use Rattle.onehot.specs.Inner.{WithChoices}
use Rattle.channels.specs.Formula.{within_limits, load, penalty}
use Rattle.channels.specs.declared.problem.Channels.{Channels}
use Rattle.channels.proofs.Load.{load_small, Heavy}

-- "n from 1 to 16", as facts
pub limit_low : (n : ℕ) → within_limits n ≡ true → 1 ≤ n
unfolding within_limits
limit_low n w = leb-true 1 n (and_left (leb 1 n) _ w)

pub limit_high : (n : ℕ) → within_limits n ≡ true → n ≤ 16
unfolding within_limits
limit_high n w = leb-true n 16 (and_right (leb 1 n) _ w)

-- 01's A is above every meter's load, as demand 3 asks
pub penalty_heavy : (N : ℕ) (ls : List Link) → Heavy (penalty N ls) N ls
unfolding penalty
penalty_heavy N ls m a b = omega (arith, greatest_term N (load ls) m a b)

-- and at most 16,776,961, far below the 2^32 that demand 2 allows
pub penalty_small : (N : ℕ) (ls : List Link) → IsSurvey N ls → penalty N ls ≤ 16776961
unfolding penalty
penalty_small N ls s = omega (arith, greatest_bound N (load ls) 16776960 (λ m p q. load_small N ls s m))

-- `allows` and the links that site's read gives are all that is asked
pub survey_lent : (N n : ℕ) (ls : List Link) → IsSurvey N ls → within_limits n ≡ true → WithChoices N n ls
survey_lent N n ls s w = record { survey = s; low = limit_low n w; high = limit_high n w }

-- what the type of channels says, as a record
pub lent : (c : Channels) → WithChoices c.survey.meters c.n c.survey.links.now
lent c = record { survey = is_survey c.survey; low = c.low; high = c.high }
