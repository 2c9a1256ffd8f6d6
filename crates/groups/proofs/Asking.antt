-- What this crate asks of its caller, out of the tests that the caller makes. Assumes nothing.
use Prim.Native.Nat.{ℕ, ◌*◌, ◌≤◌, ◌<◌}
use mathlib.Core.Bool.{true}
use mathlib.Core.Path.{◌≡◌}
use mathlib.Core.List.{List}
use lib.Dec.{leb}
use lib.ListN.{length}
use native.Mathlib.Omega.{arith}
use borrow.Author.Tests.{leb-true}
use Rattle.lists.proofs.Tests.{and_left, and_right}
use Rattle.links.specs.Links.{total}
use Rattle.links.specs.declared.Link.{Link}
use Rattle.links.specs.Survey.{IsSurvey}
use Rattle.links.proofs.Total.{total_small}
use Rattle.links.proofs.Walk.{is_survey}
use Rattle.onehot.specs.Inner.{WithChoices}
use Rattle.groups.specs.Formula.{within_limits, penalty}
use Rattle.groups.specs.declared.problem.Groups.{Groups}

-- "m from 2 to 16", as the facts that are asked for: at least 1, and at most 16
pub limit_low : (m : ℕ) → within_limits m ≡ true → 1 ≤ m
unfolding within_limits
limit_low m w = omega (arith, leb-true 2 m (and_left (leb 2 m) _ w))

pub limit_high : (m : ℕ) → within_limits m ≡ true → m ≤ 16
unfolding within_limits
limit_high m w = leb-true m 16 (and_right (leb 2 m) _ w)

-- 01's A is above twice the sum of all weights, as demand 3 asks
pub penalty_heavy : (ls : List Link) → 2 * total ls < penalty ls
unfolding penalty
penalty_heavy ls = omega arith

-- and at most 33,553,921, far below the 2^32 that demand 2 allows
pub penalty_small : (N : ℕ) (ls : List Link) → IsSurvey N ls → penalty ls ≤ 33553921
unfolding penalty
penalty_small N ls s = omega (arith, total_small N ls s)

-- `allows` and the links that site's read gives are all that is asked
pub survey_lent : (N m : ℕ) (ls : List Link) → IsSurvey N ls → within_limits m ≡ true → WithChoices N m ls
survey_lent N m ls s w = record { survey = s; low = limit_low m w; high = limit_high m w }

-- `own_penalty` is lent at most 256 links
pub weights_few : (N : ℕ) (ls : List Link) → IsSurvey N ls → length ls ≤ 256
weights_few N ls s = s.few

-- what the type of problems says, as a record
pub lent : (g : Groups) → WithChoices g.survey.meters g.m g.survey.links.now
lent g = record { survey = is_survey g.survey; low = g.low; high = g.high }
