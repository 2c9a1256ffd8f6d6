-- What the type of trees asks of its caller, out of the tests that the caller makes, and what it says. Assumes nothing.
use Prim.Native.Nat.{ℕ, ◌≤◌, ◌<◌}
use mathlib.Core.Bool.{true, ◌&&◌}
use mathlib.Core.Path.{◌≡◌}
use mathlib.Core.List.{List}
use lib.Dec.{leb}
use lib.ListN.{length}
use native.Mathlib.Omega.{arith}
use borrow.Author.Tests.{leb-true}
use Rattle.lists.proofs.Tests.{and_left, and_right}
use Rattle.links.specs.Links.{total}
use Rattle.links.specs.declared.Link.{Link}
use Rattle.links.specs.Survey.{IsSurvey}
use Rattle.links.proofs.Total.{total_small}
use Rattle.links.proofs.Walk.{is_survey}
use Rattle.tree.specs.Formula.{within_limits, penalty}
use Rattle.tree.specs.Inner.{WithNeighbourLimit}
use Rattle.tree.specs.declared.problem.Tree.{Tree}

-- "a neighbour limit d from 1 to 47 and needs N ≥ 2", as facts
pub limit_low : (N d : ℕ) → within_limits N d ≡ true → 1 ≤ d
unfolding within_limits
limit_low N d w = leb-true 1 d (and_left (leb 1 d) _ (and_left (leb 1 d && leb d 47) _ w))

pub limit_high : (N d : ℕ) → within_limits N d ≡ true → d ≤ 47
unfolding within_limits
limit_high N d w = leb-true d 47 (and_right (leb 1 d) _ (and_left (leb 1 d && leb d 47) _ w))

pub two_meters : (N d : ℕ) → within_limits N d ≡ true → 2 ≤ N
unfolding within_limits
two_meters N d w = leb-true 2 N (and_right (leb 1 d && leb d 47) _ w)

-- 01's A is above the sum of all weights, as demand 3 asks
pub penalty_heavy : (ls : List Link) → total ls < penalty ls
unfolding penalty
penalty_heavy ls = omega arith

-- and at most 16,776,961, which leaves more than 3,000,000 up to the 20,000,000 that demand 2 allows
pub penalty_small : (N : ℕ) (ls : List Link) → IsSurvey N ls → penalty ls ≤ 16776961
unfolding penalty
penalty_small N ls s = omega (arith, total_small N ls s)

-- `allows` and the links that site's read gives are all that is asked
pub survey_lent : (N d : ℕ) (ls : List Link) → IsSurvey N ls → within_limits N d ≡ true → WithNeighbourLimit N d ls
survey_lent N d ls s w = record { survey = s; meters = two_meters N d w; low = limit_low N d w; high = limit_high N d w }

-- `own_penalty` is lent at most 256 links, and so is `bit_count` the number of links
pub weights_few : (N : ℕ) (ls : List Link) → IsSurvey N ls → length ls ≤ 256
weights_few N ls s = s.few

-- what the type of trees says, as a record
pub lent : (t : Tree) → WithNeighbourLimit t.survey.meters t.d t.survey.links.now
lent t = record { survey = is_survey t.survey; meters = t.meters; low = t.low; high = t.high }
