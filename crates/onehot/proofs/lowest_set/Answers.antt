use Rattle.std.proofs.Common.{◌≡◌, ◌+◌, MatchOption, length, rules, tests, arith}
use Rattle.std.proofs.lemmas.Iterator.{YieldsList-from_slice, IsFirst-from_position}
use Rattle.lists.specs.Sums.{lowest, nth}
use Rattle.onehot.proofs.Candidates.{lowest_first}
use Rattle.onehot.proofs.lowest_set.Goals.{After-position}
use Rattle.onehot.proofs.lowest_set.Goals as goal

found : (c : After-position) → MatchOption c.position.result (lowest (length c.args.part.now) (nth c.args.part.now) ≡ 0) (λ i. i + 1 ≡ lowest (length c.args.part.now) (nth c.args.part.now))
found c =
    lowest_first c.args.part.now c.position.result
    (IsFirst-from_position _ _ c.position.result (λ x. x ≡ 0 → ⊥) (λ x. x ≡ 0) c.position.ensures.ran (YieldsList-from_slice c.args.part.now c.iter.ensures.rest) (λ x q k. search (rules, tests)) (λ x q k. search (rules, tests)))

pub returns-in_err-first : goal.returns-in_err-first
returns-in_err-first c = rw c.from_residual.ensures (rw c.in_err-first.was at (found (goal.at.returns-in_err-first c).After-position))

pub returns : goal.returns
returns c = (omega arith, rw c.in_ok-first.was at (found (goal.at.returns c).After-position))
