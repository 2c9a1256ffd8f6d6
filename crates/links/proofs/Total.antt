-- The sum of all weights is small. Assumes nothing.
use Rattle.std.proofs.Common.{ℕ, ◌≤◌, List, arith}
use Rattle.links.specs.Links.{total}
use Rattle.links.specs.Survey.{IsSurvey}
use Rattle.links.specs.declared.Link.{Link}
use Rattle.links.proofs.Walk.{sum_bounded}

-- 256 times 65,535 at most
pub total_small : (N : ℕ) (ls : List Link) → IsSurvey N ls → total ls ≤ 16776960
unfolding total
total_small N ls s = omega (arith, sum_bounded N ls s.each (λ l. l.weight) 65535 (λ l h. h.weight_high), s.few)
