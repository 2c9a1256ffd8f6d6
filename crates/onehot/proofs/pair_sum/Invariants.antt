use Rattle.std.proofs.Common.{ℕ, ◌≤◌, ◌<◌, ◌≡◌, length, get_or}
use Rattle.lists.specs.Sums.{sum_to}
use Rattle.onehot.proofs.Turns.{pair_at}
use Rattle.onehot.proofs.pair_sum.Given as goal

abbrev pub invariant-loop-bit : goal.invariant-loop-bit
invariant-loop-bit g l =
    (l.sum ≤ length l.yielded)
    × ((h : ℕ → ℕ → ℕ)
    → ((i r : ℕ) → i < length l.part → goal.F-post g l.f (get_or l.part i 0) (get_or l.other i 0) r → r ≡ h (get_or l.part i 0) (get_or l.other i 0))
    → l.sum ≡ sum_to (length l.yielded) (pair_at h l.part l.other))
