use Rattle.std.proofs.Common.{◌≤◌, ◌*◌, ◌≡◌}
use Rattle.onehot.specs.Choices.{bit_at, misses}
use Rattle.onehot.proofs.misses_of.Given as goal

abbrev pub invariant-loop-v : goal.invariant-loop-v
invariant-loop-v l = (l.sum ≤ 2209 * l.v) × (l.sum ≡ misses l.v l.n (bit_at l.n l.bits))
