use Rattle.std.proofs.Common.{◌≡◌, length, take}
use Rattle.onehot.specs.Choices.{candidate}
use Rattle.onehot.proofs.read_off.Given as goal

abbrev pub invariant-loop-v : goal.invariant-loop-v
invariant-loop-v l = (length l.plan ≡ length l.initial.plan) × (take l.v l.plan ≡ candidate l.v l.n l.bits)
