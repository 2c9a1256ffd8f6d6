use Rattle.std.proofs.Common.{◌*◌, ◌≡◌, length}
use Rattle.onehot.proofs.Turns.{Coded}
use Rattle.onehot.proofs.encode.Given as goal

abbrev pub invariant-loop-v : goal.invariant-loop-v
invariant-loop-v l = (length l.bits ≡ l.meters * l.n) × Coded l.n l.plan l.bits l.v
