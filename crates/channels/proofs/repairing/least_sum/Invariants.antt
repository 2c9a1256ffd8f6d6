use Rattle.std.proofs.Common.{◌≤◌, ◌≡◌, ◌<◌, ◌-◌, ◌+◌}
use Rattle.channels.proofs.Hearing.{least_of}
use Rattle.channels.proofs.repairing.least_sum.Given as goal

abbrev pub invariant-loop-next : goal.invariant-loop-next
invariant-loop-next l = (l.next ≤ l.n + 1) × (l.best < l.next) × (l.best ≡ least_of l.sums (l.next - 1))
