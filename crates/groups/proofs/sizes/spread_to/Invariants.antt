use Prim.Native.Nat.{◌≤◌, ◌+◌, ◌*◌}
use mathlib.Core.Path.{◌≡◌}
use Rattle.groups.proofs.Counted.{spread_before}
use Rattle.groups.proofs.sizes.spread_to.Given as goal

abbrev pub invariant-loop-size : goal.invariant-loop-size
invariant-loop-size l = (l.sum ≤ 2304 * l.size-index) × (l.sum ≡ spread_before l.sizes l.last (l.size-index + 1))
