use Prim.Native.Nat.{◌≤◌, ◌+◌, ◌*◌}
use mathlib.Core.Path.{◌≡◌}
use Rattle.groups.proofs.Counted.{spread_to}
use Rattle.groups.proofs.sizes.spread_of.Given as goal

abbrev pub invariant-loop-h : goal.invariant-loop-h
invariant-loop-h l = (l.sum ≡ spread_to l.sizes l.h) × (l.sum + 34560 ≤ 34560 * l.h) × (l.h ≤ l.m + 1)
