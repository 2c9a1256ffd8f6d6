use Prim.Native.Nat.{◌≤◌, ◌*◌}
use mathlib.Core.Path.{◌≡◌}
use Rattle.neighbours.proofs.DegreeSums.{numbers_to}
use Rattle.neighbours.proofs.degrees.numbers_set.Given as goal

abbrev pub invariant-loop-i : goal.invariant-loop-i
invariant-loop-i l = (l.sum ≤ 47 * l.i) × (l.sum ≡ numbers_to l.part l.i)
