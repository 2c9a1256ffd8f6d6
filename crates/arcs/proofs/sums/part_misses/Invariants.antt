use Prim.Native.Nat.{◌≤◌, ◌*◌}
use mathlib.Core.Path.{◌≡◌}
use Rattle.arcs.proofs.Summing.{misses_to}
use Rattle.arcs.proofs.sums.part_misses.Given as goal

abbrev pub invariant-loop-i : goal.invariant-loop-i
invariant-loop-i l = (l.sum ≤ 2 * l.i) × (l.sum ≡ misses_to l.part l.above l.below l.i)
