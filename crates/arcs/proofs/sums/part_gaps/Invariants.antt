use Prim.Native.Nat.{◌≤◌, ◌+◌, ◌*◌}
use mathlib.Core.Path.{◌≡◌}
use lib.ListN.{length}
use Rattle.arcs.proofs.Summing.{gaps_before}
use Rattle.arcs.proofs.sums.part_gaps.Given as goal

abbrev pub invariant-loop-bit : goal.invariant-loop-bit
invariant-loop-bit l = (l.sum ≤ 2304 * length l.yielded) × (l.sum ≡ gaps_before l.part l.counts (length l.yielded + 1))
