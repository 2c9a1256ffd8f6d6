use Prim.Native.Nat.{◌≤◌, ◌*◌}
use lib.ListN.{length}
use Rattle.arcs.proofs.Summing.{CostTo}
use Rattle.arcs.proofs.sums.arc_cost.Given as goal

abbrev pub invariant-loop-link : goal.invariant-loop-link
invariant-loop-link l = CostTo l.used l.links (length l.yielded) l.sum × (l.sum ≤ 3145680 * length l.yielded) × (length l.yielded ≤ length l.links)
