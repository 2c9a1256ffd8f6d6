use Prim.Native.Nat.{◌≤◌, ◌+◌, ◌*◌}
use mathlib.Core.Path.{◌≡◌}
use Rattle.arcs.proofs.Summing.{meters_gaps}
use Rattle.arcs.proofs.layout.Layout.meter_gaps.Given as goal

abbrev pub invariant-loop-v : goal.invariant-loop-v
invariant-loop-v l = (l.sum + 55296 ≤ 55296 * l.v) × (l.v ≤ l.self.meters + 1) × (l.sum ≡ meters_gaps l.self.deepest l.bits l.counts l.v)
