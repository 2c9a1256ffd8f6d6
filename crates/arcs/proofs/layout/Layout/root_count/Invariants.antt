use Prim.Native.Nat.{◌≤◌, ◌+◌}
use mathlib.Core.Path.{◌≡◌}
use Rattle.arcs.proofs.Summing.{roots_before}
use Rattle.arcs.proofs.layout.Layout.root_count.Given as goal

abbrev pub invariant-loop-v : goal.invariant-loop-v
invariant-loop-v l = (l.sum + 1 ≤ l.v) × (l.v ≤ l.self.meters + 1) × (l.sum ≡ roots_before l.self.deepest l.bits l.v)
