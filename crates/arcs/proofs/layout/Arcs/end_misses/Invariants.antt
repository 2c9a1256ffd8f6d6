use Prim.Native.Nat.{◌≤◌, ◌*◌}
use Rattle.arcs.proofs.ArcSums.{ArcsSummed}
use Rattle.arcs.proofs.Summing.{misses_of}
use Rattle.arcs.proofs.layout.Arcs.end_misses.Given as goal

abbrev pub invariant-loop-k : goal.invariant-loop-k
invariant-loop-k l = ArcsSummed l.self.links.now (misses_of l.self.layout.meters l.self.layout.deepest l.bits) l.k l.sum × (l.sum ≤ 96 * l.k)
