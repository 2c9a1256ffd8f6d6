use Rattle.std.proofs.Common.{◌≡◌, length, take}
use Rattle.qubo.specs.Terms.{each}
use Rattle.tree.proofs.Filling.{depth_bit_of}
use Rattle.tree.proofs.plans.depth_bits.Given as goal

abbrev pub invariant-loop-v : goal.invariant-loop-v
invariant-loop-v l = (length l.depths ≡ 256) × (take l.v l.depths ≡ each l.v (depth_bit_of l.plan l.meters))
