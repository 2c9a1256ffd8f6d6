use Rattle.std.proofs.Common.{◌≡◌, length, take}
use Rattle.qubo.specs.Terms.{each}
use Rattle.spanning.specs.Parents.{neighbours}
use Rattle.tree.proofs.codes.neighbour_choices.Given as goal

abbrev pub invariant-loop-v : goal.invariant-loop-v
invariant-loop-v l = (length l.choices ≡ 256) × (take l.v l.choices ≡ each l.v (neighbours (length l.plan) l.plan))
