use native.Mathlib.Omega.{arith}
use Rattle.qubo.proofs.Sets.{add_own_unequal}
use Rattle.qubo.proofs.add_own_unequal.Goals as goal

pub add_to_own-requires : goal.add_to_own-requires
add_to_own-requires c = grind (arith, add_own_unequal)
