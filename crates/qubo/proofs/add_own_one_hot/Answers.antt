use native.Mathlib.Omega.{arith}
use Rattle.qubo.proofs.Sets.{add_own_one_hot}
use Rattle.qubo.proofs.Turns.{later_kept}
use Rattle.qubo.proofs.add_own_one_hot.Goals as goal

pub add_run-requires : goal.add_run-requires
add_run-requires c = (later_kept _ _ _ _ _ _ _ c.after-rest.ensures c.add_single.ensures c.requires.1 c.requires.0, grind (arith, add_own_one_hot))
