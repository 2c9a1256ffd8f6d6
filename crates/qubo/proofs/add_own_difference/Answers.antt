use native.Mathlib.Omega.{arith}
use Rattle.qubo.proofs.Sets.{add_own_difference}
use Rattle.qubo.proofs.Turns.{later_kept}
use Rattle.qubo.proofs.add_own_difference.Goals as goal

pub add_run-requires : goal.add_run-requires
add_run-requires c = (later_kept _ _ _ _ _ _ _ c.after-rest.ensures c.add_single.ensures c.requires.run_below.0 c.requires.number.0, grind (arith, add_own_difference))

pub add_run-requires-2 : goal.add_run-requires-2
add_run-requires-2 c = grind (arith, add_own_difference)

pub returns : goal.returns
returns c = grind (arith, add_own_difference)
