use native.Mathlib.Omega.{arith}
use Rattle.tree.proofs.Filling.{counts_filled}
use Rattle.tree.proofs.codes.neighbour_choices.Goals as goal

pub returns : goal.returns
returns c = (c.loop-v.invariant.0, counts_filled _ _ _ c.loop-v.v (omega arith) c.loop-v.invariant.1)
