use native.Mathlib.Omega.{arith}
use Rattle.qubo.proofs.RowTerms.{product_swap}
use Rattle.qubo.proofs.add_pair.Goals as goal

pub returns-then-other-i : goal.returns-then-other-i
returns-then-other-i c = grind (arith, product_swap)
