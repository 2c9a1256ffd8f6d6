use mathlib.Core.Path.{sym, ◌∙◌}
use native.Mathlib.Omega.{arith}
use mir.Facts.{to_z-of_z}
use Rattle.qubo.proofs.RowShapes.{unequal_high}
use Rattle.qubo.proofs.add_unequal.Goals as goal

pub returns-then-higher-i : goal.returns-then-higher-i
returns-then-higher-i c = c.add_single.ensures ∙ rw (to_z-of_z c.ranges.coefficient) (sym (unequal_high _ _ _ _ _ (omega arith) (omega (arith, c.requires.0))))
