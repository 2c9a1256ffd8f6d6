use mathlib.Core.Path.{sym}
use Rattle.qubo.proofs.RowAction.{add_absent}
use Rattle.qubo.proofs.RowShapes.{one_hot_absent}
use Rattle.qubo.proofs.add_one_hot.Goals as goal

pub returns-in_default : goal.returns-in_default
returns-in_default c = sym (add_absent _ _ _ (one_hot_absent c.args.factor c.args.run c.args.i c.in_default.ensures))
