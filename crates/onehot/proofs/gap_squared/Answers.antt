use Rattle.std.proofs.Common.{ap₂, ◌*◌}
use Rattle.onehot.proofs.Turns.{abs_gap}
use Rattle.onehot.proofs.gap_squared.Goals as goal

pub returns : goal.returns
returns c = let e = abs_gap c.args.a c.args.b _ c.abs_diff-apart.ensures in ap₂ ◌*◌ e e
