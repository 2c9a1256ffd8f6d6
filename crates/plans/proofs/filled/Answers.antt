use Rattle.std.proofs.Common.{◌∙◌}
use Rattle.plans.proofs.Calling.{row_len}
use Rattle.plans.proofs.filled.Goals as goal

pub returns-clause-len : goal.returns-clause-len
returns-clause-len c = c.unwrap_or-len.ensures ∙ row_len _ _ _ c.args.out.now _ c.fill.ensures.number
