use Rattle.std.proofs.Common.{sym, ◌∙◌}
use Rattle.onehot.proofs.Penalty.{constant_signed}
use Rattle.channels.proofs.Worth.{constant_is}
use Rattle.channels.proofs.problem.Channels.constant_of.Goals as goal

pub returns : goal.returns
returns c n ls =
    constant_signed c.args.penalty c.args.meters c.requires.0 c.requires.1 ∙ sym (constant_is _ _ n ls)
