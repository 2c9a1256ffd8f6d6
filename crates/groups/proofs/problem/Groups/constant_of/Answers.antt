use mathlib.Core.Path.{sym, ◌∙◌}
use Rattle.onehot.proofs.Penalty.{constant_signed}
use Rattle.groups.proofs.Worth.{constant_is}
use Rattle.groups.proofs.problem.Groups.constant_of.Goals as goal

pub returns : goal.returns
returns c m ls =
    constant_signed c.args.penalty c.args.meters c.requires.0 c.requires.1 ∙ sym (constant_is _ _ m ls)
