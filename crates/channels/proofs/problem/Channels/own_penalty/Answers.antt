use Rattle.std.proofs.Common.{arith}
use Rattle.links.proofs.Walk.{is_survey}
use Rattle.channels.proofs.Asking.{penalty_small}
use Rattle.channels.proofs.Gathering.{penalty_is}
use Rattle.channels.proofs.problem.Channels.own_penalty.Goals as goal

pub overflow_add-result : goal.overflow_add-result
overflow_add-result c =
    omega (arith, penalty_is _ _ _ _ c.loads_of.ensures.1 c.greatest_load.ensures, penalty_small _ _ (is_survey c.args.survey.now))

pub returns : goal.returns
returns c = penalty_is _ _ _ _ c.loads_of.ensures.1 c.greatest_load.ensures
