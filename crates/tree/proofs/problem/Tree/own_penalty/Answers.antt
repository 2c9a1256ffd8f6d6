use mathlib.Core.Path.{sym, ◌∙◌}
use Rattle.links.proofs.Alike.{total_weights}
use Rattle.tree.proofs.Answering.{penalty_is, penalty_alike}
use Rattle.tree.proofs.problem.Tree.own_penalty.Goals as goal

pub returns-clause-ends : goal.returns-clause-ends
returns-clause-ends c = λ ls e. penalty_is _ _ (c.total_weight.ensures.value ∙ sym (total_weights c.args.links.now)) ∙ sym (penalty_alike ls c.args.links.now e)
