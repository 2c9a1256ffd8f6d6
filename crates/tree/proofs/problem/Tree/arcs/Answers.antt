use Rattle.links.proofs.Graph.{edges}
use Rattle.tree.proofs.problem.Tree.arcs.Goals as goal

pub invariant_of-result-clause-each : goal.invariant_of-result-clause-each
invariant_of-result-clause-each c = rw c.layout.ensures.meters (edges _ _ c.args.self.now.survey.each)
