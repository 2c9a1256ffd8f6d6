use Rattle.links.proofs.Graph.{graph_of}
use Rattle.links.proofs.Walk.{is_survey}
use Rattle.qubo.specs.Decoding.{code_after}
use Rattle.tree.proofs.problem.TreeProblem.encode.Goals as goal

pub encode_plan-requires-clause-graph : goal.encode_plan-requires-clause-graph
encode_plan-requires-clause-graph c = graph_of _ _ (is_survey c.args.self.now.survey)

pub returns-clause-bits : goal.returns-clause-bits
unfolding code_after
returns-clause-bits c = c.encode_plan.ensures.bits
