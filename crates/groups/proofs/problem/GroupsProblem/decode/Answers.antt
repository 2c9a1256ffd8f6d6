use native.Mathlib.Omega.{arith}
use Rattle.groups.proofs.Answers.{none_read, plan_read}
use Rattle.groups.proofs.problem.GroupsProblem.decode.Goals as goal

pub returns-then-bracket_of-ne0-clause-answer : goal.returns-then-bracket_of-ne0-clause-answer
returns-then-bracket_of-ne0-clause-answer c =
    let g = c.args.self.now in
    (none_read _ _ _ g.low _ c.requires.0 _ c.bracket_of.ensures.0 (omega arith) c.args.plan.now g.penalty).0

pub returns-then-bracket_of-ne0-clause-plan : goal.returns-then-bracket_of-ne0-clause-plan
returns-then-bracket_of-ne0-clause-plan c =
    let g = c.args.self.now in
    (none_read _ _ _ g.low _ c.requires.0 _ c.bracket_of.ensures.0 (omega arith) _ g.penalty).1

pub returns-clause-answer : goal.returns-clause-answer
returns-clause-answer c =
    let g = c.args.self.now in
    (plan_read _ _ _ g.low _ c.requires.0 _ c.bracket_of.ensures.0 (omega arith) c.args.plan.now _ _ c.read_off.ensures c.cut_weight-weight.ensures g.penalty).0

pub returns-clause-plan : goal.returns-clause-plan
returns-clause-plan c =
    let g = c.args.self.now in
    (plan_read _ _ _ g.low _ c.requires.0 _ c.bracket_of.ensures.0 (omega arith) _ _ _ c.read_off.ensures c.cut_weight-weight.ensures g.penalty).1
