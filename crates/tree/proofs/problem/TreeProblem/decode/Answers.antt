use Rattle.links.proofs.Walk.{is_survey}
use Rattle.tree.proofs.Answering.{choices_none, arcs_none, arcs_readable, plan_read}
use Rattle.tree.proofs.problem.TreeProblem.decode.Goals as goal

pub returns-then-broken_choices-ne0-clause-answer : goal.returns-then-broken_choices-ne0-clause-answer
returns-then-broken_choices-ne0-clause-answer c =
    let t = c.args.self.now in
    let n = c.neighbours-neighbours.ensures in
    (choices_none _ _ _ (is_survey t.survey) t.meters _ c.requires.0 _ (rw (n.meters, n.deepest, n.links, n.d) at c.broken_choices.ensures.0) c.if-broken_choices-ne0.true t.penalty c.args.plan.now).0

pub returns-then-broken_choices-ne0-clause-plan : goal.returns-then-broken_choices-ne0-clause-plan
returns-then-broken_choices-ne0-clause-plan c =
    let t = c.args.self.now in
    let n = c.neighbours-neighbours.ensures in
    (choices_none _ _ _ (is_survey t.survey) t.meters _ c.requires.0 _ (rw (n.meters, n.deepest, n.links, n.d) at c.broken_choices.ensures.0) c.if-broken_choices-ne0.true t.penalty c.args.plan.now).1

pub returns-then-broken_arcs-ne0-clause-answer : goal.returns-then-broken_arcs-ne0-clause-answer
returns-then-broken_arcs-ne0-clause-answer c =
    let t = c.args.self.now in
    let n = c.neighbours-neighbours.ensures in
    (arcs_none _ _ _ (is_survey t.survey) t.meters _ c.requires.0 _ (rw (n.meters, n.deepest, n.links, n.d) at c.broken_arcs.ensures.0) c.if-broken_arcs-ne0.true t.penalty c.args.plan.now).0

pub returns-then-broken_arcs-ne0-clause-plan : goal.returns-then-broken_arcs-ne0-clause-plan
returns-then-broken_arcs-ne0-clause-plan c =
    let t = c.args.self.now in
    let n = c.neighbours-neighbours.ensures in
    (arcs_none _ _ _ (is_survey t.survey) t.meters _ c.requires.0 _ (rw (n.meters, n.deepest, n.links, n.d) at c.broken_arcs.ensures.0) c.if-broken_arcs-ne0.true t.penalty c.args.plan.now).1

pub read_parents-requires : goal.read_parents-requires
read_parents-requires c =
    let t = c.args.self.now in
    let n = c.neighbours-neighbours.ensures in
    rw (n.meters, n.deepest, n.links) (arcs_readable _ _ _ (is_survey t.survey) t.meters _ c.requires.0 _ (rw (n.meters, n.deepest, n.links, n.d) at c.broken_choices.ensures.0) c.if-broken_choices-ne0.false _ (rw (n.meters, n.deepest, n.links, n.d) at c.broken_arcs.ensures.0) c.if-broken_arcs-ne0.false, c.requires.1, rw (n.meters, n.deepest) at c.count_used-used.ensures.counts)

pub returns-clause-answer : goal.returns-clause-answer
returns-clause-answer c =
    let t = c.args.self.now in
    let n = c.neighbours-neighbours.ensures in
    (plan_read _ _ _ (is_survey t.survey) t.meters _ c.requires.0 _ (rw (n.meters, n.deepest, n.links, n.d) at c.broken_choices.ensures.0) c.if-broken_choices-ne0.false _ (rw (n.meters, n.deepest, n.links, n.d) at c.broken_arcs.ensures.0) c.if-broken_arcs-ne0.false t.penalty c.args.plan.now _ _ (rw (n.meters, n.deepest, n.links) at c.read_parents.ensures) c.tree_weight-weight.ensures).0

pub returns-clause-plan : goal.returns-clause-plan
returns-clause-plan c =
    let t = c.args.self.now in
    let n = c.neighbours-neighbours.ensures in
    (plan_read _ _ _ (is_survey t.survey) t.meters _ c.requires.0 _ (rw (n.meters, n.deepest, n.links, n.d) at c.broken_choices.ensures.0) c.if-broken_choices-ne0.false _ (rw (n.meters, n.deepest, n.links, n.d) at c.broken_arcs.ensures.0) c.if-broken_arcs-ne0.false t.penalty c.args.plan.now _ _ (rw (n.meters, n.deepest, n.links) at c.read_parents.ensures) c.tree_weight-weight.ensures).1
