use Rattle.std.proofs.Common.{◌&&◌, nat_le, rules, tests}
use Rattle.std.proofs.lemmas.Iterator.{YieldsList-from_slice}
use Rattle.std.proofs.lemmas.Iterator.Search.{all_from_yields_List}
use Rattle.onehot.proofs.Turns.{choices_size, choices_tested}
use Rattle.onehot.proofs.are_choices.Goals as goal

pub returns-then-plan-meters : goal.returns-then-plan-meters
returns-then-plan-meters c =
    let s = c.args in
    choices_tested s.meters s.n s.plan.now c.if-plan-meters.true _
    (all_from_yields_List (λ k. nat_le 1 k && nat_le k s.n) _ _ c.all.result c.all.ensures.ran (YieldsList-from_slice s.plan.now cc) (λ x b q k. search (rules, tests)))

pub returns-else-plan-meters : goal.returns-else-plan-meters
returns-else-plan-meters c = choices_size c.args.meters c.args.n c.args.plan.now c.if-plan-meters.false
