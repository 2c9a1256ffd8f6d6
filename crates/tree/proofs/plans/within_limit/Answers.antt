use Rattle.std.proofs.Common.{refl, ◌+◌, leb, length, arith, rules, of_calls}
use Rattle.std.proofs.lemmas.Iterator.{YieldsList-from_range}
use Rattle.std.proofs.lemmas.Iterator.Search.{all_from_yields_List}
use Rattle.spanning.specs.Parents.{neighbours}
use Rattle.tree.proofs.PlanTest.{limit_tested}
use Rattle.tree.proofs.plans.within_limit.Goals as goal

pub returns : goal.returns
returns c =
    let p = c.args.plan.now in
    limit_tested (length p) c.args.d p _
    (all_from_yields_List (λ k. leb (neighbours (length p) p (k + 1)) c.args.d) _ _ c.all.result c.all.ensures.ran (YieldsList-from_range 0 (length p) (length p) refl (omega arith)) (λ x b q k. search (rules, of_calls)))
