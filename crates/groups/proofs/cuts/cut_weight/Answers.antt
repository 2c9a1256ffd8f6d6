use native.Mathlib.Omega.{arith}
use Rattle.groups.proofs.Cutting.{cut_rest}
use Rattle.groups.proofs.cuts.cut_weight.Goals as goal

pub overflow_sub-result : goal.overflow_sub-result
overflow_sub-result c = omega (arith, c.total_weight.ensures.value, c.alike_weight.ensures, cut_rest c.args.survey.now.links.now c.args.plan.now)

pub returns : goal.returns
returns c = omega (arith, c.total_weight.ensures.value, c.alike_weight.ensures, cut_rest c.args.survey.now.links.now c.args.plan.now)
