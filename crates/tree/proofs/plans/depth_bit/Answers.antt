use mathlib.Core.Path.{sym, ◌∙◌}
use native.Mathlib.Omega.{arith}
use Rattle.std.proofs.Common.{rules, of_calls}
use Rattle.spanning.proofs.Recursion.{depth_below}
use Rattle.tree.proofs.PlanTest.{depth_mapped}
use Rattle.tree.proofs.plans.depth_bit.Goals as goal

pub map_or-requires : goal.map_or-requires
map_or-requires c = λ depth is typed ranges. omega (arith, depth_below _ _ _ _ (sym c.depth_of.ensures ∙ is), c.ranges.meters)

pub returns : goal.returns
returns c = depth_mapped _ _ _ _ _ c.depth_of.ensures c.map_or.ensures (λ h q. search (rules, of_calls))
