use Prim.Native.Nat.{◌+◌, ◌*◌}
use mathlib.Core.Path.{refl, ◌∙◌}
use native.Mathlib.Omega.{arith}
use mir.Syntax.{w64}
use mir.Facts.{to_z_pos}
use Rattle.links.proofs.Walk.{is_survey}
use Rattle.arcs.proofs.LinkBits.{used_low}
use Rattle.tree.proofs.Answering.{energy_is, energy_small}
use Rattle.tree.proofs.problem.TreeProblem.energy.Goals as goal

pub arc_cost-cost-requires : goal.arc_cost-cost-requires
arc_cost-cost-requires c = (c.args.self.now.survey.few, c.count_used-used.ensures.counts.size, used_low _ _ _ _ _ c.neighbours-neighbours.result.arcs.layout.shallow c.requires.bits c.count_used-used.ensures.counts)

pub returns : goal.returns
returns c =
    let t = c.args.self.now in
    let n = c.neighbours-neighbours.ensures in
    to_z_pos w64 {n = t.penalty * (c.broken_choices-at_choices.result + c.broken_arcs-at_arcs.result) + c.arc_cost-cost.result} (omega (arith, energy_small _ _ _ _ t.small c.broken_choices-at_choices.ensures.1 c.broken_arcs-at_arcs.ensures.1 c.arc_cost-cost.ensures.1))
    ∙ energy_is _ _ _ (is_survey t.survey) t.meters _ c.requires t.penalty _ _ _ (rw (n.meters, n.deepest, n.links, n.d) at c.broken_choices-at_choices.ensures.0) (rw (n.meters, n.deepest, n.links, n.d) at c.broken_arcs-at_arcs.ensures.0) (rw (n.meters, n.deepest) at (c.arc_cost-cost.ensures.0 _ _ _ _ refl c.count_used-used.ensures.counts))
