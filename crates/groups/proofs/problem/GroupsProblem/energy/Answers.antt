use mathlib.Core.Path.{◌∙◌}
use mir.Syntax.{w64}
use mir.Facts.{to_z_pos}
use Rattle.groups.proofs.Worth.{energy_small, energy_is}
use Rattle.groups.proofs.problem.GroupsProblem.energy.Goals as goal

pub returns : goal.returns
returns c =
    to_z_pos w64 (energy_small _ _ _ c.args.self.now.small c.bracket_of-broken.ensures.1 c.cutting-cutting.ensures.1)
    ∙ energy_is _ _ _ _ _ _ _ c.requires.bits c.bracket_of-broken.ensures.0 c.cutting-cutting.ensures.0
