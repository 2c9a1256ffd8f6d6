use Rattle.std.proofs.Common.{◌∙◌, w64}
use Rattle.std.proofs.lemmas.Int.{to_z_pos}
use Rattle.channels.proofs.Worth.{energy_small, energy_is}
use Rattle.channels.proofs.problem.ChannelsProblem.energy.Goals as goal

pub returns : goal.returns
returns c =
    let m = c.misses_of-missed.ensures in
    let k = c.clashing.ensures in
    to_z_pos w64 _ (energy_small _ _ _ c.args.self.now.small m.1 k.bound) ∙ energy_is _ _ _ _ _ _ _ m.0 k.value
