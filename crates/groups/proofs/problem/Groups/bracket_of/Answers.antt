use native.Mathlib.Omega.{arith}
use Rattle.groups.proofs.Counted.{sizes_small, bracket_is}
use Rattle.groups.proofs.problem.Groups.bracket_of.Goals as goal

pub spread_of-requires : goal.spread_of-requires
spread_of-requires c =
    let g = c.args.self.now in
    (g.high, omega (arith, g.high, c.gather_sizes-sizes.ensures.0), sizes_small _ _ _ _ c.gather_sizes-sizes.ensures.1 g.survey.meters_high c.requires.bits)

pub returns : goal.returns
returns c =
    (bracket_is _ _ _ _ c.gather_sizes-sizes.ensures.1 _ _ c.misses_of-missed.ensures.0 c.spread_of.ensures.0, omega arith)
