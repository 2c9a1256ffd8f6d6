use mathlib.Core.Path.{◌∙◌}
use native.Mathlib.Omega.{arith}
use Rattle.groups.proofs.Counted.{members_small, members_spread_is}
use Rattle.groups.proofs.sizes.members_spread.Goals as goal

pub spread_of-requires : goal.spread_of-requires
spread_of-requires c =
    let i = c.loop-g.invariant in
    (c.requires.1, omega (arith, c.requires.1, i.0), members_small _ _ _ _ (λ g p q. i.1 g (omega (arith, c.requires.1)) ∙ c.count_choices-counts.ensures.1 g) c.requires.0)

pub returns : goal.returns
returns c = members_spread_is _ _ _ _ (λ g p q. c.loop-g.invariant.1 g (omega (arith, c.requires.1)) ∙ c.count_choices-counts.ensures.1 g) _ c.spread_of.ensures.0
