use Rattle.arcs.proofs.LinkBits.{used_low}
use Rattle.neighbours.proofs.DegreeSums.{gaps_are}
use Rattle.neighbours.proofs.counts.Neighbours.degree_gaps.Goals as goal

pub gather_touches-sums-requires : goal.gather_touches-sums-requires
gather_touches-sums-requires c =
    let p = c.requires in (p.1.size, used_low _ _ _ _ _ c.args.self.now.arcs.layout.shallow p.0.bits p.1)

pub returns : goal.returns
returns c =
    (gaps_are _ _ _ _ _ _ _ (c.gather_touches-sums.ensures.1 _ _ _ c.requires.1) _ c.gaps_of.ensures.0, c.gaps_of.ensures.1)
