use Rattle.neighbours.proofs.DegreeSums.{misses_are}
use Rattle.neighbours.proofs.counts.Counts.count_misses.Goals as goal

pub returns : goal.returns
returns c =
    (misses_are _ _ _ _ _ c.arcs_end-base.ensures.0 _ _ c.misses_of.ensures.0, c.misses_of.ensures.1)
