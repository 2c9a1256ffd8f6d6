use native.Mathlib.Omega.{arith}
use Rattle.tree.proofs.Answering.{choices_are}
use Rattle.tree.proofs.sums.broken_choices.Goals as goal

pub returns : goal.returns
returns c =
    let k = c.counts.ensures in
    (choices_are _ _ _ _ _ _ _ _ c.root_miss-roots.ensures.0 c.depth_misses-depths.ensures.0 (rw (k.layout, k.links, k.d) at c.count_misses-counts.ensures.0), omega (arith, c.root_miss-roots.ensures.1, c.depth_misses-depths.ensures.1, c.count_misses-counts.ensures.1))
