use Rattle.std.proofs.Common.{rules, tests, ◌∙◌}
use Rattle.lists.specs.Sums.{differ}
use Rattle.onehot.proofs.Turns.{cuts_sum}
use Rattle.onehot.proofs.unshared.Goals as goal

pub returns : goal.returns
unfolding differ
returns c =
    let a = c.args in
    let s = c.requires in
    c.pair_sum.ensures differ (λ i r h p. search (rules, tests)) ∙ cuts_sum a.n a.u a.v a.bits.now c.part_of.result.now c.part_of-2.result.now c.part_of.ensures c.part_of-2.ensures s.0 s.1 s.2 s.3 differ
