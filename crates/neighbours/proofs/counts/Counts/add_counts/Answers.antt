use Rattle.neighbours.proofs.CountRows.{counts_before, counts_done, counts_ready}
use Rattle.neighbours.proofs.counts.Counts.add_counts.Goals as goal

pub returns-then-i-first : goal.returns-then-i-first
returns-then-i-first c = counts_before c.args.self.now c.requires c.arcs_end-first.ensures.0 c.if-i-first.true

pub add_one_hot-requires : goal.add_one_hot-requires
add_one_hot-requires c = counts_ready c.args.self.now c.requires c.arcs_end-first.ensures.0 c.if-i-first.false c.count_meter-meter.ensures c.count_start.ensures.0

pub returns : goal.returns
returns c = counts_done c.args.self.now c.requires c.arcs_end-first.ensures.0 c.if-i-first.false c.count_meter-meter.ensures c.count_start.ensures.0 c.add_one_hot.ensures
