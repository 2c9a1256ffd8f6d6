use native.Mathlib.Omega.{arith}
use Rattle.arcs.proofs.Graph.{graph}
use Rattle.arcs.proofs.Entered.{counts_small, entry_gaps_is}
use Rattle.arcs.proofs.layout.Arcs.entry_gaps.Goals as goal

pub meter_gaps-requires : goal.meter_gaps-requires
meter_gaps-requires c =
    let a = c.args.self.now in
    (c.requires.0, omega (arith, c.requires.1), c.gather_entries-counts.ensures.0, counts_small a.layout.meters a.layout.deepest a.links.now c.args.bits.now c.gather_entries-counts.result c.gather_entries-counts.ensures.1 (graph a) c.requires.0)

pub returns : goal.returns
returns c =
    let a = c.args.self.now in
    (entry_gaps_is a.layout.meters a.layout.deepest a.links.now c.args.bits.now c.gather_entries-counts.result c.gather_entries-counts.ensures.1 c.meter_gaps.result c.meter_gaps.ensures.0, c.meter_gaps.ensures.1)
