use Prim.Native.Nat.{◌+◌, ◌*◌}
use mathlib.Core.Path.{◌∙◌}
use lib.ListN.{length}
use native.Mathlib.Omega.{arith}
use Rattle.links.proofs.Graph.{edge_at}
use Rattle.arcs.proofs.ArcSums.{summed_start, summed_turn, summed_end}
use Rattle.arcs.proofs.Slices.{arc_within}
use Rattle.arcs.proofs.Summing.{misses_of, misses_sum, misses_link}
use Rattle.arcs.specs.Arcs.{arcs}
use Rattle.arcs.proofs.layout.Arcs.end_misses.Goals as goal

pub loop-k-init : goal.loop-k-init
loop-k-init c =
    let a = c.args.self.now in (summed_start a.links.now (misses_of a.layout.meters a.layout.deepest c.args.bits.now), omega arith)

pub link_misses-sum-requires : goal.link_misses-sum-requires
link_misses-sum-requires c =
    let a = c.args.self.now in
    let l = c.loop-k in
    let h = c.loop-k-test.true in
    let k = edge_at a.layout.meters a.links.now a.each l.k h in
    (omega (arith, a.few, h), k.u_low, omega (arith, k.ordered, k.v_high), omega (arith, k.u_low, k.ordered), k.v_high, c.requires.0, omega (arith, arc_within a.layout.meters a.layout.deepest (length a.links.now) (2 * l.k + 1) (omega (arith, h)), c.requires.1), c.requires.2.each l.k h)

pub loop-k-preserved : goal.loop-k-preserved
loop-k-preserved c =
    let a = c.args.self.now in
    let l = c.loop-k in
    (summed_turn a.links.now (misses_of a.layout.meters a.layout.deepest c.args.bits.now) l.k l.sum l.invariant.0 c.link_misses-sum.result c.loop-k-test.true (misses_link a.layout.meters a.layout.deepest c.args.bits.now a.links.now l.k c.link_misses-sum.result c.link_misses-sum.ensures.0), omega (arith, c.link_misses-sum.ensures.1, l.invariant.1))

pub returns : goal.returns
returns c =
    let a = c.args.self.now in
    let l = c.loop-k in
    (summed_end a.links.now (misses_of a.layout.meters a.layout.deepest c.args.bits.now) l.k l.sum l.invariant.0 (omega arith) ∙ misses_sum a.layout.meters a.layout.deepest (arcs a.links.now) c.args.bits.now, omega (arith, l.invariant.1, a.few))
