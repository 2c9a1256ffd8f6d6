use Prim.Native.Nat.{◌+◌}
use mathlib.Core.Path.{ap}
use native.Mathlib.Omega.{arith}
use Rattle.arcs.proofs.Slices.{meter_within, depths_few}
use Rattle.arcs.proofs.Summing.{meters_start, meters_next, meters_end, gaps_room}
use Rattle.arcs.proofs.layout.Layout.meter_gaps.Goals as goal

pub loop-v-init : goal.loop-v-init
loop-v-init c = omega (arith, meters_start c.args.self.now.deepest c.args.bits.now c.args.counts.now)

pub part_gaps-sum-requires : goal.part_gaps-sum-requires
part_gaps-sum-requires c =
    let a = c.args.self.now in
    let l = c.loop-v in
    let e = ap (λ w. c.depth_start-first.result + w) c.depth_width.ensures in
    let mw = meter_within a.deepest l.v a.meters (omega arith) (omega (arith, c.loop-v-test.true)) in
    gaps_room a.deepest l.v c.args.bits.now c.args.counts.now c.depth_start-first.result _ (omega arith) c.depth_start-first.ensures.0 e (omega (arith, e, mw)) (omega (arith, e, mw, depths_few a.meters a.deepest a.meters_high a.shallow, c.requires.2)) a.shallow c.requires.0 c.requires.3

pub loop-v-preserved : goal.loop-v-preserved
loop-v-preserved c =
    let a = c.args.self.now in
    let l = c.loop-v in
    let e = ap (λ w. c.depth_start-first.result + w) c.depth_width.ensures in
    let mw = meter_within a.deepest l.v a.meters (omega arith) (omega (arith, c.loop-v-test.true)) in
    omega (arith, c.part_gaps-sum.ensures.1, meters_next a.deepest l.v c.args.bits.now c.args.counts.now c.depth_start-first.result _ (omega arith) c.depth_start-first.ensures.0 e (omega (arith, e, mw)) (omega (arith, e, mw, depths_few a.meters a.deepest a.meters_high a.shallow, c.requires.2)) c.part_gaps-sum.result c.part_gaps-sum.ensures.0)

pub returns : goal.returns
returns c =
    let a = c.args.self.now in
    let l = c.loop-v in
    (meters_end a.deepest c.args.bits.now c.args.counts.now l.v a.meters l.sum (omega arith) l.invariant.2, omega (arith, a.meters_high))

pub returns-2 : goal.returns-2
returns-2 c =
    let a = c.args.self.now in
    let l = c.loop-v in
    let e = ap (λ w. c.depth_start-first.result + w) c.depth_width.ensures in
    let mw = meter_within a.deepest l.v a.meters (omega arith) (omega (arith, c.loop-v-test.true)) in
    let next = meters_next a.deepest l.v c.args.bits.now c.args.counts.now c.depth_start-first.result _ (omega arith) c.depth_start-first.ensures.0 e (omega (arith, e, mw)) (omega (arith, e, mw, depths_few a.meters a.deepest a.meters_high a.shallow, c.requires.2)) c.part_gaps-sum.result c.part_gaps-sum.ensures.0 in
    (meters_end a.deepest c.args.bits.now c.args.counts.now (l.v + 1) a.meters _ (omega arith) (omega (arith, next)), omega (arith, c.part_gaps-sum.ensures.1, a.meters_high))
