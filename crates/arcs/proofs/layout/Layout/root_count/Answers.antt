use Prim.Native.Nat.{◌+◌}
use native.Mathlib.Omega.{arith}
use Rattle.arcs.proofs.Summing.{roots_start, roots_next, roots_end}
use Rattle.arcs.proofs.layout.Layout.root_count.Goals as goal

pub loop-v-init : goal.loop-v-init
loop-v-init c = omega (arith, roots_start c.args.self.now.deepest c.args.bits.now)

pub loop-v-preserved : goal.loop-v-preserved
loop-v-preserved c =
    omega (arith, c.requires.0 c.depth_start.result, roots_next c.args.self.now.deepest c.args.bits.now c.loop-v.v c.depth_start.result (omega arith) c.depth_start.ensures.0)

pub returns : goal.returns
returns c =
    let a = c.args.self.now in
    let l = c.loop-v in
    (roots_end a.deepest c.args.bits.now l.v a.meters l.sum (omega arith) l.invariant.2, omega (arith, a.meters_high))

pub returns-2 : goal.returns-2
returns-2 c =
    let a = c.args.self.now in
    let l = c.loop-v in
    (roots_end a.deepest c.args.bits.now (l.v + 1) a.meters _ (omega arith) (omega (arith, roots_next a.deepest c.args.bits.now l.v c.depth_start.result (omega arith) c.depth_start.ensures.0)), omega (arith, c.requires.0 c.depth_start.result, a.meters_high))
