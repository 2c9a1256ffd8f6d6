use Prim.Native.Nat.{◌+◌}
use native.Mathlib.Omega.{arith}
use Rattle.groups.proofs.Counted.{spread_start, spread_next, spread_end}
use Rattle.groups.proofs.sizes.spread_of.Goals as goal

pub loop-h-init : goal.loop-h-init
loop-h-init c = omega (arith, spread_start c.args.sizes.now)

pub loop-h-preserved : goal.loop-h-preserved
loop-h-preserved c = omega (arith, spread_next c.args.sizes.now c.loop-h.h c.spread_to-sum.result (omega arith) c.spread_to-sum.ensures.0)

pub returns : goal.returns
returns c = omega (arith, spread_end c.args.sizes.now c.args.m c.loop-h.h (omega arith))

pub returns-2 : goal.returns-2
returns-2 c =
    let l = c.loop-h in
    omega (arith, spread_next c.args.sizes.now l.h c.spread_to-sum.result (omega arith) c.spread_to-sum.ensures.0, spread_end c.args.sizes.now c.args.m (l.h + 1) (omega arith))
