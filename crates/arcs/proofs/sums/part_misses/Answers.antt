use Prim.Native.Nat.{◌+◌}
use lib.ListN.{length, get_or}
use native.Mathlib.Omega.{arith}
use Rattle.arcs.proofs.Summing.{misses_start, misses_next, misses_end, miss_small}
use Rattle.arcs.proofs.sums.part_misses.Goals as goal

pub loop-i-init : goal.loop-i-init
loop-i-init c = omega (arith, misses_start c.args.part.now c.args.above.now c.args.below.now)

pub loop-i-preserved : goal.loop-i-preserved
loop-i-preserved c =
    let l = c.loop-i in
    omega (arith, miss_small (get_or c.args.part.now l.i 0) (get_or c.args.above.now l.i 0 + get_or c.args.below.now l.i 0) (c.requires.3 l.i), misses_next c.args.part.now c.args.above.now c.args.below.now l.i)

pub returns : goal.returns
returns c =
    let l = c.loop-i in
    (misses_end c.args.part.now c.args.above.now c.args.below.now l.i (length c.args.part.now) l.sum (omega arith) l.invariant.1, omega arith)
