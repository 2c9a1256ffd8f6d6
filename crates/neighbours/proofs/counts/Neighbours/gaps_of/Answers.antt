use native.Mathlib.Omega.{arith}
use Rattle.neighbours.proofs.DegreeSums.{gaps_start, own_fits, gaps_turn, gaps_end}
use Rattle.neighbours.proofs.counts.Neighbours.gaps_of.Goals as goal

pub loop-v-init : goal.loop-v-init
loop-v-init c = gaps_start c.args.self.now c.args.sums.now c.args.bits.now

pub slice_bounds-numbers_set-end : goal.slice_bounds-numbers_set-end
slice_bounds-numbers_set-end c = own_fits c.loop-v.invariant c.requires c.counts-counts.result c.counts-counts.ensures (omega (arith, c.loop-v-test.true)) c.count_start-start.ensures.0

pub overflow_add-sum : goal.overflow_add-sum
overflow_add-sum c =
    let t = gaps_turn c.loop-v.invariant c.requires c.counts-counts.result c.counts-counts.ensures (omega (arith, c.loop-v-test.true)) c.count_start-start.ensures.0 c.numbers_set-counted.ensures c.gap_squared-sum.ensures in
    omega (arith, t.low, t.inside)

pub loop-v-preserved : goal.loop-v-preserved
loop-v-preserved c =
    gaps_turn c.loop-v.invariant c.requires c.counts-counts.result c.counts-counts.ensures (omega (arith, c.loop-v-test.true)) c.count_start-start.ensures.0 c.numbers_set-counted.ensures c.gap_squared-sum.ensures

pub returns : goal.returns
returns c = gaps_end c.loop-v.invariant (omega (arith, c.loop-v-test.false))

pub returns-2 : goal.returns-2
returns-2 c =
    gaps_end (gaps_turn c.loop-v.invariant c.requires c.counts-counts.result c.counts-counts.ensures (omega (arith, c.loop-v-test.true)) c.count_start-start.ensures.0 c.numbers_set-counted.ensures c.gap_squared-sum.ensures) (omega arith)
