use Rattle.std.proofs.Common.{◌+◌, ap, ◌∙◌, arith}
use Rattle.onehot.specs.Choices.{bit_at, miss_squared}
use Rattle.onehot.proofs.Parts.{set_at_le, cut_short, cut_count}
use Rattle.onehot.proofs.Turns.{misses_zero, misses_next}
use Rattle.onehot.proofs.misses_of.Goals as goal

pub loop-v-init : goal.loop-v-init
loop-v-init c = omega (arith, misses_zero c.args.n (bit_at c.args.n c.args.bits.now))

pub set_count-requires : goal.set_count-requires
set_count-requires c = cut_short c.args.n c.args.meters c.loop-v.v c.args.bits.now (omega arith) (omega arith) (omega arith) c.requires.2.bits

pub miss_squared-sum-requires : goal.miss_squared-sum-requires
miss_squared-sum-requires c =
    let v = c.loop-v.v in
    omega (
      arith,
      c.set_count.ensures ∙ cut_count c.args.n c.args.meters v c.args.bits.now (omega arith) (omega arith),
      set_at_le c.args.n c.args.bits.now (v + 1) c.requires.2.bits,
    )

pub loop-v-preserved : goal.loop-v-preserved
loop-v-preserved c =
    let s = c.args in
    let v = c.loop-v.v in
    omega (
      arith,
      c.miss_squared-sum.ensures.1,
      c.miss_squared-sum.ensures.0 ∙ ap miss_squared (c.set_count.ensures ∙ cut_count s.n s.meters v s.bits.now (omega arith) (omega arith)),
      misses_next v s.n (bit_at s.n s.bits.now),
    )
