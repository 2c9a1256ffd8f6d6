use Rattle.std.proofs.Common.{length, length-append, arith}
use Rattle.std.proofs.lemmas.Slice.Zip.{zip_turn, zip_end}
use Rattle.lists.proofs.Sums.{sum_to_zero}
use Rattle.onehot.proofs.Turns.{pair_at, pair_next, pair_are}
use Rattle.onehot.proofs.pair_sum.Goals as goal

pub loop-bit-init : goal.loop-bit-init
loop-bit-init g c = (omega arith, λ h p. omega (arith, sum_to_zero (pair_at h c.args.part.now c.args.other.now)))

pub f-sum-requires : goal.f-sum-requires
f-sum-requires g c =
    let t = zip_turn c.args.part.now c.args.other.now c.loop-bit.yielded c.into_iter-bit-iterator.result c.loop-bit.bit-iterator c.next.new.self c.next.result (cc) (cc) c.loop-bit.yielded_by _ c.in-Some.is c.next.ensures.steps in
    rw (t.2 0, t.3 0) (c.requires.calls (length c.loop-bit.yielded) t.0)

pub overflow_add-sum : goal.overflow_add-sum
overflow_add-sum g c =
    let t = zip_turn c.args.part.now c.args.other.now c.loop-bit.yielded c.into_iter-bit-iterator.result c.loop-bit.bit-iterator c.next.new.self c.next.result (cc) (cc) c.loop-bit.yielded_by _ c.in-Some.is c.next.ensures.steps in
    let post = rw (t.2 0, t.3 0) at c.f-sum.ensures in
    omega (arith, t.0, c.loop-bit.invariant.0, c.requires.small (length c.loop-bit.yielded) _ t.0 post, c.requires.length)

pub loop-bit-preserved : goal.loop-bit-preserved
loop-bit-preserved g c =
    let t = zip_turn c.args.part.now c.args.other.now c.loop-bit.yielded c.into_iter-bit-iterator.result c.loop-bit.bit-iterator c.next.new.self c.next.result (cc) (cc) c.loop-bit.yielded_by _ c.in-Some.is c.next.ensures.steps in
    let n = length c.loop-bit.yielded in
    let post = rw (t.2 0, t.3 0) at c.f-sum.ensures in
    rw length-append (
      omega (arith, c.loop-bit.invariant.0, c.requires.small n _ t.0 post),
      λ h p. omega (arith, c.loop-bit.invariant.1 h p, p n _ t.0 post, pair_next h c.args.part.now c.args.other.now n),
    )

pub returns : goal.returns
returns g c = λ h p.
    pair_are h _ _ (length c.loop-bit.yielded) _ _
    (omega (arith, c.requires.length, zip_end c.args.part.now c.args.other.now c.loop-bit.yielded c.into_iter-bit-iterator.result c.loop-bit.bit-iterator c.next.new.self c.next.result (cc) (cc) c.loop-bit.yielded_by c.in-None.is c.next.ensures.steps))
    (c.loop-bit.invariant.1 h p)
