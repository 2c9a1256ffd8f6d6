use Rattle.std.proofs.Common.{◌+◌, refl, arith}
use Rattle.lists.proofs.Sums.{times_bit}
use Rattle.onehot.proofs.Adding.{part_start, part_turn, part_done, part_bound}
use Rattle.onehot.proofs.add_part.Goals as goal

pub loop-i-init : goal.loop-i-init
loop-i-init c = part_start _ _ _

pub bounds-sums-i : goal.bounds-sums-i
bounds-sums-i c = omega (arith, c.loop-i.invariant.size, c.requires.0)

pub overflow_mul-sums : goal.overflow_mul-sums
overflow_mul-sums c =
    let b = c.requires.2 c.loop-i.i in
    omega (arith, c.requires.1, b, times_bit c.args.w _ b)

pub overflow_add-sums-in-loop-i : goal.overflow_add-sums-in-loop-i
overflow_add-sums-in-loop-i c =
    let l = c.loop-i in
    omega (arith, c.requires.1, c.requires.2 l.i, times_bit c.args.w _ (c.requires.2 l.i), l.invariant.rest (l.i + 1) (omega arith), c.requires.3 (l.i + 1) (omega arith) (omega arith))

pub loop-i-preserved : goal.loop-i-preserved
loop-i-preserved c = part_turn _ _ _ _ _ c.loop-i.invariant _ (omega (arith, c.requires.0)) refl

pub returns : goal.returns
returns c =
    let a = c.loop-i.invariant in
    (a.size, λ i p q. part_done _ _ _ _ _ a (omega arith) i, part_bound _ _ _ _ _ a (omega arith) c.requires.2)
