use Prim.Native.Nat.{◌+◌}
use lib.ListN.{get_or}
use native.Mathlib.Omega.{arith}
use Rattle.lists.proofs.Sums.{gap_small}
use Rattle.groups.proofs.Counted.{before_start, before_at, before_next, before_end}
use Rattle.groups.proofs.sizes.spread_to.Goals as goal

pub loop-size-init : goal.loop-size-init
loop-size-init c =
    let s = c.args in
    omega (arith, before_start s.sizes.now (get_or s.sizes.now s.h 0))

pub gap_squared-sum-requires : goal.gap_squared-sum-requires
gap_squared-sum-requires c =
    let s = c.args in
    let k = c.loop-size.size-index in
    omega (arith, before_at s.sizes.now s.h k (omega arith), c.requires.3 (k + 1) (omega arith) (omega arith), c.requires.3 s.h (omega arith) (omega arith))

pub overflow_add-sum : goal.overflow_add-sum
overflow_add-sum c =
    let s = c.args in
    let k = c.loop-size.size-index in
    omega (arith, rw (before_at s.sizes.now s.h k (omega arith)) at c.gap_squared-sum.ensures, gap_small (get_or s.sizes.now (k + 1) 0) (get_or s.sizes.now s.h 0) 48 (c.requires.3 (k + 1) (omega arith) (omega arith)) (c.requires.3 s.h (omega arith) (omega arith)))

pub loop-size-preserved : goal.loop-size-preserved
loop-size-preserved c =
    let s = c.args in
    let k = c.loop-size.size-index in
    omega (arith, rw (before_at s.sizes.now s.h k (omega arith)) at c.gap_squared-sum.ensures, gap_small (get_or s.sizes.now (k + 1) 0) (get_or s.sizes.now s.h 0) 48 (c.requires.3 (k + 1) (omega arith) (omega arith)) (c.requires.3 s.h (omega arith) (omega arith)), before_next s.sizes.now (get_or s.sizes.now s.h 0) (k + 1) (omega arith))

pub returns : goal.returns
returns c =
    let s = c.args in
    let l = c.loop-size in
    (before_end s.sizes.now s.h (l.size-index + 1) l.sum (omega arith) l.invariant.1, omega arith)
