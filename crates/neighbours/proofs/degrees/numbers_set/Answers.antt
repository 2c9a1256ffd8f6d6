use native.Mathlib.Omega.{arith}
use Rattle.neighbours.proofs.DegreeSums.{numbers_start, numbers_next, numbers_low, numbers_end}
use Rattle.neighbours.proofs.degrees.numbers_set.Goals as goal

pub loop-i-init : goal.loop-i-init
loop-i-init c = omega (arith, numbers_start c.args.part.now)

pub loop-i-preserved : goal.loop-i-preserved
loop-i-preserved c =
    let i = c.loop-i.i in
    omega (arith, numbers_next c.args.part.now i, numbers_low c.args.part.now i c.requires.0 (omega (arith, c.requires.1)))

pub returns : goal.returns
returns c =
    let l = c.loop-i in
    (numbers_end c.args.part.now l.i l.sum (omega arith) l.invariant.1, omega (arith, c.requires.1))
