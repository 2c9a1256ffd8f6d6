use Rattle.std.proofs.Common.{arith}
use Rattle.channels.proofs.Hearing.{least_start, least_new, least_old, least_end}
use Rattle.channels.proofs.repairing.least_sum.Goals.{then-sums-next, else-sums-next}
use Rattle.channels.proofs.repairing.least_sum.Goals as goal

pub loop-next-init : goal.loop-next-init
loop-next-init c = (omega arith, omega arith, least_start _)

pub loop-next-preserved : goal.loop-next-preserved
loop-next-preserved c =
    let l = c.loop-next in
    elim c.if-sums-next.branch [
      | then-sums-next w ↦ rw w.best-is (omega arith, omega arith, least_new _ _ _ (omega arith) l.invariant.2 (omega arith))
      | else-sums-next w ↦ rw w.best-is (omega arith, omega arith, least_old _ _ _ (omega arith) l.invariant.2 (omega arith))
    ]

pub returns : goal.returns
returns c = least_end _ _ _ _ c.loop-next.invariant.2 (omega arith)

pub returns-after-sums-next : goal.returns-after-sums-next
returns-after-sums-next c =
    let l = c.loop-next in
    elim c.if-sums-next.branch [
      | then-sums-next w ↦ rw w.best-is (least_end _ _ _ _ (least_new _ _ _ (omega arith) l.invariant.2 (omega arith)) (omega arith))
      | else-sums-next w ↦ rw w.best-is (least_end _ _ _ _ (least_old _ _ _ (omega arith) l.invariant.2 (omega arith)) (omega arith))
    ]
