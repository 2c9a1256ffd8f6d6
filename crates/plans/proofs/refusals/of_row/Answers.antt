use Rattle.std.proofs.Common.{arith}
use Rattle.plans.proofs.Refusing.{row_past, row_short, row_fits}
use Rattle.plans.proofs.refusals.of_row.Goals as goal

pub returns-then-bits-i : goal.returns-then-bits-i
returns-then-bits-i c = row_past _ _ _ (omega arith)

pub returns-then-room-bits : goal.returns-then-room-bits
returns-then-room-bits c = row_short _ _ _ (omega arith) (omega arith)

pub returns : goal.returns
returns c = row_fits _ _ _ (omega arith) (omega arith)
