use Rattle.std.proofs.Common.{sym}
use Rattle.plans.proofs.Calling.{exit_is, row_stops, row_number}
use Rattle.plans.proofs.row_refusal.Goals as goal

pub returns-in_err-posed-clause-value : goal.returns-in_err-posed-clause-value
returns-in_err-posed-clause-value c = rw (exit_is _ c.from_residual.ensures.1) (row_stops _ _ _ c.in_err-posed.ensures c.args.i c.args.out.now).0.0

pub returns-clause-value : goal.returns-clause-value
returns-clause-value c = sym (row_number _ _ c.in_ok-posed.ensures c.bits.ensures c.args.i c.args.out.now c.of_row.ensures)
