use Rattle.std.proofs.Common.{refl, sym, arith}
use Rattle.site.proofs.Calls.{number_above}
use Rattle.plans.proofs.Refusing.{row_within}
use Rattle.plans.proofs.Calling.{exit_is, row_stops, row_tested, row_given}
use Rattle.plans.proofs.fill.Goals as goal

pub returns-in_err-posed-clause-number : goal.returns-in_err-posed-clause-number
returns-in_err-posed-clause-number c = rw (exit_is _ c.from_residual.ensures.1) (row_stops _ _ _ c.in_err-posed.ensures c.args.i c.args.out.now).0.0

pub returns-in_err-posed-clause-row : goal.returns-in_err-posed-clause-row
returns-in_err-posed-clause-row c = (row_stops _ _ _ c.in_err-posed.ensures c.args.i c.args.out.now).1

pub returns-in_err-of_row-clause-number : goal.returns-in_err-of_row-clause-number
returns-in_err-of_row-clause-number c = rw (exit_is _ c.from_residual-in_err-of_row.ensures.1) (row_tested _ _ c.in_ok-posed.ensures c.bits-bits.ensures c.args.i c.args.out.now c.in_err-of_row.ensures (number_above _)).0.0

pub returns-in_err-of_row-clause-row : goal.returns-in_err-of_row-clause-row
returns-in_err-of_row-clause-row c =
    (row_tested _ _ c.in_ok-posed.ensures c.bits-bits.ensures c.args.i c.args.out.now c.in_err-of_row.ensures (number_above _)).1

pub fill_row-requires : goal.fill_row-requires
fill_row-requires c = omega (arith, row_within _ _ _ (sym c.in_ok-of_row.ensures), c.bits-bits.ensures)

pub overflow_sub-result : goal.overflow_sub-result
overflow_sub-result c = omega (arith, row_within _ _ _ (sym c.in_ok-of_row.ensures))

pub returns-clause-number : goal.returns-clause-number
returns-clause-number c =
    let r = row_given _ _ c.in_ok-posed.ensures c.bits-bits.ensures c.args.i c.args.out.now c.in_ok-of_row.ensures refl c.fill_row.ensures in
    (sym r.0.0, r.0.1)

pub returns-clause-row : goal.returns-clause-row
returns-clause-row c =
    (row_given _ _ c.in_ok-posed.ensures c.bits-bits.ensures c.args.i c.args.out.now c.in_ok-of_row.ensures refl c.fill_row.ensures).1
