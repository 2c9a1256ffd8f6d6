use Rattle.std.proofs.Common.{not, refl, sym, ap}
use Rattle.site.proofs.Calls.{number_above}
use Rattle.plans.proofs.Refusing.{lengths_right}
use Rattle.plans.proofs.Calling.{exit_is, code_stops, code_tested, code_no_plan, code_given}
use Rattle.plans.proofs.encode.Goals as goal

pub returns-in_err-posed-clause-number : goal.returns-in_err-posed-clause-number
returns-in_err-posed-clause-number c = rw (exit_is _ c.from_residual.ensures.1) (code_stops _ _ _ c.in_err-posed.ensures c.args.plan.now c.args.bits.now).0

pub returns-in_err-posed-clause-bits : goal.returns-in_err-posed-clause-bits
returns-in_err-posed-clause-bits c = (code_stops _ _ _ c.in_err-posed.ensures c.args.plan.now c.args.bits.now).1

pub returns-in_err-of_lengths-clause-number : goal.returns-in_err-of_lengths-clause-number
returns-in_err-of_lengths-clause-number c = rw (exit_is _ c.from_residual-in_err-of_lengths.ensures.1) (code_tested _ _ c.in_ok-posed.ensures c.args.plan.now c.args.bits.now c.in_err-of_lengths.ensures (number_above _)).0

pub returns-in_err-of_lengths-clause-bits : goal.returns-in_err-of_lengths-clause-bits
returns-in_err-of_lengths-clause-bits c = (code_tested _ _ c.in_ok-posed.ensures c.args.plan.now c.args.bits.now c.in_err-of_lengths.ensures (number_above _)).1

pub encode-requires : goal.encode-requires
encode-requires c = (lengths_right _ _ _ _ (sym c.in_ok-of_lengths.ensures)).1

pub returns-then-not-encode-clause-number : goal.returns-then-not-encode-clause-number
returns-then-not-encode-clause-number c = (code_no_plan _ _ c.in_ok-posed.ensures c.args.plan.now c.args.bits.now c.in_ok-of_lengths.ensures refl c.encode.ensures.plan c.encode.ensures.bits (ap not c.if-not-encode.true)).0

pub returns-then-not-encode-clause-bits : goal.returns-then-not-encode-clause-bits
returns-then-not-encode-clause-bits c = (code_no_plan _ _ c.in_ok-posed.ensures c.args.plan.now c.args.bits.now c.in_ok-of_lengths.ensures refl c.encode.ensures.plan c.encode.ensures.bits (ap not c.if-not-encode.true)).1

pub returns-clause-number : goal.returns-clause-number
returns-clause-number c = (code_given _ _ c.in_ok-posed.ensures c.args.plan.now c.args.bits.now c.in_ok-of_lengths.ensures refl c.encode.ensures.plan c.encode.ensures.bits (ap not c.if-not-encode.false)).0

pub returns-clause-bits : goal.returns-clause-bits
returns-clause-bits c = (code_given _ _ c.in_ok-posed.ensures c.args.plan.now c.args.bits.now c.in_ok-of_lengths.ensures refl c.encode.ensures.plan c.encode.ensures.bits (ap not c.if-not-encode.false)).1
