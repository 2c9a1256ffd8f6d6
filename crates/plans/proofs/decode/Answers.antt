use Rattle.std.proofs.Common.{refl, sym}
use Rattle.site.proofs.Calls.{number_above}
use Rattle.plans.proofs.Refusing.{decode_right}
use Rattle.plans.proofs.Calling.{exit_is, decode_stops, decode_tested, decode_given}
use Rattle.plans.proofs.decode.Goals as goal

pub returns-in_err-posed-clause-answer : goal.returns-in_err-posed-clause-answer
returns-in_err-posed-clause-answer c = rw (exit_is _ c.from_residual.ensures.1) (decode_stops _ _ _ c.in_err-posed.ensures c.args.bits.now c.args.plan.now).0

pub returns-in_err-posed-clause-plan : goal.returns-in_err-posed-clause-plan
returns-in_err-posed-clause-plan c = (decode_stops _ _ _ c.in_err-posed.ensures c.args.bits.now c.args.plan.now).1

pub returns-in_err-of_decoding-clause-answer : goal.returns-in_err-of_decoding-clause-answer
returns-in_err-of_decoding-clause-answer c = rw (exit_is _ c.from_residual-in_err-of_decoding.ensures.1) (decode_tested _ _ c.in_ok-posed.ensures c.args.bits.now c.args.plan.now c.in_err-of_decoding.ensures (number_above _)).0

pub returns-in_err-of_decoding-clause-plan : goal.returns-in_err-of_decoding-clause-plan
returns-in_err-of_decoding-clause-plan c = (decode_tested _ _ c.in_ok-posed.ensures c.args.bits.now c.args.plan.now c.in_err-of_decoding.ensures (number_above _)).1

pub decode-requires : goal.decode-requires
decode-requires c = decode_right _ _ _ _ (sym c.in_ok-of_decoding.ensures)

pub returns-clause-answer : goal.returns-clause-answer
returns-clause-answer c = rw c.ok_or.ensures.value (decode_given _ _ c.in_ok-posed.ensures c.args.bits.now c.args.plan.now c.in_ok-of_decoding.ensures refl c.decode.ensures.answer c.decode.ensures.plan).0

pub returns-clause-plan : goal.returns-clause-plan
returns-clause-plan c = (decode_given _ _ c.in_ok-posed.ensures c.args.bits.now c.args.plan.now c.in_ok-of_decoding.ensures refl c.decode.ensures.answer c.decode.ensures.plan).1
