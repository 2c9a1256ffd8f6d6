use Rattle.std.proofs.Common.{◌∙◌}
use Rattle.qubo.specs.declared.problem.Decoded.{Decoded}
use Rattle.meterplan.proofs.Crossing.{given_is, withheld_is}
use Rattle.meterplan.proofs.MeterplanDecodedFromResultDecodedRefusal.from.Goals as goal

pub returns-in-Ok : goal.returns-in-Ok
returns-in-Ok c r w k e =
    let q = rw c.in-Ok.is at e in
    let v = given_is (λ (d : Decoded). d.weight) 0 r _ _ q in
    let m = given_is (λ (d : Decoded). d.repaired) 0 r _ _ q in
    (v.0, v.1, m.1)

pub returns-in-Err : goal.returns-in-Err
returns-in-Err c r w k e =
    let q = rw c.in-Err.is at e in
    let v = withheld_is (λ (d : Decoded). d.weight) 0 _ r _ q in
    let m = withheld_is (λ (d : Decoded). d.repaired) 0 _ r _ q in
    (c.number.ensures ∙ v.0, v.1, m.1)
