use Rattle.std.proofs.Common.{◌∙◌, rules}
use Rattle.std.specs.Prelude.{ℤ, pos}
use mir.Syntax.{w64}
use mir.Facts.{to_z-of_z}
use Rattle.meterplan.proofs.Crossing.{given_is, withheld_is}
use Rattle.meterplan.proofs.MeterplanNumberFromResultI64Refusal.from.Goals as goal

pub returns-in-Ok : goal.returns-in-Ok
returns-in-Ok c r z e =
    let q = rw c.in-Ok.is at e in
    let g = given_is (λ (x : ℤ). x) (pos 0) r _ z q in
    (g.0, to_z-of_z {w = w64} (search rules) ∙ g.1)

pub returns-in-Err : goal.returns-in-Err
returns-in-Err c r z e =
    let q = rw c.in-Err.is at e in
    let g = withheld_is (λ (x : ℤ). x) (pos 0) _ r z q in
    (c.number.ensures ∙ g.0, g.1)
