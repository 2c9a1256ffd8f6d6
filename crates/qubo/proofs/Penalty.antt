-- A penalty sum P, weighed by A, beside a cost C below A: the whole lies below A exactly where P is 0.
-- Assumes nothing.
use mathlib.Core.Path.{◌≡◌, sym, subst}
use mathlib.Core.Logic.{◌↔◌}
use Prim.Native.Nat.{ℕ, ◌+◌, ◌*◌, ◌≤◌, ◌<◌}
use native.Mathlib.Decide.{ℕ_discrete}
use native.Mathlib.Nat.{le-mul_of_pos_right, mul-zero}
use native.Mathlib.Omega.{arith}
use lib.Dec.{ltb→lt, lt→ltb}
use lib.IntN.{ℤ, pos}
use lib.Signed.{◌<ℤ◌, lt_z_yes}

-- one unit of penalty reaches A
pub penalised : (A P C : ℕ) → (P ≡ 0 → ⊥) → A ≤ A * P + C
penalised A P C n = omega (arith, le-mul_of_pos_right {m = P} A (omega arith))

-- without penalty the cost is left
pub unpenalised : (A P C : ℕ) → P ≡ 0 → A * P + C ≡ C
unpenalised A P C e = rw e (omega (arith, mul-zero A))

-- the whole is below A exactly where there is no penalty
pub below_penalty : (A P C : ℕ) → (P ≡ 0 → C < A) → (A * P + C < A) ↔ (P ≡ 0)
below_penalty A P C c = (there, λ e. omega (arith, unpenalised A P C e, c e))
  where
    there : A * P + C < A → P ≡ 0
    there h = elim (ℕ_discrete P 0) [ yes e ↦ e | no n ↦ absurd (omega (arith, penalised A P C n)) ]

-- an energy in ℤ that is a whole number from 0
pub below_ℤ : (A E : ℕ) (z : ℤ) → z ≡ pos E → (z <ℤ pos A) ↔ (E < A)
below_ℤ A E z e = subst (λ w. (w <ℤ pos A) ↔ (E < A)) (sym e) (λ h. ltb→lt E A h.lt, λ h. lt_z_yes (lt→ltb E A h))

-- the same of an energy in ℤ
pub energy_below : (A P C : ℕ) (z : ℤ) → z ≡ pos (A * P + C) → (P ≡ 0 → C < A) → (z <ℤ pos A) ↔ (P ≡ 0)
energy_below A P C z e c =
    let i = below_ℤ A (A * P + C) z e in
    let b = below_penalty A P C c in
    (λ h. b.0 (i.0 h), λ p. i.1 (b.1 p))
