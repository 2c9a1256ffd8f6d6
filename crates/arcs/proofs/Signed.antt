-- Signed numbers as the code makes them: a number from 0 on and its opposite are what they are meant to be, where they are small. Assumes nothing.
use Prim.Native.Nat.{ℕ, ◌^◌, ◌≤◌}
use mathlib.Core.Path.{◌≡◌}
use native.Mathlib.Omega.{arith}
use mir.Syntax.{w64}
use mir.Val.{to_z, of_z}
use mir.Facts.{to_z-of_z, to_z_pos}
use lib.IntN.{ℤ, pos, nat_abs, ◌-ℤ◌}
use Rattle.qubo.proofs.Turns.{less_abs, fits_less}

-- the opposite of a number
pub opposite_is : (z : ℤ) → nat_abs z ≤ 2 ^ 61 → to_z w64 (of_z w64 (pos 0 -ℤ z)) ≡ pos 0 -ℤ z
opposite_is z h = to_z-of_z (fits_less z h)

-- of a small penalty
pub less_small : (A : ℕ) → A ≤ 20000000 → nat_abs (pos 0 -ℤ pos A) ≤ 20000000
less_small A h = omega (arith, less_abs (pos A))

-- one from 0 on
pub plain : (n : ℕ) → n ≤ 2 ^ 61 → to_z w64 n ≡ pos n
plain n h = to_z_pos w64 {n = n} (omega arith)
