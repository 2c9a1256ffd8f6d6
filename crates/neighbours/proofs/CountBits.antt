-- Where the neighbour-count bits begin and end. Assumes nothing.
use Prim.Native.Nat.{ℕ, zero, suc, ◌+◌, ◌-◌, ◌*◌, ◌≤◌}
use mathlib.Core.Path.{◌≡◌, refl}
use native.Mathlib.Omega.{arith}
use native.Mathlib.Nat.{mul-le-mul}
use Rattle.onehot.proofs.Parts.{one_less}
use Rattle.arcs.specs.Arcs.{arcs_end}
use Rattle.arcs.proofs.Slices.{ends_few}
use Rattle.neighbours.specs.Inner.{count_start}

-- as the code reckons
pub count_start_is : (N D M d v b : ℕ) → 1 ≤ v → b ≡ arcs_end N D M → b + (v - 1) * d ≡ count_start N D M d v
count_start_is N D M d zero b h e = absurd (omega arith)
count_start_is N D M d (suc k) b h e = rw (one_less k, e) refl

-- 48 meters have at most 2,256 of them
pub counts_few : (N d : ℕ) → N ≤ 48 → d ≤ 47 → N * d ≤ 2256
counts_few N d a b = mul-le-mul {n₂ = 48} {m₂ = 47} a b

-- so there are at most 15,744 bits in all
pub bits_few : (N D M d : ℕ) → N ≤ 48 → D ≤ 24 → M ≤ 256 → d ≤ 47 → arcs_end N D M + N * d ≤ 15744
bits_few N D M d n e m l = omega (arith, ends_few N D M n e m, counts_few N d n l)
