-- The parts of the two ends of a link among the bits, and how many bits there are. Assumes nothing.
use Prim.Native.Nat.{ℕ, ◌*◌, ◌≤◌, ◌<◌}
use mathlib.Core.List.{List}
use lib.ListN.{length}
use native.Mathlib.Omega.{arith}
use native.Mathlib.Nat.{mul-le-mul, mul-le-mul_right}
use Rattle.links.specs.Links.{link_in}
use Rattle.links.specs.declared.Link.{Link}
use Rattle.links.proofs.Walk.{link_at}
use Rattle.qubo.specs.Formula.{Bits, Assignment}
use Rattle.onehot.specs.Inner.{WithChoices}

-- 48 meters, 16 choices
pub bits_most : (N n : ℕ) → N ≤ 48 → n ≤ 16 → N * n ≤ 768
bits_most N n a b = mul-le-mul {n₂ = 48} {m₂ = 16} a b

pub bits_few : (N n : ℕ) (ls : List Link) → WithChoices N n ls → N * n ≤ 768
bits_few N n ls lent = bits_most N n lent.survey.meters_high lent.high

-- the ends of the link at k have their parts in the bits
pub ends_fit : (N n : ℕ) (x : List ℕ) (ls : List Link) → WithChoices N n ls → Assignment (N * n) x → (k : ℕ) → k < length ls
    → (1 ≤ (link_in ls k).u) × (1 ≤ (link_in ls k).v) × ((link_in ls k).u * n ≤ length x) × ((link_in ls k).v * n ≤ length x) × (n ≤ 16) × Bits x
ends_fit N n x ls a b k h =
    let o = link_at N ls a.survey.each k h in
    (o.u_low, omega (arith, o.u_low, o.ordered), rw b.size (mul-le-mul_right n (omega (arith, o.ordered, o.v_high))), rw b.size (mul-le-mul_right n o.v_high), a.high, b.bits)
