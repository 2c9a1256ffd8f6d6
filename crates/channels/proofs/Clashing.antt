-- Sums over the links: the clash weight of a plan, and what clashes in an assignment. Assumes nothing.
use Prim.Native.Nat.{ℕ, ◌*◌, ◌≤◌}
use mathlib.Core.Path.{◌≡◌, refl}
use mathlib.Core.List.{List}
use Rattle.lists.specs.Sums.{sum_of}
use Rattle.links.specs.declared.Link.{Link}
use Rattle.qubo.specs.Formula.{Bits}
use Rattle.onehot.specs.Choices.{bit_at, alike_weight}
use Rattle.onehot.proofs.Turns.{bit_bit}
use Rattle.onehot.proofs.LinkSums.{bits_link}
use Rattle.channels.specs.Plans.{clash_weight}
use Rattle.channels.specs.Formula.{clashing_of}

-- ---- a plan's clash weight

pub clash_sum : (ls : List Link) (p : List ℕ) → alike_weight ls p ≡ clash_weight ls p
unfolding alike_weight clash_weight
clash_sum ls p = refl

-- ---- what clashes in an assignment

pub clashing_sum : (n : ℕ) (ls : List Link) (x : List ℕ) → sum_of ls (bits_link ◌*◌ n x) ≡ clashing_of n ls (bit_at n x)
unfolding bits_link clashing_of
clashing_sum n ls x = refl

pub both_bits : (n : ℕ) (x : List ℕ) → Bits x → (u v i : ℕ) → bit_at n x u i * bit_at n x v i ≤ 1
unfolding bit_at
both_bits n x b u v i = bit_bit _ _ (b _) (b _)
