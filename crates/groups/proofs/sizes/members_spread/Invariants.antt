use Prim.Native.Nat.{ℕ, ◌<◌}
use mathlib.Core.Path.{◌≡◌}
use lib.ListN.{length, get_or}
use Rattle.groups.proofs.sizes.members_spread.Given as goal

abbrev pub invariant-loop-g : goal.invariant-loop-g
invariant-loop-g l = (length l.sizes ≡ 17) × ((h : ℕ) → h < l.g → get_or l.sizes h 0 ≡ get_or l.counts h 0)
