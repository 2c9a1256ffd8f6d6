-- Sums over the links: the cut weight of a plan, which is what is left of all weights, and what an assignment cuts. Assumes nothing.
use Prim.Native.Nat.{ℕ, ◌+◌, ◌*◌, ◌≤◌}
use mathlib.Core.Path.{◌≡◌, refl}
use mathlib.Core.List.{List, [], ◌∷◌}
use native.Mathlib.Omega.{arith}
use native.Mathlib.Decide.{ℕ_discrete}
use native.Mathlib.Nat.{mul-one, mul-zero}
use Rattle.lists.specs.Sums.{sum_of, same, differ, nth}
use Rattle.lists.proofs.Sums.{same_yes, same_no, differ_yes, differ_no, differ_le}
use Rattle.links.specs.Links.{total}
use Rattle.links.specs.declared.Link.{Link}
use Rattle.onehot.specs.Choices.{bit_at, alike_weight}
use Rattle.onehot.proofs.LinkSums.{bits_link}
use Rattle.groups.specs.Plans.{cut_weight}
use Rattle.groups.specs.Formula.{cutting_of}

-- ---- a plan's cut weight

-- a link is cut, or has both ends in one group
apart_or_alike : (w a b : ℕ) → w * differ a b + w * same a b ≡ w
apart_or_alike w a b =
    elim (ℕ_discrete a b) [
      | yes e ↦ rw (differ_no a b e, same_yes a b e, mul-zero, mul-one) (omega arith)
      | no n ↦ rw (differ_yes a b n, same_no a b n, mul-zero, mul-one) (omega arith)
    ]

pub cut_rest : (ls : List Link) (p : List ℕ) → cut_weight ls p + alike_weight ls p ≡ total ls
unfolding cut_weight alike_weight total sum_of
cut_rest [] p = refl
cut_rest (l ∷ ls) p = omega (arith, cut_rest ls p, apart_or_alike l.weight (nth p l.u) (nth p l.v))

-- ---- what an assignment cuts

pub cutting_sum : (m : ℕ) (ls : List Link) (x : List ℕ) → sum_of ls (bits_link differ m x) ≡ cutting_of m ls (bit_at m x)
unfolding bits_link cutting_of
cutting_sum m ls x = refl

pub differ_bits : (m : ℕ) (x : List ℕ) (u v g : ℕ) → differ (bit_at m x u g) (bit_at m x v g) ≤ 1
differ_bits m x u v g = differ_le (bit_at m x u g) (bit_at m x v g)
