-- A loop over links that adds up what their arcs give: the sum so far and what is left make up the whole. Assumes nothing.
use Prim.Native.Nat.{ℕ, ◌+◌, ◌≤◌, ◌<◌}
use mathlib.Core.Path.{◌≡◌, ap}
use mathlib.Core.List.{List}
use lib.ListN.{length}
use native.Mathlib.Omega.{arith}
use Rattle.lists.specs.Sums.{sum_of}
use Rattle.links.specs.declared.Link.{Link}
use Rattle.arcs.specs.Arcs.{Arc, arcs}
use Rattle.arcs.proofs.ArcLists.{arc_up, arc_back, arcs_left, arcs_start, arcs_turn, arcs_past}

pub record ArcsSummed (ls : List Link) (f : Arc → ℕ) (k sum : ℕ) : Type 0 where
  pub whole : sum + sum_of (arcs_left ls k) f ≡ sum_of (arcs ls) f

module _ (ls : List Link) (f : Arc → ℕ) where
  pub summed_start : ArcsSummed ls f 0 0
  summed_start = record { whole = omega (arith, ap (λ (l : List Arc). sum_of l f) (arcs_start ls)) }

  module _ (k sum : ℕ) (s : ArcsSummed ls f k sum) where
    -- a turn adds what the two arcs of the link at k give
    pub summed_turn : (d : ℕ) → k < length ls → d ≡ f (arc_up ls k) + f (arc_back ls k) → ArcsSummed ls f (k + 1) (sum + d)
    unfolding sum_of
    summed_turn d h e = record { whole = omega (arith, s.whole, ap (λ (l : List Arc). sum_of l f) (arcs_turn ls k h)) }

    pub summed_end : length ls ≤ k → sum ≡ sum_of (arcs ls) f
    unfolding sum_of
    summed_end h = omega (arith, s.whole, ap (λ (l : List Arc). sum_of l f) (arcs_past ls k h))
