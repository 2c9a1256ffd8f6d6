-- The squares of meters' neighbours do not look at weights: of links with the same ends they are the same. Assumes nothing.
use Prim.Native.Nat.{ℕ, ◌*◌}
use mathlib.Core.Path.{◌≡◌, refl, ap, fun_ext}
use mathlib.Core.List.{List, ◌++◌}
use lib.IntN.{ℤ, pos}
use Rattle.lists.specs.Sums.{sum_to, gap}
use Rattle.links.specs.declared.Link.{Link}
use Rattle.links.proofs.Alike.{SameEnds}
use Rattle.qubo.specs.Formula.{square}
use Rattle.qubo.specs.Terms.{each, sum}
use Rattle.arcs.specs.Arcs.{arcs, arc_at}
use Rattle.arcs.proofs.Weightless.{over_alike, sum_alike}
use Rattle.neighbours.specs.Formula.{count_bit, touching, degree_terms, touches_of, degree_gaps}

module _ {ls ms : List Link} (s : SameEnds ls ms) where
  -- the terms, whatever number M of links the bits are placed for
  pub degrees_alike : (A N D M d : ℕ) → degree_terms A N D M d (arcs ls) ≡ degree_terms A N D M d (arcs ms)
  unfolding degree_terms
  degrees_alike A N D M d =
      ap (λ (G : ℕ → List (ℕ × ℤ)). each N (λ v. square (pos A) (sum (each d (λ j. (count_bit N D M d v j, pos j)) ++ G v))))
      (fun_ext (λ v. over_alike s (touching N D v) (λ a. refl)))

  -- their sum in an assignment
  pub degree_gaps_alike : (N D d : ℕ) (x : List ℕ) (cnt : ℕ → ℕ → ℕ) → degree_gaps N D d (arcs ls) (arc_at N D x) cnt ≡ degree_gaps N D d (arcs ms) (arc_at N D x) cnt
  unfolding degree_gaps touches_of arc_at
  degree_gaps_alike N D d x cnt =
      ap (λ (touched : ℕ → ℕ). sum_to N (λ v. gap (sum_to d (λ j. j * cnt v j)) (touched v) * gap (sum_to d (λ j. j * cnt v j)) (touched v)))
      (fun_ext (λ v. sum_alike s _ (λ a. refl)))
