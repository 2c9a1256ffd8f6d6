-- Plans and their codes do not look at weights: of links with the same ends they are the same. Assumes nothing.
use Prim.Native.Nat.{ℕ, suc}
use mathlib.Core.Path.{◌≡◌, refl, ap, fun_ext}
use mathlib.Core.Bool.{Bool, ◌&&◌, ◌||◌}
use mathlib.Core.List.{List, [], ◌∷◌, ◌++◌}
use lib.Dec.{eqb}
use lib.ListN.{length}
use Rattle.lists.specs.Tests.{every, all, from}
use Rattle.lists.specs.Sums.{nth}
use Rattle.links.specs.declared.Link.{Link}
use Rattle.links.proofs.Alike.{SameEnds, present_alike}
use Rattle.onehot.specs.Choices.{code}
use Rattle.spanning.specs.Parents.{deepest, depth_of, at_most, linked, parent_linked, roots_of, is_rooted}
use Rattle.arcs.specs.Arcs.{arc_at}
use Rattle.arcs.proofs.Weightless.{sum_alike, map_alike}
use Rattle.qubo.specs.Terms.{each}
use Rattle.tree.specs.Decoding.{parent_read, candidate_to}
use Rattle.tree.specs.Plans.{few_neighbours, is_plan, depth_choices, arc_choice, arc_choices, count_choices, code_of}

module _ {ls ms : List Link} (s : SameEnds ls ms) where
  -- which lists are plans
  pub plan_alike : (N d : ℕ) (p : List ℕ) → is_plan N d ls p ≡ is_plan N d ms p
  unfolding is_plan is_rooted parent_linked linked
  plan_alike N d p =
      ap (λ (f : ℕ → ℕ → Bool). every (eqb (length p) N ∷ eqb (roots_of N p) 1 ∷ all (λ v. eqb (nth p v) 0 || (f v (nth p v) || f (nth p v) v)) (from 1 N) ∷ all (λ v. at_most (deepest N) (depth_of p N v)) (from 1 N) ∷ []) && few_neighbours N d p)
      (fun_ext (λ a. fun_ext (λ b. present_alike s a b)))

  -- and the code of each
  pub code_alike : (N d : ℕ) (p : List ℕ) → code_of N d ls p ≡ code_of N d ms p
  unfolding code_of arc_choices arc_choice
  code_alike N d p = ap (λ (cs : List ℕ). code (suc (deepest N)) (depth_choices N p) ++ code (deepest N) cs ++ code d (count_choices N p)) (map_alike s (arc_choice N p) (λ a. refl))

  -- the parents that bits would code
  pub candidate_alike : (D N : ℕ) (x : List ℕ) → candidate_to D N ls x ≡ candidate_to D N ms x
  unfolding candidate_to parent_read arc_at
  candidate_alike D N x = ap (each N) (fun_ext (λ v. sum_alike s _ (λ a. refl)))
