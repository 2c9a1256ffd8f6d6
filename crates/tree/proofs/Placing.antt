-- The three parts of a plan's code put in place one after another, and that the choices of a plan are within their bounds. Assumes nothing.
use Prim.Native.Nat.{ℕ, zero, suc, ◌+◌, ◌-◌, ◌*◌, ◌≤◌, ◌<◌}
use mathlib.Core.Path.{◌≡◌, refl, sym, ap, ◌∙◌}
use mathlib.Core.Bool.{Bool, true, false, cond, false≢true}
use mathlib.Core.List.{List, [], ◌∷◌, ◌++◌, map, append_assoc, append-nil}
use lib.ListN.{length, get_or, take, drop, length-append, length-drop}
use lib.Seq.{drop-drop, drop-length, take-append_seam, drop-append-add}
use lib.Dec.{eqb, leb}
use native.Mathlib.Omega.{arith}
use native.Mathlib.Decide.{dec_le}
use borrow.Author.Tests.{eqb-true, leb-true}
use Rattle.lists.specs.Sums.{nth}
use Rattle.lists.proofs.Sums.{nth_past}
use Rattle.lists.proofs.Tests.{and_left, and_right, every_at, all_from}
use Rattle.links.specs.declared.Link.{Link}
use Rattle.onehot.specs.Choices.{code}
use Rattle.onehot.proofs.Codes.{each_at, code_length}
use Rattle.spanning.specs.Parents.{deepest, depth_of, at_most, is_rooted, neighbours}
use Rattle.std.specs.Prelude.{Option, Some, None}
use Rattle.spanning.proofs.Depths.{depth_root}
use Rattle.spanning.proofs.Recursion.{nth_none, depth_none}
use Rattle.arcs.specs.Arcs.{arcs, depths_end, arcs_end}
use Rattle.tree.specs.Formula.{bit_count}
use Rattle.tree.specs.Plans.{few_neighbours, is_plan, bit_of_depth, arc_depth, depth_choices, arc_choice, arc_choices, count_choices, code_of}
use Rattle.tree.specs.Inner.{placed}
use Rattle.tree.proofs.Filling.{depths_length, counts_length, arc_choices_length}

-- ---- a part in its place

-- as a part of a slice is put back
pub placed_part : (start n : ℕ) (p xs ys : List ℕ) → ys ≡ code n p → take start xs ++ (ys ++ drop (start + length p * n - start) (drop start xs)) ≡ placed start (code n p) xs
unfolding placed
placed_part start n p xs ys e =
    rw (e, drop-drop, k) (sym (append_assoc (take start xs) (code n p) (drop (start + length (code n p)) xs)))
  where
    k : start + (start + length p * n - start) ≡ start + length (code n p)
    k = omega (arith, code_length n p)

-- what was filled in is within its bounds, and there is room for its code
module _ (n : ℕ) (filled want : List ℕ) (e : filled ≡ want) where
  pub code_asks : (N : ℕ) → length want ≡ N → ((v : ℕ) → v < N → get_or want v 0 ≤ n) → (start room : ℕ) → start + N * n ≤ room → ((v : ℕ) → v < length filled → get_or filled v 0 ≤ n) × (start + length filled * n ≤ room)
  code_asks N s h start room l = rw (e, s) (h, l)

  -- what is then in place
  pub code_given : (start : ℕ) (xs ys : List ℕ) → ys ≡ placed start (code n filled) xs → ys ≡ placed start (code n want) xs
  code_given start xs ys d = rw (← e) d

-- behind the parts A there are already
placed_next : (A B R : List ℕ) (k : ℕ) → k ≡ length A → placed k B (A ++ R) ≡ A ++ B ++ drop (length B) R
unfolding placed
placed_next A B R k e = rw (e, take-append_seam A R, drop-append-add A R (length B)) refl

-- three parts that fill a list
placed_all : (A B C xs : List ℕ) (k l : ℕ) → k ≡ length A → l ≡ length A + length B → length xs ≡ length A + length B + length C → placed l C (placed k B (placed 0 A xs)) ≡ A ++ B ++ C
placed_all A B C xs k l ek el e =
    ap (λ (t : List ℕ). placed l C (placed k B t)) (placed_next [] A xs 0 refl)
    ∙ ap (placed l C) (placed_next A B (drop (length A) xs) k ek)
    ∙ placed_next (A ++ B) C (drop (length B) (drop (length A) xs)) l (el ∙ sym (length-append A B))
    ∙ ap (λ (t : List ℕ). A ++ B ++ C ++ t) none
    ∙ append-nil (A ++ B ++ C)
  where
    size : length (drop (length B) (drop (length A) xs)) ≡ length C
    size = rw (length-drop, length-drop) (omega arith)

    none : drop (length C) (drop (length B) (drop (length A) xs)) ≡ []
    none = ap (λ (t : ℕ). drop t (drop (length B) (drop (length A) xs))) (sym size) ∙ drop-length (drop (length B) (drop (length A) xs))

-- ---- the choices of a plan

-- a depth up to D
depth_bit_in : (D : ℕ) (o : Option ℕ) → at_most D o ≡ true → (bit_of_depth o ≤ suc D) × (arc_depth o ≤ D)
unfolding at_most
depth_bit_in D (Some h) e = let l : h ≤ D = leb-true h D e in (omega arith, l)
depth_bit_in D None e = absurd (false≢true e)

-- a bound on each entry of a list
map_in : {A : Type 0} (f : A → ℕ) (D : ℕ) → ((a : A) → f a ≤ D) → (l : List A) (k : ℕ) → get_or (map f l) k 0 ≤ D
map_in f D h [] k = omega arith
map_in f D h (a ∷ l) zero = h a
map_in f D h (a ∷ l) (suc k) = map_in f D h l k

-- where D is 01's
module _ (N D d : ℕ) (ls : List Link) (p : List ℕ) (is : D ≡ deepest N) (e : is_plan N d ls p ≡ true) where
  -- the tests of a plan, one by one
  rooted : is_rooted N D ls p ≡ true
  unfolding is_plan
  rooted = rw is (and_left (is_rooted N (deepest N) ls p) _ e)

  pub plan_length : length p ≡ N
  unfolding is_rooted
  plan_length = eqb-true (length p) N (every_at _ 0 rooted)

  depth_in : (v : ℕ) → 1 ≤ v → v ≤ N → at_most D (depth_of p N v) ≡ true
  unfolding is_rooted
  depth_in v a b = all_from (λ v. at_most D (depth_of p N v)) 1 N v (every_at _ 3 rooted) a (omega arith)

  -- what is no meter has no depth above 0
  arc_depth_in : (v : ℕ) → arc_depth (depth_of p N v) ≤ D
  arc_depth_in v =
      elim (dec_le 1 v) [
        | yes a ↦ elim (dec_le v N) [ yes b ↦ (depth_bit_in D (depth_of p N v) (depth_in v a b)).1 | no b ↦ rootless (sym (nth_past p v (omega (arith, plan_length)))) ]
        | no a ↦ rootless (nth_none p v (omega arith))
      ]
    where
      rootless : 0 ≡ nth p v → arc_depth (depth_of p N v) ≤ D
      rootless z =
          elim (dec_le 1 N) [
            | yes h ↦ rw (depth_root p N v (omega arith) (sym z)) (omega arith)
            | no h ↦ rw (depth_none p N v (omega arith)) (omega arith)
          ]

  -- no depth bit above D + 1
  pub depths_within : (v : ℕ) → v < N → get_or (depth_choices N p) v 0 ≤ suc D
  unfolding depth_choices
  depths_within v h = rw (each_at N (λ u. bit_of_depth (depth_of p N u)) v h) (depth_bit_in D (depth_of p N (suc v)) (depth_in (suc v) (omega arith) h)).0

  -- no arc bit above D, for any links
  pub arcs_in : (qs : List Link) (k : ℕ) → get_or (arc_choices N qs p) k 0 ≤ D
  unfolding arc_choices arc_choice
  arcs_in qs k = map_in (arc_choice N p) D (λ a. one (eqb (nth p a.child) a.parent) a.child) (arcs qs) k
    where
      one : (t : Bool) (v : ℕ) → cond t (arc_depth (depth_of p N v)) 0 ≤ D
      one true v = arc_depth_in v
      one false v = omega arith

  -- no count bit above d
  pub counts_within : (v : ℕ) → v < N → get_or (count_choices N p) v 0 ≤ d
  unfolding count_choices is_plan few_neighbours
  counts_within v h =
      rw (each_at N (neighbours N p) v h)
      (leb-true (neighbours N p (suc v)) d (all_from (λ u. leb (neighbours N p u) d) 1 N (suc v) (and_right (is_rooted N (deepest N) ls p) _ e) (omega arith) (omega arith)))

-- ---- the bits of a code

module _ (N D d M l : ℕ) (is : D ≡ deepest N) (bits : l ≡ bit_count N M d) where
  bits_are : l ≡ arcs_end N D M + N * d
  bits_are = rw is bits

  -- there is room for each part
  pub bits_first : depths_end N D ≤ l
  bits_first = omega (arith, bits_are)

  pub bits_second : arcs_end N D M ≤ l
  bits_second = omega (arith, bits_are)

  pub bits_third : arcs_end N D M + N * d ≤ l
  bits_third = omega (arith, bits_are)

module _ (N D d M : ℕ) (ls : List Link) (p : List ℕ) (is : D ≡ deepest N) (count : length ls ≡ M) where
  -- the three parts in their places are the code
  pub code_whole : (x₀ x₁ x₂ x₃ : List ℕ) → length x₀ ≡ bit_count N M d
      → x₁ ≡ placed 0 (code (suc D) (depth_choices N p)) x₀
      → x₂ ≡ placed (depths_end N D) (code D (arc_choices N ls p)) x₁
      → x₃ ≡ placed (arcs_end N D M) (code d (count_choices N p)) x₂
      → x₃ ≡ code_of N d ls p
  unfolding code_of
  code_whole x₀ x₁ x₂ x₃ e e₁ e₂ e₃ = rw (e₃, e₂, e₁, all, is) refl
    where
      a : length (code (suc D) (depth_choices N p)) ≡ depths_end N D
      a = code_length (suc D) (depth_choices N p) ∙ ap (λ t. t * suc D) (depths_length N p)

      b : length (code D (arc_choices N ls p)) ≡ 2 * M * D
      b = code_length D (arc_choices N ls p) ∙ ap (λ t. t * D) (arc_choices_length N ls p ∙ ap (λ t. 2 * t) count)

      g : length (code d (count_choices N p)) ≡ N * d
      g = code_length d (count_choices N p) ∙ ap (λ t. t * d) (counts_length N p)

      all : placed (arcs_end N D M) (code d (count_choices N p)) (placed (depths_end N D) (code D (arc_choices N ls p)) (placed 0 (code (suc D) (depth_choices N p)) x₀)) ≡ code (suc D) (depth_choices N p) ++ code D (arc_choices N ls p) ++ code d (count_choices N p)
      all = placed_all (code (suc D) (depth_choices N p)) (code D (arc_choices N ls p)) (code d (count_choices N p)) x₀ (depths_end N D) (arcs_end N D M) (sym a) (omega (arith, a, b)) (omega (arith, a, b, g, bits_are N D d M (length x₀) is e))
