-- The links that join a meter to its parent, counted: as many as there are meters with a parent, exactly where all parents are linked neighbours. Assumes nothing.
use Prim.Native.Nat.{ℕ, ◌+◌, ◌≤◌, ◌<◌}
use mathlib.Core.Path.{◌≡◌, refl, sym, ap, ◌∙◌}
use mathlib.Core.Logic.{◌↔◌}
use mathlib.Core.Bool.{Bool, true, false, ◌||◌, cond, false≢true}
use mathlib.Core.List.{List, [], ◌∷◌}
use native.Mathlib.Omega.{arith}
use native.Mathlib.Decide.{ℕ_discrete, dec_lt}
use borrow.Author.Tests.{eq-eqb, ne_eqb}
use Rattle.lists.specs.Tests.{all, any, from}
use Rattle.lists.specs.Sums.{sum_to, sum_of, same, differ, nth}
use Rattle.lists.proofs.Tests.{or_left, or_right, all_head, all_tail, all_from, from_all}
use Rattle.lists.proofs.Sums.{same_yes, same_no, differ_yes, differ_no, differ_le, sum_to_eq, sum_to_none, sum_to_single, sum_to_add, sum_to_less, sum_to_const}
use Rattle.links.specs.Links.{edge_ok, has_ends, present, times_of}
use Rattle.links.specs.declared.Link.{Link}
use Rattle.links.specs.Survey.{EdgeOf, IsGraph}
use Rattle.links.proofs.Altered.{ends_yes, ends_no, ascending_once}
use Rattle.links.proofs.Graph.{edge_of}
use Rattle.spanning.specs.Parents.{linked, parent_linked, roots_of}

-- ---- links between two meters

-- a link there is, is counted
module _ (a b : ℕ) where
  times_some : (ls : List Link) → present a b ls ≡ true → 1 ≤ times_of a b ls
  unfolding present any times_of
  times_some [] e = absurd (false≢true e)
  times_some (l ∷ ls) e = go (has_ends a b l) refl (times_some ls)
    where
      go : (t : Bool) → has_ends a b l ≡ t → (present a b ls ≡ true → 1 ≤ times_of a b ls) → 1 ≤ cond (has_ends a b l) 1 0 + times_of a b ls
      go true q f = rw q (omega arith)
      go false q f = rw q (let h : present a b ls ≡ true = rw q at e in omega (arith, f h))

  times_none : (ls : List Link) → present a b ls ≡ false → times_of a b ls ≡ 0
  unfolding present any times_of
  times_none [] e = refl
  times_none (l ∷ ls) e = rw (or_left (has_ends a b l) _ e, times_none ls (or_right (has_ends a b l) _ e)) refl

  -- none but from the lower meter to the higher, and none at 0
  times_order : (N : ℕ) (ls : List Link) → all (edge_ok N) ls ≡ true → (1 ≤ a → a < b → ⊥) → times_of a b ls ≡ 0
  unfolding times_of
  times_order N [] o h = refl
  times_order N (l ∷ ls) o h =
      let k = edge_of N l (all_head (edge_ok N) l ls o) in
      rw (ends_no a b l (λ p q. h (omega (arith, k.u_low)) (omega (arith, k.ordered))), times_order N ls (all_tail (edge_ok N) l ls o) h) refl

-- at most one link joins two meters
times_once : (N : ℕ) (ls : List Link) (a b : ℕ) → IsGraph N ls → times_of a b ls + times_of b a ls ≤ 1
times_once N ls a b s =
    elim (dec_lt a b) [
      | yes h ↦ omega (arith, ascending_once ls a b s.rises, times_order b a N ls s.each (λ p q. omega arith))
      | no h ↦ omega (arith, ascending_once ls b a s.rises, times_order a b N ls s.each (λ p q. omega arith))
    ]

-- ---- the links between a meter and its parent, for the parents p

module _ (p : List ℕ) where
  -- for which of its ends the other is its parent
  unfoldable pub joining : Link → ℕ
  joining l = same (nth p l.u) l.v + same (nth p l.v) l.u

  -- how many there are at meter m
  links_to : List Link → ℕ → ℕ
  links_to ls m = times_of (nth p m) m ls + times_of m (nth p m) ls

  down : Link → ℕ → ℕ
  down l m = cond (has_ends (nth p m) m l) 1 0

  up : Link → ℕ → ℕ
  up l m = cond (has_ends m (nth p m) l) 1 0

  down_sum : (N : ℕ) (l : Link) → EdgeOf N l → sum_to N (down l) ≡ same (nth p l.v) l.u
  unfolding down
  down_sum N l k =
      sum_to_single N (down l) l.v (omega (arith, k.u_low, k.ordered)) k.v_high (λ i n. rw (ends_no (nth p i) i l (λ x y. n (sym y))) refl)
      ∙ elim (ℕ_discrete (nth p l.v) l.u) [
        | yes e ↦ rw (ends_yes (nth p l.v) l.v l (sym e) refl) (sym (same_yes (nth p l.v) l.u e))
        | no e ↦ rw (ends_no (nth p l.v) l.v l (λ x y. e (sym x))) (sym (same_no (nth p l.v) l.u e))
      ]

  up_sum : (N : ℕ) (l : Link) → EdgeOf N l → sum_to N (up l) ≡ same (nth p l.u) l.v
  unfolding up
  up_sum N l k =
      sum_to_single N (up l) l.u k.u_low (omega (arith, k.v_high, k.ordered)) (λ i n. rw (ends_no i (nth p i) l (λ x y. n (sym x))) refl)
      ∙ elim (ℕ_discrete (nth p l.u) l.v) [
        | yes e ↦ rw (ends_yes l.u (nth p l.u) l refl (sym e)) (sym (same_yes (nth p l.u) l.v e))
        | no e ↦ rw (ends_no l.u (nth p l.u) l (λ x y. e (sym y))) (sym (same_no (nth p l.u) l.v e))
      ]

  -- counted link by link or meter by meter
  joining_sum : (N : ℕ) (ls : List Link) → all (edge_ok N) ls ≡ true → sum_of ls joining ≡ sum_to N (links_to ls)
  unfolding sum_of joining links_to times_of down up
  joining_sum N [] o = sym (sum_to_none N (λ m. 0) (λ i a b. refl))
  joining_sum N (l ∷ ls) o =
      let k = edge_of N l (all_head (edge_ok N) l ls o) in
      omega (arith, joining_sum N ls (all_tail (edge_ok N) l ls o), down_sum N l k, up_sum N l k, split)
    where
      split : sum_to N (links_to (l ∷ ls)) ≡ sum_to N (down l) + sum_to N (up l) + sum_to N (links_to ls)
      split = sum_to_eq N (links_to (l ∷ ls)) (λ m. (down l m + up l m) + links_to ls m) (λ i a b. omega arith) ∙ sum_to_add N (λ m. down l m + up l m) (links_to ls) ∙ ap (λ (t : ℕ). t + sum_to N (links_to ls)) (sum_to_add N (down l) (up l))

  -- at a root none, elsewhere at most one
  links_to_le : (N : ℕ) (ls : List Link) (m : ℕ) → IsGraph N ls → links_to ls m ≤ differ (nth p m) 0
  unfolding links_to
  links_to_le N ls m s =
      elim (ℕ_discrete (nth p m) 0) [
        | yes e ↦ omega (arith, times_order (nth p m) m N ls s.each (λ x y. omega arith), times_order m (nth p m) N ls s.each (λ x y. omega arith))
        | no e ↦ omega (arith, times_once N ls (nth p m) m s, differ_yes (nth p m) 0 e)
      ]

  -- just one, where the parent is linked
  links_to_yes : (N : ℕ) (ls : List Link) (m : ℕ) → IsGraph N ls → parent_linked p ls m ≡ true → links_to ls m ≡ differ (nth p m) 0
  unfolding parent_linked linked links_to
  links_to_yes N ls m s e =
      elim (ℕ_discrete (nth p m) 0) [
        | yes z ↦ omega (arith, links_to_le N ls m s, differ_no (nth p m) 0 z)
        | no z ↦ go z (present m (nth p m) ls) (present (nth p m) m ls) refl refl (rw (ne_eqb (nth p m) 0 z) at e)
      ]
    where
      go : (nth p m ≡ 0 → ⊥) → (a b : Bool) → present m (nth p m) ls ≡ a → present (nth p m) m ls ≡ b → (present m (nth p m) ls || present (nth p m) m ls) ≡ true → links_to ls m ≡ differ (nth p m) 0
      go z true b x y f = omega (arith, links_to_le N ls m s, times_some m (nth p m) ls x, differ_le (nth p m) 0)
      go z false true x y f = omega (arith, links_to_le N ls m s, times_some (nth p m) m ls y, differ_le (nth p m) 0)
      go z false false x y f = absurd (false≢true (rw (x, y) at f))

  links_to_no : (ls : List Link) (m : ℕ) → links_to ls m ≡ differ (nth p m) 0 → parent_linked p ls m ≡ true
  unfolding parent_linked linked links_to
  links_to_no ls m e =
      elim (ℕ_discrete (nth p m) 0) [
        | yes z ↦ rw (eq-eqb (nth p m) 0 z) refl
        | no z ↦ rw (ne_eqb (nth p m) 0 z) (go (differ_yes (nth p m) 0 z) (present m (nth p m) ls) (present (nth p m) m ls) refl refl)
      ]
    where
      go : differ (nth p m) 0 ≡ 1 → (a b : Bool) → present m (nth p m) ls ≡ a → present (nth p m) m ls ≡ b → (present m (nth p m) ls || present (nth p m) m ls) ≡ true
      go z true b x y = rw x refl
      go z false true x y = rw (x, y) refl
      go z false false x y = absurd (let w : ⊥ = omega (arith, times_none m (nth p m) ls x, times_none (nth p m) m ls y) in w)

  -- a meter has a parent, or it is a root
  parents_roots : (N : ℕ) → sum_to N (λ v. differ (nth p v) 0) + roots_of N p ≡ N
  unfolding roots_of
  parents_roots N =
      sym (sum_to_add N (λ v. differ (nth p v) 0) (λ v. same (nth p v) 0))
      ∙ sum_to_const N 1 (λ v. differ (nth p v) 0 + same (nth p v) 0) (λ i a b. one (nth p i))
      ∙ omega arith
    where
      one : (x : ℕ) → differ x 0 + same x 0 ≡ 1
      one x = elim (ℕ_discrete x 0) [ yes e ↦ omega (arith, differ_no x 0 e, same_yes x 0 e) | no e ↦ omega (arith, differ_yes x 0 e, same_no x 0 e) ]

  pub all_linked : (N : ℕ) (ls : List Link) → IsGraph N ls → all (parent_linked p ls) (from 1 N) ≡ true ↔ sum_of ls joining + roots_of N p ≡ N
  all_linked N ls s = (
    λ e. omega (arith, joining_sum N ls s.each, parents_roots N, sum_to_eq N (links_to ls) (λ v. differ (nth p v) 0) (λ i a b. links_to_yes N ls i s (all_from (parent_linked p ls) 1 N i e a (omega arith)))),
    λ e. from_all (parent_linked p ls) 1 N (λ i a b. links_to_no ls i (omega (arith, links_to_le N ls i s, joining_sum N ls s.each, parents_roots N, sum_to_less N (links_to ls) (λ v. differ (nth p v) 0) i a (omega arith) (λ j x y. links_to_le N ls j s)))),
  )
