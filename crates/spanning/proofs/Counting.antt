-- A sum over the links that a tree uses is a sum over its meters, since each but the root has one link to its parent: so there are N - 1 of them, and a meter is an end of as many as it has neighbours. Assumes nothing.
use Prim.Native.Nat.{ℕ, suc, ◌+◌, ◌*◌, ◌≤◌}
use mathlib.Core.Bool.{true, ◌||◌, cond, or-true}
use mathlib.Core.Path.{◌≡◌, refl, sym, ap, ◌∙◌}
use mathlib.Core.Logic.{⊎_elim}
use mathlib.Core.List.{List, [], ◌∷◌}
use lib.ListN.{length}
use lib.Dec.{eqb}
use borrow.Author.Tests.{eq-eqb, ne_eqb}
use native.Mathlib.Decide.{ℕ_discrete}
use native.Mathlib.Nat.{mul-zero, mul-one, one-mul, zero-mul}
use native.Mathlib.Omega.{arith}
use Rattle.lists.specs.Tests.{all}
use Rattle.lists.specs.Sums.{sum_to, sum_of, same, differ, nth}
use Rattle.lists.proofs.Tests.{all_head, all_tail}
use Rattle.lists.proofs.Sums.{same_yes, same_no, differ_yes, differ_no, same_sym, sum_to_eq, sum_to_none, sum_to_single, sum_to_add, sum_to_const}
use Rattle.lists.proofs.Members.{sum_of_swap}
use Rattle.links.specs.Links.{link_ok, has_ends, is_at, degree}
use Rattle.links.specs.declared.Link.{Link}
use Rattle.links.specs.Survey.{LinkOf, IsSurvey}
use Rattle.links.proofs.Altered.{link_of, ends_yes, ends_no}
use Rattle.links.proofs.Walk.{sum_equal}
use Rattle.spanning.specs.Parents.{roots_of, neighbours, is_used, tree_links}
use Rattle.spanning.specs.Spanning.{Joins, along, back, Linked, here, there}
use Rattle.spanning.proofs.Shape.{Shape}
use Rattle.spanning.proofs.Depths.{joins_in, linked_in, not_mutual}
use Rattle.spanning.proofs.TreeLinks.{Distinct, survey_distinct, same_ends, Uses, child, parent, used_view}

-- ---- the link from a meter to its parent

module _ (p : List ℕ) (g : Link → ℕ) where
  -- g of link l, if it joins meter v and its parent, else 0
  to_parent : Link → ℕ → ℕ
  to_parent l v = cond (has_ends v (nth p v) l || has_ends (nth p v) v l) (g l) 0

  -- where it does
  to_yes : (l : Link) (v : ℕ) → Joins l v (nth p v) → to_parent l v ≡ g l
  unfolding to_parent
  to_yes l v (along e f) = rw (ends_yes v (nth p v) l e f)
  to_yes l v (back e f) = rw (ends_yes (nth p v) v l e f, or-true (has_ends v (nth p v) l))

  -- where it does not
  to_no : (l : Link) (v : ℕ) → (Joins l v (nth p v) → ⊥) → to_parent l v ≡ 0
  unfolding to_parent
  to_no l v n = rw (ends_no v (nth p v) l (λ e f. n (along e f)), ends_no (nth p v) v l (λ e f. n (back e f)))

  -- over links none of which joins v and its parent
  to_none : (v : ℕ) (ls : List Link) → (Linked v (nth p v) ls → ⊥) → sum_of ls (λ l. to_parent l v) ≡ 0
  unfolding sum_of
  to_none v [] n = refl
  to_none v (l ∷ ls) n = omega (arith, to_no l v (λ j. n (here j)), to_none v ls (λ k. n (there k)))

  -- over links one of which does; g is c there
  to_one : (N v : ℕ) (ls : List Link) → Distinct ls → all (link_ok N) ls ≡ true → (c : ℕ) → ((l : Link) → LinkOf N l → Joins l v (nth p v) → c ≡ g l) → Linked v (nth p v) ls → sum_of ls (λ l. to_parent l v) ≡ c
  unfolding sum_of
  to_one N v _ d o c h (here {l = l} {ls = ls} j) =
      omega (arith, to_yes l v j, h l (link_of N l (all_head (link_ok N) l ls o)) j, to_none v ls (λ k. d.0 (same_ends j k)))
  to_one N v _ d o c h (there {l = l} {ls = ls} k) =
      omega (arith, to_no l v (λ j. d.0 (same_ends j k)), to_one N v ls d.1 (all_tail (link_ok N) l ls o) c h k)

  -- over the links that the tree uses
  pub used_sum : (ls : List Link) → sum_of (tree_links p ls) g ≡ sum_of ls (λ l. cond (is_used p l) (g l) 0)
  unfolding sum_of tree_links
  used_sum [] = refl
  used_sum (l ∷ ls) = ⊎_elim (λ q. rw q.0 (omega (arith, used_sum ls))) (λ q. rw q.0 (omega (arith, used_sum ls))) (used_view p l)

-- ---- counts

-- as many ones as links
sum_ones : (T : List Link) → sum_of T (λ _. 1) ≡ length T
unfolding sum_of
sum_ones [] = refl
sum_ones (l ∷ T) = omega (arith, sum_ones T)

-- a number is 0 or not
either : (x : ℕ) → differ x 0 + same x 0 ≡ 1
either x = elim (ℕ_discrete x 0) [ yes e ↦ omega (arith, differ_no x 0 e, same_yes x 0 e) | no n ↦ omega (arith, differ_yes x 0 n, same_no x 0 n) ]

-- the links at a meter, as a sum
degree_sum : (m : ℕ) (T : List Link) → degree m T ≡ sum_of T (λ l. cond (is_at m l) 1 0)
unfolding degree sum_of
degree_sum m [] = refl
degree_sum m (l ∷ T) = ap (λ (x : ℕ). cond (is_at m l) 1 0 + x) (degree_sum m T)

-- a meter is an end of a link if it is one of the two that the link joins
joined_ends : (m : ℕ) (l : Link) (a b : ℕ) → (l.u ≡ l.v → ⊥) → Joins l a b → same b m + same m a ≡ cond (is_at m l) 1 0
unfolding is_at
joined_ends m l a b n j = turn j ∙ sym ends
  where
    ends : cond (eqb l.u m || eqb l.v m) 1 0 ≡ same l.u m + same l.v m
    ends =
        elim (ℕ_discrete l.u m) [
          | yes e ↦ rw (eq-eqb l.u m e) (omega (arith, same_yes l.u m e, same_no l.v m (λ q. n (e ∙ sym q))))
          | no d ↦ rw (ne_eqb l.u m d) (elim (ℕ_discrete l.v m) [
            | yes e ↦ rw (eq-eqb l.v m e) (omega (arith, same_no l.u m d, same_yes l.v m e))
            | no c ↦ rw (ne_eqb l.v m c) (omega (arith, same_no l.u m d, same_no l.v m c))
          ])
        ]

    turn : Joins l a b → same b m + same m a ≡ same l.u m + same l.v m
    turn (along e f) = rw (e, f) (omega (arith, same_sym m a))
    turn (back e f) = rw (e, f) (omega (arith, same_sym m a))

-- ---- by the meters

-- a link that joins a meter and its parent is used
joins_uses : (p : List ℕ) (l : Link) (v : ℕ) → Joins l v (nth p v) → Uses p l.u l.v
joins_uses p l v (along e f) = child (ap (nth p) e ∙ sym f)
joins_uses p l v (back e f) = parent (ap (nth p) f ∙ sym e)

module _ (N D : ℕ) (ls : List Link) (p : List ℕ) (s : IsSurvey N ls) (t : Shape N D ls p) where
  -- a link that is used joins one meter and its parent, any other link none
  one_meter : (g : Link → ℕ) (l : Link) → LinkOf N l → sum_to N (to_parent p g l) ≡ cond (is_used p l) (g l) 0
  one_meter g l f = ⊎_elim (λ q. rw q.0 (used q.1)) (λ q. rw q.0 (sum_to_none N (to_parent p g l) (λ v a b. to_no p g l v (λ j. q.1 (joins_uses p l v j))))) (used_view p l)
    where
      apart : nth p l.u ≡ l.v → nth p l.v ≡ l.u → ⊥
      apart = not_mutual N D ls p t l.u l.v f.u_low (omega (arith, f.ordered, f.v_high)) (omega (arith, f.u_low, f.ordered)) f.v_high

      only_u : nth p l.u ≡ l.v → (i : ℕ) → (i ≡ l.u → ⊥) → Joins l i (nth p i) → ⊥
      only_u e i n (along a b) = n (sym a)
      only_u e i n (back a b) = apart e (ap (nth p) b ∙ sym a)

      only_v : nth p l.v ≡ l.u → (i : ℕ) → (i ≡ l.v → ⊥) → Joins l i (nth p i) → ⊥
      only_v e i n (along a b) = apart (ap (nth p) a ∙ sym b) e
      only_v e i n (back a b) = n (sym b)

      used : Uses p l.u l.v → sum_to N (to_parent p g l) ≡ g l
      used (child e) =
          sum_to_single N (to_parent p g l) l.u f.u_low (omega (arith, f.ordered, f.v_high)) (λ i n. to_no p g l i (only_u e i n))
          ∙ to_yes p g l l.u (along refl (sym e))
      used (parent e) =
          sum_to_single N (to_parent p g l) l.v (omega (arith, f.u_low, f.ordered)) f.v_high (λ i n. to_no p g l i (only_v e i n))
          ∙ to_yes p g l l.v (back (sym e) refl)

  -- a sum over the links that a tree uses is one over its meters
  pub tree_sum : (g : Link → ℕ) (G : ℕ → ℕ)
      → ((v : ℕ) → 1 ≤ v → v ≤ N → nth p v ≡ 0 → G v ≡ 0)
      → ((v : ℕ) → 1 ≤ v → v ≤ N → (l : Link) → LinkOf N l → Joins l v (nth p v) → G v ≡ g l)
      → sum_of (tree_links p ls) g ≡ sum_to N G
  tree_sum g G root other =
      used_sum p g ls
      ∙ sum_equal N ls s.each _ _ (λ l f. sym (one_meter g l f))
      ∙ sum_of_swap ls N (to_parent p g)
      ∙ sum_to_eq N _ G (λ v a b. each v a b (ℕ_discrete (nth p v) 0))
    where
      each : (v : ℕ) → 1 ≤ v → v ≤ N → Dec (nth p v ≡ 0) → sum_of ls (λ l. to_parent p g l v) ≡ G v
      each v a b (yes e) = to_none p g v ls (λ k. omega (arith, linked_in N ls s.each k)) ∙ sym (root v a b e)
      each v a b (no n) = to_one p g N v ls (survey_distinct N ls s) s.each (G v) (other v a b) (t.linked v a b n)

  -- N meters use N - 1 links
  pub tree_count : suc (length (tree_links p ls)) ≡ N
  unfolding roots_of
  tree_count =
      omega (
        arith,
        sum_ones (tree_links p ls),
        tree_sum (λ _. 1) (λ v. differ (nth p v) 0) (λ v a b e. differ_no (nth p v) 0 e) (λ v a b l f j. differ_yes (nth p v) 0 (λ e. omega (arith, joins_in N l f j))),
        sum_to_add N (λ v. differ (nth p v) 0) (λ v. same (nth p v) 0),
        sum_to_const N 1 (λ v. differ (nth p v) 0 + same (nth p v) 0) (λ v a b. either (nth p v)),
        t.one_root,
      )

  -- a meter is an end of as many links as it has neighbours
  pub tree_degree : (m : ℕ) → 1 ≤ m → m ≤ N → degree m (tree_links p ls) ≡ neighbours N p m
  unfolding neighbours
  tree_degree m m1 mN =
      degree_sum m (tree_links p ls)
      ∙ tree_sum (λ l. cond (is_at m l) 1 0) (λ v. same (nth p v) m + same m v * differ (nth p v) 0) root other
      ∙ sum_to_add N (λ v. same (nth p v) m) (λ v. same m v * differ (nth p v) 0)
      ∙ ap (λ (x : ℕ). sum_to N (λ v. same (nth p v) m) + x) own
    where
      -- at m itself, its parent
      own : sum_to N (λ v. same m v * differ (nth p v) 0) ≡ differ (nth p m) 0
      own =
          sum_to_single N (λ v. same m v * differ (nth p v) 0) m m1 mN (λ i n. rw (same_no m i (λ e. n (sym e))) (zero-mul (differ (nth p i) 0)))
          ∙ rw (same_yes m m refl) (one-mul (differ (nth p m) 0))

      root : (v : ℕ) → 1 ≤ v → v ≤ N → nth p v ≡ 0 → same (nth p v) m + same m v * differ (nth p v) 0 ≡ 0
      root v a b e = rw (differ_no (nth p v) 0 e, mul-zero (same m v)) (omega (arith, same_no (nth p v) m (λ q. omega arith)))

      other : (v : ℕ) → 1 ≤ v → v ≤ N → (l : Link) → LinkOf N l → Joins l v (nth p v) → same (nth p v) m + same m v * differ (nth p v) 0 ≡ cond (is_at m l) 1 0
      other v a b l f j = rw (differ_yes (nth p v) 0 (λ e. omega (arith, joins_in N l f j)), mul-one (same m v)) (joined_ends m l v (nth p v) (λ e. omega (arith, f.ordered)) j)
