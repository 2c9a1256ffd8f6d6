-- Plans by trial: a test that holds of every list whose entries are 0 or a linked neighbour holds of every plan. Assumes nothing.
use Prim.Native.Nat.{ℕ, zero, suc, ◌+◌, ◌≤◌, ◌<◌}
use mathlib.Core.Path.{◌≡◌, refl, sym, subst}
use mathlib.Core.Logic.{◌≢◌}
use mathlib.Core.Bool.{Bool, true, not, ◌||◌, cond, false≢true}
use mathlib.Core.List.{List, [], ◌∷◌, ◌++◌, append-nil, append_assoc, Memᴰ}
use native.Mathlib.Omega.{arith}
use native.Mathlib.Nat.{add-zero}
use native.Mathlib.Decide.{ℕ_discrete}
use lib.ListN.{length, get_or}
use lib.Dec.{eqb, leb}
use borrow.Author.Tests.{eq-eqb, ne_eqb, leb-true}
use Rattle.lists.specs.Tests.{all}
use Rattle.lists.specs.Sums.{nth}
use Rattle.lists.proofs.Tests.{and_left, all_head, all_tail, all_member}
use Rattle.links.specs.Links.{link_ok}
use Rattle.links.specs.declared.Link.{Link}
use Rattle.links.specs.Survey.{LinkOf}
use Rattle.links.proofs.Altered.{link_of}
use Rattle.spanning.specs.Spanning.{Joins, along, back, Linked, here, there}
use Rattle.spanning.specs.Parents.{deepest, is_rooted}
use Rattle.spanning.proofs.Shape.{Shape, shape_of}
use Rattle.tree.specs.Plans.{is_plan, tree_weight}

-- the parents that meter v may have: none, or a linked neighbour
unfoldable pub options : List Link → ℕ → List ℕ
options [] v = 0 ∷ []
options (l ∷ ls) v = cond (eqb l.u v) (l.v ∷ options ls v) (cond (eqb l.v v) (l.u ∷ options ls v) (options ls v))

-- the test f of every list that begins with p and goes on with n entries, one of the options of each of the meters k, k + 1, ..
unfoldable pub tried : (List ℕ → Bool) → (ℕ → List ℕ) → ℕ → ℕ → List ℕ → Bool
tried f o k zero p = f p
tried f o k (suc n) p = all (λ c. tried f o (suc k) n (p ++ (c ∷ []))) (o k)

-- what is tried holds
tried_holds : (f : List ℕ → Bool) (o : ℕ → List ℕ) (k n : ℕ) (p q : List ℕ) → tried f o k n p ≡ true → length q ≡ n → ((i : ℕ) → i < n → Memᴰ (get_or q i 0) (o (k + i))) → f (p ++ q) ≡ true
unfolding tried
tried_holds f o k zero p [] e l h = rw (append-nil p) e
tried_holds f o k zero p (c ∷ q) e l h = absurd (let z : ⊥ = omega arith in z)
tried_holds f o k (suc n) p [] e l h = absurd (let z : ⊥ = omega arith in z)
tried_holds f o k (suc n) p (c ∷ q) e l h =
    let first : Memᴰ c (o k) = subst (λ (j : ℕ). Memᴰ c (o j)) (add-zero k) (h 0 (omega arith)) in
    let rest : f (p ++ (c ∷ []) ++ q) ≡ true = tried_holds f o (suc k) n (p ++ (c ∷ [])) q (all_member (λ c. tried f o (suc k) n (p ++ (c ∷ []))) (o k) e c first) (omega arith)
    (λ i b. subst (λ (j : ℕ). Memᴰ (get_or q i 0) (o j)) (let g : k + suc i ≡ suc k + i = omega arith in g) (h (suc i) (omega arith))) in
    subst (λ (r : List ℕ). f r ≡ true) (append_assoc p (c ∷ []) q) rest

-- ---- a plan's parents are among the options

module _ (l : Link) (ls : List Link) (v : ℕ) where
  first_option : l.u ≡ v → options (l ∷ ls) v ≡ l.v ∷ options ls v
  unfolding options
  first_option e = rw (eq-eqb l.u v e) refl

  second_option : l.u ≢ v → l.v ≡ v → options (l ∷ ls) v ≡ l.u ∷ options ls v
  unfolding options
  second_option n e = rw (ne_eqb l.u v n, eq-eqb l.v v e) refl

  other_options : l.u ≢ v → l.v ≢ v → options (l ∷ ls) v ≡ options ls v
  unfolding options
  other_options n m = rw (ne_eqb l.u v n, ne_eqb l.v v m) refl

  later_option : (w : ℕ) → Memᴰ w (options ls v) → Memᴰ w (options (l ∷ ls) v)
  later_option w i =
      elim (ℕ_discrete l.u v) [
        | yes e ↦ rw (first_option e) (mathlib.Core.List.Memᴰ.tail i)
        | no n ↦ elim (ℕ_discrete l.v v) [ yes e ↦ rw (second_option n e) (mathlib.Core.List.Memᴰ.tail i) | no m ↦ rw (other_options n m) i ]
      ]

none_option : (ls : List Link) (v : ℕ) → Memᴰ 0 (options ls v)
unfolding options
none_option [] v = mathlib.Core.List.Memᴰ.head refl
none_option (l ∷ ls) v = later_option l ls v 0 (none_option ls v)

linked_option_each : (N v w : ℕ) (ls : List Link) → all (link_ok N) ls ≡ true → Linked v w ls → Memᴰ w (options ls v)
linked_option_each N v w _ o (here {l = l} {ls = ls} j) = pick j
  where
    f : LinkOf N l
    f = link_of N l (all_head (link_ok N) l ls o)

    pick : Joins l v w → Memᴰ w (options (l ∷ ls) v)
    pick (along e g) = rw (first_option l ls v e) (mathlib.Core.List.Memᴰ.head (sym g))
    pick (back e g) = rw (second_option l ls v (λ h. omega (arith, f.ordered)) g) (mathlib.Core.List.Memᴰ.head (sym e))
linked_option_each N v w _ o (there {l = l} {ls = ls} k) = later_option l ls v w (linked_option_each N v w ls (all_tail (link_ok N) l ls o) k)

-- a linked neighbour, where no link joins a meter to itself
linked_option : (N : ℕ) (ls : List Link) → all (link_ok N) ls ≡ true → (v w : ℕ) → Linked v w ls → Memᴰ w (options ls v)
linked_option N ls o v w k = linked_option_each N v w ls o k

parent_option : (N D : ℕ) (ls : List Link) (p : List ℕ) → all (link_ok N) ls ≡ true → Shape N D ls p → (v : ℕ) → 1 ≤ v → v ≤ N → Memᴰ (nth p v) (options ls v)
parent_option N D ls p o t v a b = elim (ℕ_discrete (nth p v) 0) [ yes e ↦ rw e (none_option ls v) | no n ↦ linked_option N ls o v (nth p v) (t.linked v a b n) ]

-- a test of all lists of options holds of every plan
pub plans_tried : (N d : ℕ) (ls : List Link) → all (link_ok N) ls ≡ true → (f : List ℕ → Bool) → tried f (options ls) 1 N [] ≡ true → (p : List ℕ) → is_plan N d ls p ≡ true → f p ≡ true
unfolding is_plan nth
plans_tried N d ls o f e p q =
    let t = shape_of N (deepest N) ls p (and_left (is_rooted N (deepest N) ls p) _ q) in
    tried_holds f (options ls) 1 N [] p e t.len (λ i h. let g : 1 + i ≡ suc i = omega arith in rw g (parent_option N (deepest N) ls p o t (suc i) (omega arith) h))

-- the test of a list: it is no plan, or weighs at least w
unfoldable pub no_lighter : ℕ → ℕ → List Link → ℕ → List ℕ → Bool
no_lighter N d ls w p = not (is_plan N d ls p) || leb w (tree_weight ls p)

-- the test of a list: it is no plan
unfoldable pub not_plan : ℕ → ℕ → List Link → List ℕ → Bool
not_plan N d ls p = not (is_plan N d ls p)

-- where the first holds of all lists of options, no plan is lighter than w
pub none_lighter : (N d : ℕ) (ls : List Link) (w : ℕ) → all (link_ok N) ls ≡ true → tried (no_lighter N d ls w) (options ls) 1 N [] ≡ true → (p : List ℕ) → is_plan N d ls p ≡ true → w ≤ tree_weight ls p
unfolding no_lighter
none_lighter N d ls w o e p q = leb-true w (tree_weight ls p) (subst (λ (t : Bool). (not t || leb w (tree_weight ls p)) ≡ true) q (plans_tried N d ls o (no_lighter N d ls w) e p q))

-- where the second does, there is no plan
pub none_plan : (N d : ℕ) (ls : List Link) → all (link_ok N) ls ≡ true → tried (not_plan N d ls) (options ls) 1 N [] ≡ true → (p : List ℕ) → is_plan N d ls p ≡ true → ⊥
unfolding not_plan
none_plan N d ls o e p q = false≢true (subst (λ (t : Bool). not t ≡ true) q (plans_tried N d ls o (not_plan N d ls) e p q))
