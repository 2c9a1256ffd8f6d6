-- What the test is_rooted says, as facts. Assumes nothing.
use Prim.Native.Nat.{ℕ, ◌≤◌}
use mathlib.Core.Bool.{Bool, true, false, ◌||◌, false≢true, or-true}
use mathlib.Core.Path.{◌≡◌, refl}
use mathlib.Core.List.{List, [], ◌∷◌}
use lib.ListN.{length}
use lib.Dec.{eqb}
use borrow.Author.Tests.{eqb-true, eq-eqb, ne_eqb, leb-true, le-leb}
use native.Mathlib.Omega.{arith}
use native.Mathlib.Decide.{ℕ_discrete}
use Rattle.std.specs.Prelude.{Option, Some, None}
use Rattle.lists.specs.Tests.{every, any}
use Rattle.lists.specs.Sums.{nth}
use Rattle.lists.proofs.Tests.{every_at, all_from, from_all}
use Rattle.links.specs.Links.{has_ends, present}
use Rattle.links.specs.declared.Link.{Link}
use Rattle.links.proofs.Altered.{ends_at_u, ends_at_v, ends_yes}
use Rattle.spanning.specs.Parents.{depth_of, at_most, linked, parent_linked, roots_of, is_rooted}
use Rattle.spanning.specs.Spanning.{Joins, along, back, Linked, here, there}

-- N parents with one root, where each other meter is linked with its parent and no depth exceeds D
pub record Shape (N D : ℕ) (ls : List Link) (p : List ℕ) : Type 0 where
  pub len : length p ≡ N
  pub one_root : roots_of N p ≡ 1
  pub linked : (v : ℕ) → 1 ≤ v → v ≤ N → (nth p v ≡ 0 → ⊥) → Linked v (nth p v) ls
  pub low : (v : ℕ) → 1 ≤ v → v ≤ N → (h : ℕ) × (depth_of p N v ≡ Some h) × (h ≤ D)

-- ---- linked neighbours

-- a link that joins b and a joins a and b
joins_flip : {l : Link} {a b : ℕ} → Joins l a b → Joins l b a
joins_flip (along e f) = back e f
joins_flip (back e f) = along e f

-- the same of a list of links
pub linked_flip : {a b : ℕ} {T : List Link} → Linked a b T → Linked b a T
linked_flip (here j) = here (joins_flip j)
linked_flip (there k) = there (linked_flip k)

-- a link with the ends a and b joins them
present_linked : (a b : ℕ) (ls : List Link) → present a b ls ≡ true → Linked a b ls
unfolding present any
present_linked a b [] e = absurd (false≢true e)
present_linked a b (l ∷ ls) e = go (has_ends a b l) refl e (present_linked a b ls)
  where
    go : (t : Bool) → has_ends a b l ≡ t → (t || present a b ls) ≡ true → (present a b ls ≡ true → Linked a b ls) → Linked a b (l ∷ ls)
    go true q r f = here (along (ends_at_u a b l q) (ends_at_v a b l q))
    go false q r f = there (f r)

-- the test gives the fact
linked_of : (a b : ℕ) (ls : List Link) → linked a b ls ≡ true → Linked a b ls
unfolding linked
linked_of a b ls e = go (present a b ls) refl e
  where
    go : (t : Bool) → present a b ls ≡ t → (t || present b a ls) ≡ true → Linked a b ls
    go true q r = present_linked a b ls q
    go false q r = linked_flip (present_linked b a ls r)

-- the fact gives the test
linked_test : (a b : ℕ) (ls : List Link) → Linked a b ls → linked a b ls ≡ true
unfolding linked present any
linked_test a b _ (here {l = l} {ls = ls} (along e f)) = rw (ends_yes a b l e f)
linked_test a b _ (here {l = l} {ls = ls} (back e f)) = rw (ends_yes b a l e f) (or-true (has_ends a b l || present a b ls))
linked_test a b _ (there {l = l} {ls = ls} k) = go (has_ends a b l) (has_ends b a l) (present a b ls) (present b a ls) (linked_test a b ls k)
  where
    go : (s t x y : Bool) → (x || y) ≡ true → ((s || x) || (t || y)) ≡ true
    go true t x y e = refl
    go false true x y e = or-true x
    go false false x y e = e

-- ---- depths

-- the test gives a depth
depth_low : (D : ℕ) (d : Option ℕ) → at_most D d ≡ true → (h : ℕ) × (d ≡ Some h) × (h ≤ D)
unfolding at_most
depth_low D (Some h) e = (h, refl, leb-true h D e)
depth_low D None e = absurd (false≢true e)

-- a depth gives the test
low_depth : (D : ℕ) (d : Option ℕ) (h : ℕ) → d ≡ Some h → h ≤ D → at_most D d ≡ true
unfolding at_most
low_depth D d h e l = rw e (le-leb h D l)

-- ---- the whole test

-- the parent is none, or a linked neighbour
parent_is_linked : (p : List ℕ) (ls : List Link) (v : ℕ) → parent_linked p ls v ≡ true → (nth p v ≡ 0 → ⊥) → Linked v (nth p v) ls
unfolding parent_linked
parent_is_linked p ls v e n = linked_of v (nth p v) ls (rw (ne_eqb (nth p v) 0 n) at e)

-- and the other way
linked_parent : (p : List ℕ) (ls : List Link) (v : ℕ) → ((nth p v ≡ 0 → ⊥) → Linked v (nth p v) ls) → parent_linked p ls v ≡ true
unfolding parent_linked
linked_parent p ls v h =
    elim (ℕ_discrete (nth p v) 0) [
      | yes e ↦ rw (eq-eqb (nth p v) 0 e)
      | no n ↦ rw (linked_test v (nth p v) ls (h n)) (or-true (eqb (nth p v) 0))
    ]

-- the test gives the facts
pub shape_of : (N D : ℕ) (ls : List Link) (p : List ℕ) → is_rooted N D ls p ≡ true → Shape N D ls p
unfolding is_rooted
shape_of N D ls p e = record {
  len = eqb-true (length p) N (every_at _ 0 e);
  one_root = eqb-true (roots_of N p) 1 (every_at _ 1 e);
  linked = λ v a b. parent_is_linked p ls v (all_from (parent_linked p ls) 1 N v (every_at _ 2 e) a (omega arith));
  low = λ v a b. depth_low D (depth_of p N v) (all_from (λ v. at_most D (depth_of p N v)) 1 N v (every_at _ 3 e) a (omega arith));
}

-- the facts give the test
pub shape_test : (N D : ℕ) (ls : List Link) (p : List ℕ) → Shape N D ls p → is_rooted N D ls p ≡ true
unfolding is_rooted every
shape_test N D ls p s =
    rw (
      eq-eqb (length p) N s.len,
      eq-eqb (roots_of N p) 1 s.one_root,
      from_all (parent_linked p ls) 1 N (λ v a b. linked_parent p ls v (s.linked v a (omega arith))),
      from_all (λ v. at_most D (depth_of p N v)) 1 N (λ v a b. let d = s.low v a (omega arith) in low_depth D (depth_of p N v) d.0 d.1 d.2),
    )
