-- Parts of a list of links, and the part that a tree uses. Assumes nothing.
use Prim.Native.Nat.{ℕ, ◌≤◌, ◌<◌}
use mathlib.Core.Bool.{Bool, true, false, or-true, true≢false}
use mathlib.Core.Path.{◌≡◌, refl, sym, ap, ◌∙◌}
use mathlib.Core.Logic.{◌⊎◌, inl, inr, ⊎_elim}
use mathlib.Core.List.{List, [], ◌∷◌}
use lib.ListN.{length}
use borrow.Author.Tests.{eq-eqb, ne_eqb}
use native.Mathlib.Nat.{suc_inj}
use native.Mathlib.Decide.{ℕ_discrete}
use native.Mathlib.Omega.{arith}
use Rattle.lists.specs.Tests.{all, any}
use Rattle.lists.specs.Sums.{nth}
use Rattle.lists.proofs.Tests.{all_head, all_tail, all_cons}
use Rattle.links.specs.Links.{link_ok, has_ends, ascending, present}
use Rattle.links.specs.declared.Link.{Link}
use Rattle.links.specs.Survey.{IsSurvey}
use Rattle.links.proofs.Altered.{link_of, ends_yes, rises_ascends, rises_none}
use Rattle.spanning.specs.Parents.{is_used, tree_links}
use Rattle.spanning.specs.Spanning.{Joins, along, back, Linked, here, there, Sub, end, keep, skip}
use Rattle.spanning.proofs.Shape.{linked_flip}

-- ---- no two links with the same ends

-- no link of a list has the ends of an earlier one
abbrev pub Distinct : List Link → Type 0
Distinct [] = Unit {0}
Distinct (l ∷ ls) = (Linked l.u l.v ls → ⊥) × Distinct ls

-- neighbours in a list have the ends of one of its links, the lower first
linked_present : (N : ℕ) {a b : ℕ} (ls : List Link) → all (link_ok N) ls ≡ true → a < b → Linked a b ls → present a b ls ≡ true
unfolding present any
linked_present N {a} {b} _ o h (here {l = l} (along e f)) = rw (ends_yes a b l e f)
linked_present N _ o h (here {l = l} {ls = ls} (back e f)) = let k = link_of N l (all_head (link_ok N) l ls o) in absurd (omega (arith, k.ordered))
linked_present N {a} {b} _ o h (there {l = l} {ls = ls} k) = rw (linked_present N ls (all_tail (link_ok N) l ls o) h k) (or-true (has_ends a b l))

-- in links that rise no two have the same ends
rising_distinct : (N : ℕ) (ls : List Link) → all (link_ok N) ls ≡ true → ascending ls ≡ true → Distinct ls
unfolding ascending
rising_distinct N [] o e = tt
rising_distinct N (l ∷ ls) o e = (
  λ k. true≢false (sym (linked_present N ls (all_tail (link_ok N) l ls o) (link_of N l (all_head (link_ok N) l ls o)).ordered k) ∙ rises_none l.u l.v ls e),
  rising_distinct N ls (all_tail (link_ok N) l ls o) (rises_ascends l.u l.v ls e),
)

-- nor in a survey's links
pub survey_distinct : (N : ℕ) (ls : List Link) → IsSurvey N ls → Distinct ls
survey_distinct N ls s = rising_distinct N ls s.each s.rises

-- the neighbours that a link joins have its ends
pub same_ends : {l : Link} {a b : ℕ} {ls : List Link} → Joins l a b → Linked a b ls → Linked l.u l.v ls
same_ends (along e f) k = rw (e, f) k
same_ends (back e f) k = rw (e, f) (linked_flip k)

-- ---- some links left out

-- what holds of all links holds of some
pub sub_all : (q : Link → Bool) {T ls : List Link} → Sub T ls → all q ls ≡ true → all q T ≡ true
sub_all q end e = e
sub_all q (keep {l = l} {T = T} {ls = ls} s) e = all_cons q l T (all_head q l ls e) (sub_all q s (all_tail q l ls e))
sub_all q (skip {l = l} {ls = ls} s) e = sub_all q s (all_tail q l ls e)

-- neighbours over some links are neighbours over all
pub sub_linked : {T ls : List Link} {a b : ℕ} → Sub T ls → Linked a b T → Linked a b ls
sub_linked {a = a} {b = b} end k = elim k [ ]
sub_linked (keep s) (here j) = here j
sub_linked (keep s) (there k) = there (sub_linked s k)
sub_linked (skip s) k = there (sub_linked s k)

-- some are at most as many as all
sub_length : {T ls : List Link} → Sub T ls → length T ≤ length ls
sub_length end = omega arith
sub_length (keep s) = omega (arith, sub_length s)
sub_length (skip s) = omega (arith, sub_length s)

-- as many as all are all
pub sub_full : {T ls : List Link} → Sub T ls → length T ≡ length ls → T ≡ ls
sub_full end e = refl
sub_full (keep {l = l} s) e = ap (λ (r : List Link). l ∷ r) (sub_full s (suc_inj e))
sub_full (skip s) e = absurd (omega (arith, sub_length s))

-- ---- the links that a tree uses

-- one of u and v is the other's parent
pub data Uses (p : List ℕ) (u v : ℕ) : Type 0 where
  child : nth p u ≡ v → Uses p u v
  parent : nth p v ≡ u → Uses p u v

-- either way round
uses_flip : {p : List ℕ} {u v : ℕ} → Uses p u v → Uses p v u
uses_flip (child e) = parent e
uses_flip (parent e) = child e

-- the test is_used says this of the ends of a link
pub used_view : (p : List ℕ) (l : Link) → ((is_used p l ≡ true) × Uses p l.u l.v) ⊎ ((is_used p l ≡ false) × (Uses p l.u l.v → ⊥))
unfolding is_used
used_view p l = pick (ℕ_discrete (nth p l.u) l.v) (ℕ_discrete (nth p l.v) l.u)
  where
    neither : (nth p l.u ≡ l.v → ⊥) → (nth p l.v ≡ l.u → ⊥) → Uses p l.u l.v → ⊥
    neither m n (child e) = m e
    neither m n (parent e) = n e

    pick : Dec (nth p l.u ≡ l.v) → Dec (nth p l.v ≡ l.u) → ((is_used p l ≡ true) × Uses p l.u l.v) ⊎ ((is_used p l ≡ false) × (Uses p l.u l.v → ⊥))
    pick (yes e) d = inl (rw (eq-eqb (nth p l.u) l.v e), child e)
    pick (no m) (yes e) = inl (rw (ne_eqb (nth p l.u) l.v m, eq-eqb (nth p l.v) l.u e), parent e)
    pick (no m) (no n) = inr (rw (ne_eqb (nth p l.u) l.v m, ne_eqb (nth p l.v) l.u n), neither m n)

-- the ends of a link are used where what it joins is
uses_joined : {p : List ℕ} {l : Link} {a b : ℕ} → Joins l a b → Uses p a b → Uses p l.u l.v
uses_joined (along e f) h = rw (e, f) h
uses_joined (back e f) h = rw (e, f) (uses_flip h)

-- a tree's links are some of all
pub tree_sub : (p : List ℕ) (ls : List Link) → Sub (tree_links p ls) ls
unfolding tree_links
tree_sub p [] = end
tree_sub p (l ∷ ls) = ⊎_elim (λ q. rw q.0 (keep (tree_sub p ls))) (λ q. rw q.0 (skip (tree_sub p ls))) (used_view p l)

-- a link that the tree uses is one of them
pub tree_linked : (p : List ℕ) {a b : ℕ} {ls : List Link} → Uses p a b → Linked a b ls → Linked a b (tree_links p ls)
unfolding tree_links
tree_linked p h (here {l = l} j) = ⊎_elim (λ q. rw q.0 (here j)) (λ q. absurd (q.1 (uses_joined j h))) (used_view p l)
tree_linked p h (there {l = l} k) = ⊎_elim (λ q. rw q.0 (there (tree_linked p h k))) (λ q. rw q.0 (tree_linked p h k)) (used_view p l)

-- a tree uses links of T only, where it uses neighbours over T only
pub tree_within : (p : List ℕ) {T ls : List Link} → Sub T ls → Distinct ls → ((a b : ℕ) → Linked a b ls → Uses p a b → Linked a b T) → Sub (tree_links p ls) T
unfolding tree_links
tree_within p end d h = end
tree_within p (keep {l = l} {T = T} {ls = ls} s) d h =
    let r = tree_within p s d.1 (λ a b k g. later k (h a b (there k) g)) in
    ⊎_elim (λ q. rw q.0 (keep r)) (λ q. rw q.0 (skip r)) (used_view p l)
  where
    later : {a b : ℕ} → Linked a b ls → Linked a b (l ∷ T) → Linked a b T
    later k (here j) = absurd (d.0 (same_ends j k))
    later k (there m) = m
tree_within p (skip {l = l} s) d h =
    let r = tree_within p s d.1 (λ a b k g. h a b (there k) g) in
    ⊎_elim (λ q. absurd (d.0 (sub_linked s (h l.u l.v (here (along refl refl)) q.1)))) (λ q. rw q.0 r) (used_view p l)
