-- The arcs of a survey's links: an arc leads from u to v exactly where a link joins them, and then just one; where each stands among the arcs. Assumes nothing.
use Prim.Native.Nat.{ℕ, zero, suc, ◌+◌, ◌*◌, ◌≤◌, ◌<◌}
use mathlib.Core.Path.{◌≡◌, refl, sym, ap, ap₂, ◌∙◌}
use mathlib.Core.Bool.{Bool, true, false, cond}
use mathlib.Core.List.{List, [], ◌∷◌, map, Memᴰ}
use lib.ListN.{length, get_or}
use native.Mathlib.Omega.{arith}
use native.Mathlib.Decide.{ℕ_discrete, dec_le}
use native.Mathlib.Nat.{zero-mul, mul_comm}
use Rattle.lists.specs.Sums.{sum_of, same}
use Rattle.lists.proofs.Sums.{same_yes, same_no, sum_of_add}
use Rattle.links.specs.Links.{has_ends, times_of}
use Rattle.links.specs.declared.Link.{Link}
use Rattle.links.specs.Survey.{IsSurvey}
use Rattle.links.proofs.Altered.{ends_at_u, ends_at_v, ends_yes, ends_no, ascending_once, times_sum, times_falling}
use Rattle.spanning.specs.Spanning.{along, back, Linked, here, there}
use Rattle.spanning.proofs.Shape.{linked_flip}
use Rattle.arcs.specs.Arcs.{Arc, arcs_from, arcs}
use Rattle.arcs.proofs.ArcLists.{arcs_length, sum_arcs}

-- ---- arcs between two meters

-- how many arcs lead from u to v
unfoldable pub arcs_leading : List Arc → ℕ → ℕ → ℕ
arcs_leading ks u v = sum_of ks (λ a. same a.child v * same a.parent u)

-- whether an arc does is a test of its link
same_ends : (l : Link) (a b : ℕ) → same l.v b * same l.u a ≡ cond (has_ends a b l) 1 0
same_ends l a b =
    elim (ℕ_discrete l.v b) [
      | no n ↦ rw (same_no l.v b n, ends_no a b l (λ e f. n f)) (zero-mul (same l.u a))
      | yes f ↦ elim (ℕ_discrete l.u a) [
        | no n ↦ rw (same_yes l.v b f, same_no l.u a n, ends_no a b l (λ e g. n e)) refl
        | yes e ↦ rw (same_yes l.v b f, same_yes l.u a e, ends_yes a b l e f) refl
      ]
    ]

-- as many as there are links with these ends, either way round
arcs_times : (ls : List Link) (u v : ℕ) → arcs_leading (arcs ls) u v ≡ times_of u v ls + times_of v u ls
unfolding arcs_leading
arcs_times ls u v =
    sum_arcs ls (λ a. same a.child v * same a.parent u) (λ l. cond (has_ends u v l) 1 0 + cond (has_ends v u l) 1 0)
    (λ k l i. ap₂ ◌+◌ (same_ends l u v) (mul_comm (same l.u v) (same l.v u) ∙ same_ends l v u))
    ∙ sum_of_add ls (λ l. cond (has_ends u v l) 1 0) (λ l. cond (has_ends v u l) 1 0)
    ∙ sym (ap₂ ◌+◌ (times_sum u v ls) (times_sum v u ls))

-- at most one arc leads from u to v
pub arcs_once : (N : ℕ) (ls : List Link) → IsSurvey N ls → (u v : ℕ) → arcs_leading (arcs ls) u v ≤ 1
arcs_once N ls s u v =
    elim (dec_le u v) [
      | yes h ↦ omega (arith, arcs_times ls u v, ascending_once ls u v s.rises, times_falling N ls s.each v u h)
      | no h ↦ omega (arith, arcs_times ls u v, ascending_once ls v u s.rises, times_falling N ls s.each u v (omega arith))
    ]

-- a link with these ends joins them
times_linked : (a b : ℕ) (ls : List Link) → 1 ≤ times_of a b ls → Linked a b ls
unfolding times_of
times_linked a b [] h = absurd (omega arith)
times_linked a b (l ∷ ls) h = go (has_ends a b l) refl h (times_linked a b ls)
  where
    go : (t : Bool) → has_ends a b l ≡ t → 1 ≤ cond t 1 0 + times_of a b ls → (1 ≤ times_of a b ls → Linked a b ls) → Linked a b (l ∷ ls)
    go true q h f = here (along (ends_at_u a b l q) (ends_at_v a b l q))
    go false q h f = there (f (omega arith))

-- where an arc leads from u to v, a link joins them
pub between_linked : (ls : List Link) (u v : ℕ) → 1 ≤ arcs_leading (arcs ls) u v → Linked u v ls
between_linked ls u v h =
    elim (dec_le 1 (times_of u v ls)) [
      | yes q ↦ times_linked u v ls q
      | no q ↦ linked_flip (times_linked v u ls (omega (arith, arcs_times ls u v)))
    ]

-- a link that joins u and v has these ends, one way round
linked_times : (u v : ℕ) (ls : List Link) → Linked u v ls → 1 ≤ times_of u v ls + times_of v u ls
unfolding times_of
linked_times u v _ (here {l = l} {ls = ls} (along e f)) = rw (ends_yes u v l e f) (omega arith)
linked_times u v _ (here {l = l} {ls = ls} (back e f)) = rw (ends_yes v u l e f) (omega arith)
linked_times u v _ (there {l = l} {ls = ls} k) = omega (arith, linked_times u v ls k)

-- and the other way
pub linked_between : (ls : List Link) (u v : ℕ) → Linked u v ls → 1 ≤ arcs_leading (arcs ls) u v
linked_between ls u v k = omega (arith, arcs_times ls u v, linked_times u v ls k)

-- ---- places among the arcs

-- the same of arcs numbered from k
arc_placed : (k : ℕ) (ls : List Link) (f : Arc → ℕ) (a : Arc) → Memᴰ a (arcs_from k ls)
    → (j : ℕ) × (a.number ≡ k + j) × (j < length (arcs_from k ls)) × (get_or (map f (arcs_from k ls)) j 0 ≡ f a)
unfolding arcs_from
arc_placed k [] f a i = elim i [ ]
arc_placed k (l ∷ ls) f a (Memᴰ.head e) = (0, rw e (omega arith), omega arith, rw e refl)
arc_placed k (l ∷ ls) f a (Memᴰ.tail (Memᴰ.head e)) = (1, rw e (omega arith), omega arith, rw e refl)
arc_placed k (l ∷ ls) f a (Memᴰ.tail (Memᴰ.tail i)) =
    let t = arc_placed (suc (suc k)) ls f a i in (suc (suc t.0), omega (arith, t.1), omega (arith, t.2), t.3)

-- what is listed of each arc stands at the arc's number
pub arc_place : (ls : List Link) (f : Arc → ℕ) (a : Arc) → Memᴰ a (arcs ls) → (a.number < 2 * length ls) × (get_or (map f (arcs ls)) a.number 0 ≡ f a)
unfolding arcs
arc_place ls f a i =
    let t = arc_placed 0 ls f a i in
    let e : a.number ≡ t.0 = omega (arith, t.1) in
    (omega (arith, t.2, arcs_length ls), ap (λ (n : ℕ). get_or (map f (arcs_from 0 ls)) n 0) e ∙ t.3)

-- the same of arcs numbered from k
at_from : (k : ℕ) (ls : List Link) (j : ℕ) → j < length (arcs_from k ls) → (a : Arc) × Memᴰ a (arcs_from k ls) × (a.number ≡ k + j)
unfolding arcs_from
at_from k [] j h = absurd (omega arith)
at_from k (l ∷ ls) zero h = (_, Memᴰ.head refl, omega arith)
at_from k (l ∷ ls) (suc zero) h = (_, Memᴰ.tail (Memᴰ.head refl), omega arith)
at_from k (l ∷ ls) (suc (suc j)) h = let t = at_from (suc (suc k)) ls j (omega arith) in (t.0, Memᴰ.tail (Memᴰ.tail t.1), omega (arith, t.2))

-- each number below theirs is an arc's
pub arc_numbered : (ls : List Link) (j : ℕ) → j < 2 * length ls → (a : Arc) × Memᴰ a (arcs ls) × (a.number ≡ j)
unfolding arcs
arc_numbered ls j h = let t = at_from 0 ls j (omega (arith, arcs_length ls)) in (t.0, t.1, omega (arith, t.2))
