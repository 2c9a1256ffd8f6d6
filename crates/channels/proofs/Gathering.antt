-- The sums of link weights at the meters: gathered link by link, and none is great. Assumes nothing.
use Prim.Native.Nat.{ℕ, zero, suc, ◌+◌, ◌-◌, ◌≤◌, ◌<◌, max}
use mathlib.Core.Path.{◌≡◌, refl, sym, ap, ap₂, ◌∙◌}
use mathlib.Core.List.{List}
use lib.ListN.{length, get_or, set, take, drop, length-set, length-drop}
use lib.Seq.{get_or-drop}
use native.Mathlib.Omega.{arith}
use native.Mathlib.Decide.{ℕ_discrete}
use native.Mathlib.Numerals.{add-one}
use Rattle.std.specs.List.{fold}
use Rattle.std.proofs.lemmas.List.Sums.{fold_more}
use Rattle.lists.specs.Sums.{greatest}
use Rattle.lists.proofs.Sums.{greatest_eq, greatest_zero, greatest_next}
use Rattle.lists.proofs.Stores.{added_here, added_elsewhere}
use Rattle.links.specs.Links.{nothing, link_in}
use Rattle.links.specs.declared.Link.{Link}
use Rattle.links.specs.Survey.{IsSurvey}
use Rattle.links.proofs.Walk.{link_at}
use Rattle.lists.proofs.Walks.{Summed, summed_start, summed_turn, summed_end}
use Rattle.channels.specs.Formula.{load, penalty}
use Rattle.channels.proofs.Load.{load_of, load_u, load_v, load_none, load_sum, load_small}

-- ---- a weight added

-- its weight added at its first end, then at its second: that is what it adds to each meter
both_added : (l : Link) (s t q : List ℕ) → l.u < l.v → l.v < length s → t ≡ set s l.u (get_or s l.u 0 + l.weight) → q ≡ set t l.v (get_or t l.v 0 + l.weight) → (m : ℕ) → get_or q m 0 ≡ get_or s m 0 + load_of m l
both_added l s t q o h e f m =
    elim (ℕ_discrete l.u m) [
      | yes a ↦ omega (arith, added_here s t l.u l.weight e (omega arith) m a, added_elsewhere t q l.v l.weight f m (omega arith), load_u l m a)
      | no a ↦ elim (ℕ_discrete l.v m) [
        | yes b ↦ omega (arith, added_elsewhere s t l.u l.weight e m a, added_here t q l.v l.weight f (rw (e, length-set) h) m b, load_v l m a b)
        | no b ↦ omega (arith, added_elsewhere s t l.u l.weight e m a, added_elsewhere t q l.v l.weight f m b, load_none l m a b)
      ]
    ]

-- ---- loads_of: after k links

-- in place m stands what they add to meter m
pub record Gathered (ls : List Link) (k : ℕ) (sums : List ℕ) : Type 0 where
  pub size : length sums ≡ 256
  pub so_far : (m : ℕ) → Summed (load_of m) ls k (get_or sums m 0)

pub gather_start : (ls : List Link) (sums : List ℕ) → length sums ≡ 256 → ((m : ℕ) → get_or sums m 0 ≡ 0) → Gathered ls 0 sums
gather_start ls sums e z = record { size = e; so_far = λ m. rw (z m) (summed_start (load_of m) ls) }

pub gather_end : (ls : List Link) (sums : List ℕ) (k : ℕ) → Gathered ls k sums → length ls ≤ k → (m : ℕ) → get_or sums m 0 ≡ load ls m
gather_end ls sums k g h m = summed_end (load_of m) ls k (get_or sums m 0) (g.so_far m) h ∙ load_sum ls m

-- a turn: the weight of link k is added at its end u, then at its end v
module _ (N : ℕ) (ls : List Link) (a : IsSurvey N ls) (k : ℕ) (h : k < length ls) (s : List ℕ) (g : Gathered ls k s) where
  sum_small : (m : ℕ) → get_or s m 0 < 4294967296
  sum_small m = omega (arith, (g.so_far m).whole, load_sum ls m, load_small N ls a m)

  within : (m : ℕ) → m ≤ N → m < length s
  within m l = omega (arith, a.meters_high, g.size)

  pub first_room : ((link_in ls k).u < length s) × (get_or s (link_in ls k).u 0 < 4294967296)
  first_room = let o = link_at N ls a.each k h in (within (link_in ls k).u (omega (arith, o.ordered, o.v_high)), sum_small (link_in ls k).u)

  module _ (t : List ℕ) (first : t ≡ set s (link_in ls k).u (get_or s (link_in ls k).u 0 + (link_in ls k).weight)) where
    pub second_room : ((link_in ls k).v < length t) × (get_or t (link_in ls k).v 0 < 4294967296)
    second_room = let o = link_at N ls a.each k h in (
      rw (first, length-set) (within (link_in ls k).v o.v_high),
      omega (arith, added_elsewhere s t (link_in ls k).u (link_in ls k).weight first (link_in ls k).v (omega (arith, o.ordered)), sum_small (link_in ls k).v),
    )

    pub gather_turn : (q : List ℕ) → q ≡ set t (link_in ls k).v (get_or t (link_in ls k).v 0 + (link_in ls k).weight) → Gathered ls (k + 1) q
    gather_turn q second = let o = link_at N ls a.each k h in record {
      size = rw (second, length-set, first, length-set) g.size;
      so_far = λ m.
          rw (both_added (link_in ls k) s t q o.ordered (within (link_in ls k).v o.v_high) first second m)
          (summed_turn (load_of m) ls nothing k (get_or s m 0) (g.so_far m) h (load_of m (link_in ls k)) refl);
    }

-- ---- greatest_load: the greatest of the sums of the meters

-- the sums of the N meters
abbrev ones : List ℕ → ℕ → List ℕ
ones sums N = take (N + 1 - 1) (drop 1 sums)

-- the greatest of the first n of a list
fold_top : (xs : List ℕ) (n : ℕ) → n ≤ length xs → fold (λ a x. max a x) 0 (take n xs) ≡ greatest n (λ i. get_or xs (i - 1) 0)
fold_top xs zero h = sym (greatest_zero (λ i. get_or xs (i - 1) 0))
fold_top xs (suc n) h =
    let q : n ≡ suc n - 1 = omega arith in
    ap (λ k. fold (λ a x. max a x) 0 (take k xs)) (sym (add-one n))
    ∙ fold_more (λ a x. max a x) 0 xs n 0 (omega arith)
    ∙ ap₂ max (fold_top xs n (omega arith)) (ap (λ t. get_or xs t 0) q)
    ∙ sym (greatest_next n (λ i. get_or xs (i - 1) 0))
    ∙ ap (λ k. greatest k (λ i. get_or xs (i - 1) 0)) (add-one n)

pub top_is : (sums : List ℕ) (N : ℕ) → N < length sums → fold (λ a x. max a x) 0 (ones sums N) ≡ greatest N (λ i. get_or sums i 0)
top_is sums N h =
    let d : N + 1 - 1 ≡ N = omega arith in
    rw d (fold_top (drop 1 sums) N (rw length-drop (omega arith)) ∙ greatest_eq N (λ i. get_or (drop 1 sums) (i - 1) 0) (λ i. get_or sums i 0) (λ k a b. get_or-drop 1 sums (k - 1) 0 ∙ ap (λ t. get_or sums t 0) (omega arith)))

-- ---- own_penalty

pub penalty_is : (N : ℕ) (ls : List Link) (sum : ℕ → ℕ) (top : ℕ) → ((m : ℕ) → sum m ≡ load ls m) → top ≡ greatest N sum → 1 + top ≡ penalty N ls
unfolding penalty
penalty_is N ls sum top h e = ap (λ t. 1 + t) (e ∙ greatest_eq N sum (load ls) (λ m p q. h m))
