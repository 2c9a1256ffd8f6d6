-- Sums over the links: the weight of those with the same choice at both ends, and over the bits of each choice the weight times f of the two ends' bits, which is 0 or 1. Channels take f for both set, groups for just one. Assumes nothing.
use Prim.Native.Nat.{ℕ, ◌+◌, ◌-◌, ◌*◌, ◌≤◌, ◌<◌}
use mathlib.Core.Path.{◌≡◌, refl, sym, ap, ap₂, ◌∙◌}
use mathlib.Core.List.{List}
use lib.ListN.{length, get_or}
use native.Mathlib.Omega.{arith}
use native.Mathlib.Nat.{mul-one, mul-zero}
use Rattle.lists.specs.Sums.{sum_to, sum_of, same, nth}
use Rattle.lists.proofs.Sums.{sum_to_times, sum_to_bound, times_bit, same_yes, same_no, same_le, nth_index}
use Rattle.links.specs.Links.{nothing, link_in}
use Rattle.links.specs.declared.Link.{Link}
use Rattle.links.specs.Survey.{IsSurvey}
use Rattle.lists.proofs.Walks.{Summed, summed_turn, summed_skip, summed_room}
use Rattle.links.proofs.Walk.{link_at, sum_bounded}
use Rattle.onehot.specs.Choices.{bit_at, alike_weight}
use Rattle.onehot.specs.Inner.{WithChoices}

-- ---- over a plan, where both ends are alike

-- what a link adds
unfoldable pub alike_link : List ℕ → Link → ℕ
alike_link p l = l.weight * same (nth p l.u) (nth p l.v)

pub alike_sum : (ls : List Link) (p : List ℕ) → sum_of ls (alike_link p) ≡ alike_weight ls p
unfolding alike_link alike_weight
alike_sum ls p = refl

-- at most 256 links of at most 65,535
pub alike_small : (N : ℕ) (ls : List Link) (p : List ℕ) → IsSurvey N ls → sum_of ls (alike_link p) ≤ 16776960
unfolding alike_link
alike_small N ls p s =
    omega (arith, s.few, sum_bounded N ls s.each (alike_link p) 65535 (λ l o. omega (arith, o.weight_high, times_bit l.weight (same (nth p l.u) (nth p l.v)) (same_le _ _))))

-- the link at k counts with its weight, or not at all
module _ (N : ℕ) (p : List ℕ) (ls : List Link) (a : IsSurvey N ls) (k : ℕ) (h : k < length ls) where
  at_k : alike_link p (link_in ls k) ≡ (link_in ls k).weight * same (get_or p ((link_in ls k).u - 1) 0) (get_or p ((link_in ls k).v - 1) 0)
  unfolding alike_link
  at_k =
      let o = link_at N ls a.each k h in
      ap₂ (λ x y. (link_in ls k).weight * same x y) (nth_index p (link_in ls k).u o.u_low) (nth_index p (link_in ls k).v (omega (arith, o.u_low, o.ordered)))

  -- a turn of the sum, which then is `next`
  module _ (sum next : ℕ) (s : Summed (alike_link p) ls k sum) where
    pub alike_turn : get_or p ((link_in ls k).u - 1) 0 ≡ get_or p ((link_in ls k).v - 1) 0 → next ≡ sum + (link_in ls k).weight → Summed (alike_link p) ls (k + 1) next
    alike_turn e d = rw d (summed_turn (alike_link p) ls nothing k sum s h (link_in ls k).weight (sym (at_k ∙ ap (λ t. (link_in ls k).weight * t) (same_yes _ _ e) ∙ mul-one (link_in ls k).weight)))

    pub alike_skip : (get_or p ((link_in ls k).u - 1) 0 ≡ get_or p ((link_in ls k).v - 1) 0 → ⊥) → next ≡ sum → Summed (alike_link p) ls (k + 1) next
    alike_skip e d = rw d (summed_skip (alike_link p) ls nothing k sum s h (sym (at_k ∙ ap (λ t. (link_in ls k).weight * t) (same_no _ _ e) ∙ mul-zero (link_in ls k).weight)))

-- ---- over bits

-- what a link adds
unfoldable pub bits_link : (ℕ → ℕ → ℕ) → ℕ → List ℕ → Link → ℕ
bits_link f n x l = sum_to n (λ i. l.weight * f (bit_at n x l.u i) (bit_at n x l.v i))

module _ (f : ℕ → ℕ → ℕ) (n : ℕ) (x : List ℕ) where
  module _ (one : (u v i : ℕ) → f (bit_at n x u i) (bit_at n x v i) ≤ 1) (few : n ≤ 16) where
    -- at most 65,535 for each of 16 choices
    bits_most : (l : Link) → l.weight ≤ 65535 → bits_link f n x l ≤ 1048560
    unfolding bits_link
    bits_most l w =
        omega (
          arith,
          sum_to_bound n (λ i. l.weight * f (bit_at n x l.u i) (bit_at n x l.v i)) 65535 (λ i p q. omega (arith, times_bit l.weight (f (bit_at n x l.u i) (bit_at n x l.v i)) (one l.u l.v i))),
        )

    pub bits_small : (N : ℕ) (ls : List Link) → IsSurvey N ls → sum_of ls (bits_link f n x) ≤ 268431360
    bits_small N ls s = omega (arith, s.few, sum_bounded N ls s.each (bits_link f n x) 1048560 (λ l o. bits_most l o.weight_high))

  -- the link at k: its weight times r, for how many choices f is 1
  module _ (ls : List Link) (k r : ℕ) (e : r ≡ sum_to n (λ i. f (bit_at n x (link_in ls k).u i) (bit_at n x (link_in ls k).v i))) where
    pub bits_link_value : (link_in ls k).weight * r ≡ bits_link f n x (link_in ls k)
    unfolding bits_link
    bits_link_value = rw e (sym (sum_to_times n (link_in ls k).weight (λ i. f (bit_at n x (link_in ls k).u i) (bit_at n x (link_in ls k).v i))))

    pub bits_room : ((u v i : ℕ) → f (bit_at n x u i) (bit_at n x v i) ≤ 1) → (N sum : ℕ) → WithChoices N n ls → Summed (bits_link f n x) ls k sum → k < length ls → sum + (link_in ls k).weight * r ≤ 268431360
    bits_room one N sum a s h = omega (arith, bits_link_value, summed_room (bits_link f n x) ls nothing k sum s h, bits_small one a.high N ls a.survey)
