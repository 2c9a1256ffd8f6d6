-- Rows of kind 2: what the links cut adds to row i. A link with an end at the meter whose bit i is adds its term of the group of bit i, and any other link adds nothing. The function add_cuts of src/rows.rt cites these. Assumes nothing.
use Prim.Native.Nat.{ℕ, zero, suc, ◌+◌, ◌-◌, ◌*◌, ◌/◌, ◌%◌, ◌^◌, ◌≤◌, ◌<◌}
use mathlib.Core.Path.{◌≡◌, refl, sym, ap, ap₂, ◌∙◌}
use mathlib.Core.List.{List, [], ◌∷◌}
use lib.ListN.{length}
use lib.IntN.{ℤ, pos}
use native.Mathlib.Omega.{arith}
use mir.Syntax.{w64}
use mir.Val.{to_z}
use mir.Facts.{to_z_pos}
use native.Mathlib.Nat.{add-mul, mod-lt, div-add-mod', mul-le-mul_right}
use Rattle.links.specs.Links.{nothing, link_in}
use Rattle.links.specs.declared.Link.{Link}
use Rattle.links.specs.Survey.{LinkOf}
use Rattle.links.proofs.Halving.{lower_ends_rise}
use Rattle.links.proofs.Walk.{link_at}
use Rattle.qubo.specs.Formula.{Formula}
use Rattle.qubo.specs.Norm.{formula_norm}
use Rattle.qubo.specs.Terms.{unequal}
use Rattle.qubo.specs.Rows.{add_terms, Room}
use Rattle.qubo.proofs.Families.{norm_part}
use Rattle.qubo.proofs.RowAction.{add_absent, absent_each_of, add_only}
use Rattle.qubo.proofs.RowShapes.{unequal_absent}
use Rattle.qubo.proofs.RowWalk.{Walked, walked_start, walked_room, walked_turn, walked_stop, walked_end}
use Rattle.onehot.specs.Choices.{bit_number}
use Rattle.onehot.specs.Inner.{WithChoices}
use Rattle.onehot.proofs.Rows.{bit_meter, bit_choice, own_bit, higher_bit, higher_inside}
use Rattle.onehot.proofs.LinkTerms.{left, left_all, left_next, left_none}
use Rattle.groups.specs.Formula.{link_cuts, cut_terms}

-- ---- bits of other meters and the same group

-- v is the meter of bit i, u a lower one: as many bits as the meters from u to v have are before bit i
lower_inside : (m i u v : ℕ) → 1 ≤ u → u ≤ v → v ≡ i / m + 1 → (v - u) * m ≤ i
lower_inside m i u v a b e =
    let g : v - u ≤ i / m = omega arith in
    omega (arith, div-add-mod' i m, mul-le-mul_right m g)

-- the bit of that lower meter and the same group is m before for each meter
lower_bit : (m i u v : ℕ) → 1 ≤ u → u ≤ v → v ≡ i / m + 1 → bit_number m u (suc (i % m)) ≡ i - (v - u) * m
lower_bit m i zero v a b e = absurd (omega arith)
lower_bit m i (suc u) v a b e =
    let g : i / m ≡ u + (v - suc u) = omega arith in
    omega (arith, div-add-mod' i m, ap (λ (j : ℕ). j * m) g, add-mul u (v - suc u) m)

-- ---- the terms of one link

module _ (N m i : ℕ) (m1 : 1 ≤ m) (l : Link) (o : LinkOf N l) where
  -- where neither end is the meter of bit i, the link adds nothing
  link_nothing : (l.u ≡ i / m + 1 → ⊥) → (l.v ≡ i / m + 1 → ⊥) → (r : List ℤ) → add_terms (link_cuts m l) i r ≡ r
  link_nothing nu nv r =
      let h = o.ordered in
      add_absent (link_cuts m l) i r (absent_each_of m (λ g. unequal (pos l.weight) (bit_number m l.u g) (bit_number m l.v g) ∷ []) i
      (λ g p q. unequal_absent (pos l.weight) (bit_number m l.u g) (bit_number m l.v g) i (λ e. nu (bit_meter m l.u g i o.u_low p q e)) (λ e. nv (bit_meter m l.v g i (omega arith) p q e))))

  -- only the term of the group of bit i has bit i
  link_own : (r : List ℤ) → add_terms (link_cuts m l) i r ≡ add_terms (unequal (pos l.weight) (bit_number m l.u (suc (i % m))) (bit_number m l.v (suc (i % m))) ∷ []) i r
  link_own r =
      add_only m (λ g. unequal (pos l.weight) (bit_number m l.u g) (bit_number m l.v g) ∷ []) (suc (i % m)) i r (omega arith) (mod-lt i m1)
      (λ g p q ne. unequal_absent (pos l.weight) (bit_number m l.u g) (bit_number m l.v g) i (λ d. ne (omega (arith, bit_choice m l.u g i p q d))) (λ d. ne (omega (arith, bit_choice m l.v g i p q d))))

  -- where the lower end is the meter of bit i: bit i, and that of the upper end
  link_up : l.u ≡ i / m + 1 → (r : List ℤ) → add_terms (link_cuts m l) i r ≡ add_terms (unequal (pos l.weight) i (i + (l.v - l.u) * m) ∷ []) i r
  link_up e r =
      let h = o.ordered in
      link_own r
      ∙ ap₂ (λ (p q : ℕ). add_terms (unequal (pos l.weight) p q ∷ []) i r) (own_bit m i l.u e) (higher_bit m i l.v (omega arith) ∙ ap (λ (j : ℕ). i + (l.v - j) * m) (sym e))

  -- where the upper end is: that of the lower end, and bit i
  link_down : l.v ≡ i / m + 1 → (r : List ℤ) → add_terms (link_cuts m l) i r ≡ add_terms (unequal (pos l.weight) (i - (l.v - l.u) * m) i ∷ []) i r
  link_down e r =
      let h = o.ordered in
      link_own r
      ∙ ap₂ (λ (p q : ℕ). add_terms (unequal (pos l.weight) p q ∷ []) i r) (lower_bit m i l.u l.v o.u_low (omega arith) e) (own_bit m i l.v e)

  -- the two bits of a term are apart
  apart : 1 ≤ (l.v - l.u) * m
  apart =
      let h = o.ordered in
      let g : 1 ≤ l.v - l.u = omega arith in
      omega (arith, mul-le-mul_right m g)

  -- a term's norm is at most that of the link's terms
  unequal_small : (p q : ℕ) → formula_norm (unequal (pos l.weight) p q ∷ []) ≤ formula_norm (link_cuts m l)
  unequal_small p q = omega (arith, norm_part m (λ g. unequal (pos l.weight) (bit_number m l.u g) (bit_number m l.v g) ∷ []) 0 m1)

-- ---- add_cuts, link by link

-- the terms of the link at k
abbrev cuts_at : ℕ → List Link → ℕ → Formula
cuts_at m ls k = link_cuts m (link_in ls k)

-- the links before k are added to the row
abbrev pub Added : ℕ → ℕ → List Link → List ℤ → List ℤ → ℕ → Type 0
Added m i ls row₀ row k = Walked (2 ^ 61) (left (link_cuts m) ls) (length ls) i row₀ row k

module _ (N m i : ℕ) (ls : List Link) (lent : WithChoices N m ls) where
  -- the link at k adds nothing where neither end is the meter of bit i
  other_nothing : (k : ℕ) → k < length ls → ((link_in ls k).u ≡ i / m + 1 → ⊥) → ((link_in ls k).v ≡ i / m + 1 → ⊥) → (r : List ℤ) → add_terms (cuts_at m ls k) i r ≡ r
  other_nothing k h nu nv = link_nothing N m i lent.low (link_in ls k) (link_at N ls lent.survey.each k h) nu nv

  -- where the lower end is that meter: the bit of the upper end
  pub upper_inside : (k : ℕ) → k < length ls → (link_in ls k).u ≡ i / m + 1 → (1 ≤ ((link_in ls k).v - (link_in ls k).u) * m) × (i + ((link_in ls k).v - (link_in ls k).u) * m < N * m)
  upper_inside k h e =
      let o = link_at N ls lent.survey.each k h in
      (apart N m i lent.low (link_in ls k) o, rw (sym e) at (higher_inside N m i ((link_in ls k).v) lent.low (omega (arith, o.ordered)) o.v_high))

  -- where the upper end is: the bit of the lower end
  pub below_inside : (k : ℕ) → k < length ls → (link_in ls k).v ≡ i / m + 1 → (1 ≤ ((link_in ls k).v - (link_in ls k).u) * m) × (((link_in ls k).v - (link_in ls k).u) * m ≤ i)
  below_inside k h e =
      let o = link_at N ls lent.survey.each k h in
      (apart N m i lent.low (link_in ls k) o, lower_inside m i ((link_in ls k).u) ((link_in ls k).v) o.u_low (omega (arith, o.ordered)) e)

  module _ (row₀ : List ℤ) where
    pub added_start : Room (2 ^ 61) (cut_terms m ls) row₀ → Added m i ls row₀ row₀ 0
    unfolding cut_terms
    added_start room =
        walked_start _ (cuts_at m ls) _ _ _ (left_next (link_cuts m) ls nothing) (left_none (link_cuts m) ls) row₀ (rw (left_all (link_cuts m) ls) room)

    module _ (row : List ℤ) (k : ℕ) (w : Added m i ls row₀ row k) where
      pub added_all : length ls ≤ k → row ≡ add_terms (cut_terms m ls) i row₀
      unfolding cut_terms
      added_all h =
          walked_end _ (cuts_at m ls) _ _ _ (left_next (link_cuts m) ls nothing) (left_none (link_cuts m) ls) row₀ row k h w
          ∙ rw (left_all (link_cuts m) ls) refl

      module _ (h : k < length ls) where
        -- from the first link of a higher meter on all have both ends above the meter of bit i
        pub added_stop : i / m + 1 < (link_in ls k).u → row ≡ add_terms (cut_terms m ls) i row₀
        unfolding cut_terms
        added_stop high =
            walked_stop _ (cuts_at m ls) _ _ _ (left_next (link_cuts m) ls nothing) (left_none (link_cuts m) ls) row₀ row k
            (λ j g l. other_nothing j l (λ e. omega (arith, lower_ends_rise ls lent.survey.rises k j nothing g l)) (λ e. omega (arith, lower_ends_rise ls lent.survey.rises k j nothing g l, (link_at N ls lent.survey.each j l).ordered))) w
            ∙ rw (left_all (link_cuts m) ls) refl

        -- there is room for the link's term
        pub term_room : (p q : ℕ) → Room (2 ^ 61) (unequal (pos (link_in ls k).weight) p q ∷ []) row
        term_room p q =
            let g : Room (2 ^ 61) (cuts_at m ls k) row = walked_room _ (cuts_at m ls) _ _ _ (left_next (link_cuts m) ls nothing) (left_none (link_cuts m) ls) row₀ row k h w in
            record { room = λ j. omega (arith, g.room j, unequal_small N m i lent.low (link_in ls k) (link_at N ls lent.survey.each k h) p q) }

        -- a turn: the lower end is the meter of bit i, or the upper end, or neither
        turn : (next : List ℤ) → add_terms (cuts_at m ls k) i row ≡ next → Added m i ls row₀ next (k + 1)
        turn next e = walked_turn _ (cuts_at m ls) _ _ _ (left_next (link_cuts m) ls nothing) (left_none (link_cuts m) ls) row₀ row k h w next e

        pub added_up : (link_in ls k).u ≡ i / m + 1 → (next : List ℤ) → next ≡ add_terms (unequal (pos (link_in ls k).weight) i (i + ((link_in ls k).v - (link_in ls k).u) * m) ∷ []) i row → Added m i ls row₀ next (k + 1)
        added_up e next a = turn next (link_up N m i lent.low (link_in ls k) (link_at N ls lent.survey.each k h) e row ∙ sym a)

        pub added_down : (link_in ls k).v ≡ i / m + 1 → (next : List ℤ) → next ≡ add_terms (unequal (pos (link_in ls k).weight) (i - ((link_in ls k).v - (link_in ls k).u) * m) i ∷ []) i row → Added m i ls row₀ next (k + 1)
        added_down e next a = turn next (link_down N m i lent.low (link_in ls k) (link_at N ls lent.survey.each k h) e row ∙ sym a)

        pub added_none : ((link_in ls k).u ≡ i / m + 1 → ⊥) → ((link_in ls k).v ≡ i / m + 1 → ⊥) → Added m i ls row₀ row (k + 1)
        added_none nu nv = turn row (other_nothing k h nu nv row)

        -- the same of the weight as the code has it, a signed number, and of a row that is the next one
        weight_is : to_z w64 (link_in ls k).weight ≡ pos (link_in ls k).weight
        weight_is = to_z_pos w64 (omega (arith, link_at N ls lent.survey.each k h))

        pub weight_room : (p q : ℕ) → Room (2 ^ 61) (unequal (to_z w64 (link_in ls k).weight) p q ∷ []) row
        weight_room p q = rw weight_is (term_room p q)

        pub kept_up : (link_in ls k).u ≡ i / m + 1 → (kept next : List ℤ) → kept ≡ next → next ≡ add_terms (unequal (to_z w64 (link_in ls k).weight) i (i + ((link_in ls k).v - (link_in ls k).u) * m) ∷ []) i row → Added m i ls row₀ kept (k + 1)
        kept_up e kept next d a = added_up e kept (d ∙ (rw weight_is at a))

        pub kept_down : (link_in ls k).v ≡ i / m + 1 → (kept next : List ℤ) → kept ≡ next → next ≡ add_terms (unequal (to_z w64 (link_in ls k).weight) (i - ((link_in ls k).v - (link_in ls k).u) * m) i ∷ []) i row → Added m i ls row₀ kept (k + 1)
        kept_down e kept next d a = added_down e kept (d ∙ (rw weight_is at a))

        pub kept_none : ((link_in ls k).u ≡ i / m + 1 → ⊥) → ((link_in ls k).v ≡ i / m + 1 → ⊥) → (kept : List ℤ) → kept ≡ row → Added m i ls row₀ kept (k + 1)
        kept_none nu nv kept d = rw d (added_none nu nv)
