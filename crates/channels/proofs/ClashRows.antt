-- Rows of kind 1: what the clashes of the links add to row i, which are those of the meter whose bit i is with higher meters, and the whole row. Those that fill a row cite these. Assumes nothing.
use Prim.Native.Nat.{ℕ, suc, ◌+◌, ◌-◌, ◌*◌, ◌/◌, ◌%◌, ◌^◌, ◌≤◌, ◌<◌}
use mathlib.Core.Path.{◌≡◌, refl, sym, ap, ap₂, ◌∙◌}
use mathlib.Core.Bool.{true}
use mathlib.Core.List.{List, [], ◌∷◌}
use lib.ListN.{length}
use lib.IntN.{ℤ, pos}
use native.Mathlib.Omega.{arith}
use native.Mathlib.Nat.{mod-lt}
use mir.Syntax.{w64}
use mir.Val.{to_z}
use mir.Facts.{to_z_pos}
use Rattle.lists.specs.Tests.{all}
use Rattle.lists.proofs.Tests.{equal, other, equal?, all_head, all_tail}
use Rattle.links.specs.Links.{link_ok, nothing, link_in}
use Rattle.links.specs.declared.Link.{Link}
use Rattle.links.specs.Survey.{LinkOf}
use Rattle.links.proofs.Altered.{link_of}
use Rattle.qubo.specs.Formula.{Formula}
use Rattle.qubo.specs.Norm.{formula_norm}
use Rattle.qubo.specs.Terms.{over, pair}
use Rattle.qubo.specs.Table.{row_of}
use Rattle.qubo.specs.Rows.{zeros, add_terms, Room}
use Rattle.qubo.proofs.Families.{norm_part, norm_append}
use Rattle.qubo.proofs.RowAction.{each_nothing, add_only, add_over, row_next, row_top, row_room}
use Rattle.qubo.proofs.RowWalk.{Walked, walked_start, walked_room, walked_turn, walked_end}
use Rattle.qubo.proofs.RowTerms.{pair_nothing, pair_absent}
use Rattle.onehot.specs.Choices.{bit_number, one_hots}
use Rattle.onehot.specs.Inner.{WithChoices}
use Rattle.onehot.proofs.Penalty.{one_hots_small}
use Rattle.onehot.proofs.Rows.{bit_meter, bit_choice, bit_rise, own_bit, higher_bit, higher_inside, row_hots}
use Rattle.onehot.proofs.LinkTerms.{left, left_all, left_next, left_none}
use Rattle.channels.specs.Formula.{link_clashes, clash_terms, formula}
use Rattle.channels.proofs.Bound.{clash_norm}
use Rattle.channels.proofs.Halves.{upward, upward_yes, upward_no, TurnAt}

-- ---- the terms of one link

module _ (N n i : ℕ) (n1 : 1 ≤ n) (l : Link) (o : LinkOf N l) where
  -- where the lower end is another meter than that of bit i, the link adds nothing
  link_nothing : (l.u ≡ i / n + 1 → ⊥) → (r : List ℤ) → add_terms (link_clashes n l) i r ≡ r
  link_nothing ne =
      each_nothing n (λ c. pair (pos l.weight) (bit_number n l.u c) (bit_number n l.v c) ∷ []) i
      (λ c p q r. pair_nothing (pos l.weight) (bit_number n l.u c) (bit_number n l.v c) i r (bit_rise n l.u l.v c n1 o.u_low o.ordered) (λ e. ne (bit_meter n l.u c i o.u_low p q e)))

  -- where it is that meter, the pair of bit i and the same channel of the other end
  link_pair : l.u ≡ i / n + 1 → (r : List ℤ) → add_terms (link_clashes n l) i r ≡ add_terms (pair (pos l.weight) i (i + (l.v - (i / n + 1)) * n) ∷ []) i r
  link_pair e r =
      let h = o.ordered in
      add_only n (λ c. pair (pos l.weight) (bit_number n l.u c) (bit_number n l.v c) ∷ []) (suc (i % n)) i r (omega arith) (mod-lt i n1)
      (λ c p q ne. pair_absent (pos l.weight) (bit_number n l.u c) (bit_number n l.v c) i (λ d. ne (omega (arith, bit_choice n l.u c i p q d))) (λ d. omega (arith, bit_meter n l.v c i (omega arith) p q d)))
      ∙ ap₂ (λ (p q : ℕ). add_terms (pair (pos l.weight) p q ∷ []) i r) (own_bit n i l.u e) (higher_bit n i l.v (omega arith))

  -- the pair's norm is at most that of the link's terms
  pair_norm : (p q : ℕ) → formula_norm (pair (pos l.weight) p q ∷ []) ≤ formula_norm (link_clashes n l)
  pair_norm p q = omega (arith, norm_part n (λ c. pair (pos l.weight) (bit_number n l.u c) (bit_number n l.v c) ∷ []) 0 n1)

-- ---- add_clashes, link by link

module _ (N n i : ℕ) (n1 : 1 ≤ n) where
  -- only the links from the meter of bit i up add something
  upward_clashes : (ls : List Link) → all (link_ok N) ls ≡ true → (r : List ℤ) → add_terms (over ls (link_clashes n)) i r ≡ add_terms (over (upward (i / n + 1) ls) (link_clashes n)) i r
  unfolding upward
  upward_clashes [] o r = refl
  upward_clashes (l ∷ ls) o r =
      let rest = upward_clashes ls (all_tail (link_ok N) l ls o) in
      add_over l ls (link_clashes n) i r
      ∙ elim (equal? l.u (i / n + 1)) [
        | equal e ↦ rw (upward_yes (i / n + 1) l ls e) (rest _ ∙ sym (add_over l (upward (i / n + 1) ls) (link_clashes n) i r))
        | other e ↦ rw (upward_no (i / n + 1) l ls e) (ap (add_terms (over ls (link_clashes n)) i) (link_nothing N n i n1 l (link_of N l (all_head (link_ok N) l ls o)) e r) ∙ rest r)
      ]

-- so the norm of their terms is at most that of all
upward_norm : (n m : ℕ) (ls : List Link) → formula_norm (over (upward m ls) (link_clashes n)) ≤ formula_norm (over ls (link_clashes n))
unfolding upward
upward_norm n m [] = omega arith
upward_norm n m (l ∷ ls) =
    elim (equal? l.u m) [
      | equal e ↦ rw (upward_yes m l ls e) (omega (arith, norm_append (link_clashes n l) (over ls (link_clashes n)), norm_append (link_clashes n l) (over (upward m ls) (link_clashes n)), upward_norm n m ls))
      | other e ↦ rw (upward_no m l ls e) (omega (arith, norm_append (link_clashes n l) (over ls (link_clashes n)), upward_norm n m ls))
    ]

-- the terms of the link at k of these
abbrev clashes_at : ℕ → ℕ → List Link → ℕ → Formula
clashes_at n i ls k = link_clashes n (link_in (upward (i / n + 1) ls) k)

-- those before k are added to the row
abbrev pub Added : ℕ → ℕ → List Link → List ℤ → List ℤ → ℕ → Type 0
Added n i ls row₀ row k = Walked (2 ^ 61) (left (link_clashes n) (upward (i / n + 1) ls)) (length (upward (i / n + 1) ls)) i row₀ row k

module _ (N n i : ℕ) (n1 : 1 ≤ n) (ls : List Link) (ok : all (link_ok N) ls ≡ true) (row₀ : List ℤ) where
  pub added_start : Room (2 ^ 61) (clash_terms n ls) row₀ → Added n i ls row₀ row₀ 0
  unfolding clash_terms
  added_start room = walked_start _ (clashes_at n i ls) _ _ _ (left_next (link_clashes n) _ nothing) (left_none (link_clashes n) _) row₀ (rw (left_all (link_clashes n) (upward (i / n + 1) ls)) (record { room = λ k. omega (arith, room.room k, upward_norm n (i / n + 1) ls) }))

  module _ (row : List ℤ) (k : ℕ) (w : Added n i ls row₀ row k) where
    pub added_end : length (upward (i / n + 1) ls) ≤ k → row ≡ add_terms (clash_terms n ls) i row₀
    unfolding clash_terms
    added_end h =
        walked_end _ (clashes_at n i ls) _ _ _ (left_next (link_clashes n) _ nothing) (left_none (link_clashes n) _) row₀ row k h w
        ∙ rw (left_all (link_clashes n) (upward (i / n + 1) ls)) (sym (upward_clashes N n i n1 ls ok row₀))

    -- a turn, at the link l
    module _ (l : Link) (t : TurnAt N (i / n + 1) ls k l) where
      -- the bit of its other end
      pub turn_inside : (i / n + 1 ≤ l.v) × (i + (l.v - (i / n + 1)) * n < N * n)
      turn_inside = (omega (arith, t.link.ordered, t.low), higher_inside N n i l.v n1 (omega (arith, t.link.ordered, t.low)) t.link.v_high)

      -- the weight as the code has it, a signed number
      weight_is : to_z w64 l.weight ≡ pos l.weight
      weight_is = to_z_pos w64 (omega (arith, t.link.weight_high))

      pub turn_room : Room (2 ^ 61) (pair (to_z w64 l.weight) i (i + (l.v - (i / n + 1)) * n) ∷ []) row
      turn_room =
          let g : Room (2 ^ 61) (clashes_at n i ls k) row = walked_room _ (clashes_at n i ls) _ _ _ (left_next (link_clashes n) _ nothing) (left_none (link_clashes n) _) row₀ row k t.inside w in
          rw weight_is (record { room = λ j. omega (arith, rw t.here at (g.room j), pair_norm N n i n1 l t.link i (i + (l.v - (i / n + 1)) * n)) })

      pub added_turn : (next : List ℤ) → next ≡ add_terms (pair (to_z w64 l.weight) i (i + (l.v - (i / n + 1)) * n) ∷ []) i row → Added n i ls row₀ next (k + 1)
      added_turn next a =
          walked_turn _ (clashes_at n i ls) _ _ _ (left_next (link_clashes n) _ nothing) (left_none (link_clashes n) _) row₀ row k t.inside w next
          (rw t.here (link_pair N n i n1 l t.link t.low row ∙ sym (rw weight_is at a)))

-- ---- row_into: zeros, then the penalty, then the clashes

module _ (A N n i : ℕ) (ls : List Link) (lent : WithChoices N n ls) (small : A ≤ 2 ^ 32) (L : ℕ) (top : i + L ≡ N * n) (r : List ℤ) (none : r ≡ zeros L) where
  module _ (s : List ℤ) (hots : s ≡ add_terms (one_hots A N n) i r) where
    so_far : s ≡ row_of (one_hots A N n) (N * n) i
    so_far = row_hots A N n i ls lent small L top r none s hots

    pub clashes_ready : (i + length s ≡ N * n) × Room (2 ^ 61) (clash_terms n ls) s
    clashes_ready = (
      row_top (N * n) (one_hots A N n) i s (omega arith) so_far,
      row_room _ (N * n) (one_hots A N n) (clash_terms n ls) i s so_far (omega (arith, one_hots_small A N n lent.survey.meters_high lent.high small, clash_norm N n ls lent.survey lent.high)),
    )

    pub row_done : (t : List ℤ) → t ≡ add_terms (clash_terms n ls) i s → t ≡ row_of (formula A N n ls) (N * n) i
    unfolding formula
    row_done t e = row_next (N * n) (one_hots A N n) (clash_terms n ls) i s t so_far e
