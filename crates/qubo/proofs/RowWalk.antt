-- A loop that adds the terms of n entries to row i, entry by entry: G k are the terms of entry k, and left k those from entry k on. Assumes nothing.
use mathlib.Core.Path.{◌≡◌, refl, sym, ap, ◌∙◌}
use mathlib.Core.List.{List, [], ◌++◌}
use Prim.Native.Nat.{ℕ, zero, suc, ◌+◌, ◌-◌, ◌≤◌, ◌<◌}
use native.Mathlib.Numerals.{add-one}
use native.Mathlib.Omega.{arith}
use lib.ListN.{length}
use lib.IntN.{ℤ}
use Rattle.qubo.specs.Formula.{Formula}
use Rattle.qubo.specs.Rows.{add_terms, Room}
use Rattle.qubo.proofs.RowAction.{add_none, add_append, add_length, room_front, room_back}

-- the row so far with what is left added is the row at first with all added, and there is room for what is left
pub record Walked (limit : ℕ) (left : ℕ → Formula) (n i : ℕ) (row₀ row : List ℤ) (k : ℕ) : Type 0 where
  pub inside : k ≤ n
  pub size : length row ≡ length row₀
  pub sum : add_terms (left k) i row ≡ add_terms (left 0) i row₀
  pub room : Room limit (left k) row

module _ (limit : ℕ) (G left : ℕ → Formula) (n i : ℕ) (next : (k : ℕ) → k < n → left k ≡ G k ++ left (k + 1)) (last : left n ≡ []) (row₀ : List ℤ) where
  pub walked_start : Room limit (left 0) row₀ → Walked limit left n i row₀ row₀ 0
  walked_start h = record { inside = omega arith; size = refl; sum = refl; room = h }

  module _ (row : List ℤ) (k : ℕ) (h : k < n) (w : Walked limit left n i row₀ row k) where
    -- there is room for the next entry
    pub walked_room : Room limit (G k) row
    walked_room = room_front limit (G k) (left (k + 1)) row (rw (← next k h) w.room)

    -- it is added
    pub walked_turn : (new : List ℤ) → add_terms (G k) i row ≡ new → Walked limit left n i row₀ new (k + 1)
    walked_turn new e = record {
      inside = omega arith;
      size = ap length (sym e) ∙ add_length (G k) i row ∙ w.size;
      sum = ap (add_terms (left (k + 1)) i) (sym e) ∙ sym (add_append (G k) (left (k + 1)) i row) ∙ ap (λ (f : Formula). add_terms f i row) (sym (next k h)) ∙ w.sum;
      room = rw (← e) (room_back limit (G k) (left (k + 1)) i row (rw (← next k h) w.room));
    }

  -- the first k entries add nothing
  pub walked_first : (k : ℕ) → k ≤ n → ((j : ℕ) → j < k → (r : List ℤ) → add_terms (G j) i r ≡ r) → Room limit (left 0) row₀ → Walked limit left n i row₀ row₀ k
  walked_first zero h none room = walked_start room
  walked_first (suc k) h none room = rw (← add-one k) (walked_turn row₀ k h (walked_first k (omega arith) (λ j g. none j (omega arith)) room) row₀ (none k (omega arith) row₀))

  -- nor do the d last ones
  walked_rest : (d : ℕ) (row : List ℤ) (k : ℕ) → n ≡ k + d → ((j : ℕ) → k ≤ j → j < n → (r : List ℤ) → add_terms (G j) i r ≡ r) → Walked limit left n i row₀ row k → row ≡ add_terms (left 0) i row₀
  walked_rest zero row k e none w =
      let g : n ≡ k = omega arith in
      sym (ap (λ (f : Formula). add_terms f i row) (ap left (sym g) ∙ last) ∙ add_none i row) ∙ w.sum
  walked_rest (suc d) row k e none w = walked_rest d row (k + 1) (omega arith) (λ j a b. none j (omega arith) b) (walked_turn row k (omega arith) w row (none k (omega arith) (omega arith) row))

  -- the entries from k on add nothing: the row is done
  pub walked_stop : (row : List ℤ) (k : ℕ) → ((j : ℕ) → k ≤ j → j < n → (r : List ℤ) → add_terms (G j) i r ≡ r) → Walked limit left n i row₀ row k → row ≡ add_terms (left 0) i row₀
  walked_stop row k none w = walked_rest (n - k) row k (omega (arith, w.inside)) none w

  pub walked_end : (row : List ℤ) (k : ℕ) → n ≤ k → Walked limit left n i row₀ row k → row ≡ add_terms (left 0) i row₀
  walked_end row k h w = walked_stop row k (λ j a b. absurd (omega arith)) w
