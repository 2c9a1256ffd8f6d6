-- add_sizes: its numbers fit an i64 and are those of the law, its runs lie in the table, and there is room for each adder. Assumes nothing.
use Prim.Native.Nat.{ℕ, ◌+◌, ◌-◌, ◌*◌, ◌/◌, ◌^◌, ◌≤◌, ◌<◌}
use mathlib.Core.Path.{◌≡◌, sym, ap, ◌∙◌}
use mathlib.Core.List.{List, [], ◌∷◌}
use lib.ListN.{length, get_or}
use lib.IntN.{ℤ, pos, nat_abs, ◌-ℤ◌, ◌*ℤ◌}
use native.Mathlib.Omega.{arith}
use native.Mathlib.Nat.{add-mul, div-add-mod', mod-lt, mul-le-mul}
use mir.Syntax.{w64}
use mir.Val.{SFits, to_z, of_z}
use mir.Facts.{to_z-of_z, to_z_pos}
use Rattle.qubo.specs.Terms.{single, times}
use Rattle.qubo.specs.Rows.{add_terms, run_sum, run_bit, RunBelow, Room}
use Rattle.qubo.specs.declared.Run.{Run}
use Rattle.qubo.proofs.Ring.{var, con, ◌⊕◌, ◌⊖◌, solve}
use Rattle.qubo.proofs.RowAction.{add_top}
use Rattle.qubo.proofs.RowTerms.{single_norm}
use Rattle.qubo.proofs.RowShapes.{bits_times_norm}
use Rattle.qubo.proofs.Runs.{run_below, run_same_top}
use Rattle.qubo.proofs.Turns.{fits_less, less_abs, Parts, second_room, third_room}
use Rattle.onehot.proofs.Ends.{bits_most}
use Rattle.onehot.proofs.Rows.{meter_inside}
use Rattle.groups.specs.Formula.{size_terms}
use Rattle.groups.proofs.SizeRows.{later_all, later_own, sizes_row}

-- ---- the numbers that are added

module _ (A : ℕ) (small : A ≤ 2 ^ 32) where
  pub less_fits : SFits w64 (pos 0 -ℤ to_z w64 (2 * A))
  less_fits = rw (to_z_pos w64 {n = 2 * A} (omega arith)) (fits_less (pos (2 * A)) (omega arith))

  less_is : to_z w64 (of_z w64 (pos 0 -ℤ to_z w64 (2 * A))) ≡ pos 0 -ℤ pos 2 *ℤ pos A
  less_is = to_z-of_z less_fits ∙ ap (λ z. pos 0 -ℤ z) (to_z_pos w64 {n = 2 * A} (omega arith))

  module _ (m : ℕ) (few : m ≤ 16) where
    pub here_small : A * (m - 1) ≤ 64424509440
    here_small = mul-le-mul {n₂ = 4294967296} {m₂ = 15} small (omega arith)

    pub more_small : 2 * A * m ≤ 137438953472
    more_small = mul-le-mul {n₂ = 8589934592} {m₂ = 16} (omega arith) few

    more_is : to_z w64 (2 * A * m) ≡ pos 2 *ℤ pos A *ℤ pos m
    more_is = to_z_pos w64 {n = 2 * A * m} (omega (arith, more_small))

    here_is : 1 ≤ m → to_z w64 (A * (m - 1)) ≡ pos A *ℤ (pos m -ℤ pos 1)
    here_is low =
        let e : m - 1 + 1 ≡ m = omega arith in
        to_z_pos w64 {n = A * (m - 1)} (omega (arith, here_small))
        ∙ ap (λ z. pos A *ℤ z) (solve (var 0) (var 0 ⊕ con (pos 1) ⊖ con (pos 1)) tt (pos (m - 1) ∷ []) ∙ ap (λ (j : ℕ). pos j -ℤ pos 1) e)

-- ---- the three adders, one after another: r is the row before, s and t that after the first and the second

module _ (A N m i : ℕ) (m1 : 1 ≤ m) (few : m ≤ 16) (meters : N ≤ 48) (small : A ≤ 2 ^ 32) (r : List ℤ) (top : i + length r ≡ N * m) (inside : i < N * m) (low : (k : ℕ) → nat_abs (get_or r k (pos 0)) ≤ 2 ^ 59) where
  -- the numbers as the code has them
  abbrev here : ℤ
  here = to_z w64 (A * (m - 1))

  abbrev less : ℤ
  less = to_z w64 (of_z w64 (pos 0 -ℤ to_z w64 (2 * A)))

  abbrev more : ℤ
  more = to_z w64 (2 * A * m)

  abbrev rest : Run
  rest = later_all A N m i m1 inside

  abbrev own : Run
  own = later_own A N m i m1 inside

  here_abs : nat_abs here ≤ 64424509440
  here_abs = omega (arith, ap nat_abs (to_z_pos w64 {n = A * (m - 1)} (omega (arith, here_small A small m few))), here_small A small m few)

  less_bound : nat_abs less ≤ 8589934592
  less_bound = omega (arith, ap nat_abs (less_is A small), less_abs (pos (2 * A)))

  more_abs : nat_abs more ≤ 137438953472
  more_abs = omega (arith, ap nat_abs (to_z_pos w64 {n = 2 * A * m} (omega (arith, more_small A small m few))), more_small A small m few)

  -- room for all three
  parts_room : Room (2 ^ 61) (Parts here less more i rest own) r
  parts_room = record {
    room = λ k. omega (
      arith,
      low k,
      single_norm here i,
      here_abs,
      bits_times_norm less i rest.count (run_bit rest),
      mul-le-mul {n₂ = 8589934592} {m₂ = 768} less_bound (let h : rest.count ≤ 768 = omega (arith, bits_most N m meters few) in h),
      bits_times_norm more i own.count (run_bit own),
      mul-le-mul {n₂ = 137438953472} {m₂ = 48} more_abs (let h : own.count ≤ 48 = omega arith in h),
    );
  }

  rest_below : RunBelow rest (N * m)
  rest_below = run_below rest (N * m) (omega arith) (omega arith) (omega (arith, bits_most N m meters few))

  own_below : RunBelow own (N * m)
  own_below =
      let h = meter_inside N m i m1 inside in
      run_below own (N * m) m1 (omega (arith, div-add-mod' i m, mod-lt i m1, add-mul (i / m + 1) (N - (i / m + 1)) m, add-mul (i / m) 1 m, ap (λ (j : ℕ). j * m) (let e : N ≡ i / m + 1 + (N - (i / m + 1)) = omega arith in e))) (omega (arith, bits_most N m meters few))

  module _ (s : List ℤ) (e : s ≡ add_terms (single here i ∷ []) i r) where
    pub second_ready : RunBelow rest (i + length s) × Room (2 ^ 61) (times less i (run_sum rest) ∷ []) s
    second_ready = (
      run_same_top rest (N * m) (i + length s) (sym top ∙ add_top (single here i ∷ []) i r s e) rest_below,
      rw e (second_room here less more i rest own r parts_room),
    )

    module _ (t : List ℤ) (f : t ≡ add_terms (times less i (run_sum rest) ∷ []) i s) where
      pub third_ready : RunBelow own (i + length t) × Room (2 ^ 61) (times more i (run_sum own) ∷ []) t
      third_ready = (
        run_same_top own (N * m) (i + length t) (sym top ∙ add_top (single here i ∷ []) i r s e ∙ add_top (times less i (run_sum rest) ∷ []) i s t f) own_below,
        rw (f, e) (third_room here less more i rest own r parts_room),
      )

      -- the row in the end
      pub sizes_done : (u : List ℤ) → u ≡ add_terms (times more i (run_sum own) ∷ []) i t → u ≡ add_terms (size_terms A N m) i r
      sizes_done u g = g ∙ rw (f, e, here_is A small m few m1, less_is A small, more_is A small m few) (sym (sizes_row A N m i m1 inside r))
