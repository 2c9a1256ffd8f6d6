-- What the terms of depths add to row i: "(1 - number of depth-0 bits)²" over the run of those bits, and "(1 - its depth bits)²" of the meter of bit i. Assumes nothing.
use Prim.Native.Nat.{ℕ, suc, pred, ◌+◌, ◌*◌, ◌^◌, ◌≤◌}
use mathlib.Core.Path.{◌≡◌, sym, ◌∙◌}
use mathlib.Core.List.{List, [], ◌∷◌}
use native.Mathlib.Omega.{arith}
use native.Mathlib.Nat.{mul-le-mul}
use lib.ListN.{length}
use lib.IntN.{ℤ, pos, negsuc}
use Rattle.qubo.specs.Table.{only}
use Rattle.qubo.specs.Terms.{one_hot, one_less}
use Rattle.qubo.specs.Rows.{add_terms, run_one_hot, RunBelow, Room}
use Rattle.qubo.specs.declared.Run.{Run}
use Rattle.qubo.proofs.Families.{coef_bits, sum_each_none}
use Rattle.qubo.proofs.TableValue.{only_other}
use Rattle.qubo.proofs.RowAction.{add_absent, absent_each_of}
use Rattle.qubo.proofs.RowTerms.{square_absent}
use Rattle.qubo.proofs.RowShapes.{one_hot_norm}
use Rattle.qubo.proofs.Runs.{run_below}
use Rattle.onehot.specs.Choices.{one_hots}
use Rattle.onehot.proofs.Penalty.{one_hots_norm}
use Rattle.arcs.specs.Arcs.{depth_bit, depths_end}
use Rattle.arcs.specs.Formula.{depth_terms}
use Rattle.arcs.specs.Inner.{Row}
use Rattle.arcs.proofs.BitsApart.{depth_below}
use Rattle.arcs.proofs.RowRoom.{room_for}

-- a row with the bits of arcs has those of depths
pub row_depths : (limit N D A M i : ℕ) (r : List ℤ) → Row limit N D A M i r → Row limit N D A 0 i r
row_depths limit N D A M i r w = record { own = w.own; inside = omega (arith, w.inside); short = w.short; small = w.small; penalty = w.penalty }

module _ (N D A i : ℕ) (r : List ℤ) (meters : N ≤ 48) (deep : D ≤ 24) (w : Row (2 ^ 59) N D A 0 i r) where
  -- the bits of depths are in the table
  pub depths_inside : depths_end N D ≤ i + length r
  depths_inside = omega (arith, w.inside)

  -- ---- the depth-0 bits: every D + 1st from the first on

  abbrev roots : Run
  roots = record { start = 0; step = suc D; count = N }

  pub root_below : RunBelow roots (i + length r)
  root_below = run_below roots (i + length r) (omega arith) (omega (arith, depths_inside)) (omega (arith, w.short))

  pub root_room : Room (2 ^ 61) (run_one_hot (pos A) roots ∷ []) r
  root_room =
      let m : 1 + N ≤ 49 = omega arith in
      let g = mul-le-mul {n₂ = 20000000} {m₂ = 2401} w.penalty (mul-le-mul {n₂ = 49} {m₂ = 49} m m) in
      room_for (run_one_hot (pos A) roots ∷ []) r w.small (omega (arith, one_hot_norm (pos A) N (λ t. 0 + pred t * suc D)))

  -- ---- the depth bits of each meter

  pub depth_row : (s : List ℤ) → s ≡ add_terms (one_hots A N (suc D)) i r → s ≡ add_terms (depth_terms A N D) i r
  unfolding one_hots depth_terms
  depth_row s e = e

  pub depths_room : Room (2 ^ 61) (one_hots A N (suc D)) r
  depths_room =
      let m : 1 + suc D ≤ 26 = omega arith in
      let g = mul-le-mul {n₂ = 48} {m₂ = 13520000000} meters (mul-le-mul {n₂ = 20000000} {m₂ = 676} w.penalty (mul-le-mul {n₂ = 26} {m₂ = 26} m m)) in
      room_for (one_hots A N (suc D)) r w.small (omega (arith, one_hots_norm A N (suc D)))

  -- none behind them
  pub behind_row : depths_end N D ≤ i → r ≡ add_terms (depth_terms A N D) i r
  unfolding depth_terms
  behind_row h =
      sym (add_absent (depth_terms A N D) i r (absent_each_of N (λ v. one_hot (pos A) (suc D) (λ k. depth_bit D v (pred k)) ∷ []) i
      (λ v p q. square_absent (pos A) (one_less (suc D) (λ k. depth_bit D v (pred k))) i
      (coef_bits (negsuc 0) (suc D) (λ k. depth_bit D v (pred k)) i
      ∙ sum_each_none (suc D) (λ k. only (depth_bit D v (pred k)) (negsuc 0) i) (λ k a b. only_other (depth_bit D v (pred k)) i (negsuc 0) (λ e. clash v k p q b e))))))
    where
      clash : (v k : ℕ) → 1 ≤ v → v ≤ N → k ≤ suc D → depth_bit D v (pred k) ≡ i → ⊥
      clash v k p q b e = omega (arith, depth_below N D v (pred k) p q (omega arith))
