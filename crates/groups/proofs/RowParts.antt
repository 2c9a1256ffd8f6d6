-- A row: zeros, then the one-hot penalty, then the size differences, then what is cut; after each the row is that of the terms so far. Assumes nothing.
use Prim.Native.Nat.{ℕ, ◌+◌, ◌*◌, ◌^◌, ◌≤◌}
use mathlib.Core.Path.{◌≡◌}
use mathlib.Core.List.{List, [], ◌++◌}
use lib.ListN.{length, get_or}
use lib.IntN.{ℤ, pos, nat_abs}
use native.Mathlib.Omega.{arith}
use Rattle.links.specs.declared.Link.{Link}
use Rattle.qubo.specs.Table.{row_of}
use Rattle.qubo.specs.Rows.{zeros, add_terms, Room}
use Rattle.qubo.proofs.Families.{norm_append}
use Rattle.qubo.proofs.RowAction.{row_next, row_top, row_room}
use Rattle.onehot.specs.Choices.{one_hots}
use Rattle.onehot.specs.Inner.{WithChoices}
use Rattle.onehot.proofs.Penalty.{one_hots_small}
use Rattle.onehot.proofs.Rows.{row_hots}
use Rattle.groups.specs.Formula.{size_terms, cut_terms, formula}
use Rattle.groups.proofs.Bound.{sizes_small, cuts_small}

-- r is the row of zeros, s and t that after the penalty and after the size differences
module _ (A N m i : ℕ) (ls : List Link) (lent : WithChoices N m ls) (small : A ≤ 2 ^ 32) (L : ℕ) (top : i + L ≡ N * m) (r : List ℤ) (none : r ≡ zeros L) where
  module _ (s : List ℤ) (hots : s ≡ add_terms (one_hots A N m) i r) where
    so_far : s ≡ row_of (one_hots A N m) (N * m) i
    so_far = row_hots A N m i ls lent small L top r none s hots

    pub sizes_ready : (i + length s ≡ N * m) × ((k : ℕ) → nat_abs (get_or s k (pos 0)) ≤ 2 ^ 59)
    sizes_ready = (
      row_top (N * m) (one_hots A N m) i s (omega arith) so_far,
      λ k. omega (arith, (row_room (2 ^ 59) (N * m) (one_hots A N m) [] i s so_far (omega (arith, one_hots_small A N m lent.survey.meters_high lent.high small))).room k),
    )

    module _ (t : List ℤ) (sizes : t ≡ add_terms (size_terms A N m) i s) where
      with_sizes : t ≡ row_of (one_hots A N m ++ size_terms A N m) (N * m) i
      with_sizes = row_next (N * m) (one_hots A N m) (size_terms A N m) i s t so_far sizes

      pub cuts_ready : (i + length t ≡ N * m) × Room (2 ^ 61) (cut_terms m ls) t
      cuts_ready = (
        row_top (N * m) (one_hots A N m ++ size_terms A N m) i t (omega arith) with_sizes,
        row_room _ (N * m) (one_hots A N m ++ size_terms A N m) (cut_terms m ls) i t with_sizes (omega (
          arith,
          norm_append (one_hots A N m) (size_terms A N m),
          one_hots_small A N m lent.survey.meters_high lent.high small,
          sizes_small A N m lent.survey.meters_high lent.high small,
          cuts_small N m ls lent.survey lent.high,
        )),
      )

      pub row_done : (u : List ℤ) → u ≡ add_terms (cut_terms m ls) i t → u ≡ row_of (formula A N m ls) (N * m) i
      unfolding formula
      row_done u cuts = row_next (N * m) (one_hots A N m ++ size_terms A N m) (cut_terms m ls) i t u with_sizes cuts
