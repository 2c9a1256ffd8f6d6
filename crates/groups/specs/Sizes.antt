-- The sizes of groups 1..m, where s g is the size of group g. What 02's S-1 asks of sizes changes here. Assumes nothing.
use Rattle.std.specs.Prelude.{ℕ, pred, ◌*◌, Bool, eqb}
use Rattle.lists.specs.Tests.{all, from}
use Rattle.lists.specs.Sums.{sum_to, gap}

-- "the sum over pairs of groups of (size difference)²": each group h with those before it
unfoldable pub spread : ℕ → (ℕ → ℕ) → ℕ
spread m s = sum_to m (λ h. sum_to (pred h) (λ g. gap (s g) (s h) * gap (s g) (s h)))

-- "all groups equally large": each as large as the first
unfoldable pub equally_large : ℕ → (ℕ → ℕ) → Bool
equally_large m s = all (λ g. eqb (s g) (s 1)) (from 1 m)
