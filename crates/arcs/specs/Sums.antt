-- The sums of depths and arcs in the energy of trees as whole numbers from 0, where dep v i is the bit of meter v at depth i and arc a i that of arc a at depth i. Assumes nothing.
use Rattle.std.specs.Prelude.{ℕ, suc, pred, ◌+◌, ◌-◌, ◌*◌, List}
use Rattle.lists.specs.Sums.{sum_to, sum_of, same, gap}
use Rattle.onehot.specs.Choices.{miss_squared, misses}
use Rattle.arcs.specs.Arcs.{Arc}

-- "(1 - number of depth-0 bits)²"
unfoldable pub root_miss : ℕ → (ℕ → ℕ → ℕ) → ℕ
root_miss N dep = miss_squared (sum_to N (λ v. dep v 0))

-- "per meter (1 - its depth bits)²"
unfoldable pub depth_misses : ℕ → ℕ → (ℕ → ℕ → ℕ) → ℕ
depth_misses N D dep = misses N (suc D) (λ v i. dep v (pred i))

-- "depth-i arcs into" meter v
unfoldable pub entries_of : List Arc → (Arc → ℕ → ℕ) → ℕ → ℕ → ℕ
entries_of ks arc v i = sum_of ks (λ a. same a.child v * arc a i)

-- "per meter and depth i ≥ 1 (its depth-i bit - depth-i arcs into it)²"
unfoldable pub entry_gaps : ℕ → ℕ → List Arc → (ℕ → ℕ → ℕ) → (Arc → ℕ → ℕ) → ℕ
entry_gaps N D ks dep arc = sum_to N (λ v. sum_to D (λ i. gap (dep v i) (entries_of ks arc v i) * gap (dep v i) (entries_of ks arc v i)))

-- "per arc from u to v at depth i, its bit times (2 - [u at i-1] - [v at i])"
unfoldable pub end_misses : ℕ → List Arc → (ℕ → ℕ → ℕ) → (Arc → ℕ → ℕ) → ℕ
end_misses D ks dep arc = sum_of ks (λ a. sum_to D (λ i. arc a i * (2 - (dep a.parent (pred i) + dep a.child i))))

-- "the weight of every arc bit set"
unfoldable pub arc_cost : ℕ → List Arc → (Arc → ℕ → ℕ) → ℕ
arc_cost D ks arc = sum_of ks (λ a. a.weight * sum_to D (arc a))
