-- The size lemma, over the sizes alone: the sum of squared differences is 0 exactly where all groups are equally large. What 02's S-1 asks of sizes changes here. Assumes nothing.
use Prim.Native.Nat.{ℕ, zero, suc, pred, ◌*◌, ◌≤◌, ◌<◌}
use mathlib.Core.Path.{◌≡◌, sym, ap, ap₂, ◌∙◌}
use mathlib.Core.Logic.{◌↔◌}
use mathlib.Core.Bool.{true}
use native.Mathlib.Omega.{arith}
use native.Mathlib.Decide.{ℕ_discrete, dec_lt}
use lib.Dec.{eqb}
use borrow.Author.Tests.{eq-eqb, eqb-true}
use Rattle.lists.specs.Tests.{all, from}
use Rattle.lists.specs.Sums.{sum_to, gap}
use Rattle.lists.proofs.Tests.{all_from, from_all}
use Rattle.lists.proofs.Sums.{gap_squared_same, gap_squared_zero, sum_to_eq, sum_to_none, sum_to_const, sum_to_zero_at}
use Rattle.groups.specs.Sizes.{spread, equally_large}

-- all groups are equally large, as a fact
abbrev pub Level : ℕ → (ℕ → ℕ) → Type 0
Level m s = (g h : ℕ) → 1 ≤ g → g ≤ m → 1 ≤ h → h ≤ m → s g ≡ s h

-- ---- all pairs

pub spread_level : (m : ℕ) (s : ℕ → ℕ) → spread m s ≡ 0 ↔ Level m s
unfolding spread
spread_level m s = (there, back)
  where
    row : ℕ → ℕ
    row h = sum_to (pred h) (λ g. gap (s g) (s h) * gap (s g) (s h))

    less : sum_to m row ≡ 0 → (g h : ℕ) → 1 ≤ g → g < h → h ≤ m → s g ≡ s h
    less e g zero a b c = absurd (omega arith)
    less e g (suc h) a b c = gap_squared_zero (s g) (s (suc h)) (sum_to_zero_at h (λ g. gap (s g) (s (suc h)) * gap (s g) (s (suc h))) (sum_to_zero_at m row e (suc h) (omega arith) c) g a (omega arith))

    there : sum_to m row ≡ 0 → Level m s
    there e g h a b c d =
        elim (dec_lt g h) [
          | yes l ↦ less e g h a l d
          | no l ↦ elim (ℕ_discrete g h) [ yes q ↦ ap s q | no q ↦ sym (less e h g c (omega arith) b) ]
        ]

    back : Level m s → sum_to m row ≡ 0
    back l = sum_to_none m row (λ h a b. sum_to_none (pred h) (λ g. gap (s g) (s h) * gap (s g) (s h)) (λ g c d. gap_squared_same (s g) (s h) (l g h c (omega arith) a b)))

-- ---- the test

pub large_level : (m : ℕ) (s : ℕ → ℕ) → equally_large m s ≡ true ↔ Level m s
unfolding equally_large
large_level m s = (
  λ e g h a b c d. first e g a b ∙ sym (first e h c d),
  λ l. from_all (λ g. eqb (s g) (s 1)) 1 m (λ g a b. eq-eqb (s g) (s 1) (l g 1 a (omega arith) (omega arith) (omega arith))),
)
  where
    first : all (λ g. eqb (s g) (s 1)) (from 1 m) ≡ true → (g : ℕ) → 1 ≤ g → g ≤ m → s g ≡ s 1
    first e g a b = eqb-true (s g) (s 1) (all_from (λ g. eqb (s g) (s 1)) 1 m g e a (omega arith))

-- ---- other sizes that are the same

pub level_eq : (m : ℕ) (s t : ℕ → ℕ) → ((g : ℕ) → 1 ≤ g → g ≤ m → s g ≡ t g) → Level m s → Level m t
level_eq m s t e l g h a b c d = sym (e g a b) ∙ l g h a b c d ∙ e h c d

pub spread_eq : (m : ℕ) (s t : ℕ → ℕ) → ((g : ℕ) → 1 ≤ g → g ≤ m → s g ≡ t g) → spread m s ≡ spread m t
unfolding spread
spread_eq m s t e =
    sum_to_eq m _ _ (λ h a b. sum_to_eq (pred h) (λ g. gap (s g) (s h) * gap (s g) (s h)) (λ g. gap (t g) (t h) * gap (t g) (t h))
    (λ g c d. ap₂ (λ x y. gap x y * gap x y) (e g c (omega arith)) (e h a b)))

-- equal sizes add up to a multiple of m
pub level_sum : (m : ℕ) (s : ℕ → ℕ) → 1 ≤ m → Level m s → sum_to m s ≡ s 1 * m
level_sum m s m1 l = sum_to_const m (s 1) s (λ g a b. l g 1 a b (omega arith) m1)
