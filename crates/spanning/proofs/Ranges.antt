-- A search among the numbers up to k. Assumes nothing.
use Prim.Native.Nat.{ℕ, zero, suc, ◌≤◌}
use mathlib.Core.Path.{◌≡◌, subst}
use mathlib.Core.Logic.{◌⊎◌, inl, inr}
use native.Mathlib.Omega.{arith}
use native.Mathlib.Decide.{dec_le}

-- what can be decided holds of all numbers up to k, or fails for one of them
pub all_or_not : (P : ℕ → Type 0) → ((v : ℕ) → Dec (P v)) → (k : ℕ) → ((v : ℕ) → v ≤ k → P v) ⊎ ((v : ℕ) × (v ≤ k) × (P v → ⊥))
all_or_not P d zero = pick (d 0)
  where
    pick : Dec (P 0) → ((v : ℕ) → v ≤ 0 → P v) ⊎ ((v : ℕ) × (v ≤ 0) × (P v → ⊥))
    pick (yes y) = inl (λ v h. let e : 0 ≡ v = omega arith in subst P e y)
    pick (no n) = inr (0, omega arith, n)
all_or_not P d (suc k) = pick (all_or_not P d k) (d (suc k))
  where
    last : ((v : ℕ) → v ≤ k → P v) → P (suc k) → (v : ℕ) → v ≤ suc k → Dec (v ≤ k) → P v
    last a y v h (yes l) = a v l
    last a y v h (no l) = let e : suc k ≡ v = omega arith in subst P e y

    pick : ((v : ℕ) → v ≤ k → P v) ⊎ ((v : ℕ) × (v ≤ k) × (P v → ⊥)) → Dec (P (suc k)) → ((v : ℕ) → v ≤ suc k → P v) ⊎ ((v : ℕ) × (v ≤ suc k) × (P v → ⊥))
    pick (inr t) q = inr (t.0, omega (arith, t.1), t.2)
    pick (inl a) (no n) = inr (suc k, omega arith, n)
    pick (inl a) (yes y) = inl (λ v h. last a y v h (dec_le v k))
