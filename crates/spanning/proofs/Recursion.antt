-- The depth step by step, as the code of src/ goes up the parents. Assumes nothing.
use Prim.Native.Nat.{ℕ, zero, suc, ◌-◌, ◌≤◌, ◌<◌}
use mathlib.Core.Path.{◌≡◌, refl, sym, ap, ◌∙◌}
use mathlib.Core.List.{List}
use lib.ListN.{get_or}
use native.Mathlib.Omega.{arith}
use Rattle.std.specs.Prelude.{Option, Some, None}
use Rattle.lists.specs.Sums.{nth}
use Rattle.lists.proofs.Sums.{nth_index}
use Rattle.spanning.specs.Parents.{deeper, under, depth_of}

-- meter 0 has no parent
pub nth_none : (p : List ℕ) (v : ℕ) → v ≡ 0 → 0 ≡ nth p v
unfolding nth
nth_none p zero e = refl
nth_none p (suc k) e = absurd (let z : ⊥ = omega arith in z)

-- what is read at index k, counted from 0
pub nth_read : (p : List ℕ) (v k u : ℕ) → 1 ≤ v → k ≡ v - 1 → u ≡ get_or p k 0 → u ≡ nth p v
nth_read p v k u h e d = d ∙ ap (λ (j : ℕ). get_or p j 0) e ∙ sym (nth_index p v h)

-- ---- one step up

-- no steps left
pub depth_none : (p : List ℕ) (k v : ℕ) → k ≡ 0 → depth_of p k v ≡ None
unfolding depth_of
depth_none p zero v e = refl
depth_none p (suc k) v e = absurd (let z : ⊥ = omega arith in z)

under_some : (u : ℕ) (h : Option ℕ) → (u ≡ 0 → ⊥) → under u h ≡ deeper h
under_some zero h n = absurd (n refl)
under_some (suc u) h n = refl

-- elsewhere
pub depth_up : (p : List ℕ) (k v : ℕ) → (k ≡ 0 → ⊥) → (nth p v ≡ 0 → ⊥) → depth_of p k v ≡ deeper (depth_of p (k - 1) (nth p v))
unfolding depth_of
depth_up p zero v n m = absurd (n refl)
depth_up p (suc k) v n m = let e : k ≡ suc k - 1 = omega arith in under_some (nth p v) _ m ∙ ap (λ (j : ℕ). deeper (depth_of p j (nth p v))) e

-- ---- a depth is below the number of steps allowed

below_under : (u : ℕ) (o : Option ℕ) (k h : ℕ) → ((m : ℕ) → o ≡ Some m → m < k) → under u o ≡ Some h → h < suc k
below_under zero o k h f e = let z : h ≡ 0 = cc in omega arith
below_under (suc u) (Some m) k h f e = let z : h ≡ suc m = cc in omega (arith, f m refl)
below_under (suc u) None k h f e = absurd (let z : ◌≡◌ {A = ℕ} 0 1 = cc in let y : ⊥ = omega arith in y)

pub depth_below : (p : List ℕ) (k v h : ℕ) → depth_of p k v ≡ Some h → h < k
unfolding depth_of
depth_below p zero v h e = absurd (let z : ◌≡◌ {A = ℕ} 0 1 = cc in let y : ⊥ = omega arith in y)
depth_below p (suc k) v h e = below_under (nth p v) (depth_of p k (nth p v)) k h (λ m. depth_below p k (nth p v) m) e
