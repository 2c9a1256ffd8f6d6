-- Lists of sums: a number added at one place, and sums of zeros. Loops that gather sums cite these. Assumes nothing.
use Prim.Native.Nat.{ℕ, zero, suc, ◌+◌, ◌*◌, ◌<◌}
use mathlib.Core.Path.{◌≡◌, refl, sym}
use mathlib.Core.List.{List}
use lib.ListN.{length, get_or, set, replicate}
use lib.Seq.{get_or-set_same, get_or-set_other}
use native.Mathlib.Decide.{ℕ_discrete}
use native.Mathlib.Nat.{mul-one, mul-zero, add-zero}
use Rattle.lists.specs.Sums.{same}
use Rattle.lists.proofs.Sums.{same_yes, same_no}

-- ---- w added at place i

pub added_here : (s t : List ℕ) (i w : ℕ) → t ≡ set s i (get_or s i 0 + w) → i < length s → (m : ℕ) → i ≡ m → get_or t m 0 ≡ get_or s m 0 + w
added_here s t i w e h m d = rw (← d, e) (get_or-set_same s i _ 0 h)

pub added_elsewhere : (s t : List ℕ) (i w : ℕ) → t ≡ set s i (get_or s i 0 + w) → (m : ℕ) → (i ≡ m → ⊥) → get_or t m 0 ≡ get_or s m 0
added_elsewhere s t i w e m n = rw e (get_or-set_other s i m _ 0 (λ d. n (sym d)))

-- both in one
pub added_same : (s t : List ℕ) (c w : ℕ) → t ≡ set s c (get_or s c 0 + w) → c < length s → (i : ℕ) → get_or t i 0 ≡ get_or s i 0 + w * same c i
added_same s t c w e h i =
    elim (ℕ_discrete c i) [
      | yes d ↦ rw (same_yes c i d, mul-one w) (added_here s t c w e h i d)
      | no d ↦ rw (same_no c i d, mul-zero w, add-zero) (added_elsewhere s t c w e i d)
    ]

-- ---- an array of zeros

pub zero_entries : (n m : ℕ) → ◌≡◌ {A = ℕ} (get_or (replicate n 0) m 0) 0
zero_entries zero m = refl
zero_entries (suc n) zero = refl
zero_entries (suc n) (suc m) = zero_entries n m
