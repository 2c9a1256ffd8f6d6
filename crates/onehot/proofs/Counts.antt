-- Laws that the proof of count_choices cites: how many of the first v bytes of a plan are g. Assumes nothing.
use Prim.Native.Nat.{ℕ, suc, ◌+◌, ◌≤◌, ◌<◌}
use mathlib.Core.Path.{◌≡◌, refl, sym, ◌∙◌}
use mathlib.Core.List.{List}
use lib.ListN.{length, get_or, set, length-set}
use native.Mathlib.Omega.{arith}
use Rattle.lists.specs.Sums.{sum_to, same, nth}
use Rattle.lists.proofs.Sums.{same_le, sum_to_zero, sum_to_next, sum_to_bits, nth_suc}
use Rattle.lists.proofs.Stores.{added_same}

-- in place g stands how many of them are g
pub record CountsTo (plan : List ℕ) (v : ℕ) (counts : List ℕ) : Type 0 where
  pub size : length counts ≡ 256
  pub so_far : (g : ℕ) → get_or counts g 0 ≡ sum_to v (λ u. same (nth plan u) g)

-- no choice has more meters than there are
pub count_le : (v : ℕ) (plan : List ℕ) (g : ℕ) → sum_to v (λ u. same (nth plan u) g) ≤ v
count_le v plan g = sum_to_bits v (λ u. same (nth plan u) g) (λ u. same_le (nth plan u) g)

-- at first none is counted
pub counts_start : (plan counts : List ℕ) → length counts ≡ 256 → ((g : ℕ) → get_or counts g 0 ≡ 0) → CountsTo plan 0 counts
counts_start plan counts e z = record { size = e; so_far = λ g. z g ∙ sym (sum_to_zero _) }

-- no place holds more than were counted
pub counts_low : (plan : List ℕ) (v : ℕ) (counts : List ℕ) → CountsTo plan v counts → (g : ℕ) → get_or counts g 0 ≤ v
counts_low plan v counts i g = omega (arith, i.so_far g, count_le v plan g)

-- byte v, counted from 0, is one more of its choice
pub counts_turn : (plan : List ℕ) (v : ℕ) (s t : List ℕ) → CountsTo plan v s → get_or plan v 0 < 256 → t ≡ set s (get_or plan v 0) (get_or s (get_or plan v 0) 0 + 1) → CountsTo plan (v + 1) t
counts_turn plan v s t i h e = record {
  size = rw (e, length-set) i.size;
  so_far = λ g. omega (arith, added_same s t (get_or plan v 0) 1 e (omega (arith, i.size)) g, i.so_far g, sum_to_next v (λ u. same (nth plan u) g), own g);
}
  where
    own : (g : ℕ) → same (nth plan (suc v)) g ≡ same (get_or plan v 0) g
    own g = rw (nth_suc plan v) refl

-- in the end all are counted
pub counts_end : (plan : List ℕ) (v : ℕ) (counts : List ℕ) → CountsTo plan v counts → v ≡ length plan → (g : ℕ) → get_or counts g 0 ≡ sum_to (length plan) (λ u. same (nth plan u) g)
counts_end plan v counts i e = rw e at i.so_far
