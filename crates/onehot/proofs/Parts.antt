-- A meter's part of the bits: the n bits from (v - 1) · n on, handled by themselves. Loops over meters cite these. Assumes nothing.
use Prim.Native.Nat.{ℕ, zero, suc, ◌+◌, ◌-◌, ◌*◌, ◌≤◌, ◌<◌}
use mathlib.Core.Path.{◌≡◌, refl, sym}
use mathlib.Core.List.{List, [], ◌∷◌}
use lib.ListN.{length, get_or, take, drop, length-take, length-drop}
use lib.Seq.{get_or-take, get_or-drop}
use native.Mathlib.Omega.{arith}
use native.Mathlib.Nat.{mul-le-mul_right, suc-mul}
use Rattle.lists.specs.Sums.{sum_to, lowest, nth}
use Rattle.lists.proofs.Sums.{sum_to_eq, sum_to_bits, lowest_eq, nth_suc}
use Rattle.qubo.specs.Formula.{Bits}
use Rattle.onehot.specs.Choices.{bit_at, set_at}

-- ---- indices from 0

pub one_less : (k : ℕ) → suc k - 1 ≡ k
one_less k = omega arith

pub bit_index : (n : ℕ) (x : List ℕ) (m i : ℕ) → 1 ≤ m → 1 ≤ i → bit_at n x m i ≡ get_or x ((m - 1) * n + (i - 1)) 0
unfolding bit_at
bit_index n x zero i a b = absurd (omega arith)
bit_index n x (suc k) zero a b = absurd (omega arith)
bit_index n x (suc k) (suc j) a b = rw (one_less k, one_less j) refl

-- a meter's bits are before the next meter's
pub part_end : (n m : ℕ) → 1 ≤ m → (m - 1) * n + n ≡ m * n
part_end n zero h = absurd (omega arith)
part_end n (suc k) h = rw (one_less k) (sym (suc-mul k n))

pub bit_inside : (n m i : ℕ) → 1 ≤ m → 1 ≤ i → i ≤ n → (m - 1) * n + (i - 1) < m * n
bit_inside n m i a b c = omega (arith, part_end n m a)

-- the part of meter v + 1 ends within the bits
pub part_within : (n v N : ℕ) → v < N → v * n + n ≤ N * n
part_within n v N h = rw (← suc-mul v n) (mul-le-mul_right n h)

-- ---- what a part holds

-- bits
pub small_take : (n : ℕ) (l : List ℕ) → Bits l → Bits (take n l)
small_take zero l h k = omega arith
small_take (suc n) [] h k = omega arith
small_take (suc n) (a ∷ l) h zero = h zero
small_take (suc n) (a ∷ l) h (suc k) = small_take n l (λ j. h (suc j)) k

module _ (n N m : ℕ) (x part : List ℕ) (is : part ≡ take n (drop ((m - 1) * n) x)) (m1 : 1 ≤ m) (mN : m ≤ N) (fits : N * n ≤ length x) where
  pub part_length : length part ≡ n
  part_length = rw (is, length-take, length-drop) (omega (arith, part_end n m m1, mul-le-mul_right n mN))

  pub part_small : Bits x → Bits part
  part_small h = rw is (small_take n (drop ((m - 1) * n) x) (λ k. rw get_or-drop (h ((m - 1) * n + k))))

  -- as `set_count` asks for it
  pub part_short : n < 256 → Bits x → Bits part × (length part < 256)
  part_short h b = (part_small b, rw part_length h)

  pub part_at : (i : ℕ) → 1 ≤ i → i ≤ n → nth part i ≡ bit_at n x m i
  part_at zero a b = absurd (omega arith)
  part_at (suc j) a b = rw (nth_suc part j, is, get_or-take n (drop ((m - 1) * n) x) j 0 b, get_or-drop, bit_index n x m (suc j) m1 a, one_less j) refl

  -- the bits set in it
  pub part_count : sum_to (length part) (nth part) ≡ set_at n (bit_at n x) m
  unfolding set_at
  part_count = rw part_length (sum_to_eq n (nth part) (bit_at n x m) part_at)

  -- the lowest of them
  pub part_lowest : lowest (length part) (nth part) ≡ lowest n (bit_at n x m)
  part_lowest = rw part_length (lowest_eq n (nth part) (bit_at n x m) part_at)

-- ---- the part as a loop over v from 0 cuts it out

-- that of meter v + 1
abbrev pub part_of : ℕ → ℕ → List ℕ → List ℕ
part_of n v x = take (v * n + n - v * n) (drop (v * n) x)

pub part_is : (n v : ℕ) (x : List ℕ) → part_of n v x ≡ take n (drop ((v + 1 - 1) * n) x)
part_is n v x = rw (a, b) refl
  where
    a : v * n + n - v * n ≡ n
    a = omega arith

    b : v + 1 - 1 ≡ v
    b = omega arith

module _ (n N v : ℕ) (x : List ℕ) (below : v < N) (fits : N * n ≤ length x) where
  pub cut_small : Bits x → Bits (part_of n v x)
  cut_small = part_small n N (v + 1) x (part_of n v x) (part_is n v x) (omega arith) (omega arith) fits

  pub cut_short : n < 256 → Bits x → Bits (part_of n v x) × (length (part_of n v x) < 256)
  cut_short = part_short n N (v + 1) x (part_of n v x) (part_is n v x) (omega arith) (omega arith) fits

  pub cut_count : sum_to (length (part_of n v x)) (nth (part_of n v x)) ≡ set_at n (bit_at n x) (v + 1)
  cut_count = part_count n N (v + 1) x (part_of n v x) (part_is n v x) (omega arith) (omega arith) fits

  pub cut_lowest : lowest (length (part_of n v x)) (nth (part_of n v x)) ≡ lowest n (bit_at n x (v + 1))
  cut_lowest = part_lowest n N (v + 1) x (part_of n v x) (part_is n v x) (omega arith) (omega arith) fits

-- at most n bits are set at a meter
pub set_at_le : (n : ℕ) (x : List ℕ) (m : ℕ) → Bits x → set_at n (bit_at n x) m ≤ n
unfolding set_at bit_at
set_at_le n x m h = sum_to_bits n (bit_at n x m) (λ i. h _)
