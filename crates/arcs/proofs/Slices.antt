-- Parts of the bits, from bit s up to bit e, and where the bits of depths and arcs begin and end. Assumes nothing.
use Prim.Native.Nat.{ℕ, zero, suc, pred, ◌+◌, ◌-◌, ◌*◌, ◌≤◌, ◌<◌}
use mathlib.Core.Path.{◌≡◌, refl, sym, ap, ◌∙◌}
use mathlib.Core.List.{List, ◌++◌}
use lib.ListN.{length, get_or, take, drop, length-take, length-drop, get_or-append, get_or-eq_default}
use lib.Seq.{get_or-take, get_or-drop, get_or-append-add, length-take-le}
use native.Mathlib.Omega.{arith}
use native.Mathlib.Decide.{dec_lt}
use native.Mathlib.Nat.{mul-le-mul}
use borrow.Rule.Slice.PartMut.{put_mid, same_len_mid, take_put, drop_put}
use Rattle.lists.specs.Sums.{sum_to, nth}
use Rattle.lists.proofs.Sums.{sum_to_eq, sum_to_bits, nth_suc}
use Rattle.qubo.specs.Formula.{Bits}
use Rattle.onehot.proofs.Parts.{one_less, part_within}
use Rattle.arcs.specs.Arcs.{depth_bit, depths_end, arcs_end}

-- ---- a part of n numbers

abbrev pub slice : List ℕ → ℕ → ℕ → List ℕ
slice x s e = take (e - s) (drop s x)

module _ (x : List ℕ) (s e n : ℕ) (is : e ≡ s + n) (fits : e ≤ length x) where
  pub slice_length : length (slice x s e) ≡ n
  slice_length = rw (length-take, length-drop) (omega arith)

  pub slice_at : (j : ℕ) → j < n → get_or (slice x s e) j 0 ≡ get_or x (s + j) 0
  slice_at j h = rw (get_or-take (e - s) (drop s x) j 0 (omega arith), get_or-drop) refl

  -- counted from 1
  pub slice_nth : (i : ℕ) → 1 ≤ i → i ≤ n → nth (slice x s e) i ≡ get_or x (s + pred i) 0
  slice_nth zero a b = absurd (omega arith)
  slice_nth (suc j) a b = nth_suc (slice x s e) j ∙ slice_at j b

  -- added up
  pub slice_sum : sum_to (length (slice x s e)) (nth (slice x s e)) ≡ sum_to n (λ i. get_or x (s + pred i) 0)
  slice_sum = ap (λ (k : ℕ). sum_to k (nth (slice x s e))) slice_length ∙ sum_to_eq n (nth (slice x s e)) (λ i. get_or x (s + pred i) 0) slice_nth

  pub slice_bits : Bits x → Bits (slice x s e)
  slice_bits b j =
      elim (dec_lt j n) [
        | yes h ↦ rw (slice_at j h) (b (s + j))
        | no h ↦ omega (arith, get_or-eq_default (slice x s e) 0 (let l : length (slice x s e) ≤ j = omega (arith, slice_length) in l))
      ]

  -- as `set_count` of onehot asks for it
  pub slice_short : n < 256 → Bits x → Bits (slice x s e) × (length (slice x s e) < 256)
  slice_short h b = (slice_bits b, rw slice_length h)

  -- as many at most as there are
  pub slice_few : Bits x → (r : ℕ) → r ≡ sum_to (length (slice x s e)) (nth (slice x s e)) → r ≤ n
  slice_few b r h = omega (arith, h, slice_sum, sum_to_bits n (λ i. get_or x (s + pred i) 0) (λ i. b (s + pred i)))

-- ---- a part put back, altered

module _ (s : List ℕ) (a e n : ℕ) (is : e ≡ a + n) (fits : e ≤ length s) (y : List ℕ) (size : length y ≡ n) where
  pub put_length : length (put_mid a (e - a) s y) ≡ length s
  put_length = same_len_mid a (e - a) s y (size ∙ sym (slice_length s a e n is fits))

  pub put_before : (i : ℕ) → i < a → get_or (put_mid a (e - a) s y) i 0 ≡ get_or s i 0
  put_before i h = sym (get_or-take a (put_mid a (e - a) s y) i 0 h) ∙ ap (λ l. get_or l i 0) (take_put a (e - a) s y (omega arith)) ∙ get_or-take a s i 0 h

  pub put_inside : (j : ℕ) → j < n → get_or (put_mid a (e - a) s y) (a + j) 0 ≡ get_or y j 0
  put_inside j h =
      ap (λ (k : ℕ). get_or (put_mid a (e - a) s y) (k + j) 0) (sym (length-take-le a s (omega arith)))
      ∙ get_or-append-add (take a s) (y ++ drop (e - a) (drop a s)) j 0
      ∙ get_or-append y (drop (e - a) (drop a s)) 0 j (omega arith)

  pub put_after : (i : ℕ) → e ≤ i → get_or (put_mid a (e - a) s y) i 0 ≡ get_or s i 0
  put_after i h =
      let d : i ≡ e + (i - e) = omega arith in
      ap (λ (k : ℕ). get_or (put_mid a (e - a) s y) k 0) d
      ∙ sym (get_or-drop e (put_mid a (e - a) s y) (i - e) 0)
      ∙ ap (λ l. get_or l (i - e) 0) (drop_put a e s y (omega arith) fits (omega arith))
      ∙ get_or-drop e s (i - e) 0
      ∙ ap (λ (k : ℕ). get_or s k 0) (sym d)

-- ---- where bits begin and end

-- as the code reckons
pub start_is : (D v : ℕ) → 1 ≤ v → (v - 1) * suc D ≡ depth_bit D v 0
start_is D zero h = absurd (omega arith)
start_is D (suc k) h = rw (one_less k) (omega arith)

-- 48 meters at depths to 24 have at most 1,200 bits
pub depths_few : (N D : ℕ) → N ≤ 48 → D ≤ 24 → depths_end N D ≤ 1200
depths_few N D a b = mul-le-mul {n₁ = N} {m₁ = suc D} {n₂ = 48} {m₂ = 25} a (omega arith)

-- with those of up to 512 arcs at most 13,488
pub arc_small : (N D k : ℕ) → N ≤ 48 → D ≤ 24 → k ≤ 512 → depths_end N D + k * D ≤ 13488
arc_small N D k a b c = omega (arith, depths_few N D a b, mul-le-mul {n₁ = k} {m₁ = D} {n₂ = 512} {m₂ = 24} c b)

-- 512 are the arcs of 256 links
pub ends_few : (N D M : ℕ) → N ≤ 48 → D ≤ 24 → M ≤ 256 → arcs_end N D M ≤ 13488
ends_few N D M n d m = arc_small N D (2 * M) n d (omega arith)

-- a meter's bits end within those of all
pub meter_within : (D v N : ℕ) → 1 ≤ v → v ≤ N → depth_bit D v 0 + suc D ≤ N * suc D
meter_within D zero N h k = absurd (omega arith)
meter_within D (suc m) N h k = omega (arith, part_within (suc D) m N k)

-- so do the bits of arc k, and of link k's two arcs
pub arc_within : (N D M k : ℕ) → k < 2 * M → N * suc D + k * D + D ≤ arcs_end N D M
arc_within N D M k h = omega (arith, part_within D k (2 * M) h)

pub link_within : (N D M k : ℕ) → k < M → N * suc D + 2 * k * D + 2 * D ≤ arcs_end N D M
link_within N D M k h = omega (arith, part_within D (2 * k + 1) (2 * M) (omega arith))
