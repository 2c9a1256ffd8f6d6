-- The parts of n bits that `chunks_exact` gives are those of the meters, one after another. Assumes nothing.
use Prim.Native.Nat.{ℕ, ◌+◌, ◌-◌, ◌*◌, ◌≤◌, ◌<◌}
use mathlib.Core.Path.{◌≡◌, refl, sym, ap, ◌∙◌}
use mathlib.Core.List.{List, ◌++◌}
use lib.ListN.{length, take, drop, length-drop, length-append}
use lib.Seq.{drop-drop, take-append_seam, drop-append_seam}
use native.Mathlib.Omega.{arith}
use native.Mathlib.Nat.{mul-le-mul_right}
use Rattle.std.proofs.Common.{inl, inr}
use Rattle.std.proofs.lemmas.Bool.{cases_lt}
use Rattle.onehot.proofs.Parts.{part_of}

-- the parts of k meters have come
pub record ChunksTo (n N : ℕ) (x : List ℕ) (k : ℕ) (rest : List ℕ) (size : ℕ) : Type 0 where
  pub each : size ≡ n
  pub left : rest ≡ drop (k * n) x
  pub so_far : k ≤ N

module _ (n N : ℕ) (x : List ℕ) (low : 1 ≤ n) (whole : length x ≡ N * n) (k : ℕ) (rest : List ℕ) (size : ℕ) (g : ChunksTo n N x k rest size) where
  left_length : length rest ≡ N * n - k * n
  left_length = rw (g.left, length-drop, whole) refl

  more : (k + 1) * n ≡ k * n + n
  more = omega arith

  -- no whole part is left only at the end, and one is left before it
  below : size ≤ length rest → k < N
  below h = elim (cases_lt k N) [ inl d ↦ d | inr d ↦ absurd (omega (arith, mul-le-mul_right n d, left_length, g.each, h, low)) ]

  pub chunk_end : length rest < size → k ≡ N
  chunk_end h = elim (cases_lt k N) [
    | inl d ↦ absurd (omega (arith, mul-le-mul_right n (next d), more, left_length, g.each, h))
    | inr d ↦ omega (arith, d, g.so_far)
  ]
    where
      next : k < N → k + 1 ≤ N
      next d = omega arith

  pub chunk_turn : (part after : List ℕ) → rest ≡ part ++ after → length part ≡ size → (part ≡ part_of n k x) × (k < N) × ChunksTo n N x (k + 1) after size
  chunk_turn part after e l = (
    sym (take-append_seam part after) ∙ ap (λ r. take (length part) r) (sym e ∙ g.left) ∙ ap (λ c. take c (drop (k * n) x)) count,
    under,
    record {
      each = g.each;
      left = sym (drop-append_seam part after) ∙ ap (λ r. drop (length part) r) (sym e ∙ g.left) ∙ drop-drop (length part) (k * n) x ∙ ap (λ c. drop c x) (omega (arith, l, g.each, more));
      so_far = omega (arith, under);
    },
  )
    where
      count : length part ≡ k * n + n - k * n
      count = omega (arith, l, g.each)

      under : k < N
      under = below (rw e (omega (arith, l, length-append part after)))
