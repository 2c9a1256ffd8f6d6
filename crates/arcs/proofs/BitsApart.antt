-- The bits of depths and of arcs: those of depths are below those of arcs, and each is the bit of one meter or arc at one depth. Assumes nothing.
use Prim.Native.Nat.{ℕ, zero, suc, pred, ◌+◌, ◌*◌, ◌≤◌, ◌<◌}
use mathlib.Core.Path.{◌≡◌, sym, ◌∙◌}
use native.Mathlib.Omega.{arith}
use native.Mathlib.Nat.{mul-le-mul_right, suc-mul}
use Rattle.onehot.proofs.Rows.{bit_meter, bit_choice}
use Rattle.arcs.specs.Arcs.{Arc, depth_bit, arc_bit, arcs_end}

-- ---- depths

-- a meter's depth bit is one of the first N (D + 1)
pub depth_below : (N D v t : ℕ) → 1 ≤ v → v ≤ N → t ≤ D → depth_bit D v t < N * suc D
depth_below N D zero t a b h = absurd (omega arith)
depth_below N D (suc v) t a b h = omega (arith, mul-le-mul_right (suc D) b, suc-mul v (suc D))

-- it tells the meter
pub depth_meter : (D u v s t : ℕ) → 1 ≤ u → 1 ≤ v → s ≤ D → t ≤ D → depth_bit D u s ≡ depth_bit D v t → u ≡ v
depth_meter D u v s t a b h g e =
    bit_meter (suc D) u (suc s) (depth_bit D v t) a (omega arith) (omega arith) e
    ∙ sym (bit_meter (suc D) v (suc t) (depth_bit D v t) b (omega arith) (omega arith) (let r : depth_bit D v t ≡ depth_bit D v t = omega arith in r))

-- and the depth
pub depth_depth : (D u v s t : ℕ) → s ≤ D → t ≤ D → depth_bit D u s ≡ depth_bit D v t → s ≡ t
depth_depth D u v s t h g e =
    let a = bit_choice (suc D) u (suc s) (depth_bit D v t) (omega arith) (omega arith) e in
    let b = bit_choice (suc D) v (suc t) (depth_bit D v t) (omega arith) (omega arith) (let r : depth_bit D v t ≡ depth_bit D v t = omega arith in r) in
    omega arith

-- ---- arcs

-- an arc's bit is behind those of depths
pub arc_above : (N D : ℕ) (a : Arc) (t : ℕ) → N * suc D ≤ arc_bit N D a t
arc_above N D a t = omega arith

-- and, of 2 M arcs, before the end
pub arc_below : (N D M : ℕ) (a : Arc) (t : ℕ) → a.number < 2 * M → 1 ≤ t → t ≤ D → arc_bit N D a t < arcs_end N D M
arc_below N D M a zero l h g = absurd (omega arith)
arc_below N D M a (suc t) l h g = omega (arith, mul-le-mul_right D l, suc-mul a.number D)

module _ (N D : ℕ) (a b : Arc) (s t : ℕ) (h : 1 ≤ s) (g : s ≤ D) (k : 1 ≤ t) (l : t ≤ D) (e : arc_bit N D a s ≡ arc_bit N D b t) where
  off : a.number * D + pred s ≡ b.number * D + pred t
  off = omega arith

  -- it tells the arc's number
  pub arc_number : a.number ≡ b.number
  arc_number =
      let p = bit_meter D (suc a.number) s (b.number * D + pred t) (omega arith) h g off in
      let q = bit_meter D (suc b.number) t (b.number * D + pred t) (omega arith) k l (let r : b.number * D + pred t ≡ b.number * D + pred t = omega arith in r) in
      omega arith

  -- and the depth
  pub same_depth : s ≡ t
  same_depth =
      bit_choice D (suc a.number) s (b.number * D + pred t) h g off
      ∙ sym (bit_choice D (suc b.number) t (b.number * D + pred t) k l (let r : b.number * D + pred t ≡ b.number * D + pred t = omega arith in r))
