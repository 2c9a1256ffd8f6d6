-- What bit i is, by dividing: the function place_of of src/layout.rt cites these. Assumes nothing.
use Prim.Native.Nat.{ℕ, zero, suc, pred, ◌+◌, ◌-◌, ◌*◌, ◌/◌, ◌%◌, ◌≤◌, ◌<◌}
use mathlib.Core.Path.{◌≡◌}
use mathlib.Core.List.{List, Memᴰ}
use native.Mathlib.Omega.{arith}
use native.Mathlib.Nat.{mod-lt, mul-zero, div-add-mod', div-lt_iff_lt-mul}
use lib.ListN.{length}
use Rattle.links.specs.Links.{link_in}
use Rattle.links.specs.declared.Link.{Link}
use Rattle.arcs.specs.Arcs.{Arc, arcs, depths_end, arc_bit, arcs_end}
use Rattle.arcs.specs.Inner.{IsArc}
use Rattle.arcs.proofs.ArcLists.{there, back, up_among, back_among}

-- off bits behind those of depths, with D bits for each arc
module _ (N D M i : ℕ) (h : depths_end N D ≤ i) (below : i < arcs_end N D M) where
  abbrev off : ℕ
  off = i - depths_end N D

  inside : off < 2 * M * D
  inside = omega arith

  -- some depth has arcs
  pub some_depth : 1 ≤ D
  some_depth = go D inside
    where
      go : (d : ℕ) → off < 2 * M * d → 1 ≤ d
      go zero g = let z : 2 * M * 0 ≡ 0 = mul-zero (2 * M) in absurd (omega arith)
      go (suc d) g = omega arith

  -- the link of that arc
  pub link_inside : (i - depths_end N D) / D / 2 < M
  link_inside =
      let q : off / D < 2 * M = (div-lt_iff_lt-mul some_depth).1 inside in
      omega (arith, div-add-mod' (off / D) 2)

  -- the depth of that bit
  pub depth_inside : (i - depths_end N D) % D < D
  depth_inside = mod-lt off some_depth

  arc_here : (a : Arc) → a.number ≡ off / D → arc_bit N D a (off % D + 1) ≡ i
  arc_here a e =
      let p : pred (off % D + 1) ≡ off % D = omega arith in
      rw (e, p) (omega (arith, div-add-mod' off D))

module _ (N D : ℕ) (ls : List Link) (i : ℕ) (h : depths_end N D ≤ i) (below : i < arcs_end N D (length ls)) where
  abbrev arc_at_bit : ℕ
  arc_at_bit = (i - depths_end N D) / D

  placed : (a : Arc) → a.number ≡ arc_at_bit → Memᴰ a (arcs ls) → IsArc N D ls i a ((i - depths_end N D) % D + 1)
  placed a e m = record { among = m; low = omega arith; deep = omega (arith, depth_inside N D (length ls) i h below); here = arc_here N D (length ls) i h below a e }

  pub is_there : (i - depths_end N D) / D % 2 ≡ 0 → IsArc N D ls i (there ((i - depths_end N D) / D) (link_in ls ((i - depths_end N D) / D / 2))) ((i - depths_end N D) % D + 1)
  is_there e = placed _ (omega arith) (up_among ls (arc_at_bit / 2) arc_at_bit (link_inside N D (length ls) i h below) (omega (arith, div-add-mod' arc_at_bit 2)))

  pub is_back : ((i - depths_end N D) / D % 2 ≡ 0 → ⊥) → IsArc N D ls i (back ((i - depths_end N D) / D) (link_in ls ((i - depths_end N D) / D / 2))) ((i - depths_end N D) % D + 1)
  is_back e =
      let t : 1 ≤ 2 = omega arith in
      let m = mod-lt arc_at_bit t in
      placed _ (omega arith) (back_among ls (arc_at_bit / 2) arc_at_bit (link_inside N D (length ls) i h below) (omega (arith, div-add-mod' arc_at_bit 2)))
