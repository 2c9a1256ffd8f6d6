use lib.IntN.{pos}
use native.Mathlib.Omega.{arith}
use mir.Facts.{to_z-of_z}
use Rattle.arcs.proofs.ArcWalk.{walk_on, row_walk}
use Rattle.arcs.proofs.Signed.{opposite_is, plain}
use Rattle.arcs.proofs.RowRoom.{held_abs, depth_room, arcs_room}
use Rattle.arcs.proofs.BitsApart.{depth_below}
use Rattle.arcs.proofs.EntryRows.{entry_done}
use Rattle.arcs.proofs.layout.Arcs.add_entry.Goals as goal

pub add_pair-requires : goal.add_pair-requires
add_pair-requires c =
    let a = plain c.args.penalty (omega (arith, c.requires.0.penalty)) in
    let q = to_z-of_z c.ranges.factor in
    let first = rw (a, opposite_is (pos c.args.penalty) (omega (arith, c.requires.0.penalty))) at c.add_single.ensures in (
      omega (arith, c.requires.0.own, c.add_single.auto),
      rw c.depth_bit-own.ensures.0 (omega (arith, c.requires.0.inside, c.add_single.auto, depth_below _ _ _ _ c.requires.1 c.requires.2 c.requires.4)),
      rw (q, c.depth_bit-own.ensures.0) (depth_room _ _ _ _ _ _ _ _ _ c.requires.0 c.args.self.now.few c.requires.5 _ first),
    )

pub add_arcs-requires : goal.add_arcs-requires
add_arcs-requires c =
    let a = plain c.args.penalty (omega (arith, c.requires.0.penalty)) in
    let q = to_z-of_z c.ranges.factor in
    let small = held_abs _ _ _ _ _ _ _ _ c.requires.5 in
    let first = rw (a, opposite_is (pos c.args.penalty) (omega (arith, c.requires.0.penalty))) at c.add_single.ensures in
    let second = rw (q, c.depth_bit-own.ensures.0) at c.add_pair.ensures in (
      walk_on _ _ _ _ _ _ (omega (arith, c.add_single.auto, c.add_pair.auto)) (row_walk _ _ _ _ _ _ _ c.requires.0),
      c.requires.3,
      c.requires.4,
      rw (q, opposite_is c.args.factor (omega (arith, c.requires.0.penalty))) (arcs_room _ _ _ _ _ _ _ _ _ c.requires.0 c.args.self.now.few c.requires.5 _ first _ second),
      c.requires.6,
    )

pub returns : goal.returns
returns c =
    let a = plain c.args.penalty (omega (arith, c.requires.0.penalty)) in
    let q = to_z-of_z c.ranges.factor in
    let small = held_abs _ _ _ _ _ _ _ _ c.requires.5 in
    let first = rw (a, opposite_is (pos c.args.penalty) (omega (arith, c.requires.0.penalty))) at c.add_single.ensures in
    let second = rw (q, c.depth_bit-own.ensures.0) at c.add_pair.ensures in
    let third = rw (q, opposite_is c.args.factor (omega (arith, c.requires.0.penalty))) at c.add_arcs.ensures in
    entry_done _ _ _ _ _ _ _ _ c.requires.5 _ _ _ _ first second third
