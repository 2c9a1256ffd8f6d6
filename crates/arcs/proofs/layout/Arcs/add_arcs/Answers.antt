use Rattle.std.proofs.Common.{◌+◌, ◌*◌, ◌<◌, length, arith}
use native.Mathlib.Nat.{add-zero, add_assoc}
use mir.Facts.{to_z-of_z}
use Rattle.lists.proofs.Rest.{rest_length, rest_at}
use Rattle.links.specs.Links.{nothing}
use Rattle.arcs.proofs.ArcWalk.{pairs_start, pairs_all, there_room, back_room, pairs_turn, bit_inside}
use Rattle.arcs.proofs.layout.Arcs.add_arcs.Goals as goal

pub loop-k-init : goal.loop-k-init
loop-k-init c = rw (to_z-of_z c.ranges.factor, add-zero c.args.from) (pairs_start _ _ _ _ _ _ _ _ _ c.requires.1 c.requires.2 _ c.requires.4.0 c.requires.4.1 c.requires.3)

pub add_arc-requires : goal.add_arc-requires
add_arc-requires c =
    let l = c.loop-k in
    let ls = c.args.self.now.links.now in
    let inside : c.args.from + l.k < length ls = omega (arith, c.loop-k-test.true, rest_length ls c.args.from c.requires.4.0) in (
      omega (arith, l.invariant.size, c.requires.0.own),
      omega (arith, c.args.self.now.few, inside),
      c.requires.1,
      c.requires.2,
      omega (arith, l.invariant.size, bit_inside _ _ _ _ _ c.requires.0 _ (2 * (c.args.from + l.k)) c.requires.1 c.requires.2 (omega (arith, inside))),
      rw (c.both_ends-there.ensures, rest_at ls c.args.from c.requires.4.0 nothing l.k c.loop-k-test.true) (there_room _ _ _ _ _ _ _ _ _ _ _ l.invariant inside),
    )

pub add_arc-requires-in-loop-k : goal.add_arc-requires-in-loop-k
add_arc-requires-in-loop-k c =
    let l = c.loop-k in
    let ls = c.args.self.now.links.now in
    let inside : c.args.from + l.k < length ls = omega (arith, c.loop-k-test.true, rest_length ls c.args.from c.requires.4.0) in
    let first = rw (c.both_ends-there.ensures, rest_at ls c.args.from c.requires.4.0 nothing l.k c.loop-k-test.true) at c.add_arc.ensures in (
      omega (arith, l.invariant.size, c.requires.0.own, c.add_arc.auto),
      omega (arith, c.args.self.now.few, inside),
      c.requires.1,
      c.requires.2,
      omega (arith, l.invariant.size, c.add_arc.auto, bit_inside _ _ _ _ _ c.requires.0 _ (2 * (c.args.from + l.k) + 1) c.requires.1 c.requires.2 (omega (arith, inside))),
      rw (c.both_ends-there.ensures, rest_at ls c.args.from c.requires.4.0 nothing l.k c.loop-k-test.true) (back_room _ _ _ _ _ _ _ _ _ _ _ l.invariant inside _ first),
    )

pub loop-k-preserved : goal.loop-k-preserved
loop-k-preserved c =
    let l = c.loop-k in
    let ls = c.args.self.now.links.now in
    let inside : c.args.from + l.k < length ls = omega (arith, c.loop-k-test.true, rest_length ls c.args.from c.requires.4.0) in
    let first = rw (c.both_ends-there.ensures, rest_at ls c.args.from c.requires.4.0 nothing l.k c.loop-k-test.true) at c.add_arc.ensures in
    let second = rw (c.both_ends-there.ensures, rest_at ls c.args.from c.requires.4.0 nothing l.k c.loop-k-test.true) at c.add_arc-in-loop-k.ensures in
    rw (← add_assoc c.args.from l.k 1) (pairs_turn _ _ _ _ _ _ _ _ _ _ _ l.invariant inside _ first _ second)

pub returns : goal.returns
returns c =
    let ls = c.args.self.now.links.now in
    rw (to_z-of_z c.ranges.factor) at (pairs_all _ _ _ _ _ _ _ _ _ _ _ c.loop-k.invariant (omega (arith, c.loop-k-test.false, rest_length ls c.args.from c.requires.4.0)))
