use Prim.Native.Nat.{◌*◌}
use lib.IntN.{pos}
use native.Mathlib.Omega.{arith}
use Rattle.arcs.proofs.Graph.{graph}
use Rattle.arcs.proofs.ArcLists.{arc_of}
use Rattle.arcs.proofs.EntryRows.{depth_held, depth_entry, root_entry, arc_held, arc_link, arc_under, arc_entry, behind_entry}
use Rattle.arcs.proofs.Signed.{opposite_is, plain}
use Rattle.arcs.proofs.layout.Arcs.add_entries.Goals as goal

pub add_entry-requires : goal.add_entry-requires
add_entry-requires c =
    let a = plain (2 * c.args.penalty) (omega (arith, c.requires.1.penalty)) in
    let is = rw c.in-OfDepth.is at c.requires.0 in (
      c.requires.1,
      is.low,
      is.high,
      omega (arith, c.if-depth-gt0.true),
      is.deep,
      rw a (depth_held _ _ _ _ _ _ _ is),
      (omega arith, λ k h. absurd (omega arith)),
    )

pub add_entry-requires-in-OfArc : goal.add_entry-requires-in-OfArc
add_entry-requires-in-OfArc c =
    let a = plain (2 * c.args.penalty) (omega (arith, c.requires.1.penalty)) in
    let s = graph c.args.self.now in
    let is = rw c.in-OfArc.is at c.requires.0 in
    let o = arc_of _ _ s _ is.among in (
      c.requires.1,
      o.child_low,
      o.child_high,
      is.low,
      is.deep,
      rw (a, opposite_is (pos (2 * c.args.penalty)) (omega (arith, c.requires.1.penalty))) (arc_held _ _ _ _ s _ _ _ is),
      (arc_link _ _ _ _ _ _ is, arc_under _ _ _ _ _ _ is),
    )

pub returns-then-depth-gt0 : goal.returns-then-depth-gt0
returns-then-depth-gt0 c =
    let is = rw c.in-OfDepth.is at c.requires.0 in depth_entry _ _ _ _ _ _ _ is (omega (arith, c.if-depth-gt0.true)) _ _ c.add_entry.ensures

pub returns-else-depth-gt0 : goal.returns-else-depth-gt0
returns-else-depth-gt0 c = let is = rw c.in-OfDepth.is at c.requires.0 in root_entry _ _ _ _ _ _ _ is (omega (arith, c.if-depth-gt0.false)) _

pub returns-in-OfArc : goal.returns-in-OfArc
returns-in-OfArc c =
    let is = rw c.in-OfArc.is at c.requires.0 in arc_entry _ _ _ _ (graph c.args.self.now) _ _ _ is _ _ c.add_entry-in-OfArc.ensures

pub returns-in-Behind : goal.returns-in-Behind
returns-in-Behind c = behind_entry _ _ _ _ _ (rw c.in-Behind.is at c.requires.0) _
