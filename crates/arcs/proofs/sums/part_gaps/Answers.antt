use Prim.Native.Nat.{◌+◌}
use Rattle.std.proofs.Common.{length, length-append, arith}
use Rattle.std.proofs.lemmas.Slice.Zip.{zip_turn, zip_end}
use Rattle.arcs.proofs.Slices.{slice}
use Rattle.arcs.proofs.Summing.{GapTurn, gaps_start, gaps_end, tails_length, tails_turn}
use Rattle.arcs.proofs.sums.part_gaps.Goals.{In-Some}
use Rattle.arcs.proofs.sums.part_gaps.Goals as goal

-- what a step has of the two lists
turn : (c : In-Some) → GapTurn c.args.part.now c.args.counts.now (length c.loop-bit.yielded) c.in-Some.bit.now c.in-Some.count.now
turn c =
    let p = c.args.part.now in
    let q = c.args.counts.now in
    let l = c.loop-bit in
    let t = zip_turn (slice p 1 (length p)) (slice q 1 (length q)) l.yielded c.into_iter-bit-iterator.result l.bit-iterator c.next.new.self c.next.result (cc) (cc) l.yielded_by _ c.in-Some.is c.next.ensures.steps in
    tails_turn p q c.requires.0 c.requires.2 c.requires.3 c.requires.4 (length l.yielded) _ _ t.0 (t.2 0) (t.3 0)

pub loop-bit-init : goal.loop-bit-init
loop-bit-init c = omega (arith, gaps_start c.args.part.now c.args.counts.now)

pub overflow_sub-sum : goal.overflow_sub-sum
overflow_sub-sum c = (turn (goal.at.overflow_sub-sum c).In-Some).enough

pub overflow_add-sum-in-loop-bit : goal.overflow_add-sum-in-loop-bit
overflow_add-sum-in-loop-bit c = let t = turn (goal.at.overflow_add-sum-in-loop-bit c).In-Some in omega (arith, c.loop-bit.invariant.0, t.small, t.inside, c.requires.1)

pub loop-bit-preserved : goal.loop-bit-preserved
loop-bit-preserved c = let t = turn (goal.at.loop-bit-preserved c).In-Some in rw length-append (omega (arith, c.loop-bit.invariant, t.small, t.next))

pub returns : goal.returns
returns c =
    let p = c.args.part.now in
    let q = c.args.counts.now in
    let l = c.loop-bit in
    let own = tails_length p q c.requires.0 c.requires.2 in
    let ended = zip_end (slice p 1 (length p)) (slice q 1 (length q)) l.yielded c.into_iter-bit-iterator.result l.bit-iterator c.next.new.self c.next.result (cc) (cc) l.yielded_by c.in-None.is c.next.ensures.steps in
    (gaps_end p q (length l.yielded + 1) (length p) l.sum (omega (arith, ended, own)) l.invariant.1, omega (arith, l.invariant.0, ended, own, c.requires.1))
