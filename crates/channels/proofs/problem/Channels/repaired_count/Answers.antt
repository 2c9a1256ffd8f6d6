use Rattle.std.proofs.Common.{length, sym, ◌∙◌, arith, ap, zero-mul}
use lib.ListN.{length-append}
use Rattle.lists.specs.Sums.{sum_to, nth}
use Rattle.onehot.proofs.Parts.{cut_count}
use Rattle.channels.specs.Repair.{repaired}
use Rattle.onehot.proofs.Chunks.{chunk_turn, chunk_end}
use Rattle.channels.proofs.Channel.{repaired_zero, repaired_more, repaired_same}
use Rattle.channels.proofs.problem.Channels.repaired_count.Goals as goal

pub loop-part-init : goal.loop-part-init
loop-part-init c =
    let s = c.args.self.now in
    let i = c.into_iter-part-iterator.ensures.into_iter_gives in
    let e = c.chunks_exact-part-items.ensures in
    let size = ap (λ i. i.size) i ∙ e.size in (
      omega (arith, size, s.low),
      tt,
      record { each = size; left = rw (zero-mul s.n) (ap (λ i. i.rest.now) i ∙ e.rest); so_far = omega arith },
      omega arith,
      sym (repaired_zero s.n c.args.bits.now),
    )

pub loop-part-preserved-then-set_count-ne1 : goal.loop-part-preserved-then-set_count-ne1
loop-part-preserved-then-set_count-ne1 c =
    let s = c.args.self.now in
    let i = c.loop-part.invariant in
    let e = c.in-Some.ensures.steps in
    let t = chunk_turn _ s.survey.meters _ s.low c.requires.size _ _ _ i.2 _ _ e.1.0 e.1.1 in
    let k = c.set_count.ensures ∙ ap (λ p. sum_to (length p) (nth p)) t.0 ∙ cut_count s.n s.survey.meters (length c.loop-part.yielded) c.args.bits.now t.1 (omega (arith, c.requires.size)) in
    rw (length-append, e.0) (i.0, tt, t.2, omega (arith, i.3), omega (arith, i.4, repaired_more s.n c.args.bits.now (length c.loop-part.yielded) (λ d. c.if-set_count-ne1.true (k ∙ d))))

pub loop-part-preserved : goal.loop-part-preserved
loop-part-preserved c =
    let s = c.args.self.now in
    let i = c.loop-part.invariant in
    let e = c.in-Some.ensures.steps in
    let t = chunk_turn _ s.survey.meters _ s.low c.requires.size _ _ _ i.2 _ _ e.1.0 e.1.1 in
    let k = c.set_count.ensures ∙ ap (λ p. sum_to (length p) (nth p)) t.0 ∙ cut_count s.n s.survey.meters (length c.loop-part.yielded) c.args.bits.now t.1 (omega (arith, c.requires.size)) in
    rw (length-append, e.0) (i.0, tt, t.2, omega (arith, i.3), omega (arith, i.4, repaired_same s.n c.args.bits.now (length c.loop-part.yielded) (sym k ∙ c.if-set_count-ne1.false)))

pub returns : goal.returns
returns c =
    let s = c.args.self.now in
    let i = c.loop-part.invariant in
    i.4 ∙ ap (λ k. repaired k s.n c.args.bits.now) (chunk_end _ s.survey.meters _ s.low c.requires.size _ _ _ i.2 c.in-None.ensures.steps.1.0)
