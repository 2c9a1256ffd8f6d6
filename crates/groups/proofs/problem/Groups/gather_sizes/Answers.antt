use Rattle.std.proofs.Common.{refl, ◌∙◌, arith, ap, zero-mul}
use lib.ListN.{length-append}
use Rattle.lists.proofs.Stores.{zero_entries}
use Rattle.onehot.proofs.Chunks.{chunk_turn, chunk_end}
use Rattle.onehot.specs.Choices.{bit_at}
use Rattle.groups.specs.Formula.{size_in}
use Rattle.groups.proofs.Counted.{sizes_start, sizes_turn}
use Rattle.groups.proofs.problem.Groups.gather_sizes.Goals as goal

pub loop-part-init : goal.loop-part-init
loop-part-init c =
    let s = c.args.self.now in
    let i = c.into_iter-part-iterator.ensures.into_iter_gives in
    let e = c.chunks_exact-part-items.ensures in
    let size = ap (λ i. i.size) i ∙ e.size in (
      omega (arith, size, s.low),
      tt,
      record { each = size; left = rw (zero-mul s.m) (ap (λ i. i.rest.now) i ∙ e.rest); so_far = omega arith },
      sizes_start _ _ _ refl (zero_entries 17),
    )

pub loop-part-preserved : goal.loop-part-preserved
loop-part-preserved c =
    let s = c.args.self.now in
    let i = c.loop-part.invariant in
    let e = c.in-Some.ensures.steps in
    let t = chunk_turn _ s.survey.meters _ s.low c.requires.size _ _ _ i.2 _ _ e.1.0 e.1.1 in
    rw (length-append, e.0) (i.0, tt, t.2, sizes_turn _ _ _ c.requires s.high _ t.1 s.survey.meters_high _ i.3 _ (rw (← t.0) c.add_part.ensures))

pub returns : goal.returns
returns c =
    let s = c.args.self.now in
    let i = c.loop-part.invariant in
    let whole = chunk_end _ s.survey.meters _ s.low c.requires.size _ _ _ i.2 c.in-None.ensures.steps.1.0 in
    (i.3.size, λ g a b. i.3.so_far g a b ∙ ap (λ k. size_in k (bit_at s.m c.args.bits.now) g) whole)
