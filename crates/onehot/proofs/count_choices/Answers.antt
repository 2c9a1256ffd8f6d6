use Rattle.std.proofs.Common.{get_or, refl, arith}
use Rattle.lists.proofs.Stores.{zero_entries}
use Rattle.onehot.proofs.Counts.{counts_start, counts_low, counts_turn, counts_end}
use Rattle.onehot.proofs.count_choices.Goals as goal

pub loop-choice-init : goal.loop-choice-init
loop-choice-init c = counts_start _ _ refl (zero_entries 256)

pub overflow_add-counts : goal.overflow_add-counts
overflow_add-counts c =
    let l = c.loop-choice in
    omega (arith, counts_low _ _ _ l.invariant (get_or c.args.plan.now l.choice-index 0))

pub loop-choice-preserved : goal.loop-choice-preserved
loop-choice-preserved c =
    let l = c.loop-choice in
    counts_turn _ _ _ _ l.invariant (omega (arith, c.type_inv.plan l.choice-index)) refl

pub returns : goal.returns
returns c =
    let l = c.loop-choice in
    (l.invariant.size, counts_end _ _ _ l.invariant (omega arith))
