use Rattle.onehot.proofs.Counts.{CountsTo}
use Rattle.onehot.proofs.count_choices.Given as goal

abbrev pub invariant-loop-choice : goal.invariant-loop-choice
invariant-loop-choice l = CountsTo l.plan l.choice-index l.counts
