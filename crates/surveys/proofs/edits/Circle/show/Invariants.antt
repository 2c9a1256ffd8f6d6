use Rattle.std.proofs.Common.{◌≤◌}
use Rattle.surveys.proofs.edits.Circle.show.Given as goal

abbrev pub invariant-loop-k : goal.invariant-loop-k
invariant-loop-k g l = l.accepted ≤ l.k
