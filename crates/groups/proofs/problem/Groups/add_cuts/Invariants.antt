use Rattle.groups.proofs.CutRows.{Added}
use Rattle.groups.proofs.problem.Groups.add_cuts.Given as goal

abbrev pub invariant-loop-link : goal.invariant-loop-link
invariant-loop-link l = Added l.m l.i l.link-items l.initial.row l.row l.link-index
