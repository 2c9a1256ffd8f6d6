use Rattle.std.proofs.Common.{◌+◌, ◌/◌, length}
use Rattle.std.proofs.lemmas.Iterator.{YieldsList}
use Rattle.channels.proofs.Halves.{upward}
use Rattle.channels.proofs.ClashRows.{Added}
use Rattle.channels.proofs.problem.Channels.add_clashes.Given as goal

abbrev pub invariant-loop-link : goal.invariant-loop-link
invariant-loop-link l =
    (goal.iterator-loop-link).can_next l.link-iterator ×
    (goal.iterator-loop-link).is_finite l.link-iterator ×
    YieldsList (goal.iterator-loop-link).next_gives (λ y. y.now) l.initial.link-iterator (upward (l.i / l.self.n + 1) l.self.survey.links.now) ×
    Added l.self.n l.i l.self.survey.links.now l.initial.row l.row (length l.yielded)
