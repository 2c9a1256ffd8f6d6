use Rattle.std.proofs.Common.{length}
use Rattle.std.proofs.lemmas.Iterator.{YieldsList}
use Rattle.channels.proofs.Halves.{upward}
use Rattle.channels.proofs.Hearing.{HeardLower, HeardUpper}
use Rattle.channels.proofs.repairing.Repairing.quietest_at.Given as goal

abbrev pub invariant-loop-link : goal.invariant-loop-link
invariant-loop-link l = HeardLower l.self.channels.n l.self.bits.now l.self.plan.now l.self.channels.survey.links.now l.m l.below_m l.link-index l.sums

abbrev pub invariant-loop-link-2 : goal.invariant-loop-link-2
invariant-loop-link-2 l =
    (goal.iterator-loop-link-2).can_next l.link-iterator ×
    (goal.iterator-loop-link-2).is_finite l.link-iterator ×
    YieldsList (goal.iterator-loop-link-2).next_gives (λ y. y.now) l.initial.link-iterator (upward l.fn.m l.self.channels.survey.links.now) ×
    HeardUpper l.self.channels.n l.self.bits.now l.self.plan.now l.self.channels.survey.links.now l.fn.m (length l.yielded) l.sums
