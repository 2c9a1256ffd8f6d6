use lib.ListN.{length}
use Rattle.onehot.proofs.Chunks.{ChunksTo}
use Rattle.groups.proofs.Counted.{SizesTo}
use Rattle.groups.proofs.problem.Groups.gather_sizes.Given as goal

abbrev pub invariant-loop-part : goal.invariant-loop-part
invariant-loop-part l =
    (goal.iterator-loop-part).can_next l.part-iterator ×
    (goal.iterator-loop-part).is_finite l.part-iterator ×
    ChunksTo l.self.m l.self.survey.meters l.bits (length l.yielded) l.part-iterator.rest.now l.part-iterator.size ×
    SizesTo l.self.m l.bits (length l.yielded) l.sizes
