use Rattle.std.proofs.Common.{◌≤◌, ◌≡◌, length}
use Rattle.channels.specs.Repair.{repaired}
use Rattle.onehot.proofs.Chunks.{ChunksTo}
use Rattle.channels.proofs.problem.Channels.repaired_count.Given as goal

abbrev pub invariant-loop-part : goal.invariant-loop-part
invariant-loop-part l =
    (goal.iterator-loop-part).can_next l.part-iterator ×
    (goal.iterator-loop-part).is_finite l.part-iterator ×
    ChunksTo l.self.n l.self.survey.meters l.bits (length l.yielded) l.part-iterator.rest.now l.part-iterator.size ×
    (l.count ≤ length l.yielded) × (l.count ≡ repaired (length l.yielded) l.self.n l.bits)
