use Rattle.std.proofs.Common.{◌≡◌, length, take}
use Rattle.channels.proofs.Channel.{channels_to}
use Rattle.channels.proofs.problem.Channels.repair_all.Given as goal

abbrev pub invariant-loop-v : goal.invariant-loop-v
invariant-loop-v l = (length l.plan ≡ l.self.survey.meters) × (take l.v l.plan ≡ channels_to l.self.n l.self.survey.links.now l.bits l.v)
