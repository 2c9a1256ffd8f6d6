use Rattle.std.proofs.Common.{◌∙◌}
use Rattle.channels.proofs.Channel.{meter_silent, meter_lowest}
use Rattle.channels.proofs.repairing.Repairing.channel_of.Goals as goal

pub returns-in-Some : goal.returns-in-Some
returns-in-Some c =
    let r = c.requires in
    meter_lowest _ _ _ _ r.0 r.1 c.args.self.now.assigned.size _ _ c.in-Some.ensures.0 c.in-Some.ensures.1

pub returns-in-None : goal.returns-in-None
returns-in-None c =
    let r = c.requires in
    c.quietest_at.ensures
    ∙ meter_silent _ _ _ _ r.0 r.1 c.args.self.now.assigned.size _ c.in-None.ensures
