use Rattle.std.proofs.Common.{arith, length-set}
use Rattle.channels.proofs.Channel.{channel_le, channels_start, channels_next, channels_end}
use Rattle.channels.proofs.problem.Channels.repair_all.Goals as goal

pub loop-v-init : goal.loop-v-init
loop-v-init c =
    (c.requires.1, channels_start c.args.self.now.n c.args.self.now.survey.links.now c.args.bits.now)

pub overflow_cast-plan : goal.overflow_cast-plan
overflow_cast-plan c =
    omega (arith, c.args.self.now.high, channel_le _ _ _ _ _ _ c.args.self.now.low c.channel_of.ensures)

pub loop-v-preserved : goal.loop-v-preserved
loop-v-preserved c =
    let l = c.loop-v in (
      rw length-set l.invariant.0,
      channels_next c.args.self.now.n c.args.self.now.survey.links.now c.args.bits.now l.plan l.v c.channel_of.result (omega arith) l.invariant.1 c.channel_of.ensures,
    )

pub returns : goal.returns
returns c =
    let l = c.loop-v in
    channels_end c.args.self.now.n c.args.self.now.survey.links.now c.args.bits.now c.args.self.now.survey.meters l.plan l.v (omega arith) l.invariant.0 l.invariant.1
