use Rattle.std.proofs.Common.{refl, arith}
use Rattle.channels.proofs.Hearing.{meter_fits, borne_low, borne_high}
use Rattle.channels.proofs.repairing.Repairing.add_borne.Goals as goal

pub returns-then-m-self : goal.returns-then-m-self
returns-then-m-self c =
    let s = c.args.self.now in
    borne_low s.channels.n s.bits.now s.plan.now c.args.m c.args.w c.args.sums.now _ c.requires.room.0 c.requires.meter.0 (omega arith) (omega arith) refl

pub returns-else-m-self : goal.returns-else-m-self
returns-else-m-self c =
    let s = c.args.self.now in
    let a = c.add_part.ensures in
    borne_high s.channels.n s.bits.now s.plan.now c.args.m c.args.w c.args.sums.now c.add_part.new.sums c.requires.room.0 c.requires.meter.0 (omega arith) (meter_fits _ _ _ _ s.assigned c.requires.meter.1) a.0 a.1 a.2
