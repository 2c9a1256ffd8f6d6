use Rattle.plans.proofs.Refusing.{topped_start, topped_more, topped_end}
use Rattle.std.proofs.Common.{arith}
use Rattle.plans.proofs.refusals.are_bits.Goals as goal

pub loop-bit-init : goal.loop-bit-init
loop-bit-init c = topped_start _

pub loop-bit-preserved : goal.loop-bit-preserved
loop-bit-preserved c = rw c.max-top.ensures (topped_more _ _ _ c.loop-bit.invariant)

pub returns : goal.returns
returns c = topped_end _ _ _ (omega arith) c.loop-bit.invariant
