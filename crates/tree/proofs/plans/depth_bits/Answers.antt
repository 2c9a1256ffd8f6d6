use native.Mathlib.Omega.{arith}
use lib.ListN.{length-set}
use Rattle.onehot.proofs.Codes.{filled_next}
use Rattle.tree.proofs.Filling.{depth_bit_of, depths_filled}
use Rattle.tree.proofs.plans.depth_bits.Goals as goal

pub loop-v-preserved : goal.loop-v-preserved
unfolding depth_bit_of
loop-v-preserved c =
    let l = c.loop-v in
    (simp length-set l.invariant.0, filled_next (depth_bit_of c.args.plan.now c.args.meters) l.depths l.v _ (omega (arith, l.invariant.0, c.requires, c.loop-v-test.true)) l.invariant.1 c.depth_bit.ensures.0)

pub returns : goal.returns
returns c = (c.loop-v.invariant.0, depths_filled _ _ _ c.loop-v.v (omega arith) c.loop-v.invariant.1)
