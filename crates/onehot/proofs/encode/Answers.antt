use Rattle.std.proofs.Common.{refl, ◌∙◌, length, get_or, arith}
use lib.ListN.{length-set}
use Rattle.onehot.proofs.Turns.{coded_start, coded_skip, coded_turn, coded_end, place_in}
use Rattle.onehot.proofs.encode.Goals.{then-choice-ne0, else-choice-ne0}
use Rattle.onehot.proofs.encode.Goals as goal

pub loop-v-init : goal.loop-v-init
loop-v-init c = (c.clear_bits.ensures.0 ∙ c.requires.2, coded_start c.args.n c.args.plan.now c.clear_bits.new.bits c.clear_bits.ensures.1)

pub loop-v-preserved : goal.loop-v-preserved
loop-v-preserved c =
    let l = c.loop-v in
    let p = c.args.plan.now in
    elim c.if-choice-ne0.branch [
      | then-choice-ne0 w ↦ (let at = place_in c.args.meters c.args.n (get_or p l.v 0) l.v (length l.bits) w.if-choice-ne0.true (c.requires.1 l.v (omega arith)) (omega arith) l.invariant.0 in
          rw w.bits-is (simp length-set l.invariant.0, coded_turn c.args.n p l.bits l.v (get_or p l.v 0) refl w.if-choice-ne0.true (c.requires.1 l.v (omega arith)) at.1 l.invariant.1))
      | else-choice-ne0 w ↦ rw w.bits-is (l.invariant.0, coded_skip c.args.n p l.bits l.v (omega (arith, w.if-choice-ne0.false)) l.invariant.1)
    ]

pub returns : goal.returns
returns c =
    let l = c.loop-v in
    coded_end c.args.meters c.args.n c.args.plan.now l.bits l.v (omega arith) c.requires.0 l.invariant.0 l.invariant.1
