use Rattle.std.proofs.Common.{◌+◌, ◌≡◌, refl, ◌∙◌, arith}
use lib.ListN.{length-set}
use Rattle.lists.specs.Sums.{lowest}
use Rattle.lists.proofs.Sums.{lowest_le}
use Rattle.onehot.specs.Choices.{bit_at}
use Rattle.onehot.proofs.Parts.{cut_lowest}
use Rattle.onehot.proofs.Candidates.{lowest_or, read_start, read_next, read_end}
use Rattle.onehot.proofs.read_off.Goals as goal

lowest_is : (c : goal.After-unwrap_or) → c.unwrap_or.result ≡ lowest c.args.n (bit_at c.args.n c.args.bits.now (c.loop-v.v + 1))
lowest_is c = c.unwrap_or.ensures ∙ lowest_or _ _ c.lowest_set-choice.ensures ∙ cut_lowest c.args.n c.args.meters c.loop-v.v c.args.bits.now (omega arith) (omega arith)

pub loop-v-init : goal.loop-v-init
loop-v-init c = (refl, read_start c.args.n c.args.bits.now)

pub overflow_cast-plan : goal.overflow_cast-plan
overflow_cast-plan c =
    omega (arith, lowest_is c, lowest_le c.args.n (bit_at c.args.n c.args.bits.now (c.loop-v.v + 1)))

pub loop-v-preserved : goal.loop-v-preserved
loop-v-preserved c =
    let l = c.loop-v in
    (simp length-set l.invariant.0, read_next c.args.n c.args.bits.now l.plan l.v _ (omega arith) l.invariant.1 (lowest_is c))

pub returns : goal.returns
returns c =
    let s = c.args in
    let l = c.loop-v in
    read_end s.n s.bits.now s.meters l.plan l.v (omega arith) (omega arith) l.invariant.1
