use Rattle.std.proofs.Common.{◌*◌, ◌+◌, ◌≤◌, arith, ◌∙◌}
use Rattle.lists.proofs.Walks.{summed_turn, summed_end}
use Rattle.links.specs.Links.{nothing, link_in}
use Rattle.links.proofs.Walk.{is_survey}
use Rattle.onehot.proofs.Ends.{ends_fit}
use Rattle.onehot.proofs.LinkSums.{bits_small, bits_link_value, bits_room}
use Rattle.channels.proofs.Asking.{lent}
use Rattle.channels.proofs.Clashing.{clashing_sum, both_bits}
use Rattle.channels.proofs.problem.Channels.clashing.Goals as goal

pub shared-requires : goal.shared-requires
shared-requires c = ends_fit _ _ _ _ (lent c.args.self.now) c.requires _ c.loop-link-test.true

room : (c : goal.After-shared) → c.loop-link.sum + (link_in c.args.self.now.survey.links.now c.loop-link.link-index).weight * c.shared.result ≤ 268431360
room c =
    bits_room ◌*◌ _ _ _ _ _ c.shared.ensures (both_bits _ _ c.requires.bits) _ _ (lent c.args.self.now) c.loop-link.invariant c.loop-link-test.true

pub overflow_mul-sum : goal.overflow_mul-sum
overflow_mul-sum c = omega (arith, room c)

pub overflow_add-sum : goal.overflow_add-sum
overflow_add-sum c = omega (arith, room c)

pub loop-link-preserved : goal.loop-link-preserved
loop-link-preserved c =
    summed_turn _ _ nothing _ _ c.loop-link.invariant c.loop-link-test.true _ (bits_link_value ◌*◌ _ _ c.args.self.now.survey.links.now c.loop-link.link-index _ c.shared.ensures)

pub returns-clause-value : goal.returns-clause-value
returns-clause-value c = summed_end _ _ _ _ c.loop-link.invariant (omega arith) ∙ clashing_sum _ _ _

pub returns-clause-bound : goal.returns-clause-bound
returns-clause-bound c =
    rw (summed_end _ _ _ _ c.loop-link.invariant (omega arith)) (bits_small ◌*◌ _ _ (both_bits _ _ c.requires.bits) c.args.self.now.high _ _ (is_survey c.args.self.now.survey))
