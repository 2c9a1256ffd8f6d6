use Rattle.std.proofs.Common.{refl, arith}
use Rattle.lists.proofs.Stores.{zero_entries}
use Rattle.links.proofs.Walk.{is_survey}
use Rattle.channels.proofs.Gathering.{gather_start, gather_end, first_room, second_room, gather_turn}
use Rattle.channels.proofs.loads.loads_of.Goals as goal

pub loop-link-init : goal.loop-link-init
loop-link-init c = gather_start _ _ refl (zero_entries 256)

pub overflow_add-sums : goal.overflow_add-sums
overflow_add-sums c =
    omega (arith, first_room _ _ (is_survey c.args.survey.now) _ c.loop-link-test.true _ c.loop-link.invariant)

pub overflow_add-sums-in-loop-link : goal.overflow_add-sums-in-loop-link
overflow_add-sums-in-loop-link c =
    omega (arith, second_room _ _ (is_survey c.args.survey.now) _ c.loop-link-test.true _ c.loop-link.invariant _ refl)

pub loop-link-preserved : goal.loop-link-preserved
loop-link-preserved c =
    gather_turn _ _ (is_survey c.args.survey.now) _ c.loop-link-test.true _ c.loop-link.invariant _ refl _ refl

pub returns : goal.returns
returns c = (c.loop-link.invariant.size, gather_end _ _ _ c.loop-link.invariant (omega arith))
