use mathlib.Core.Path.{◌∙◌}
use native.Mathlib.Omega.{arith}
use Rattle.lists.specs.Sums.{differ}
use Rattle.lists.proofs.Walks.{summed_turn, summed_end}
use Rattle.links.specs.Links.{nothing}
use Rattle.links.proofs.Walk.{is_survey}
use Rattle.onehot.proofs.Ends.{ends_fit}
use Rattle.onehot.proofs.LinkSums.{bits_small, bits_link_value, bits_room}
use Rattle.groups.proofs.Asking.{lent}
use Rattle.groups.proofs.Cutting.{cutting_sum, differ_bits}
use Rattle.groups.proofs.problem.Groups.cutting.Goals as goal

pub unshared-apart-requires : goal.unshared-apart-requires
unshared-apart-requires c =
    let f = ends_fit _ _ _ _ (lent c.args.self.now) c.requires c.loop-link.link-index c.loop-link-test.true in
    (f.0, f.1, f.2, f.3, f.4)

pub overflow_mul-sum : goal.overflow_mul-sum
overflow_mul-sum c =
    omega (arith, bits_room differ _ _ _ _ _ c.unshared-apart.ensures (differ_bits _ _) _ _ (lent c.args.self.now) c.loop-link.invariant c.loop-link-test.true)

pub overflow_add-sum : goal.overflow_add-sum
overflow_add-sum c =
    omega (arith, bits_room differ _ _ _ _ _ c.unshared-apart.ensures (differ_bits _ _) _ _ (lent c.args.self.now) c.loop-link.invariant c.loop-link-test.true)

pub loop-link-preserved : goal.loop-link-preserved
loop-link-preserved c =
    summed_turn _ _ nothing _ _ c.loop-link.invariant c.loop-link-test.true _ (bits_link_value differ _ _ c.args.self.now.survey.links.now c.loop-link.link-index _ c.unshared-apart.ensures)

pub returns : goal.returns
returns c =
    let g = c.args.self.now in
    let e = summed_end _ _ _ _ c.loop-link.invariant (omega arith) in
    (e ∙ cutting_sum _ _ _, rw e (bits_small differ _ _ (differ_bits _ _) g.high _ _ (is_survey g.survey)))
