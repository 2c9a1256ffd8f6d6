use native.Mathlib.Omega.{arith}
use Rattle.links.proofs.Walk.{link_at}
use Rattle.groups.proofs.Asking.{lent}
use Rattle.groups.proofs.CutRows.{added_start, added_all, added_stop, kept_up, kept_down, kept_none, upper_inside, below_inside, weight_room}
use Rattle.groups.proofs.problem.Groups.add_cuts.Goals.{then-u-meter, else-u-meter+then-v-meter, else-u-meter+else-v-meter}
use Rattle.groups.proofs.problem.Groups.add_cuts.Goals as goal

pub loop-link-init : goal.loop-link-init
loop-link-init c = added_start _ _ _ _ (lent c.args.self.now) _ c.requires.room

pub returns-then-meter-u : goal.returns-then-meter-u
returns-then-meter-u c =
    let l = c.loop-link in
    added_stop _ _ _ _ (lent c.args.self.now) _ _ l.link-index l.invariant c.loop-link-test.true c.if-meter-u.true

pub overflow_sub-v : goal.overflow_sub-v
overflow_sub-v c =
    let s = c.args.self.now.survey in
    omega (arith, (link_at s.meters s.links.now s.each c.loop-link.link-index c.loop-link-test.true).ordered)

pub add_unequal-requires : goal.add_unequal-requires
add_unequal-requires c =
    let g = lent c.args.self.now in
    let l = c.loop-link in
    let t = upper_inside _ _ _ _ g l.link-index c.loop-link-test.true c.if-u-meter.true in (
      omega (arith, t.0),
      omega (arith, t.1, l.invariant.size, c.requires.by_index.1),
      weight_room _ _ _ _ g _ _ l.link-index l.invariant c.loop-link-test.true _ _,
    )

pub overflow_sub-i : goal.overflow_sub-i
overflow_sub-i c = (below_inside _ _ _ _ (lent c.args.self.now) c.loop-link.link-index c.loop-link-test.true c.if-v-meter.true).1

pub add_unequal-requires-then-v-meter : goal.add_unequal-requires-then-v-meter
add_unequal-requires-then-v-meter c =
    let g = lent c.args.self.now in
    let l = c.loop-link in
    let t = below_inside _ _ _ _ g l.link-index c.loop-link-test.true c.if-v-meter.true in (
      omega (arith, t.0, t.1),
      omega (arith, l.invariant.size, c.requires.by_index.0, c.requires.by_index.1),
      weight_room _ _ _ _ g _ _ l.link-index l.invariant c.loop-link-test.true _ _,
    )

pub loop-link-preserved : goal.loop-link-preserved
loop-link-preserved c =
    let g = lent c.args.self.now in
    let l = c.loop-link in
    elim c.if-u-meter.branch [
      | then-u-meter w ↦ kept_up _ _ _ _ g _ _ l.link-index l.invariant c.loop-link-test.true w.if-u-meter.true _ _ w.row-is w.add_unequal.ensures
      | else-u-meter+then-v-meter w ↦ kept_down _ _ _ _ g _ _ l.link-index l.invariant c.loop-link-test.true w.if-v-meter.true _ _ w.row-is w.add_unequal-then-v-meter.ensures
      | else-u-meter+else-v-meter w ↦ kept_none _ _ _ _ g _ _ l.link-index l.invariant c.loop-link-test.true w.if-u-meter.false w.if-v-meter.false _ w.row-is
    ]

pub returns : goal.returns
returns c = added_all _ _ _ _ (lent c.args.self.now) _ _ c.loop-link.link-index c.loop-link.invariant c.loop-link-test.false
