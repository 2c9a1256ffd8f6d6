use Rattle.groups.proofs.SizesReady.{second_ready, third_ready, sizes_done}
use Rattle.groups.proofs.problem.Groups.add_sizes.Goals as goal

pub add_run-requires : goal.add_run-requires
add_run-requires c =
    let g = c.args.self.now in
    let p = c.requires in
    rw c.bits.ensures (second_ready _ _ _ _ g.low g.high g.survey.meters_high g.small _ p.1 p.0 p.2 _ c.add_single.ensures)

pub add_run-requires-2 : goal.add_run-requires-2
add_run-requires-2 c =
    let g = c.args.self.now in
    let p = c.requires in
    third_ready _ _ _ _ g.low g.high g.survey.meters_high g.small _ p.1 p.0 p.2 _ c.add_single.ensures _ (rw c.bits.ensures at c.add_run.ensures)

pub returns : goal.returns
returns c =
    let g = c.args.self.now in
    let p = c.requires in
    sizes_done _ _ _ _ g.low g.high g.survey.meters_high g.small _ p.1 p.0 p.2 _ c.add_single.ensures _ (rw c.bits.ensures at c.add_run.ensures) _ c.add_run-2.ensures
