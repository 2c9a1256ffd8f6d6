use mathlib.Core.Path.{ap, ◌∙◌}
use native.Mathlib.Omega.{arith}
use mir.Facts.{to_z-of_z}
use lib.ListN.{length}
use Rattle.qubo.specs.Rows.{run_bit}
use Rattle.qubo.proofs.RowAction.{add_length}
use Rattle.qubo.proofs.Turns.{run_next, run_room}
use Rattle.qubo.proofs.add_run.Goals as goal

pub add_to_own-requires : goal.add_to_own-requires
add_to_own-requires c =
    let e = rw (to_z-of_z c.ranges.coefficient) at c.loop-t.invariant in
    (omega (arith, c.requires.0.inside c.loop-t.t (omega arith), ap length e ∙ add_length _ _ _), rw (to_z-of_z c.ranges.coefficient, e) (run_room _ _ _ _ c.args.run.count _ _ (omega arith) c.requires.1))

pub loop-t-preserved : goal.loop-t-preserved
loop-t-preserved c =
    let e = rw (to_z-of_z c.ranges.coefficient) at c.loop-t.invariant in
    c.add_to_own.ensures ∙ rw (to_z-of_z c.ranges.coefficient, e) (run_next c.args.coefficient c.args.i c.loop-t.t (run_bit c.args.run) c.args.row.now)
