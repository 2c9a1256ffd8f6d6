use mathlib.Core.Path.{◌∙◌}
use mir.Facts.{to_z-of_z}
use Rattle.qubo.proofs.RowShapes.{difference_swap}
use Rattle.qubo.proofs.Runs.{run_has}
use Rattle.qubo.proofs.Turns.{difference_cancels, difference_room_swap}
use Rattle.qubo.proofs.add_squared_difference.Goals as goal

pub add_own_difference-requires-in-None-Some-clause-run_below : goal.add_own_difference-requires-in-None-Some-clause-run_below
add_own_difference-requires-in-None-Some-clause-run_below c =
    (c.requires.1, c.requires.0, rw (to_z-of_z c.ranges.factor) (difference_room_swap c.args.factor c.args.left c.args.right c.args.row.now c.requires.2))

pub returns-in-Some-Some : goal.returns-in-Some-Some
returns-in-Some-Some c =
    difference_cancels c.args.factor c.args.left c.args.right c.args.i c.args.row.now _
    (run_has c.args.left c.args.i _ c.requires.0.apart c.in-Some-Some.ensures)
    (run_has c.args.right c.args.i _ c.requires.1.apart c.in-Some-Some.ensures')

pub returns-in-None-Some : goal.returns-in-None-Some
returns-in-None-Some c =
    c.add_own_difference-in-None-Some.ensures ∙ rw (to_z-of_z c.ranges.factor) (difference_swap c.args.factor c.args.right c.args.left c.args.i c.args.row.now)

pub returns-in-None-None : goal.returns-in-None-None
returns-in-None-None c =
    difference_cancels c.args.factor c.args.left c.args.right c.args.i c.args.row.now _
    (rw c.in-None-None.is-0 at c.number_of.ensures)
    (rw c.in-None-None.is-1 at c.number_of-2.ensures)
