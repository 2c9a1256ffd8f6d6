use mathlib.Core.Path.{◌≡◌}
use mathlib.Core.List.{[], ◌∷◌}
use lib.IntN.{pos}
use Rattle.qubo.specs.Terms.{bits, times}
use Rattle.qubo.specs.Rows.{add_terms, run_bit}
use Rattle.qubo.proofs.add_run.Given as goal

abbrev pub invariant-loop-t : goal.invariant-loop-t
invariant-loop-t l =
    l.row ≡ add_terms (times l.coefficient l.i (bits (pos 1) l.t (run_bit l.run)) ∷ []) l.i l.initial.row
