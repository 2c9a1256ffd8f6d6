use Rattle.std.proofs.Common.{sym, ◌∙◌, arith}
use Rattle.std.proofs.lemmas.Bool.{eqb-true, ltb-true, ltb-false}
use Rattle.qubo.proofs.Runs.{run_before, run_between, run_number, number_told}
use Rattle.qubo.proofs.Run.number_of.Goals as goal
use Rattle.qubo.proofs.Run.number_of.Goals.{then-off-self-eq0, else-off-self-eq0}

pub returns-then-i-self : goal.returns-then-i-self
returns-then-i-self c = run_before c.args.self c.args.i (omega arith)

pub returns : goal.returns
returns c =
    rw c.then_some.ensures (elim c.if-off-self-eq0.branch [
      | then-off-self-eq0 w ↦
          let n = run_number c.args.self c.args.i c.requires (omega arith) w.if-off-self-eq0.true in
          number_told _ _ _ _ (λ t. n.0 (ltb-true _ _ (sym w.then_some-is ∙ t))) (λ f. n.1 (ltb-false _ _ (sym w.then_some-is ∙ f)))
      | else-off-self-eq0 w ↦
          number_told _ _ _ _ (λ t. absurd (w.if-off-self-eq0.false (eqb-true _ _ (sym w.then_some-is ∙ t)))) (λ f. run_between c.args.self c.args.i c.requires (omega arith) w.if-off-self-eq0.false)
    ])
