use Rattle.std.proofs.Common.{◌≡◌, ◌≤◌, arith}
use Rattle.plans.specs.Kinds.{kind_of}
use Rattle.plans.proofs.Refusing.{kind_1, kind_2, kind_3, kind_none, kind_given}
use Rattle.plans.proofs.kinds.kind_of.Goals as goal
use Rattle.plans.proofs.kinds.kind_of.Goals.{in-1, in-2, in-3}

pub returns-in_default : goal.returns-in_default
returns-in_default c = kind_none _ _ (λ e. omega arith) (λ e. omega arith) (λ e. omega arith)

pub returns : goal.returns
returns c =
    let e : c.match-ask.kind ≡ kind_of c.args.ask = elim c.match-ask.branch [ in-1 w ↦ kind_1 _ _ w.kind-is (omega arith) | in-2 w ↦ kind_2 _ _ w.kind-is (omega arith) | in-3 w ↦ kind_3 _ _ w.kind-is (omega arith) ] in
    let b : (1 ≤ c.args.ask.kind) × (c.args.ask.kind ≤ 3) = elim c.match-ask.branch [ in-1 w ↦ omega arith | in-2 w ↦ omega arith | in-3 w ↦ omega arith ] in
    rw c.then_some.ensures (kind_given _ _ _ _ e b c.allows.ensures)
