use Rattle.std.proofs.Common.{sym, arith}
use Rattle.plans.proofs.Calling.{exit_is}
use Rattle.plans.proofs.Refusing.{kind_asked, ask_wide, ask_fine}
use Rattle.plans.proofs.refusals.of_ask.Goals as goal

pub returns-in_err-kind : goal.returns-in_err-kind
returns-in_err-kind c = rw (exit_is _ c.from_residual.ensures.1) (kind_asked _ _ _ c.kind_of.ensures _ c.in_err-kind.ensures.value)

pub returns-then-ask-gt-MOST_MARGIN : goal.returns-then-ask-gt-MOST_MARGIN
returns-then-ask-gt-MOST_MARGIN c = ask_wide _ _ (kind_asked _ _ _ c.kind_of.ensures _ c.in_ok-kind.ensures.value).0 (omega arith)

pub returns : goal.returns
returns c =
    let k = kind_asked _ _ _ c.kind_of.ensures _ c.in_ok-kind.ensures.value in
    (sym (ask_fine _ _ k.0 (omega arith)), k.1)
