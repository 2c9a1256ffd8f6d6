use Rattle.std.proofs.Common.{ℕ, sym, ◌∙◌, arith}
use Rattle.std.proofs.lemmas.List.{length-take, get_or-take}
use Rattle.lists.proofs.Sums.{nth_past}
use Rattle.spanning.proofs.Recursion.{nth_none, nth_read}
use Rattle.spanning.proofs.parent_of.Goals as goal

pub returns-in_err-at : goal.returns-in_err-at
returns-in_err-at c = rw c.from_residual.ensures (sym (nth_none _ _ (omega (arith, c.in_err-at.ensures))))

-- Of a part of the parents, cut off by a range, `length-take` and `get_or-take` say how long it is and what stands in it.
-- With these the proofs ask of the lookup only that it finds every parent.
pub returns-in_err-parent : goal.returns-in_err-parent
returns-in_err-parent c = rw c.from_residual-in_err-parent.ensures (nth_past _ _ (omega (arith, length-take {A = ℕ}, c.in_err-parent.ensures.lookup.3, c.in_ok-at.ensures)))

pub returns-then-parent-eq0 : goal.returns-then-parent-eq0
returns-then-parent-eq0 c =
    let found = c.in_ok-parent.ensures.lookup.3 in
    sym (nth_read _ _ _ _ c.in_ok-at.ensures.0 c.in_ok-at.ensures.1 (omega (arith, length-take {A = ℕ}, get_or-take {A = ℕ}, found.0, found.1 0))) ∙ c.if-parent-eq0.true

pub returns : goal.returns
returns c =
    let found = c.in_ok-parent.ensures.lookup.3 in
    (omega (arith, c.if-parent-eq0.false), nth_read _ _ _ _ c.in_ok-at.ensures.0 c.in_ok-at.ensures.1 (omega (arith, length-take {A = ℕ}, get_or-take {A = ℕ}, found.0, found.1 0)))
