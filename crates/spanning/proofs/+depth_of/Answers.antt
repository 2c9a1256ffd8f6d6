use Rattle.std.proofs.Common.{◌-◌, ◌≡◌, sym, ap, ◌∙◌, arith, Some, None}
use native.Mathlib.Numerals.{add-one}
use Rattle.lists.specs.Sums.{nth}
use Rattle.spanning.specs.Parents.{deeper, depth_of}
use Rattle.spanning.proofs.Depths.{depth_root}
use Rattle.spanning.proofs.Recursion.{depth_up, depth_below}
use Rattle.spanning.proofs.+depth_of.Goals as goal

pub returns-in_default : goal.returns-in_default
returns-in_default t c = sym (depth_root c.args.parents.now c.args.allowance c.args.v (omega arith) c.in_default.ensures)

pub returns-in_err-up : goal.returns-in_err-up
returns-in_err-up t c =
    let a = c.args in
    let w = c.in-Some.ensures in
    let e : depth_of a.parents.now (a.allowance - 1) (nth a.parents.now a.v) ≡ None = rw w.1 at (sym c.in_err-up.ensures) in
    c.from_residual.ensures ∙ sym (depth_up a.parents.now a.allowance a.v (λ e. omega arith) (λ z. omega (arith, w)) ∙ ap deeper e)

pub overflow_add-result : goal.overflow_add-result
overflow_add-result t c = omega (arith, depth_below _ _ _ _ (sym c.in_ok-up.ensures), c.ranges.allowance)

pub returns : goal.returns
returns t c =
    let a = c.args in
    let w = c.in-Some.ensures in
    let e : depth_of a.parents.now (a.allowance - 1) (nth a.parents.now a.v) ≡ Some c.in_ok-up.up = rw w.1 at (sym c.in_ok-up.ensures) in
    ap Some (add-one c.in_ok-up.up) ∙ sym (depth_up a.parents.now a.allowance a.v (λ e. omega arith) (λ z. omega (arith, w)) ∙ ap deeper e)
