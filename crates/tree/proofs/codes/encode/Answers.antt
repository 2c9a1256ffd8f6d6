use mathlib.Core.Path.{refl}
use native.Mathlib.Omega.{arith}
use Rattle.tree.proofs.Filling.{depths_length, arc_choices_length, counts_length}
use Rattle.tree.proofs.Placing.{code_asks, code_given, plan_length, depths_within, arcs_in, counts_within, bits_first, bits_second, bits_third, code_whole}
use Rattle.tree.proofs.codes.encode.Goals as goal

pub arc_choices-chosen-requires : goal.arc_choices-chosen-requires
arc_choices-chosen-requires c =
    let p = c.requires in
    let size = plan_length _ _ _ _ _ p.deepest p.plan in
    (size, rw size p.depths)

pub neighbour_choices-counts-requires : goal.neighbour_choices-counts-requires
neighbour_choices-counts-requires c =
    let p = c.requires in
    omega (arith, plan_length _ _ _ _ _ p.deepest p.plan, c.args.arcs.now.layout.meters_high)

pub encode_part-requires : goal.encode_part-requires
encode_part-requires c =
    let p = c.requires in
    rw c.depth_width.ensures (code_asks _ _ _ p.depths _ (depths_length _ _) (depths_within _ _ _ _ _ p.deepest p.plan) 0 _ (omega (arith, bits_first _ _ _ _ _ p.deepest p.bits)))

pub encode_part-requires-2 : goal.encode_part-requires-2
encode_part-requires-2 c =
    let p = c.requires in
    let size = plan_length _ _ _ _ _ p.deepest p.plan in
    rw c.depths_end.ensures.0 (code_asks _ _ _ (rw size at c.arc_choices-chosen.ensures.1) _ (arc_choices_length _ _ _) (λ k h. arcs_in _ _ _ _ _ p.deepest p.plan _ k) _ _ (omega (arith, bits_second _ _ _ _ _ p.deepest p.bits, c.encode_part.auto)))

pub encode_part-requires-3 : goal.encode_part-requires-3
encode_part-requires-3 c =
    let p = c.requires in
    let size = plan_length _ _ _ _ _ p.deepest p.plan in
    rw (c.arcs_end.ensures.0) (code_asks _ _ _ (rw size at c.neighbour_choices-counts.ensures.1) _ (counts_length _ _) (counts_within _ _ _ _ _ p.deepest p.plan) _ _ (omega (arith, bits_third _ _ _ _ _ p.deepest p.bits, c.encode_part.auto, c.encode_part-2.auto)))

pub returns : goal.returns
returns c =
    let p = c.requires in
    let size = plan_length _ _ _ _ _ p.deepest p.plan in
    let first = rw c.depth_width.ensures at (code_given _ _ _ p.depths _ _ _ c.encode_part.ensures) in
    let second = rw c.depths_end.ensures.0 at (code_given _ _ _ (rw size at c.arc_choices-chosen.ensures.1) _ _ _ c.encode_part-2.ensures) in
    let third = rw c.arcs_end.ensures.0 at (code_given _ _ _ (rw size at c.neighbour_choices-counts.ensures.1) _ _ _ c.encode_part-3.ensures) in
    code_whole _ _ _ _ _ _ p.deepest refl _ _ _ _ p.bits first second third
