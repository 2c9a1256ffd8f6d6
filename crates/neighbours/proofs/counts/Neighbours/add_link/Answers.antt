use mathlib.Core.Path.{sym, ◌∙◌, refl}
use mir.Facts.{to_z-of_z}
use Rattle.qubo.proofs.RowAction.{add_none}
use Rattle.neighbours.proofs.DegreeParts.{part_yes, part_no}
use Rattle.neighbours.proofs.counts.Neighbours.add_link.Goals as goal

pub add_run-requires : goal.add_run-requires
add_run-requires c =
    rw (c.link_run.ensures, to_z-of_z c.ranges.factor) (c.requires.1, rw (part_yes _ _ _ _ _ (sym c.is_at.ensures ∙ c.if-is_at.true)) at c.requires.2)

pub returns-then-is_at : goal.returns-then-is_at
returns-then-is_at c = c.add_run.ensures ∙ rw (to_z-of_z c.ranges.factor, c.link_run.ensures, part_yes c.args.link _ _ _ _ (sym c.is_at.ensures ∙ c.if-is_at.true)) refl

pub returns-else-is_at : goal.returns-else-is_at
returns-else-is_at c = rw (part_no c.args.link _ _ _ _ (sym c.is_at.ensures ∙ c.if-is_at.false)) (sym (add_none c.args.i c.args.row.now))
