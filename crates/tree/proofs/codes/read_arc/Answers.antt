use mathlib.Core.Path.{◌∙◌}
use Rattle.tree.proofs.ReadParents.{cut_set, entry_added}
use Rattle.tree.proofs.codes.read_arc.Goals as goal

pub returns : goal.returns
returns c =
    entry_added _ _ _ c.requires.u_bound.1 _ _ (c.set_count-count.ensures ∙ cut_set _ _ _ c.requires.bits.2)
