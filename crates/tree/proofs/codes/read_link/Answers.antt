use mathlib.Core.Path.{sym, ◌∙◌}
use Rattle.tree.proofs.ReadParents.{link_none}
use Rattle.tree.proofs.codes.read_link.Goals as goal

pub returns-then-n-eq0 : goal.returns-then-n-eq0
returns-then-n-eq0 c =
    link_none _ _ _ _ _ _ c.requires.ends.0 c.requires.ends.1 c.requires.ends.3 (sym c.requires.bits.5 ∙ c.if-n-eq0.true)
