use Rattle.std.proofs.Common.{arith}
use Rattle.site.proofs.Filling.{over_joined}
use Rattle.site.proofs.Sets.{read}
use Rattle.site.proofs.read.Goals as goal

-- the front part and the rest of the lent array
pub returns-clause-links_after : goal.returns-clause-links_after
returns-clause-links_after c = over_joined _ _ _ _ (grind (arith, read)) (grind (arith, read)) (grind (arith, read))
