use Rattle.std.proofs.Common.{arith}
use Rattle.site.proofs.Filling.{walking_turn}
use Rattle.site.proofs.rules.walk_links.Goals as goal

pub loop-link-preserved : goal.loop-link-preserved
loop-link-preserved c = grind (arith, walking_turn)
