use Rattle.std.proofs.Common.{length}
use Rattle.site.proofs.Filling.{Walking}
use Rattle.site.proofs.rules.walk_links.Given as goal

abbrev pub invariant-loop-link : goal.invariant-loop-link
invariant-loop-link l = Walking l.image l.meters (length l.initial.links) l.u l.v l.links l.number l.last l.place l.link-index
