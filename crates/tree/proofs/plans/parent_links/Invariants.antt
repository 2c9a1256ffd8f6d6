use Rattle.std.proofs.Common.{◌*◌, ◌≤◌}
use Rattle.lists.proofs.Walks.{Summed}
use Rattle.tree.proofs.ParentLinks.{joining}
use Rattle.tree.proofs.plans.parent_links.Given as goal

abbrev pub invariant-loop-link : goal.invariant-loop-link
invariant-loop-link l = Summed (joining l.plan) l.link-items l.link-index l.count × (l.count ≤ 2 * l.link-index)
