use native.Mathlib.Omega.{arith}
use Rattle.arcs.proofs.DepthRows.{depths_inside, depths_room, depth_row, behind_row}
use Rattle.arcs.proofs.Slices.{depths_few}
use Rattle.arcs.proofs.layout.Layout.add_depths.Goals as goal

pub add_one_hots-requires : goal.add_one_hots-requires
add_one_hots-requires c =
    let a = c.args.self.now in
    let inside = rw c.depths_end.ensures.0 at c.if-i-depths_end.true in
    rw c.depth_width.ensures
    (a.meters, omega arith, inside, depths_inside _ _ _ _ _ a.meters_high a.shallow c.requires, omega (arith, depths_few _ _ a.meters_high a.shallow), depths_room _ _ _ _ _ a.meters_high a.shallow c.requires)

pub returns-then-i-depths_end : goal.returns-then-i-depths_end
returns-then-i-depths_end c =
    let a = c.args.self.now in
    let inside = rw c.depths_end.ensures.0 at c.if-i-depths_end.true in
    let added = rw c.depth_width.ensures at (c.add_one_hots.ensures a.meters) in
    depth_row _ _ _ _ _ a.meters_high a.shallow c.requires _ (added inside)

pub returns-else-i-depths_end : goal.returns-else-i-depths_end
returns-else-i-depths_end c =
    let a = c.args.self.now in behind_row _ _ _ _ _ a.meters_high a.shallow c.requires (rw c.depths_end.ensures.0 at c.if-i-depths_end.false)
