use Rattle.tree.proofs.RowParts.{depths_ask, entries_ask, depth_part_added}
use Rattle.tree.proofs.rows.add_depth_part.Goals as goal

pub add_depths-requires : goal.add_depths-requires
add_depths-requires c =
    let a = c.args.arcs.now in
    depths_ask _ _ _ _ _ _ c.requires.row a.layout.meters_high a.layout.shallow _ c.add_root.ensures

pub add_entries-requires : goal.add_entries-requires
add_entries-requires c =
    let a = c.args.arcs.now in
    (c.requires.place, entries_ask _ _ _ _ _ _ c.requires.row a.layout.meters_high a.layout.shallow _ c.add_root.ensures _ c.add_depths.ensures)

pub returns : goal.returns
returns c =
    let a = c.args.arcs.now in
    depth_part_added _ _ _ _ _ _ c.requires.row a.layout.meters_high a.layout.shallow _ c.add_root.ensures _ c.add_depths.ensures _ _ c.add_entries.ensures
