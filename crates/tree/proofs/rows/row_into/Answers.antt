use Rattle.arcs.proofs.Graph.{graph}
use Rattle.tree.proofs.RowParts.{depths_ready, counts_ready, arcs_ready, row_done}
use Rattle.tree.proofs.rows.row_into.Goals as goal

pub add_depth_part-requires-clause-row : goal.add_depth_part-requires-clause-row
add_depth_part-requires-clause-row c =
    let n = c.args.neighbours.now in
    let p = c.requires in
    depths_ready _ _ _ _ _ _ (graph n.arcs) n.high n.arcs.layout.shallow p.1 _ p.2 p.3 _ c.clear.ensures

pub add_count_part-requires-clause-row : goal.add_count_part-requires-clause-row
add_count_part-requires-clause-row c =
    let n = c.args.neighbours.now in
    let p = c.requires in
    counts_ready _ _ _ _ _ _ (graph n.arcs) n.high n.arcs.layout.shallow p.1 _ p.2 p.3 _ c.clear.ensures _ c.add_depth_part.ensures

pub add_arc_part-requires-clause-row : goal.add_arc_part-requires-clause-row
add_arc_part-requires-clause-row c =
    let n = c.args.neighbours.now in
    let p = c.requires in
    arcs_ready _ _ _ _ _ _ (graph n.arcs) n.high n.arcs.layout.shallow p.1 _ p.2 p.3 _ c.clear.ensures _ c.add_depth_part.ensures _ c.add_count_part.ensures

pub returns : goal.returns
returns c =
    let n = c.args.neighbours.now in
    let p = c.requires in
    row_done _ _ _ _ _ _ (graph n.arcs) n.high n.arcs.layout.shallow p.1 _ p.2 p.3 _ c.clear.ensures _ c.add_depth_part.ensures _ c.add_count_part.ensures _ c.add_arc_part.ensures
