use Rattle.tree.proofs.RowParts.{degrees_ask, count_part_added}
use Rattle.tree.proofs.rows.add_count_part.Goals as goal

pub add_degrees-requires : goal.add_degrees-requires
add_degrees-requires c =
    let n = c.args.neighbours.now in
    let k = c.counts.ensures in
    (c.requires.place, c.requires.low, degrees_ask _ _ _ _ _ _ _ c.requires.row n.arcs.layout.meters_high n.high _ (rw (k.layout, k.links, k.d) at c.add_counts.ensures))

pub returns : goal.returns
returns c =
    let n = c.args.neighbours.now in
    let k = c.counts.ensures in
    count_part_added _ _ _ _ _ _ _ c.requires.row n.arcs.layout.meters_high n.high _ (rw (k.layout, k.links, k.d) at c.add_counts.ensures) _ _ c.add_degrees.ensures
