use Rattle.arcs.proofs.Graph.{graph}
use Rattle.tree.proofs.RowParts.{weights_ask, arc_part_added}
use Rattle.tree.proofs.rows.add_arc_part.Goals as goal

pub add_weights-requires : goal.add_weights-requires
add_weights-requires c =
    let a = c.args.arcs.now in
    let r = weights_ask _ _ _ _ _ _ c.requires.row _ _ c.add_ends.ensures (graph a) a.layout.shallow in
    (r.own, r.small, c.requires.place.1)

pub returns : goal.returns
returns c = arc_part_added _ _ _ _ _ _ c.requires.row _ _ c.add_ends.ensures _ (c.add_weights.ensures _ _ _ c.requires.place.0)
