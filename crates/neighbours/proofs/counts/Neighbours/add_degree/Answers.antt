use Rattle.neighbours.proofs.DegreeTerm.{degree_of, single_ready, numbered_ready, touching_ready, degree_done}
use Rattle.neighbours.proofs.counts.Neighbours.add_degree.Goals as goal

pub add_single-requires : goal.add_single-requires
add_single-requires c =
    single_ready (degree_of c.args.self.now c.counts.result c.counts.ensures c.args.c c.requires.bounds c.own_of-own.ensures c.twice_of-twice.ensures c.count_start-start.ensures.0)

pub add_numbered-requires : goal.add_numbered-requires
add_numbered-requires c =
    let t = degree_of c.args.self.now c.counts.result c.counts.ensures c.args.c c.requires.bounds c.own_of-own.ensures c.twice_of-twice.ensures c.count_start-start.ensures.0 in
    numbered_ready t c.add_single.ensures

pub add_touching-requires : goal.add_touching-requires
add_touching-requires c =
    let t = degree_of c.args.self.now c.counts.result c.counts.ensures c.args.c c.requires.bounds c.own_of-own.ensures c.twice_of-twice.ensures c.count_start-start.ensures.0 in
    touching_ready t c.add_single.ensures c.add_numbered.ensures c.requires.from_in_bounds

pub returns : goal.returns
returns c =
    let t = degree_of c.args.self.now c.counts.result c.counts.ensures c.args.c c.requires.bounds c.own_of-own.ensures c.twice_of-twice.ensures c.count_start-start.ensures.0 in
    degree_done t c.add_single.ensures c.add_numbered.ensures c.requires.i_value c.add_touching.ensures
