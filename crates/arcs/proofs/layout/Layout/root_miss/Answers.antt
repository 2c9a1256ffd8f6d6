use Rattle.arcs.proofs.Summing.{root_miss_is}
use Rattle.arcs.proofs.layout.Layout.root_miss.Goals as goal

pub returns : goal.returns
returns c =
    let a = c.args.self.now in
    (root_miss_is a.meters a.deepest c.args.bits.now c.root_count.result c.miss_squared.result c.root_count.ensures.0 c.miss_squared.ensures.0, c.miss_squared.ensures.1)
