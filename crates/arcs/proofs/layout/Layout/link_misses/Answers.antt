use mathlib.Core.List.{[]}
use native.Mathlib.Omega.{arith}
use Rattle.arcs.proofs.Summing.{misses_none}
use Rattle.arcs.proofs.layout.Layout.link_misses.Goals as goal

pub returns-then-n-eq0 : goal.returns-then-n-eq0
returns-then-n-eq0 c =
    let a = c.args.self.now in
    (misses_none a.meters a.deepest c.args.bits.now [] c.args.k c.args.n c.requires.7 c.if-n-eq0.true c.args.link.u c.args.link.v, omega arith)
