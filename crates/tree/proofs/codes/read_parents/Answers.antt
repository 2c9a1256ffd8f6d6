use mathlib.Core.Path.{◌∙◌}
use native.Mathlib.Omega.{arith}
use Rattle.links.proofs.Graph.{edge_at}
use Rattle.arcs.proofs.Graph.{graph}
use Rattle.tree.proofs.ReadParents.{read_start, read_end, entries_small, link_asks, link_count, link_small, link_turn}
use Rattle.tree.proofs.codes.read_parents.Goals as goal

pub loop-k-init : goal.loop-k-init
loop-k-init c =
    let a = c.args.arcs.now in
    read_start _ _ _ _ (graph a) a.layout.shallow c.requires.0 _ (c.clear_bits.ensures.0 ∙ c.requires.1) c.clear_bits.ensures.1

pub read_link-requires-clause-bits : goal.read_link-requires-clause-bits
read_link-requires-clause-bits c =
    let a = c.args.arcs.now in
    let l = c.loop-k in
    let b = link_asks _ _ _ _ (graph a) a.layout.shallow c.requires.0 l.k c.loop-k-test.true _ l.invariant in
    rw c.arc_start.ensures.0 (b.0, b.1, b.2, b.3, b.4, link_count _ _ _ _ (graph a) a.layout.shallow c.requires.0 l.k c.loop-k-test.true _ (c.requires.2.each l.k c.loop-k-test.true))

pub read_link-requires-clause-ends : goal.read_link-requires-clause-ends
read_link-requires-clause-ends c =
    let a = c.args.arcs.now in
    let l = c.loop-k in
    let o = edge_at a.layout.meters a.links.now a.each l.k c.loop-k-test.true in
    let i = l.invariant in
    rw c.arc_start.ensures.0 (o.u_low, o.ordered, omega (arith, o.v_high, a.layout.meters_high), omega (arith, o.v_high, i.size), entries_small _ _ _ _ (graph a) a.layout.shallow c.requires.0 _ _ i, link_small _ _ _ _ (graph a) a.layout.shallow c.requires.0 l.k c.loop-k-test.true _ i)

pub loop-k-preserved : goal.loop-k-preserved
loop-k-preserved c =
    let a = c.args.arcs.now in
    let l = c.loop-k in
    link_turn _ _ _ _ (graph a) a.layout.shallow c.requires.0 l.k c.loop-k-test.true _ l.invariant _ (rw c.arc_start.ensures.0 at c.read_link.ensures)

pub returns : goal.returns
returns c =
    let a = c.args.arcs.now in
    read_end _ _ _ _ (graph a) a.layout.shallow c.requires.0 c.loop-k.k _ (omega arith) c.loop-k.invariant
