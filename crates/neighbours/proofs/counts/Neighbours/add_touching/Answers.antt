use Rattle.std.proofs.Common.{◌+◌, ◌<◌, length, arith, refl}
use Rattle.lists.proofs.Rest.{rest_length, rest_at}
use Rattle.links.specs.Links.{nothing}
use Rattle.neighbours.proofs.DegreeParts.{touched_start, touched_ready, touched_turn, touched_end}
use Rattle.neighbours.proofs.counts.Neighbours.add_touching.Goals as goal

pub loop-k-init : goal.loop-k-init
loop-k-init c = touched_start c.args.self.now c.args.meter c.requires

pub add_link-requires : goal.add_link-requires
add_link-requires c =
    let l = c.loop-k in
    let n = c.args.self.now in
    let ls = n.arcs.links.now in
    let inside : c.args.from + l.k < length ls = omega (arith, c.loop-k-test.true, rest_length ls c.args.from c.requires.2) in
    touched_ready n c.args.meter c.requires l.k l.invariant (refl, inside, rest_at ls c.args.from c.requires.2 nothing l.k c.loop-k-test.true)

pub loop-k-preserved : goal.loop-k-preserved
loop-k-preserved c =
    let l = c.loop-k in
    let n = c.args.self.now in
    let ls = n.arcs.links.now in
    let inside : c.args.from + l.k < length ls = omega (arith, c.loop-k-test.true, rest_length ls c.args.from c.requires.2) in
    touched_turn n c.args.meter c.requires l.k l.invariant (refl, inside, rest_at ls c.args.from c.requires.2 nothing l.k c.loop-k-test.true) c.add_link.ensures

pub returns : goal.returns
returns c =
    let l = c.loop-k in
    let n = c.args.self.now in
    touched_end n c.args.meter c.requires l.k l.invariant (omega (arith, c.loop-k-test.false, rest_length n.arcs.links.now c.args.from c.requires.2))
