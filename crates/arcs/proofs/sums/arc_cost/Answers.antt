use Rattle.std.proofs.Common.{length, get_or, length-append, arith, ap}
use Rattle.std.proofs.lemmas.Slice.Zip.{zip_turn, zip_end}
use Rattle.links.specs.Links.{nothing, link_in}
use Rattle.links.specs.declared.Link.{Link}
use Rattle.arcs.proofs.Summing.{cost_start, cost_turn, cost_ends, cost_small}
use Rattle.arcs.proofs.sums.arc_cost.Goals as goal

pub loop-link-init : goal.loop-link-init
loop-link-init c = (cost_start c.args.used.now c.args.links.now, omega arith, omega arith)

pub loop-link-preserved : goal.loop-link-preserved
loop-link-preserved c =
    let links = c.args.links.now in
    let l = c.loop-link in
    let t = zip_turn links c.args.used.now l.yielded c.into_iter-link-iterator.result l.link-iterator c.next.new.self c.next.result (cc) (cc) l.yielded_by _ c.in-Some.is c.next.ensures.steps in
    let small = cost_small (link_in links (length l.yielded)).weight (get_or c.args.used.now (length l.yielded) 0) (omega (arith, ap (λ (x : Link). x.weight) (t.2 nothing))) (c.requires.2 (length l.yielded) t.0) in
    rw (length-append, t.2 nothing, t.3 0) (cost_turn c.args.used.now links (length l.yielded) l.sum l.invariant.0 t.0, omega (arith, small, l.invariant.1), omega (arith, t.0))

pub returns : goal.returns
returns c =
    let l = c.loop-link in
    let ended = zip_end c.args.links.now c.args.used.now l.yielded c.into_iter-link-iterator.result l.link-iterator c.next.new.self c.next.result (cc) (cc) l.yielded_by c.in-None.is c.next.ensures.steps in
    (cost_ends c.args.used.now c.args.links.now (length l.yielded) l.sum l.invariant.0 (omega (arith, ended, c.requires.1)), omega (arith, l.invariant, c.requires.0))
