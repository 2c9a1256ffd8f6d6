use Prim.Native.Nat.{ℕ, ◌+◌}
use mathlib.Core.Path.{refl, ap₂}
use Rattle.std.proofs.Common.{length, get_or, set, length-append, arith}
use Rattle.std.proofs.lemmas.Slice.Zip.{zip_turn, zip_end}
use Rattle.lists.proofs.Stores.{zero_entries}
use Rattle.links.specs.Links.{nothing}
use Rattle.links.specs.declared.Link.{Link}
use Rattle.arcs.proofs.Graph.{graph}
use Rattle.neighbours.proofs.DegreeSums.{gather_start, gather_turn, gather_end, gather_low}
use Rattle.neighbours.proofs.degrees.gather_touches.Goals as goal

pub loop-link-init : goal.loop-link-init
loop-link-init c =
    gather_start c.args.used.now c.args.arcs.now.links.now _ refl (zero_entries 256)

pub loop-link-preserved : goal.loop-link-preserved
loop-link-preserved c =
    let l = c.loop-link in
    let t = zip_turn c.args.arcs.now.links.now c.args.used.now l.yielded c.into_iter-link-iterator.result l.link-iterator c.next.new.self c.next.result (cc) (cc) l.yielded_by _ c.in-Some.is c.next.ensures.steps in
    let first = set l.sums c.in-Some.link.now.u (get_or l.sums c.in-Some.link.now.u 0 + c.in-Some.n.now) in
    rw length-append
    (gather_turn _ _ _ (graph c.args.arcs.now) c.requires.1 (length l.yielded) t.0 _ l.invariant _
    (ap₂ (λ (k : Link) (n : ℕ). set l.sums k.u (get_or l.sums k.u 0 + n)) (t.2 nothing) (t.3 0)) _
    (ap₂ (λ (k : Link) (n : ℕ). set first k.v (get_or first k.v 0 + n)) (t.2 nothing) (t.3 0)))

pub returns : goal.returns
returns c =
    let l = c.loop-link in
    let ended = zip_end c.args.arcs.now.links.now c.args.used.now l.yielded c.into_iter-link-iterator.result l.link-iterator c.next.new.self c.next.result (cc) (cc) l.yielded_by c.in-None.is c.next.ensures.steps in
    (l.invariant.size, gather_end _ _ _ _ l.invariant (omega (arith, ended, c.requires.0)), gather_low _ _ _ _ l.invariant c.args.arcs.now.few)
