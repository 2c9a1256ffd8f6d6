use Rattle.std.proofs.Common.{ℕ, ◌<◌, ◌≡◌, ap, ◌∙◌, List, length, get_or, take, drop, arith}
use Rattle.std.proofs.lemmas.List.{length-take, length-drop, get_or-take}
use Rattle.lists.proofs.Walks.{summed_turn, summed_end}
use Rattle.links.specs.Links.{total, nothing}
use Rattle.links.specs.declared.Link.{Link}
use Rattle.links.proofs.sums.total_weight.Goals as goal

-- Of a part of the links, cut out by a range, `length-take` and `length-drop` say how long it is, and this what stands in it, if it begins with the first.
-- With these the proof asks of the loop only that it walks every link.
weight_in_part : (ls : List Link) (n m i : ℕ) → m ≡ 0 → i < n → (get_or (take n (drop m ls)) i nothing).weight ≡ (get_or ls i nothing).weight
weight_in_part ls n m i e h = ap (λ (l : Link). l.weight) (get_or-take n (drop m ls) i nothing h ∙ ap (λ (k : ℕ). get_or (drop k ls) i nothing) e)

pub loop-link-preserved : goal.loop-link-preserved
loop-link-preserved c =
    let l = c.loop-link in
    let inside : l.link-index < length c.args.links.now = omega (arith, length-take {A = Link}, length-drop {A = Link}) in
    (summed_turn (λ x. x.weight) _ nothing l.link-index l.sum l.invariant.0 inside _ (omega (arith, length-take {A = Link}, length-drop {A = Link}, weight_in_part)), omega (arith, l.invariant.1))

pub returns-clause-value : goal.returns-clause-value
unfolding total
returns-clause-value c =
    let l = c.loop-link in
    summed_end (λ x. x.weight) _ l.link-index l.sum l.invariant.0 (omega (arith, length-take {A = Link}, length-drop {A = Link}))
