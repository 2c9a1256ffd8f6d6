use Rattle.std.proofs.Common.{ap, sym, ◌∙◌, take, drop, ◌+◌, ◌-◌}
use Rattle.std.proofs.lemmas.Iterator.{YieldsList-from_slice}
use Rattle.std.proofs.lemmas.Iterator.Consumers.{YieldsList-from_copied, reduce_from_yields_List}
use Rattle.std.proofs.lemmas.List.Folds.{max_of_map}
use Rattle.std.specs.Ordering.{nat_cmp, max_by_ordering}
use Rattle.std.specs.List.{reduce}
use Rattle.std.specs.Option.{unwrap_or}
use Rattle.std.proofs.lemmas.List.{map-id}
use Rattle.channels.proofs.Gathering.{top_is}
use Rattle.channels.proofs.loads.greatest_load.Goals as goal

pub returns : goal.returns
returns c =
    let xs = take (c.args.meters + 1 - 1) (drop 1 c.args.sums.now) in
    let e = reduce_from_yields_List (λ p z. max_by_ordering (nat_cmp p z) p z) _ _ c.max.ensures.ran (YieldsList-from_copied (YieldsList-from_slice xs (ap (λ i. i.rest.now) c.copied.ensures.source ∙ c.iter.ensures.rest))) in
    c.unwrap_or.ensures ∙ ap (λ o. unwrap_or o 0) (e ∙ ap (λ ys. reduce (λ p z. max_by_ordering (nat_cmp p z) p z) ys) (sym (map-id xs))) ∙ max_of_map (λ x. x) xs ∙ top_is c.args.sums.now c.args.meters c.requires
