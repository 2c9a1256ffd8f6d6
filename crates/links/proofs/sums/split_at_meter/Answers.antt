use Rattle.std.proofs.Common.{◌≡◌, ltb, true, false, ltb-false, le-leb, arith, rules, of_calls}
use Rattle.std.proofs.lemmas.List.Sorted.{IsPartitionedBy-ltb, IsPartitionPoint-from_clause}
use Rattle.links.proofs.Halving.{all_front, all_rest}
use Rattle.links.specs.declared.Link.{Link}
use Rattle.links.proofs.sums.split_at_meter.Goals as goal
use Rattle.std.specs.List.Sorted.{IsPartitionPoint}

point : (c : goal.After-split_at) → IsPartitionPoint (λ (l : Link). ltb l.u c.args.m ≡ true) (λ (l : Link). ltb l.u c.args.m ≡ false) c.args.links.now c.partition_point-first.result
point c =
    IsPartitionPoint-from_clause (λ (l : Link). ltb l.u c.args.m) c.args.links.now c.partition_point-first.result c.partition_point-first.ensures.partitioned
    (IsPartitionedBy-ltb (λ (l : Link). l.u) c.args.links.now c.args.m c.requires) (λ a r q k. search (rules, of_calls))

pub returns-clause-below : goal.returns-clause-below
returns-clause-below c =
    rw c.split_at.ensures.front (all_front _ c.args.links.now _ (λ k d a b. (point c).0 k d (omega arith) a))

pub returns-clause-above : goal.returns-clause-above
returns-clause-above c =
    rw c.split_at.ensures.back (all_rest _ c.args.links.now _ (λ k d a b. le-leb _ _ (ltb-false _ _ ((point c).1 k d a b))))
