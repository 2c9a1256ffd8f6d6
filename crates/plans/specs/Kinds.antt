-- What document 01 says of each kind, by cases of the kind: its limits, its penalty, and its instance. Each case is the definition in that kind's own crate. Assumes nothing.
use Rattle.std.specs.Prelude.{ℕ, ◌+◌, Bool, cond, List, eqb}
use Rattle.links.specs.declared.Link.{Link}
use Rattle.qubo.specs.Instance.{Instance}
use Rattle.channels.specs.Formula as channels
use Rattle.channels.specs.Instance as channels-instance
use Rattle.groups.specs.Formula as groups
use Rattle.groups.specs.Instance as groups-instance
use Rattle.tree.specs.Formula as tree
use Rattle.tree.specs.Instance as tree-instance
use Rattle.plans.specs.declared.Ask.{Ask}
use Rattle.plans.specs.declared.Kind.{Kind}
use Rattle.plans.specs.declared.Kind.TheVariants.{Channels, Groups, Tree}

-- what a kind is asked about: so many meters, with these links
pub record Site : Type 0 where
  pub meters : ℕ
  pub links : List Link

-- "Kind 1, channels, carries n", "kind 2, groups, carries m", "kind 3, tree, carries a neighbour limit d": the kind that is asked for. Any other number is refused by 7
unfoldable pub kind_of : Ask → Kind
kind_of a = cond (eqb a.kind 1) (Channels a.parameter) (cond (eqb a.kind 2) (Groups a.parameter) (Tree a.parameter))

-- "Each kind's limits .. belong to that kind"
unfoldable pub limits_hold : ℕ → Kind → Bool
limits_hold N (Channels n) = channels.within_limits n
limits_hold N (Groups m) = groups.within_limits m
limits_hold N (Tree d) = tree.within_limits N d

-- 01's A
unfoldable pub penalty_of : Site → Kind → ℕ
penalty_of s (Channels n) = channels.penalty s.meters s.links
penalty_of s (Groups m) = groups.penalty s.links
penalty_of s (Tree d) = tree.penalty s.links

-- what its own crate defines: bit count, energy, plans, codes and decoding, for any A
unfoldable pub instance_by : ℕ → Site → Kind → Instance
instance_by A s (Channels n) = channels-instance.instance A s.meters n s.links
instance_by A s (Groups m) = groups-instance.instance A s.meters m s.links
instance_by A s (Tree d) = tree-instance.instance A s.meters d s.links

-- ---- of what is asked

-- A: "a margin .. that is added to A in all kinds" (02, S-7)
unfoldable pub penalty_asked : Site → Ask → ℕ
penalty_asked s a = penalty_of s (kind_of a) + a.margin

-- the instance
unfoldable pub instance_of : Site → Ask → Instance
instance_of s a = instance_by (penalty_asked s a) s (kind_of a)
