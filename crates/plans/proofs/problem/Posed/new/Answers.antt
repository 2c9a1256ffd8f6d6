use Rattle.std.proofs.Common.{arith}
use Rattle.plans.specs.Kinds.{penalty_of, instance_by}
use Rattle.plans.proofs.ByKind.{channels_made, groups_made, tree_made}
use Rattle.plans.proofs.problem.Posed.new.Goals as goal

pub overflow_add-penalty : goal.overflow_add-penalty
overflow_add-penalty c = record { fits = omega (arith, channels_made c.args.survey c.args.kind c.args.margin c.requires _ _ c.in-Channels.is c.own_penalty.ensures) }

pub invariant_of-result : goal.invariant_of-result
invariant_of-result c = let m = channels_made c.args.survey c.args.kind c.args.margin c.requires _ _ c.in-Channels.is c.own_penalty.ensures in record { low = m.0; high = m.1; small = m.2 }

pub overflow_add-penalty-in-Groups : goal.overflow_add-penalty-in-Groups
overflow_add-penalty-in-Groups c = record { fits = omega (arith, groups_made c.args.survey c.args.kind c.args.margin c.requires _ _ c.in-Groups.is c.own_penalty-in-Groups.ensures.value) }

pub invariant_of-result-in-Groups : goal.invariant_of-result-in-Groups
invariant_of-result-in-Groups c = let m = groups_made c.args.survey c.args.kind c.args.margin c.requires _ _ c.in-Groups.is c.own_penalty-in-Groups.ensures.value in record { low = m.0; high = m.1; small = m.2 }

pub overflow_add-penalty-in-Tree : goal.overflow_add-penalty-in-Tree
overflow_add-penalty-in-Tree c = record { fits = omega (arith, tree_made c.args.survey c.args.kind c.args.margin c.requires _ _ c.in-Tree.is c.own_penalty-in-Tree.ensures.value) }

pub invariant_of-result-in-Tree : goal.invariant_of-result-in-Tree
invariant_of-result-in-Tree c = let m = tree_made c.args.survey c.args.kind c.args.margin c.requires _ _ c.in-Tree.is c.own_penalty-in-Tree.ensures.value in record { meters = m.0; low = m.1; high = m.2; small = m.3 }

pub returns-in-Channels : goal.returns-in-Channels
unfolding penalty_of instance_by
returns-in-Channels c = rw (c.in-Channels.is, c.own_penalty.ensures)

pub returns-in-Groups : goal.returns-in-Groups
unfolding penalty_of instance_by
returns-in-Groups c = rw (c.in-Groups.is, c.own_penalty-in-Groups.ensures.value)

pub returns-in-Tree : goal.returns-in-Tree
unfolding penalty_of instance_by
returns-in-Tree c = rw (c.in-Tree.is, c.own_penalty-in-Tree.ensures.value)
