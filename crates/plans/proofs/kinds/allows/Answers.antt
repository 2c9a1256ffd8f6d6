use Rattle.plans.specs.Kinds.{limits_hold}
use Rattle.plans.proofs.kinds.allows.Goals as goal

pub returns-in-Channels : goal.returns-in-Channels
unfolding limits_hold
returns-in-Channels c = rw c.in-Channels.is c.allows.ensures

pub returns-in-Groups : goal.returns-in-Groups
unfolding limits_hold
returns-in-Groups c = rw c.in-Groups.is c.allows-in-Groups.ensures

pub returns-in-Tree : goal.returns-in-Tree
unfolding limits_hold
returns-in-Tree c = rw c.in-Tree.is c.allows-in-Tree.ensures
