use Rattle.tree.proofs.PlanTest.{used_first, used_second}
use Rattle.tree.proofs.plans.is_used.Goals as goal

pub returns-then-is_parent : goal.returns-then-is_parent
returns-then-is_parent c = used_first _ _ _ c.is_parent.ensures c.if-is_parent.true

pub returns-else-is_parent : goal.returns-else-is_parent
returns-else-is_parent c = used_second _ _ _ _ c.is_parent.ensures c.if-is_parent.false c.is_parent-else-is_parent.ensures
