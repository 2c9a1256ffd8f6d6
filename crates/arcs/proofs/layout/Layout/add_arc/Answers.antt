use Rattle.arcs.proofs.ArcWalk.{at_no}
use Rattle.arcs.proofs.layout.Layout.add_arc.Goals as goal

pub returns-else-end-meter : goal.returns-else-end-meter
returns-else-end-meter c = at_no _ _ _ _ _ c.if-end-meter.false _
