use Rattle.arcs.proofs.ArcLists.{arcs_left}
use Rattle.tree.proofs.ReadParents.{ReadTo}
use Rattle.tree.proofs.codes.read_parents.Given as goal

abbrev pub invariant-loop-k : goal.invariant-loop-k
invariant-loop-k l = ReadTo l.arcs.layout.meters l.arcs.layout.deepest l.link-items l.bits (arcs_left l.link-items l.k) l.plan
