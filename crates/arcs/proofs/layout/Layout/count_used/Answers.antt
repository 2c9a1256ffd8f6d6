use native.Mathlib.Omega.{arith}
use Rattle.arcs.proofs.LinkBits.{counted_start}
use Rattle.arcs.proofs.layout.Layout.count_used.Goals as goal

pub loop-k-init : goal.loop-k-init
loop-k-init c = counted_start _ _ _ _ (omega arith)
