use Rattle.neighbours.proofs.DegreeParts.{numbered_start, number_ready, numbered_turn}
use Rattle.neighbours.proofs.degrees.add_numbered.Goals as goal

pub loop-t-init : goal.loop-t-init
loop-t-init c = numbered_start c.args.start c.args.d c.requires

pub add_pair-requires : goal.add_pair-requires
add_pair-requires c = number_ready c.args.start c.args.d c.requires c.loop-t.invariant c.loop-t-test.true

pub loop-t-preserved : goal.loop-t-preserved
loop-t-preserved c = numbered_turn c.args.start c.args.d c.requires c.loop-t.invariant c.loop-t-test.true c.add_pair.ensures
