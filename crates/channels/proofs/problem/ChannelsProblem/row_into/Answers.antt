use Rattle.std.proofs.Common.{arith}
use Rattle.onehot.proofs.Ends.{bits_few}
use Rattle.onehot.proofs.Rows.{hots_ready}
use Rattle.channels.proofs.Asking.{lent}
use Rattle.channels.proofs.ClashRows.{clashes_ready, row_done}
use Rattle.channels.proofs.problem.ChannelsProblem.row_into.Goals as goal

pub add_one_hots-requires : goal.add_one_hots-requires
add_one_hots-requires c =
    let s = c.args.self.now in
    let h = hots_ready _ _ _ _ _ (lent s) s.small _ c.requires.1 _ c.clear.ensures in
    (_, s.low, c.requires.0, h.0, omega (arith, bits_few _ _ _ (lent s)), h.1)

pub add_clashes-requires-clause-room : goal.add_clashes-requires-clause-room
add_clashes-requires-clause-room c =
    let s = c.args.self.now in
    (clashes_ready _ _ _ _ _ (lent s) s.small _ c.requires.1 _ c.clear.ensures _ (c.add_one_hots.ensures _ c.requires.0)).1

pub returns : goal.returns
returns c =
    let s = c.args.self.now in
    row_done _ _ _ _ _ (lent s) s.small _ c.requires.1 _ c.clear.ensures _ (c.add_one_hots.ensures _ c.requires.0) _ c.add_clashes.ensures
