use native.Mathlib.Omega.{arith}
use Rattle.onehot.proofs.Ends.{bits_few}
use Rattle.onehot.proofs.Rows.{hots_ready}
use Rattle.groups.proofs.Asking.{lent}
use Rattle.groups.proofs.RowParts.{sizes_ready, cuts_ready, row_done}
use Rattle.groups.proofs.problem.GroupsProblem.row_into.Goals as goal

pub add_one_hots-requires : goal.add_one_hots-requires
add_one_hots-requires c =
    let g = lent c.args.self.now in
    let p = c.requires in
    let h = hots_ready _ _ _ _ _ g c.args.self.now.small _ p.1 _ c.clear.ensures in
    (_, g.low, p.0, h.0, omega (arith, bits_few _ _ _ g), h.1)

pub add_sizes-requires : goal.add_sizes-requires
add_sizes-requires c =
    let p = c.requires in
    let h = sizes_ready _ _ _ _ _ (lent c.args.self.now) c.args.self.now.small _ p.1 _ c.clear.ensures _ (c.add_one_hots.ensures _ p.0) in
    (p.0, h.0, h.1)

pub add_cuts-requires : goal.add_cuts-requires
add_cuts-requires c =
    let p = c.requires in
    let h = cuts_ready _ _ _ _ _ (lent c.args.self.now) c.args.self.now.small _ p.1 _ c.clear.ensures _ (c.add_one_hots.ensures _ p.0) _ c.add_sizes.ensures in
    record { by_index = (p.0, h.0); room = h.1 }

pub returns : goal.returns
returns c =
    let p = c.requires in
    row_done _ _ _ _ _ (lent c.args.self.now) c.args.self.now.small _ p.1 _ c.clear.ensures _ (c.add_one_hots.ensures _ p.0) _ c.add_sizes.ensures _ c.add_cuts.ensures
