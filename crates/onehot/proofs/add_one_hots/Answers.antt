use mathlib.Core.Path.{sym, ◌∙◌}
use native.Mathlib.Omega.{arith}
use native.Mathlib.Nat.{mod-le}
use mir.Syntax.{w64}
use mir.Facts.{to_z_pos}
use Rattle.onehot.proofs.Rows.{own_added, own_room, own_small, own_below}
use Rattle.onehot.proofs.add_one_hots.Goals as goal

pub overflow_sub-first : goal.overflow_sub-first
overflow_sub-first c = mod-le c.args.i c.args.n

pub overflow_cast-penalty : goal.overflow_cast-penalty
overflow_cast-penalty c =
    let a = c.args in
    let p = c.requires in
    omega (arith, own_small a.penalty p.0 a.n a.i a.row.now p.1 p.2 p.5)

pub add_one_hot-requires : goal.add_one_hot-requires
add_one_hot-requires c =
    let p = c.requires in
    let a = c.args in (
      own_below a.penalty p.0 a.n a.i a.row.now p.1 p.2 p.3 p.4,
      rw (to_z_pos w64 {n = a.penalty} (omega (arith, own_small a.penalty p.0 a.n a.i a.row.now p.1 p.2 p.5)))
          (own_room a.penalty p.0 a.n a.i a.row.now p.1 p.2 _ p.5),
    )

pub returns : goal.returns
returns c =
    let a = c.args in
    let p = c.requires in
    λ N h. c.add_one_hot.ensures ∙ rw (to_z_pos w64 {n = a.penalty} (omega (arith, own_small a.penalty p.0 a.n a.i a.row.now p.1 p.2 p.5))) (sym (own_added a.penalty N a.n a.i a.row.now p.1 h))
