use Prim.Native.Nat.{◌+◌, ◌*◌}
use mathlib.Core.Path.{sym, ◌∙◌}
use native.Mathlib.Omega.{arith}
use mir.Syntax.{w64}
use mir.Facts.{to_z_pos}
use Rattle.tree.proofs.Answering.{constant_small}
use Rattle.tree.proofs.Value.{constant_is}
use Rattle.tree.proofs.problem.Tree.constant_of.Goals as goal

pub returns : goal.returns
returns c = λ d ls.
    to_z_pos w64 {n = c.args.penalty * (1 + 2 * c.args.meters)} (omega (arith, constant_small _ _ c.requires.0 c.requires.1)) ∙ sym (constant_is c.args.penalty c.args.meters d ls)
