use Rattle.tree.proofs.Placing.{placed_part}
use Rattle.tree.proofs.codes.encode_part.Goals as goal

pub returns : goal.returns
returns c = let s = c.args in placed_part s.start s.n s.choices.now s.bits.now _ c.encode.ensures
