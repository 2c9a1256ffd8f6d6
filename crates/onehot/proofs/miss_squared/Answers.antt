use Rattle.std.proofs.Common.{arith}
use Rattle.onehot.proofs.Turns.{miss_is}
use Rattle.onehot.proofs.miss_squared.Goals as goal

pub returns : goal.returns
returns c = miss_is c.args.k _ (omega arith) (omega arith)
