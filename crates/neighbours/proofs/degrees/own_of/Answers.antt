use Rattle.neighbours.proofs.DegreeTerm.{square_fits, less_fits, own_word}
use Rattle.neighbours.proofs.degrees.own_of.Goals as goal

pub overflow_mul-result-2 : goal.overflow_mul-result-2
overflow_mul-result-2 c = square_fits c.args.penalty c.args.c c.requires

pub overflow_sub-result : goal.overflow_sub-result
overflow_sub-result c = less_fits c.args.penalty c.args.c c.requires

pub returns : goal.returns
returns c = own_word c.args.penalty c.args.c c.requires
