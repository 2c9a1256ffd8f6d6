use Rattle.std.proofs.Common.{◌∙◌, arith}
use Rattle.std.proofs.lemmas.Iterator.{YieldsList-from_slice}
use Rattle.std.proofs.lemmas.Iterator.Consumers.{sum_from_yields_List, fits_from_yields_list}
use Rattle.onehot.proofs.Adding.{sum_part, sum_short}
use Rattle.onehot.proofs.set_count.Goals as goal

pub sum-sum-requires-clause-fits : goal.sum-sum-requires-clause-fits
sum-sum-requires-clause-fits c =
    fits_from_yields_list c.iter.result _ (YieldsList-from_slice c.args.part.now c.iter.ensures.rest) (omega (arith, sum_short c.args.part.now c.requires.0, c.requires.1))

pub returns : goal.returns
returns c = sum_from_yields_List c.iter.result _ c.sum-sum.ensures.ran (YieldsList-from_slice c.args.part.now c.iter.ensures.rest) ∙ sum_part c.args.part.now
