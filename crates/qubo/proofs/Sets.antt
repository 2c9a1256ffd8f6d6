-- What the search goes by in the functions of src/: for each that needs several laws a set of its name. Assumes nothing.
use mir.Facts.{to_z-of_z}
use Rattle.qubo.proofs.RowAction.{add_length, add_absent, plus_set}
use Rattle.qubo.proofs.RowTerms.{single_here, single_absent, pair_here, pair_below, pair_absent, product_empty}
use Rattle.qubo.proofs.RowShapes.{one_hot_row, difference_row, unequal_low, unequal_absent}
use Rattle.qubo.proofs.Turns.{fits_less, fits_twice, fits_less_twice, held_less, held_twice, held_less_twice, one_hot_factor, one_hot_second, difference_factor, difference_first, difference_second, difference_third, unequal_factor, unequal_pair_of}

-- ---- one number
pub ruleset add_at = (to_z-of_z, plus_set)

pub ruleset add_single = (single_here, single_absent, add_absent)

-- ---- pairs
pub ruleset add_to_own = (pair_here, pair_below)

pub ruleset add_pair = (pair_absent, add_absent)

pub ruleset add_own_unequal = (to_z-of_z, fits_twice, fits_less_twice, held_twice, held_less_twice, unequal_factor, unequal_pair_of, unequal_low, add_length)

pub ruleset add_unequal = (unequal_absent, add_absent)

-- ---- runs
pub ruleset add_run = (to_z-of_z, product_empty)

pub ruleset add_own_one_hot = (fits_less, fits_twice, held_less, held_twice, one_hot_factor, one_hot_second, one_hot_row)

pub ruleset add_own_difference = (to_z-of_z, fits_twice, fits_less_twice, held_twice, held_less_twice, difference_factor, difference_first, difference_second, difference_third, difference_row)
