use Rattle.std.proofs.Common.{refl, ◌≡◌, arith, ◌+◌, ◌-◌}
use Rattle.site.specs.Edits.{chained}
use Rattle.site.proofs.Turns.{chained_turn}
use Rattle.site.proofs.edits.chain_records.Goals as goal

pub loop-number-init : goal.loop-number-init
unfolding chained
loop-number-init c = refl

pub loop-number-preserved : goal.loop-number-preserved
loop-number-preserved c =
    let k : c.loop-number.number + 1 - 1 ≡ c.loop-number.number = omega arith in
    rw k (chained_turn _ _ _ _ (omega arith) c.slot_of.ensures.0 (rw (← c.loop-number.invariant) c.put_word.ensures))
