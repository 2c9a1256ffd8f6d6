use Rattle.std.proofs.Common.{◌≡◌, ◌-◌}
use Rattle.site.specs.Edits.{chained}
use Rattle.site.proofs.edits.chain_records.Given as goal

abbrev pub invariant-loop-number : goal.invariant-loop-number
invariant-loop-number l = l.image ≡ chained (l.number - 1) l.initial.image
