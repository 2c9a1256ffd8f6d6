use Rattle.std.proofs.Common.{◌≡◌, ◌-◌}
use Rattle.site.specs.Layout.{first_free}
use Rattle.site.specs.Inner.{walk_free}
use Rattle.site.proofs.rules.frees_ok.Given as goal

abbrev pub invariant-loop : goal.invariant-loop
invariant-loop l = walk_free l.image l.count (first_free l.image) ≡ walk_free l.image (l.count - l.counter) l.number
