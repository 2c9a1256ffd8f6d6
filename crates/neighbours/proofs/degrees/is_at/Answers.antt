use mathlib.Core.Path.{refl}
use borrow.Author.Tests.{eq-eqb, ne_eqb}
use Rattle.links.specs.Links.{is_at}
use Rattle.neighbours.proofs.degrees.is_at.Goals as goal

pub returns-then-link-meter : goal.returns-then-link-meter
unfolding is_at
returns-then-link-meter c = rw (eq-eqb _ _ c.if-link-meter.true) refl

pub returns-else-link-meter : goal.returns-else-link-meter
unfolding is_at
returns-else-link-meter c = rw (ne_eqb _ _ c.if-link-meter.false) refl
