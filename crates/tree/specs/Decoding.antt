-- Kind 3, tree: the parents that an assignment would code. Assumes nothing.
use Rattle.std.specs.Prelude.{ℕ, ◌*◌, List}
use Rattle.lists.specs.Sums.{sum_to, sum_of, same}
use Rattle.links.specs.declared.Link.{Link}
use Rattle.qubo.specs.Terms.{each}
use Rattle.spanning.specs.Parents.{deepest}
use Rattle.arcs.specs.Arcs.{Arc, arcs, arc_at}

-- the parents on the arcs set into meter v, added up: its parent, where just one is set
unfoldable pub parent_read : ℕ → List Arc → (Arc → ℕ → ℕ) → ℕ → ℕ
parent_read D ks arc v = sum_of ks (λ a. same a.child v * sum_to D (arc a) * a.parent)

-- the parents that bits would code: those read off the arcs, for any D
unfoldable pub candidate_to : ℕ → ℕ → List Link → List ℕ → List ℕ
candidate_to D N ls x = each N (parent_read D (arcs ls) (arc_at N D x))

-- with 01's D
abbrev pub candidate : ℕ → List Link → List ℕ → List ℕ
candidate N ls x = candidate_to (deepest N) N ls x
