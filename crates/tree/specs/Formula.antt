-- Kind 3, tree, in document 01's order: limits and bit count, the penalty A, and the energy as a formula over bits. Bits and terms of depths and arcs are in crate `arcs`, those of neighbour counts in `neighbours`. Assumes nothing.
use Rattle.std.specs.Prelude.{ℕ, ◌+◌, ◌*◌, Bool, ◌&&◌, List, [], ◌∷◌, ◌++◌, leb, length}
use Rattle.links.specs.Links.{total}
use Rattle.links.specs.declared.Link.{Link}
use Rattle.qubo.specs.Formula.{Formula}
use Rattle.onehot.specs.Choices.{misses}
use Rattle.spanning.specs.Parents.{deepest}
use Rattle.arcs.specs.Arcs.{Arc, arcs, arcs_end, depth_at, arc_at}
use Rattle.arcs.specs.Formula.{root_term, depth_terms, entry_terms, end_terms, weight_terms}
use Rattle.arcs.specs.Sums.{root_miss, depth_misses, entry_gaps, end_misses}
use Rattle.neighbours.specs.Formula.{count_at, count_terms, degree_terms, degree_gaps}

-- "kind 3, tree, carries a neighbour limit d from 1 to 47 and needs N ≥ 2"
unfoldable pub within_limits : ℕ → ℕ → Bool
within_limits N d = leb 1 d && leb d 47 && leb 2 N

-- how many bits there are, with M links: those of depths and arcs, and d for each meter
abbrev pub bit_count : ℕ → ℕ → ℕ → ℕ
bit_count N M d = arcs_end N (deepest N) M + N * d

-- "A is 1 plus the sum of all weights"
unfoldable pub penalty : List Link → ℕ
penalty ls = 1 + total ls

-- ---- the energy

-- "A times the sum of" the six, in this order, "plus the weight of every arc bit set", for any D
unfoldable pub formula_to : ℕ → ℕ → ℕ → ℕ → List Link → Formula
formula_to D A N d ls =
    (root_term A N D ∷ [])
    ++ depth_terms A N D
    ++ entry_terms A N D (arcs ls)
    ++ count_terms A N D (length ls) d
    ++ degree_terms A N D (length ls) d (arcs ls)
    ++ end_terms A N D (arcs ls)
    ++ weight_terms N D (arcs ls)

-- with 01's D
abbrev pub formula : ℕ → ℕ → ℕ → List Link → Formula
formula A N d ls = formula_to (deepest N) A N d ls

-- ---- the same as whole numbers from 0

-- an assignment: dep v i is the bit of meter v at depth i, arc a i that of arc a at depth i, cnt v j that meter v has exactly j neighbours
pub record TreeBits : Type 0 where
  pub dep : ℕ → ℕ → ℕ
  pub arc : Arc → ℕ → ℕ
  pub cnt : ℕ → ℕ → ℕ

-- that of a list of bits
unfoldable pub bits_of : ℕ → ℕ → ℕ → ℕ → List ℕ → TreeBits
bits_of N D M d x = record { dep = depth_at D x; arc = arc_at N D x; cnt = count_at N D M d x }

-- the sum that A multiplies
unfoldable pub broken : ℕ → ℕ → ℕ → List Arc → TreeBits → ℕ
broken N D d ks b = root_miss N b.dep + depth_misses N D b.dep + entry_gaps N D ks b.dep b.arc + misses N d b.cnt + degree_gaps N D d ks b.arc b.cnt + end_misses D ks b.dep b.arc
