-- Neighbour counts in the energy of trees, in document 01's words: the bits that say how many neighbours a meter has, and the two families of terms that hold them, for any D and any list of arcs. Assumes nothing.
use Rattle.std.specs.Prelude.{ℕ, pred, ◌+◌, ◌*◌, ◌||◌, cond, List, [], ◌++◌, eqb, get_or, ℤ, pos, negsuc}
use Rattle.lists.specs.Sums.{sum_to, sum_of, same, gap}
use Rattle.qubo.specs.Formula.{Term, square, Formula}
use Rattle.qubo.specs.Terms.{each, over, sum, one_hot}
use Rattle.arcs.specs.Arcs.{Arc, arc_bit, arcs_end}

-- ---- bits, behind those of depths and arcs

-- "meter v has exactly j neighbours, j = 1..d", with M links
abbrev pub count_bit : ℕ → ℕ → ℕ → ℕ → ℕ → ℕ → ℕ
count_bit N D M d v j = arcs_end N D M + pred v * d + pred j

-- whether meter v has exactly j neighbours, in the assignment x
unfoldable pub count_at : ℕ → ℕ → ℕ → ℕ → List ℕ → ℕ → ℕ → ℕ
count_at N D M d x v j = get_or x (count_bit N D M d v j) 0

-- ---- terms

-- A times "per meter (1 - its neighbour-count bits)²"
unfoldable pub count_terms : ℕ → ℕ → ℕ → ℕ → ℕ → Formula
count_terms A N D M d = each N (λ v. one_hot (pos A) d (count_bit N D M d v))

-- less "all arc bits in or out of" meter v: those of arc a, if it is one
abbrev pub touching : ℕ → ℕ → ℕ → Arc → List (ℕ × ℤ)
touching N D v a = cond (eqb a.parent v || eqb a.child v) (each D (λ i. (arc_bit N D a i, negsuc 0))) []

-- A times "(sum of j over those set - all arc bits in or out of it)²" of meter v
abbrev pub degree_term : ℕ → ℕ → ℕ → ℕ → ℕ → List Arc → ℕ → Term
degree_term A N D M d ks v = square (pos A) (sum (each d (λ j. (count_bit N D M d v j, pos j)) ++ over ks (touching N D v)))

-- "per meter"
unfoldable pub degree_terms : ℕ → ℕ → ℕ → ℕ → ℕ → List Arc → Formula
degree_terms A N D M d ks = each N (degree_term A N D M d ks)

-- ---- the second family as a whole number from 0, where arc a i is the bit of arc a at depth i and cnt v j that of meter v for j neighbours

-- "all arc bits in or out of" meter v
unfoldable pub touches_of : ℕ → List Arc → (Arc → ℕ → ℕ) → ℕ → ℕ
touches_of D ks arc v = sum_of ks (λ a. (same a.parent v + same a.child v) * sum_to D (arc a))

-- "per meter (sum of j over those set - all arc bits in or out of it)²"
unfoldable pub degree_gaps : ℕ → ℕ → ℕ → List Arc → (Arc → ℕ → ℕ) → (ℕ → ℕ → ℕ) → ℕ
degree_gaps N D d ks arc cnt = sum_to N (λ v. gap (sum_to d (λ j. j * cnt v j)) (touches_of D ks arc v) * gap (sum_to d (λ j. j * cnt v j)) (touches_of D ks arc v))
