-- Only contracts between functions cite this: a reader of the public promises may skip it. The form of one meter's neighbours, part by part, and the row that its terms are added to. Assumes nothing.
use Rattle.std.specs.Prelude.{ℕ, pred, ◌+◌, ◌*◌, ◌^◌, ◌≤◌, ◌≡◌, cond, List, [], ◌∷◌, ◌++◌, length, get_or, ℤ, pos, nat_abs}
use Rattle.lists.specs.Sums.{sum_to, gap}
use Rattle.links.specs.Links.{is_at}
use Rattle.links.specs.declared.Link.{Link}
use Rattle.qubo.specs.Formula.{Formula}
use Rattle.qubo.specs.Terms.{each, over, times}
use Rattle.qubo.specs.Rows.{run_sum}
use Rattle.qubo.specs.declared.Run.{Run}
use Rattle.arcs.specs.Arcs.{Arc, arcs_end}
use Rattle.neighbours.specs.Formula.{touching, count_at}

-- ---- the form of a meter

-- the bits from `start` on, d of them, each with its number as coefficient: the sum of j over those set
abbrev pub numbered : ℕ → ℕ → List (ℕ × ℤ)
numbered d start = each d (λ j. (start + pred j, pos j))

-- the first of meter v's neighbour-count bits
abbrev pub count_start : ℕ → ℕ → ℕ → ℕ → ℕ → ℕ
count_start N D M d v = arcs_end N D M + pred v * d

-- what is squared in `degree_term`: the sum of j over those set, less all arc bits in or out of meter v
abbrev pub degree_entries : ℕ → ℕ → ℕ → ℕ → List Arc → ℕ → List (ℕ × ℤ)
degree_entries N D M d ks v = numbered d (count_start N D M d v) ++ over ks (touching N D v)

-- ---- link by link

-- the bits of the two arcs of link k, one after another
abbrev pub link_run : ℕ → ℕ → ℕ → Run
link_run N D k = record { start = arcs_end N D k; step = 1; count = 2 * D }

-- q times bit i times these bits, where the link has an end at meter m
unfoldable pub link_part : Link → ℕ → ℤ → ℕ → Run → Formula
link_part l m q i run = cond (is_at m l) (times q i (run_sum run) ∷ []) []

-- ---- rows

-- row i of a table whose last bits are the neighbour counts, with numbers of at most `limit` and a penalty A that is not too large
pub record TableRow (limit N D M d A i : ℕ) (row : List ℤ) : Type 0 where
  pub own : 1 ≤ length row
  pub whole : i + length row ≡ arcs_end N D M + N * d
  pub small : (k : ℕ) → nat_abs (get_or row k (pos 0)) ≤ limit
  pub penalty : A ≤ 20000000

-- a row on the way, with room for q times some thousand bits
pub record Roomy (q : ℤ) (i : ℕ) (row : List ℤ) : Type 0 where
  pub small : (k : ℕ) → nat_abs (get_or row k (pos 0)) ≤ 2 ^ 60
  pub factor : nat_abs q ≤ 2 ^ 32
  pub short : i + length row ≤ 2 ^ 32

-- ---- sums in an assignment x

-- the squared gaps of all meters, between the sum of j over a meter's bits set and what is counted in its place
abbrev pub gaps_from : ℕ → ℕ → ℕ → ℕ → List ℕ → List ℕ → ℕ
gaps_from N D M d sums x = sum_to N (λ v. gap (sum_to d (λ j. j * count_at N D M d x v j)) (get_or sums v 0) * gap (sum_to d (λ j. j * count_at N D M d x v j)) (get_or sums v 0))
