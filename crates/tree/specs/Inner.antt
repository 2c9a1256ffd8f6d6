-- Only contracts between functions and proofs cite this: a reader of the public promises may skip it. What a `Tree` has, as a record, the parts in which the code fills a row and adds up what A multiplies, and what its loops hand on. Assumes nothing.
use Rattle.std.specs.Prelude.{ℕ, ◌≤◌, ◌+◌, pred, ◌*◌, List, [], ◌∷◌, ◌++◌, ◌≡◌, length, get_or, set, take, drop}
use Rattle.lists.specs.Sums.{sum_to, sum_of, same, nth}
use Rattle.links.specs.declared.Link.{Link}
use Rattle.links.specs.Survey.{IsSurvey}
use Rattle.qubo.specs.Formula.{Formula, Bits}
use Rattle.onehot.specs.Choices.{misses}
use Rattle.arcs.specs.Arcs.{Arc, arcs, arcs_end, arc_at}
use Rattle.arcs.specs.Formula.{root_term, depth_terms, entry_terms, end_terms, weight_terms}
use Rattle.arcs.specs.Sums.{root_miss, depth_misses, entry_gaps, end_misses}
use Rattle.neighbours.specs.Formula.{count_terms, degree_terms, degree_gaps}
use Rattle.tree.specs.Formula.{TreeBits}

-- ---- what a `Tree` has

-- an accepted site of at least two meters, and d from 1 to 47: the type `Tree` carries these facts now, in its survey and its ghost fields
pub record WithNeighbourLimit (N d : ℕ) (ls : List Link) : Type 0 where
  pub survey : IsSurvey N ls
  pub meters : 2 ≤ N
  pub low : 1 ≤ d
  pub high : d ≤ 47

-- ---- the parts in which src/rows.rt fills a row

-- the first three families of the formula, those of depths
unfoldable pub depth_part : ℕ → ℕ → ℕ → List Arc → Formula
depth_part A N D ks = (root_term A N D ∷ []) ++ depth_terms A N D ++ entry_terms A N D ks

-- the next two, those of neighbour counts, where M is the number of links
unfoldable pub count_part : ℕ → ℕ → ℕ → ℕ → ℕ → List Arc → Formula
count_part A N D M d ks = count_terms A N D M d ++ degree_terms A N D M d ks

-- the last two, those of arcs
unfoldable pub arc_part : ℕ → ℕ → ℕ → List Arc → Formula
arc_part A N D ks = end_terms A N D ks ++ weight_terms N D ks

-- ---- the two parts in which src/sums.rt adds up what A multiplies

-- the sums that look at no arc: one root, one depth and one number of neighbours for each meter
unfoldable pub broken_choices : ℕ → ℕ → ℕ → TreeBits → ℕ
broken_choices N D d b = root_miss N b.dep + depth_misses N D b.dep + misses N d b.cnt

-- those that look at arcs
unfoldable pub broken_arcs : ℕ → ℕ → ℕ → List Arc → TreeBits → ℕ
broken_arcs N D d ks b = entry_gaps N D ks b.dep b.arc + degree_gaps N D d ks b.arc b.cnt + end_misses D ks b.dep b.arc

-- ---- what the loops of src/plans.rt and src/codes.rt hand on

-- in place m of 256 stands how many meters have the parent m; in place 0 how many have none
pub record Counted (p counts : List ℕ) : Type 0 where
  pub few : length p ≤ 48
  pub size : length counts ≡ 256
  pub each : (m : ℕ) → get_or counts m 0 ≡ sum_to (length p) (λ v. same (nth p v) m)

-- xs with ys in place of its entries from index k on
unfoldable pub placed : ℕ → List ℕ → List ℕ → List ℕ
placed k ys xs = take k xs ++ ys ++ drop (k + length ys) xs

-- how many of the D bits of x from index k on are set
unfoldable pub set_from : List ℕ → ℕ → ℕ → ℕ
set_from x k D = sum_to D (λ i. get_or x (k + pred i) 0)

-- p with n added to its entry v, counted from 1
unfoldable pub added : ℕ → ℕ → List ℕ → List ℕ
added v n p = set p (pred v) (nth p v + n)

-- bits whose arcs can be read as parents: at most one is set into each meter
pub record Readable (N D : ℕ) (ls : List Link) (x : List ℕ) : Type 0 where
  pub bits : Bits x
  pub room : arcs_end N D (length ls) ≤ length x
  pub once : (v : ℕ) → 1 ≤ v → v ≤ N → sum_of (arcs ls) (λ a. same a.child v * sum_to D (arc_at N D x a)) ≤ 1
