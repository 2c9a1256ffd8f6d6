-- Kind 3, tree: plans, their codes and their weight. Assumes nothing.
use Rattle.std.specs.Prelude.{ℕ, suc, Bool, ◌&&◌, cond, List, ◌++◌, map, eqb, leb, Option, Some, None}
use Rattle.lists.specs.Tests.{all, from}
use Rattle.lists.specs.Sums.{nth}
use Rattle.links.specs.Links.{total}
use Rattle.links.specs.declared.Link.{Link}
use Rattle.qubo.specs.Terms.{each}
use Rattle.onehot.specs.Choices.{code}
use Rattle.spanning.specs.Parents.{deepest, depth_of, is_rooted, neighbours, tree_links}
use Rattle.arcs.specs.Arcs.{Arc, arcs}

-- "nobody has more than d neighbours in the tree"
unfoldable pub few_neighbours : ℕ → ℕ → List ℕ → Bool
few_neighbours N d p = all (λ v. leb (neighbours N p v) d) (from 1 N)

-- "Tree: each meter's parent, 0 for the single root; parents are linked neighbours, nobody has more than d neighbours in the tree, and no depth exceeds D"
unfoldable pub is_plan : ℕ → ℕ → List Link → List ℕ → Bool
is_plan N d ls p = is_rooted N (deepest N) ls p && few_neighbours N d p

-- "its tree's weight (the links from meters to their parents)"
unfoldable pub tree_weight : List Link → List ℕ → ℕ
tree_weight ls p = total (tree_links p ls)

-- ---- the code: which of its bits each meter or arc has set, from 1; 0 for none

-- of a depth, where the first bit is that of depth 0
abbrev pub bit_of_depth : Option ℕ → ℕ
bit_of_depth (Some h) = suc h
bit_of_depth None = 0

-- of an arc, whose first bit is that of depth 1: the depth of its child
abbrev pub arc_depth : Option ℕ → ℕ
arc_depth (Some h) = h
arc_depth None = 0

-- "each meter's depth"
unfoldable pub depth_choices : ℕ → List ℕ → List ℕ
depth_choices N p = each N (λ v. bit_of_depth (depth_of p N v))

-- "the arc from its parent, if any, at that depth"
unfoldable pub arc_choice : ℕ → List ℕ → Arc → ℕ
arc_choice N p a = cond (eqb (nth p a.child) a.parent) (arc_depth (depth_of p N a.child)) 0

-- for each arc
unfoldable pub arc_choices : ℕ → List Link → List ℕ → List ℕ
arc_choices N ls p = map (arc_choice N p) (arcs ls)

-- "and its number of neighbours in the tree"
unfoldable pub count_choices : ℕ → List ℕ → List ℕ
count_choices N p = each N (neighbours N p)

-- "The code of a tree sets each meter's depth, the arc from its parent, if any, at that depth, and its number of neighbours in the tree, and no others"
unfoldable pub code_of : ℕ → ℕ → List Link → List ℕ → List ℕ
code_of N d ls p = code (suc (deepest N)) (depth_choices N p) ++ code (deepest N) (arc_choices N ls p) ++ code d (count_choices N p)
