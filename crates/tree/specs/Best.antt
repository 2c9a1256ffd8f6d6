-- The word of demand 3 that only trees have; the others are over any instance, qubo/specs/Instance. Assumes nothing.
use Rattle.std.specs.Prelude.{ℕ, ◌≡◌, true, List}
use Rattle.links.specs.declared.Link.{Link}
use Rattle.spanning.specs.Parents.{tree_links}
use Rattle.spanning.specs.Spanning.{BestTree}
use Rattle.tree.specs.Plans.{is_plan, code_of}

-- x is the code of a plan whose links are a best spanning tree within the neighbour limit, whichever meter is its root
pub record CodesBest (N d : ℕ) (ls : List Link) (x : List ℕ) : Type 0 where
  pub plan : List ℕ
  pub ok : is_plan N d ls plan ≡ true
  pub best : BestTree N d ls (tree_links plan ls)
  pub codes : x ≡ code_of N d ls plan
