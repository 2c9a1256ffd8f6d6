-- Rooted trees as lists of parents, in document 01's words for the plans of trees: "each meter's parent, 0 for the single root". Assumes nothing.
use Rattle.std.specs.Prelude.{ℕ, zero, suc, ◌+◌, ◌/◌, Bool, false, ◌||◌, cond, List, [], ◌∷◌, length, eqb, leb, Option, Some, None}
use Rattle.lists.specs.Tests.{every, all, from}
use Rattle.lists.specs.Sums.{sum_to, same, differ, nth}
use Rattle.links.specs.Links.{present}
use Rattle.links.specs.declared.Link.{Link}

-- "D is N/2 rounded down"
unfoldable pub deepest : ℕ → ℕ
deepest N = N / 2

-- ---- depths; the parent of meter v is nth p v

-- "one more than the parent's"
abbrev pub deeper : Option ℕ → Option ℕ
deeper (Some h) = Some (suc h)
deeper None = None

-- "0 at the root and otherwise one more than the parent's", where the parent is u and has the depth h
abbrev pub under : ℕ → Option ℕ → Option ℕ
under zero h = Some 0
under (suc u) h = deeper h

-- "The depth is found by recursion": that of meter v, with k steps allowed up the parents; a ring uses them all up, and there is none
unfoldable pub depth_of : List ℕ → ℕ → ℕ → Option ℕ
depth_of p zero v = None
depth_of p (suc k) v = under (nth p v) (depth_of p k (nth p v))

-- "no depth exceeds D"; "a ring of parents is no plan"
unfoldable pub at_most : ℕ → Option ℕ → Bool
at_most D (Some h) = leb h D
at_most D None = false

-- ---- trees over links

-- a and b are "linked neighbours": a link has these ends
unfoldable pub linked : ℕ → ℕ → List Link → Bool
linked a b ls = present a b ls || present b a ls

-- the parent of meter v, if it has one, is a linked neighbour
unfoldable pub parent_linked : List ℕ → List Link → ℕ → Bool
parent_linked p ls v = eqb (nth p v) 0 || linked v (nth p v) ls

-- how many of N meters have no parent
unfoldable pub roots_of : ℕ → List ℕ → ℕ
roots_of N p = sum_to N (λ v. same (nth p v) 0)

-- N parents with a "single root", where "parents are linked neighbours" and "no depth exceeds D"
unfoldable pub is_rooted : ℕ → ℕ → List Link → List ℕ → Bool
is_rooted N D ls p = every (eqb (length p) N ∷ eqb (roots_of N p) 1 ∷ all (parent_linked p ls) (from 1 N) ∷ all (λ v. at_most D (depth_of p N v)) (from 1 N) ∷ [])

-- a meter's "number of neighbours in the tree": its children, and its parent if it has one
unfoldable pub neighbours : ℕ → List ℕ → ℕ → ℕ
neighbours N p m = sum_to N (λ v. same (nth p v) m) + differ (nth p m) 0

-- ---- "the links from meters to their parents"

-- link l is one of them: one end is the other's parent
unfoldable pub is_used : List ℕ → Link → Bool
is_used p l = eqb (nth p l.u) l.v || eqb (nth p l.v) l.u

-- all of them, in the order of the links
unfoldable pub tree_links : List ℕ → List Link → List Link
tree_links p [] = []
tree_links p (l ∷ ls) = cond (is_used p l) (l ∷ tree_links p ls) (tree_links p ls)
