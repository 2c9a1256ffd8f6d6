-- Arcs, and the bits of depths and arcs, in document 01's words for trees: meters are 1..N, depths 0..D. Assumes nothing.
use Rattle.std.specs.Prelude.{ℕ, suc, pred, ◌+◌, ◌*◌, List, [], ◌∷◌, get_or}
use Rattle.links.specs.declared.Link.{Link}

-- "An arc is a link in one direction, parent first"; `number` is its place among the arcs, from 0
pub record Arc : Type 0 where
  pub number : ℕ
  pub parent : ℕ
  pub child : ℕ
  pub weight : ℕ

-- the arcs of the links, numbered from k: "links in chain order, for each arc u to v then v to u"
unfoldable pub arcs_from : ℕ → List Link → List Arc
arcs_from k [] = []
arcs_from k (l ∷ ls) = record { number = k; parent = l.u; child = l.v; weight = l.weight } ∷ record { number = suc k; parent = l.v; child = l.u; weight = l.weight } ∷ arcs_from (suc (suc k)) ls

-- all of them
unfoldable pub arcs : List Link → List Arc
arcs ls = arcs_from 0 ls

-- ---- "Bits, in order"

-- "meter v at depth 0..D (meter by meter)": that of depth i
abbrev pub depth_bit : ℕ → ℕ → ℕ → ℕ
depth_bit D v i = pred v * suc D + i

-- how many bits these are
abbrev pub depths_end : ℕ → ℕ → ℕ
depths_end N D = N * suc D

-- arc a at "depths 1..D", behind the depth bits: that of depth i
abbrev pub arc_bit : ℕ → ℕ → Arc → ℕ → ℕ
arc_bit N D a i = depths_end N D + a.number * D + pred i

-- how many bits both are, with M links
abbrev pub arcs_end : ℕ → ℕ → ℕ → ℕ
arcs_end N D M = depths_end N D + 2 * M * D

-- ---- these bits of the assignment x

-- whether meter v is at depth i
unfoldable pub depth_at : ℕ → List ℕ → ℕ → ℕ → ℕ
depth_at D x v i = get_or x (depth_bit D v i) 0

-- whether arc a is at depth i
unfoldable pub arc_at : ℕ → ℕ → List ℕ → Arc → ℕ → ℕ
arc_at N D x a i = get_or x (arc_bit N D a i) 0
