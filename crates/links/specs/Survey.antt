-- What a kind may rely on: the number of meters and the links of a valid image. Assumes nothing.
use Rattle.std.specs.Prelude.{ℕ, ◌≤◌, ◌<◌, true, ◌≡◌, List, length}
use Rattle.lists.specs.Tests.{all}
use Rattle.links.specs.Links.{link_ok, edge_ok, ascending}
use Rattle.links.specs.declared.Link.{Link}

-- "1 ≤ u < v ≤ N and weight 1 to 65,535", as facts
pub record LinkOf (N : ℕ) (l : Link) : Type 0 where
  pub u_low : 1 ≤ l.u
  pub ordered : l.u < l.v
  pub v_high : l.v ≤ N
  pub weight_low : 1 ≤ l.weight
  pub weight_high : l.weight ≤ 65535

-- "1 to 48 meters, 256 links", every link as it should be, in rising order
pub record IsSurvey (N : ℕ) (ls : List Link) : Type 0 where
  pub meters_low : 1 ≤ N
  pub meters_high : N ≤ 48
  pub few : length ls ≤ 256
  pub each : all (link_ok N) ls ≡ true
  pub rises : ascending ls ≡ true

-- ---- the same of ends alone, for what does not look at weights

-- "1 ≤ u < v ≤ N", as facts
pub record EdgeOf (N : ℕ) (l : Link) : Type 0 where
  pub u_low : 1 ≤ l.u
  pub ordered : l.u < l.v
  pub v_high : l.v ≤ N

-- at most 48 meters and 256 links, every link's ends as they should be, in rising order: a graph
pub record IsGraph (N : ℕ) (ls : List Link) : Type 0 where
  pub few_meters : N ≤ 48
  pub few : length ls ≤ 256
  pub each : all (edge_ok N) ls ≡ true
  pub rises : ascending ls ≡ true
