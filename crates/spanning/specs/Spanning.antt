-- Spanning trees, as document 01 defines them: "any N - 1 of the image's links over which each meter can be reached from every other, with no root or depth asked". Assumes nothing.
use Rattle.std.specs.Prelude.{ℕ, suc, ◌≤◌, ◌≡◌, List, [], ◌∷◌, length}
use Rattle.links.specs.Links.{degree, total}
use Rattle.links.specs.declared.Link.{Link}

-- the ends of link l are a and b
pub data Joins (l : Link) (a b : ℕ) : Type 0 where
  along : l.u ≡ a → l.v ≡ b → Joins l a b
  back : l.u ≡ b → l.v ≡ a → Joins l a b

-- a link of T joins a and b
pub data Linked (a b : ℕ) : List Link → Type 0 where
  here : {l : Link} {ls : List Link} → Joins l a b → Linked a b (l ∷ ls)
  there : {l : Link} {ls : List Link} → Linked a b ls → Linked a b (l ∷ ls)

-- b "can be reached" from a over the links of T
pub data Reach (T : List Link) (a : ℕ) : ℕ → Type 0 where
  stay : Reach T a a
  go : {b c : ℕ} → Reach T a b → Linked b c T → Reach T a c

-- T is "any .. of the image's links": ls with some left out
pub data Sub : List Link → List Link → Type 0 where
  end : Sub [] []
  keep : {l : Link} {T ls : List Link} → Sub T ls → Sub (l ∷ T) (l ∷ ls)
  skip : {l : Link} {T ls : List Link} → Sub T ls → Sub T (l ∷ ls)

-- "A spanning tree is any N - 1 of the image's links over which each meter can be reached from every other"
pub record Spanning (N : ℕ) (ls T : List Link) : Type 0 where
  pub sub : Sub T ls
  pub count : suc (length T) ≡ N
  pub joined : (a b : ℕ) → 1 ≤ a → a ≤ N → 1 ≤ b → b ≤ N → Reach T a b

-- "it is within the neighbour limit when no meter is an end of more than d of them"
pub record WithinLimit (N d : ℕ) (T : List Link) : Type 0 where
  pub few : (m : ℕ) → 1 ≤ m → m ≤ N → degree m T ≤ d

-- a best one: within the limit, and none within the limit has less weight; "its weight is the sum of theirs"
pub record BestTree (N d : ℕ) (ls T : List Link) : Type 0 where
  pub spanning : Spanning N ls T
  pub within : WithinLimit N d T
  pub least : (S : List Link) → Spanning N ls S → WithinLimit N d S → total T ≤ total S
