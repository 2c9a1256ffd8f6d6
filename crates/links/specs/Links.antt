-- Links and lists of links, in the words of document 01's section on the site image. Assumes nothing.
use Rattle.std.specs.Prelude.{ℕ, ◌+◌, Bool, true, ◌&&◌, ◌||◌, cond, List, [], ◌∷◌, map, get_or, leb, ltb, eqb}
use Rattle.lists.specs.Tests.{every, some, any}
use Rattle.lists.specs.Sums.{sum_of}
use Rattle.links.specs.declared.Link.{Link}

-- ---- one link

-- "1 ≤ u < v ≤ N and weight 1 to 65,535"
unfoldable pub link_ok : ℕ → Link → Bool
link_ok N l = every (leb 1 l.u ∷ ltb l.u l.v ∷ leb l.v N ∷ leb 1 l.weight ∷ leb l.weight 65535 ∷ [])

-- "1 ≤ u < v ≤ N", whatever its weight is
unfoldable pub edge_ok : ℕ → Link → Bool
edge_ok N l = every (leb 1 l.u ∷ ltb l.u l.v ∷ leb l.v N ∷ [])

-- the link has the ends a and b
unfoldable pub has_ends : ℕ → ℕ → Link → Bool
has_ends a b l = eqb l.u a && eqb l.v b

-- meter m is an end of the link
unfoldable pub is_at : ℕ → Link → Bool
is_at m l = eqb l.u m || eqb l.v m

-- ---- the order

-- "by u, then by v": the ends (a, b) stand before the ends (c, d)
unfoldable pub before : ℕ → ℕ → ℕ → ℕ → Bool
before a b c d = ltb a c || (eqb a c && ltb b d)

-- a list rises strictly, and from the ends (a, b) on
unfoldable pub ascending_from : ℕ → ℕ → List Link → Bool
ascending_from a b [] = true
ascending_from a b (l ∷ ls) = before a b l.u l.v && ascending_from l.u l.v ls

-- "rises strictly by u, then by v"
unfoldable pub ascending : List Link → Bool
ascending [] = true
ascending (l ∷ ls) = ascending_from l.u l.v ls

-- ---- what a list holds

-- what is read where no link is
abbrev pub nothing : Link
nothing = record { u = 0; v = 0; weight = 0 }

-- the link at index k, from 0
abbrev pub link_in : List Link → ℕ → Link
link_in ls k = get_or ls k nothing

-- "that link is there"
unfoldable pub present : ℕ → ℕ → List Link → Bool
present a b ls = any (has_ends a b) ls

-- the weight of the link with ends a and b, 0 where there is none
unfoldable pub weight_of : ℕ → ℕ → List Link → ℕ
weight_of a b [] = 0
weight_of a b (l ∷ ls) = cond (has_ends a b l) l.weight (weight_of a b ls)

-- how many links have the ends a and b
unfoldable pub times_of : ℕ → ℕ → List Link → ℕ
times_of a b [] = 0
times_of a b (l ∷ ls) = cond (has_ends a b l) 1 0 + times_of a b ls

-- how many links meter m is an end of
unfoldable pub degree : ℕ → List Link → ℕ
degree m [] = 0
degree m (l ∷ ls) = cond (is_at m l) 1 0 + degree m ls

-- the weights, in the order of the links, whatever their ends are
unfoldable pub weights : List Link → List ℕ
weights ls = map (λ l. l.weight) ls

-- "the sum of all weights"
unfoldable pub total : List Link → ℕ
total ls = sum_of ls (λ l. l.weight)

-- ---- lists altered

-- "puts the link in its ordered place"
unfoldable pub insert : Link → List Link → List Link
insert l [] = l ∷ []
insert l (x ∷ xs) = cond (before x.u x.v l.u l.v) (x ∷ insert l xs) (l ∷ x ∷ xs)

-- the link with ends a and b taken out
unfoldable pub delete : ℕ → ℕ → List Link → List Link
delete a b [] = []
delete a b (x ∷ xs) = cond (has_ends a b x) xs (x ∷ delete a b xs)

-- ---- ends as they are given

-- "an end is 0 or above N, or both are equal"
unfoldable pub bad_ends : ℕ → ℕ → ℕ → Bool
bad_ends N a b = some (eqb a 0 ∷ ltb N a ∷ eqb b 0 ∷ ltb N b ∷ eqb a b ∷ [])

-- "The ends may be given either way round": the lower one
unfoldable pub low : ℕ → ℕ → ℕ
low a b = cond (ltb a b) a b

-- the higher one
unfoldable pub high : ℕ → ℕ → ℕ
high a b = cond (ltb a b) b a
