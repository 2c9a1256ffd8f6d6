-- Kind 1, channels, in document 01's order: limits and bit count, the penalty A, and the energy as a formula over bits. Assumes nothing.
use Rattle.std.specs.Prelude.{ℕ, ◌+◌, ◌*◌, Bool, ◌&&◌, cond, List, ◌++◌, pos, leb}
use Rattle.lists.specs.Sums.{sum_to, sum_of, greatest}
use Rattle.links.specs.Links.{is_at}
use Rattle.links.specs.declared.Link.{Link}
use Rattle.qubo.specs.Formula.{Formula}
use Rattle.qubo.specs.Terms.{each, over, pair}
use Rattle.onehot.specs.Choices.{bit_number, one_hots}

-- "Kind 1, channels, carries n from 1 to 16"
unfoldable pub within_limits : ℕ → Bool
within_limits n = leb 1 n && leb n 16

-- a bit for each meter and channel, numbered as `bit_number` says
abbrev pub bit_count : ℕ → ℕ → ℕ
bit_count N n = N * n

-- the "sum of link weights at one meter"
unfoldable pub load : List Link → ℕ → ℕ
load ls m = sum_of ls (λ l. cond (is_at m l) l.weight 0)

-- "A is 1 plus the greatest sum of link weights at one meter"
unfoldable pub penalty : ℕ → List Link → ℕ
penalty N ls = 1 + greatest N (load ls)

-- for a link "and channel, the weight if both ends have that channel"
abbrev pub link_clashes : ℕ → Link → Formula
link_clashes n l = each n (λ i. pair (pos l.weight) (bit_number n l.u i) (bit_number n l.v i))

-- "for each link"
unfoldable pub clash_terms : ℕ → List Link → Formula
clash_terms n ls = over ls (link_clashes n)

-- the same as a whole number from 0, where b v i is the bit of meter v for channel i
unfoldable pub clashing_of : ℕ → List Link → (ℕ → ℕ → ℕ) → ℕ
clashing_of n ls b = sum_of ls (λ l. sum_to n (λ i. l.weight * (b l.u i * b l.v i)))

-- the energy: "A times the sum over meters of (1 - bits set at it)², plus, for each link and channel, the weight if both ends have that channel"
unfoldable pub formula : ℕ → ℕ → ℕ → List Link → Formula
formula A N n ls = one_hots A N n ++ clash_terms n ls
