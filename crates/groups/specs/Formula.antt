-- Kind 2, groups, in document 01's order: limits and bit count, the penalty A, and the energy as a formula over bits. Assumes nothing.
use Rattle.std.specs.Prelude.{ℕ, pred, ◌+◌, ◌*◌, Bool, ◌&&◌, List, ◌++◌, pos, leb}
use Rattle.lists.specs.Sums.{sum_to, sum_of, differ}
use Rattle.links.specs.Links.{total}
use Rattle.links.specs.declared.Link.{Link}
use Rattle.qubo.specs.Formula.{Term, Formula}
use Rattle.qubo.specs.Terms.{each_of, each, over, unequal, squared_difference}
use Rattle.onehot.specs.Choices.{bit_number, one_hots, misses}
use Rattle.groups.specs.Sizes.{spread}

-- "kind 2, groups, carries m from 2 to 16"
unfoldable pub within_limits : ℕ → Bool
within_limits m = leb 2 m && leb m 16

-- "Bits as for channels, with m": a bit for each meter and group, numbered as `bit_number` says
abbrev pub bit_count : ℕ → ℕ → ℕ
bit_count N m = N * m

-- "A is 1 plus twice the sum of all weights"
unfoldable pub penalty : List Link → ℕ
penalty ls = 1 + 2 * total ls

-- ---- the energy

-- A times "(size difference)²" of the groups g and h: how many meters have their bit for g set, less how many have that for h
abbrev pub size_difference : ℕ → ℕ → ℕ → ℕ → ℕ → Term
size_difference A N m h g = squared_difference (pos A) N (λ v. bit_number m v g) N (λ v. bit_number m v h)

-- "the sum over pairs of groups": each group h with those before it
unfoldable pub size_terms : ℕ → ℕ → ℕ → Formula
size_terms A N m = each_of m (λ h. each (pred h) (size_difference A N m h))

-- for a link "and group, the weight if exactly one end is in it"
abbrev pub link_cuts : ℕ → Link → Formula
link_cuts m l = each m (λ g. unequal (pos l.weight) (bit_number m l.u g) (bit_number m l.v g))

-- "for each link"
unfoldable pub cut_terms : ℕ → List Link → Formula
cut_terms m ls = over ls (link_cuts m)

-- "A times [the sum over meters of (1 - bits set)² plus the sum over pairs of groups of (size difference)²], plus, for each link and group, the weight if exactly one end is in it"
unfoldable pub formula : ℕ → ℕ → ℕ → List Link → Formula
formula A N m ls = one_hots A N m ++ size_terms A N m ++ cut_terms m ls

-- ---- the same as whole numbers from 0, where b v g is the bit of meter v for group g

-- the size of group g: how many meters have their bit for it set
unfoldable pub size_in : ℕ → (ℕ → ℕ → ℕ) → ℕ → ℕ
size_in N b g = sum_to N (λ v. b v g)

-- what stands in the bracket, which A multiplies
unfoldable pub bracket : ℕ → ℕ → (ℕ → ℕ → ℕ) → ℕ
bracket N m b = misses N m b + spread m (size_in N b)

-- what the links add
unfoldable pub cutting_of : ℕ → List Link → (ℕ → ℕ → ℕ) → ℕ
cutting_of m ls b = sum_of ls (λ l. sum_to m (λ g. l.weight * differ (b l.u g) (b l.v g)))
