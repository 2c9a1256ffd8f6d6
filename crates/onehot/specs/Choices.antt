-- One-hot choices, in document 01's words for channels and groups: each of N meters takes one of the choices 1..n, and a bit for each meter and choice says whether it does. Assumes nothing.
use Rattle.std.specs.Prelude.{ℕ, zero, suc, pred, ◌+◌, ◌*◌, Bool, ◌&&◌, List, length, get_or, pos, eqb, leb}
use Rattle.lists.specs.Tests.{all}
use Rattle.lists.specs.Sums.{sum_to, sum_of, lowest, same, nth}
use Rattle.links.specs.declared.Link.{Link}
use Rattle.qubo.specs.Formula.{Formula}
use Rattle.qubo.specs.Terms.{each, over, one_hot}

-- ---- bits

-- "Bit (v-1)·n + (i-1) is meter v on channel i"
abbrev pub bit_number : ℕ → ℕ → ℕ → ℕ
bit_number n v i = pred v * n + pred i

-- that bit of the assignment x
unfoldable pub bit_at : ℕ → List ℕ → ℕ → ℕ → ℕ
bit_at n x v i = get_or x (bit_number n v i) 0

-- "bits set at it": how many of its n bits meter v has set, where b v i is its bit for choice i
unfoldable pub set_at : ℕ → (ℕ → ℕ → ℕ) → ℕ → ℕ
set_at n b v = sum_to n (b v)

-- ---- the penalty

-- "A times the sum over meters of (1 - bits set at it)²"
unfoldable pub one_hots : ℕ → ℕ → ℕ → Formula
one_hots A N n = each N (λ v. one_hot (pos A) n (bit_number n v))

-- (1 - k)², as a whole number from 0
unfoldable pub miss_squared : ℕ → ℕ
miss_squared zero = 1
miss_squared (suc k) = k * k

-- "the sum over meters of (1 - bits set at it)²", likewise
unfoldable pub misses : ℕ → ℕ → (ℕ → ℕ → ℕ) → ℕ
misses N n b = sum_to N (λ v. miss_squared (set_at n b v))

-- ---- plans and their codes

-- "A plan is N bytes", "1..n each"
unfoldable pub are_choices : ℕ → ℕ → List ℕ → Bool
are_choices N n p = eqb (length p) N && all (λ c. leb 1 c && leb c n) p

-- "sets each meter's bit for its channel or group and no others"
unfoldable pub code : ℕ → List ℕ → List ℕ
code n p = over p (λ c. each n (same c))

-- the choices that bits would code: the lowest one set at each of N meters
unfoldable pub candidate : ℕ → ℕ → List ℕ → List ℕ
candidate N n x = each N (λ v. lowest n (bit_at n x v))

-- the weight of all links with the same choice at both ends
unfoldable pub alike_weight : List Link → List ℕ → ℕ
alike_weight ls p = sum_of ls (λ l. l.weight * same (nth p l.u) (nth p l.v))
