-- Kind 1, channels: the plan that an assignment decodes to. "Channels are read meter by meter upward". Assumes nothing.
use Rattle.std.specs.Prelude.{ℕ, zero, suc, ◌+◌, ◌*◌, cond, List, [], ◌∷◌, ◌++◌, length, eqb, leb}
use Rattle.lists.specs.Sums.{sum_to, sum_of, least_at, lowest, same, differ, nth}
use Rattle.links.specs.declared.Link.{Link}
use Rattle.onehot.specs.Choices.{bit_at, set_at}

-- ---- a meter with no bit set

-- "Lower-numbered neighbours bear their mended channel, higher ones the bits as they came": whether meter m bears channel i, once the first meters are repaired to p
unfoldable pub bears : ℕ → List ℕ → List ℕ → ℕ → ℕ → ℕ
bears n x p m i = cond (leb m (length p)) (same (nth p m) i) (bit_at n x m i)

-- the "total weight of links to neighbours bearing it": those of meter m whose other end bears channel i
unfoldable pub heard : List Link → (ℕ → ℕ → ℕ) → ℕ → ℕ → ℕ
heard ls b m i = sum_of ls (λ l. l.weight * (same l.u m * b l.v i + same l.v m * b l.u i))

-- "the channel with the least total weight of links to neighbours bearing it, ties to the lowest channel"
unfoldable pub quietest : ℕ → List Link → List ℕ → List ℕ → ℕ → ℕ
quietest n ls x p m = least_at n (heard ls (bears n x p) m)

-- ---- any meter

-- "Just one bit set: kept. Several: the lowest channel set is kept." The lowest set is the one set where there is just one. None: the channel `silent`
unfoldable pub repair_one : ℕ → List ℕ → ℕ → ℕ → ℕ
repair_one n x silent m = cond (eqb (set_at n (bit_at n x) m) 0) silent (lowest n (bit_at n x m))

-- the meters 1..k, one after another, where pick p m is the channel of a meter m with no bit set once those before it are repaired to p
unfoldable pub repair_by : (List ℕ → ℕ → ℕ) → ℕ → List ℕ → ℕ → List ℕ
repair_by pick n x zero = []
repair_by pick n x (suc k) = repair_by pick n x k ++ (repair_one n x (pick (repair_by pick n x k) (suc k)) (suc k) ∷ [])

-- ---- decoding

-- the plan of an assignment
unfoldable pub decoded : ℕ → ℕ → List Link → List ℕ → List ℕ
decoded N n ls x = repair_by (quietest n ls x) n x N

-- "The number mended is that of meters without exactly one bit set, counted in the bits lent"
unfoldable pub repaired : ℕ → ℕ → List ℕ → ℕ
repaired N n x = sum_to N (λ v. differ (set_at n (bit_at n x) v) 1)
