-- Laws that the proofs of src/sizes.rt cite: squared differences added up group by group, and sizes counted meter by meter. Assumes nothing.
use Prim.Native.Nat.{ℕ, zero, suc, pred, ◌+◌, ◌-◌, ◌*◌, ◌≤◌, ◌<◌}
use mathlib.Core.Path.{◌≡◌, refl, sym, ap, ap₂, ◌∙◌}
use mathlib.Core.List.{List}
use lib.ListN.{length, get_or, take, drop}
use lib.Seq.{get_or-take, get_or-drop}
use native.Mathlib.Omega.{arith}
use native.Mathlib.Numerals.{add-one}
use Rattle.lists.specs.Sums.{sum_to, same, gap, nth}
use Rattle.lists.proofs.Sums.{sum_to_zero, sum_to_next, sum_to_bits}
use Rattle.qubo.specs.Formula.{Bits, Assignment}
use Rattle.onehot.specs.Choices.{bit_at, misses}
use Rattle.onehot.proofs.Counts.{count_le}
use Rattle.onehot.proofs.Parts.{part_of, part_is, part_length, part_at}
use Rattle.groups.specs.Sizes.{spread}
use Rattle.groups.specs.Formula.{size_in, bracket}
use Rattle.groups.specs.Plans.{members_of}
use Rattle.groups.proofs.SizeLemma.{spread_eq}

-- ---- spread_to: the squared differences of one size and those of the groups before g

pub spread_before : List ℕ → ℕ → ℕ → ℕ
spread_before sizes last g = sum_to (pred g) (λ k. gap (get_or sizes k 0) last * gap (get_or sizes k 0) last)

pub before_start : (sizes : List ℕ) (last : ℕ) → spread_before sizes last 1 ≡ 0
unfolding spread_before
before_start sizes last = sum_to_zero _

-- the k-th of those behind place 0 is that of group k + 1
pub before_at : (sizes : List ℕ) (h k : ℕ) → k < h - 1 → get_or (take (h - 1) (drop 1 sizes)) k 0 ≡ get_or sizes (k + 1) 0
before_at sizes h k l = get_or-take (h - 1) (drop 1 sizes) k 0 l ∙ rw get_or-drop (ap (λ (j : ℕ). get_or sizes j 0) (omega arith))

pub before_next : (sizes : List ℕ) (last g : ℕ) → 1 ≤ g → spread_before sizes last (g + 1) ≡ spread_before sizes last g + gap (get_or sizes g 0) last * gap (get_or sizes g 0) last
unfolding spread_before sum_to
before_next sizes last zero h = absurd (omega arith)
before_next sizes last (suc k) h = rw (add-one (suc k)) refl

pub before_end : (sizes : List ℕ) (h g sum : ℕ) → g ≡ h → sum ≡ spread_before sizes (get_or sizes h 0) g → sum ≡ sum_to (pred h) (λ k. gap (get_or sizes k 0) (get_or sizes h 0) * gap (get_or sizes k 0) (get_or sizes h 0))
unfolding spread_before
before_end sizes h g sum e d = rw e at d

-- ---- spread_of: the sum over pairs of the groups before h

pub spread_to : List ℕ → ℕ → ℕ
spread_to sizes h = spread (pred h) (λ g. get_or sizes g 0)

pub spread_start : (sizes : List ℕ) → spread_to sizes 1 ≡ 0
unfolding spread_to spread
spread_start sizes = sum_to_zero _

-- group h is paired with those before it
pub spread_next : (sizes : List ℕ) (h r : ℕ) → 1 ≤ h → r ≡ sum_to (pred h) (λ g. gap (get_or sizes g 0) (get_or sizes h 0) * gap (get_or sizes g 0) (get_or sizes h 0)) → spread_to sizes (h + 1) ≡ spread_to sizes h + r
unfolding spread_to spread sum_to
spread_next sizes zero r a e = absurd (omega arith)
spread_next sizes (suc h) r a e = rw (e, add-one (suc h)) refl

pub spread_end : (sizes : List ℕ) (m h : ℕ) → h ≡ m + 1 → spread_to sizes h ≡ spread m (λ g. get_or sizes g 0)
unfolding spread_to
spread_end sizes m h e = rw (e, add-one m) refl

-- ---- gather_sizes: the bits of the meters up to v

-- in place g stands how many of them have their bit for group g set; `low` leaves room to add
pub record SizesTo (m : ℕ) (bits : List ℕ) (v : ℕ) (sizes : List ℕ) : Type 0 where
  pub size : length sizes ≡ 17
  pub low : (g : ℕ) → get_or sizes g 0 ≤ v
  pub so_far : (g : ℕ) → 1 ≤ g → g ≤ m → get_or sizes g 0 ≡ size_in v (bit_at m bits) g

pub sizes_start : (m : ℕ) (bits sizes : List ℕ) → length sizes ≡ 17 → ((g : ℕ) → get_or sizes g 0 ≡ 0) → SizesTo m bits 0 sizes
unfolding size_in
sizes_start m bits sizes e z = record { size = e; low = λ g. omega (arith, z g); so_far = λ g a b. z g ∙ sym (sum_to_zero _) }

module _ (N m : ℕ) (bits : List ℕ) (asg : Assignment (N * m) bits) (m16 : m ≤ 16) (v : ℕ) (below : v < N) (N48 : N ≤ 48) (s : List ℕ) (i : SizesTo m bits v s) where
  fits : N * m ≤ length bits
  fits = omega (arith, asg.size)

  own_length : length (part_of m v bits) ≡ m
  own_length = part_length m N (v + 1) bits (part_of m v bits) (part_is m v bits) (omega arith) (omega arith) fits

  own_at : (g : ℕ) → 1 ≤ g → g ≤ m → nth (part_of m v bits) g ≡ bit_at m bits (v + 1) g
  own_at = part_at m N (v + 1) bits (part_of m v bits) (part_is m v bits) (omega arith) (omega arith) fits

  -- its bits are added
  pub sizes_turn : (t : List ℕ) → (length t ≡ length s) × ((g : ℕ) → 1 ≤ g → g ≤ length (part_of m v bits) → get_or t g 0 ≡ get_or s g 0 + 1 * nth (part_of m v bits) g) × ((g : ℕ) → get_or t g 0 ≤ get_or s g 0 + 1) → SizesTo m bits (v + 1) t
  unfolding size_in
  sizes_turn t e = record {
    size = e.0 ∙ i.size;
    low = λ g. omega (arith, e.2 g, i.low g);
    so_far = λ g a b. omega (arith, e.1 g a (omega (arith, own_length)), own_at g a b, i.so_far g a b, sum_to_next v (λ u. bit_at m bits u g), own g);
  }
    where
      own : (g : ℕ) → bit_at m bits (v + 1) g ≡ bit_at m bits (suc v) g
      own g = rw (add-one v) refl

-- ---- bracket_of: from an array of zeros

-- no group has more meters than there are
size_in_le : (N m : ℕ) (bits : List ℕ) (g : ℕ) → Bits bits → size_in N (bit_at m bits) g ≤ N
unfolding size_in bit_at
size_in_le N m bits g h = sum_to_bits N (λ v. bit_at m bits v g) (λ v. h _)

-- size g is what was counted for group g
module _ (N m : ℕ) (bits : List ℕ) (size : ℕ → ℕ) (are : (g : ℕ) → 1 ≤ g → g ≤ m → size g ≡ size_in N (bit_at m bits) g) where
  pub sizes_small : N ≤ 48 → Bits bits → (g : ℕ) → 1 ≤ g → g ≤ m → size g ≤ 48
  sizes_small h b g p q = omega (arith, are g p q, size_in_le N m bits g b)

  pub bracket_is : (missed sum : ℕ) → missed ≡ misses N m (bit_at m bits) → sum ≡ spread m size → missed + sum ≡ bracket N m (bit_at m bits)
  unfolding bracket
  bracket_is missed sum d e = ap₂ ◌+◌ d (e ∙ spread_eq m size (size_in N (bit_at m bits)) are)

-- ---- members_spread: from an array of zeros

-- size g is what was counted for group g
module _ (N m : ℕ) (plan : List ℕ) (size : ℕ → ℕ) (are : (g : ℕ) → 1 ≤ g → g ≤ m → size g ≡ sum_to N (λ v. same (nth plan v) g)) where
  pub members_small : N ≤ 48 → (g : ℕ) → 1 ≤ g → g ≤ m → size g ≤ 48
  members_small h g p q = omega (arith, are g p q, count_le N plan g)

  pub members_spread_is : (sum : ℕ) → sum ≡ spread m size → sum ≡ spread m (members_of N plan)
  unfolding members_of
  members_spread_is sum e = e ∙ spread_eq m size (members_of N plan) are
