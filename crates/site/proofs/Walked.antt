-- One turn of each walk of specs/Inner.antt, by where it ends: what the loops of src/ go by. Assumes nothing.
use Prim.Native.Nat.{ℕ, suc, ◌+◌, ◌-◌, ◌≤◌, ◌<◌}
use mathlib.Core.Bool.{true, false, ◌&&◌}
use mathlib.Core.Path.{◌≡◌, ◌∙◌}
use mathlib.Core.List.{List}
use lib.ListN.{length}
use lib.Dec.{eqb}
use borrow.Author.Tests.{lt-leb, le-leb, eq-eqb, ne_eqb}
use native.Mathlib.Omega.{arith}
use Rattle.site.specs.Layout.{SIZE, RECORDS, meters, first, first_free, count, end_u, end_v, next}
use Rattle.site.specs.Image.{free_ok, named}
use Rattle.site.specs.Inner.{link_fits, walk_links, walk_free, head_ok, checks}

-- ---- which numbers name a record

-- a number below 1 names none
pub named_no : (k : ℕ) → k < 1 → named k ≡ false
unfolding named
named_no k h = simp (lt-leb _ _ h)

-- 1 to 256 name records
pub named_yes : (k : ℕ) → 1 ≤ k → k ≤ RECORDS → named k ≡ true
unfolding named
named_yes k h l = simp (le-leb _ _ h, le-leb _ _ l)

-- ---- the steps that are left of m, after i of them

-- before the last one
pub one_less : (m i : ℕ) → i < m → m - i ≡ suc (m - (i + 1))
one_less m i h = omega arith

-- after it
pub none_left : (m i : ℕ) → m ≤ i → m - i ≡ 0
none_left m i h = omega arith

module _ (s : List ℕ) where
  -- ---- the walk of the free records
  free_step : (m i k : ℕ) → i < m → walk_free s (m - i) k ≡ (named k && (free_ok s k && walk_free s (m - (i + 1)) (next s k)))
  unfolding walk_free
  free_step m i k h = rw (one_less m i h)

  -- it fails at a number that names no record
  pub free_out : (m i k : ℕ) → i < m → named k ≡ false → walk_free s (m - i) k ≡ false
  free_out m i k h e = free_step m i k h ∙ rw e

  -- it fails at a record that is not zero but for next
  pub free_bad : (m i k : ℕ) → i < m → named k ≡ true → free_ok s k ≡ false → walk_free s (m - i) k ≡ false
  free_bad m i k h e f = free_step m i k h ∙ rw (e, f)

  -- else it goes on at the next record
  pub free_on : (m i k : ℕ) → i < m → named k ≡ true → free_ok s k ≡ true → walk_free s (m - i) k ≡ walk_free s (m - (i + 1)) (next s k)
  free_on m i k h e f = free_step m i k h ∙ rw (e, f)

  -- before the first step
  pub free_start : (m k : ℕ) → k ≡ first_free s → walk_free s m (first_free s) ≡ walk_free s (m - 0) k
  free_start m k e = let z : m - 0 ≡ m = omega arith in rw (z, e)

  -- with no steps left the chain must end
  pub free_end : (m i k : ℕ) → m ≤ i → walk_free s (m - i) k ≡ eqb k 0
  unfolding walk_free
  free_end m i k h = rw (none_left m i h)

  -- ---- the walk of the links
  module _ (n : ℕ) where
    link_step : (m i k a b : ℕ) → i < m → walk_links s n (m - i) k a b ≡ (named k && (link_fits s n a b k && walk_links s n (m - (i + 1)) (next s k) (end_u s k) (end_v s k)))
    unfolding walk_links
    link_step m i k a b h = rw (one_less m i h)

    -- it fails at a number that names no record
    pub link_out : (m i k a b : ℕ) → i < m → named k ≡ false → walk_links s n (m - i) k a b ≡ false
    link_out m i k a b h e = link_step m i k a b h ∙ rw e

    -- it fails at a record that holds no fitting link
    pub link_bad : (m i k a b : ℕ) → i < m → named k ≡ true → link_fits s n a b k ≡ false → walk_links s n (m - i) k a b ≡ false
    link_bad m i k a b h e f = link_step m i k a b h ∙ rw (e, f)

    -- else it goes on at the next record, from this link's ends
    pub link_on : (m i k a b : ℕ) → i < m → named k ≡ true → link_fits s n a b k ≡ true → walk_links s n (m - i) k a b ≡ walk_links s n (m - (i + 1)) (next s k) (end_u s k) (end_v s k)
    link_on m i k a b h e f = link_step m i k a b h ∙ rw (e, f)

    -- with no steps left the chain must end
    pub link_end : (m i k a b : ℕ) → m ≤ i → walk_links s n (m - i) k a b ≡ eqb k 0
    unfolding walk_links
    link_end m i k a b h = rw (none_left m i h)

-- ---- the whole check
module _ (s : List ℕ) where
  -- it fails at another length
  pub checks_length : (length s ≡ SIZE → ⊥) → checks s ≡ false
  unfolding checks
  checks_length h = rw (ne_eqb _ _ h)

  module _ (l : length s ≡ SIZE) where
    -- it fails at a bad header
    pub checks_head : head_ok s ≡ false → checks s ≡ false
    unfolding checks
    checks_head h = rw (eq-eqb _ _ l, h)

    -- it fails at a count above the number of records
    pub checks_count : head_ok s ≡ true → RECORDS < count s → checks s ≡ false
    unfolding checks
    checks_count h m = rw (eq-eqb _ _ l, h, lt-leb _ _ m)

    -- else it is the two walks
    pub checks_walks : head_ok s ≡ true → count s ≤ RECORDS → checks s ≡ (walk_links s (meters s) (count s) (first s) 0 0 && walk_free s (RECORDS - count s) (first_free s))
    unfolding checks
    checks_walks h m = rw (eq-eqb _ _ l, h, le-leb _ _ m)
