-- Laws that only the proofs of src/ cite: what a turn of a loop or a test leaves. Assumes nothing.
use Prim.Native.Nat.{ℕ, zero, suc, ◌+◌, ◌-◌, ◌≤◌, ◌<◌}
use mathlib.Core.Bool.{Bool, true, false, ◌&&◌, ◌||◌}
use mathlib.Core.Path.{◌≡◌, refl, ◌∙◌}
use mathlib.Core.List.{List}
use lib.ListN.{length, get_or, take, drop}
use lib.Seq.{drop-cons}
use lib.Dec.{leb, ltb, eqb}
use Rattle.std.specs.List.{list_all}
use borrow.Author.Tests.{ne_eqb, le-leb, lt-ltb, ltb-true, ltb-false}
use native.Mathlib.Omega.{arith}
use Rattle.lists.specs.Tests.{every, some, all, from}
use Rattle.links.specs.declared.Link.{Link}
use Rattle.links.specs.Links.{link_ok, before, has_ends, bad_ends}
use Rattle.std.proofs.Math.Bool.{and_assoc}
use Rattle.lists.proofs.Tests.{and_true, same_test}
use Rattle.links.proofs.Order.{Before, less, tied, before_true, before_yes}
use Rattle.site.specs.Layout.{SIZE, METERS, meters_at, record_at, meters, first, first_at, free_at, count_at, first_free, count, set_word, byte, word, end_u, end_v, weight, next, pad}
use Rattle.site.specs.Image.{zero_at, link_at, pad_zero, free_ok, named}
use Rattle.site.specs.Inner.{key, link_fits, is_link, head_ok}
use Rattle.site.specs.Edits.{slot, chained}

-- ---- src/fields.rt

-- the header, as the code reads it
module _ (s : List ℕ) where
  pub meters_read : get_or s meters_at 0 ≡ meters s
  unfolding meters byte
  meters_read = refl

  pub first_read : word s first_at ≡ first s
  unfolding first
  first_read = refl

  pub free_read : word s free_at ≡ first_free s
  unfolding first_free
  free_read = refl

  pub count_read : word s count_at ≡ count s
  unfolding count
  count_read = refl

-- a record, as the code reads it
module _ (s : List ℕ) (k : ℕ) where
  pub link_read : link_at s k ≡ record { u = get_or s (record_at k) 0; v = get_or s (record_at k + 1) 0; weight = word s (record_at k + 2) }
  unfolding link_at end_u end_v weight byte
  link_read = refl

  pub next_read : next s k ≡ word s (record_at k + 4)
  unfolding next
  next_read = refl

  pub pad_read : pad s k ≡ word s (record_at k + 6)
  unfolding pad
  pad_read = refl

-- ---- src/rules.rt

-- zero bytes, read as a part
pub zeros_read : (s : List ℕ) (i n : ℕ) → i + n ≤ length s → all (zero_at s) (from i n) ≡ list_all (λ b. eqb b 0) (take n (drop i s))
unfolding all from zero_at byte
zeros_read s i zero h = refl
zeros_read s i (suc n) h = rw (drop-cons s i 0 (omega arith), zeros_read s (suc i) n (omega arith))

-- the header, by its tests
pub head_test : (s : List ℕ) {z p : Bool} → length s ≡ SIZE → z ≡ list_all (λ b. eqb b 0) (take 8 (drop 8 s)) → p ≡ (((eqb (get_or s 1 0) 0 && z) && leb 1 (get_or s 0 0)) && leb (get_or s 0 0) METERS) → p ≡ head_ok s
unfolding head_ok all zero_at byte meters
head_test s l f g = g ∙ rw (f, ← zeros_read s 8 8 (omega arith)) (and_assoc (eqb (get_or s 1 0) 0 && all (zero_at s) (from 8 8)) (leb 1 (get_or s 0 0)) (leb (get_or s 0 0) METERS))

-- a weight of two bytes needs no test
pub two_bytes : (n : ℕ) (l : Link) → l.weight < 65536 → link_ok n l ≡ (leb 1 l.u && (ltb l.u l.v && (leb l.v n && leb 1 l.weight)))
unfolding link_ok every
two_bytes n l h = rw (le-leb l.weight 65535 (omega arith), and_true (leb 1 l.weight))

-- the order of ends is that of their keys
pub key_before : (a b c d : ℕ) → b < 256 → d < 256 → ltb (key a b) (key c d) ≡ before a b c d
key_before a b c d h l = same_test (ltb (key a b) (key c d)) (before a b c d) (λ e. before_yes a b c d (go (ltb a c) refl (ltb-true _ _ e))) (λ e. lt-ltb _ _ (back (before_true a b c d e)))
  where
    go : (t : Bool) → ltb a c ≡ t → key a b < key c d → Before a b c d
    go true q k = less (ltb-true a c q)
    go false q k = let i = ltb-false a c q in tied (omega arith) (omega arith)

    back : Before a b c d → key a b < key c d
    back (less i) = omega arith
    back (tied e i) = omega arith

and_six : (a b c d e f : Bool) → ((((a && b) && c) && d) && e && f) ≡ ((a && (b && (c && d))) && (e && f))
and_six true true true true e f = refl
and_six true true true false e f = refl
and_six true true false d e f = refl
and_six true false c d e f = refl
and_six false b c d e f = refl

-- a record for the link chain, by its tests
pub fits_test : (n x : ℕ) (l : Link) (z y : ℕ) → l.weight < 65536 → y ≡ key l.u l.v
    → (((((leb 1 l.u && ltb l.u l.v) && leb l.v n) && leb 1 l.weight) && eqb z 0) && ltb x y) ≡ (link_ok n l && (eqb z 0 && ltb x (key l.u l.v)))
fits_test n x l z y h k = and_six (leb 1 l.u) (ltb l.u l.v) (leb l.v n) (leb 1 l.weight) (eqb z 0) (ltb x y) ∙ rw (two_bytes n l h, k)

-- the same of a record of the image, after the link with ends c and d
pub fits_by : (s : List ℕ) (n c d k : ℕ) → d < 256 → (link_at s k).v < 256 → link_fits s n c d k ≡ (link_ok n (link_at s k) && (eqb (pad s k) 0 && ltb (key c d) (key (link_at s k).u (link_at s k).v)))
unfolding link_fits link_at pad_zero
fits_by s n c d k h l = rw (key_before c d (end_u s k) (end_v s k) h l)

-- a free record, by its tests
pub free_by : (s : List ℕ) (k : ℕ) → free_ok s k ≡ (eqb (link_at s k).u 0 && (eqb (link_at s k).v 0 && (eqb (link_at s k).weight 0 && eqb (pad s k) 0)))
unfolding free_ok every pad_zero link_at
free_by s k = rw (and_true (eqb (pad s k) 0)) refl

-- ---- src/edits.rt

-- the next record's number, stored by way of its slot
pub chained_turn : (s t : List ℕ) (k i : ℕ) → 1 ≤ k → i ≡ slot k → t ≡ set_word (chained (k - 1) s) i (k + 1) → t ≡ chained k s
unfolding chained slot
chained_turn s t zero i h e f = absurd (omega arith)
chained_turn s t (suc k) i h e f =
    let z : suc k - 1 ≡ k = omega arith in
    f ∙ rw (e, z, ne_eqb (suc k) 0 (λ z. omega arith))

-- whether a link is there, by the record that was read
pub holds_test : (s : List ℕ) (c d k : ℕ) (l : Link) → named k ≡ true → l ≡ link_at s k → (eqb l.u c && eqb l.v d) ≡ is_link s c d k
unfolding is_link has_ends
holds_test s c d k l n e = rw (n, e)

or_five : (a b c d e : Bool) → ((((a || b) || c) || d) || e) ≡ (a || (b || (c || (d || (e || false)))))
or_five true b c d e = refl
or_five false true c d e = refl
or_five false false true d e = refl
or_five false false false true e = refl
or_five false false false false true = refl
or_five false false false false false = refl

-- the bad ends, by their tests
pub ends_test : (n a b : ℕ) → ((((eqb a 0 || ltb n a) || eqb b 0) || ltb n b) || eqb a b) ≡ bad_ends n a b
unfolding bad_ends some
ends_test n a b = or_five (eqb a 0) (ltb n a) (eqb b 0) (ltb n b) (eqb a b)
