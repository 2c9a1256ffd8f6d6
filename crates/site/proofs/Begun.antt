-- A new image is valid, with no links, and records 1 to 256 free in that order. Assumes nothing.
use Prim.Native.Nat.{ℕ, zero, suc, ◌+◌, ◌≤◌, ◌<◌}
use mathlib.Core.Bool.{true}
use mathlib.Core.Path.{◌≡◌, refl, sym, ap, ◌∙◌, subst}
use mathlib.Core.List.{List, [], map}
use lib.ListN.{length, set, length-set, length-replicate}
use lib.Dec.{eqb}
use borrow.Author.Tests.{eq-eqb, le-leb}
use native.Mathlib.Omega.{arith}
use Rattle.lists.specs.Tests.{every, all, from}
use Rattle.links.specs.Links.{ascending}
use Rattle.lists.proofs.Tests.{and_both, Equal, equal, other, equal?, length_from}
use Rattle.site.specs.Layout.{SIZE, RECORDS, METERS, byte, word, set_word, meters_at, first_at, free_at, count_at, record_at, weight_at, next_at, pad_at, meters, first, first_free, count, end_u, end_v, weight, next, pad}
use Rattle.site.specs.Image.{free_chain, link_at, links, zero_at, pad_zero, free_ok, valid}
use Rattle.site.specs.Edits.{chained, zeros, begin_bytes}
use Rattle.site.specs.Inner.{head_ok}
use Rattle.site.proofs.Chain.{Linked}
use Rattle.site.proofs.Walked.{named_yes}
use Rattle.site.proofs.Valid.{Good, good_valid, good_links, good_frees}
use Rattle.site.proofs.Stores.{set_same, set_other, length_word, byte_other, word_other, word_same, word_of}

-- ---- the stores
module _ (s : List ℕ) where
  -- they leave the length
  pub chained_length : (m : ℕ) → length (chained m s) ≡ length s
  unfolding chained
  chained_length zero = refl
  chained_length (suc m) = length_word (chained m s) (next_at (suc m)) (suc m + 1) ∙ chained_length m

  -- a byte that is in next of no record stored
  pub chained_byte : (m j : ℕ) → ((k : ℕ) → 1 ≤ k → k ≤ m → next_at k ≤ j → j < next_at k + 2 → ⊥) → byte (chained m s) j ≡ byte s j
  unfolding chained
  chained_byte zero j o = refl
  chained_byte (suc m) j o =
      byte_other (chained m s) (next_at (suc m)) (suc m + 1) j (o (suc m) (omega arith) (omega arith)) ∙ chained_byte m j (λ k lo hi. o k lo (omega arith))

  -- next of a record stored
  pub chained_next : (m k : ℕ) → next_at m + 1 < length s → 1 ≤ k → k ≤ m → next (chained m s) k ≡ k + 1
  unfolding chained next
  chained_next zero k h lo hi = absurd (omega arith)
  chained_next (suc m) k h lo hi = go (equal? k (suc m)) (chained_next m k (omega arith) lo)
    where
      go : Equal k (suc m) → (k ≤ m → word (chained m s) (next_at k) ≡ k + 1) → word (set_word (chained m s) (next_at (suc m)) (suc m + 1)) (next_at k) ≡ k + 1
      go (equal e) r = rw e (word_same (chained m s) (next_at (suc m)) (suc m + 1) (omega (arith, h, chained_length m)))
      go (other n) r = word_other (chained m s) (next_at (suc m)) (suc m + 1) (next_at k) (λ x y. omega arith) ∙ r (omega arith)

zeros_length : (m : ℕ) → length (zeros m) ≡ m
unfolding zeros
zeros_length m = length-replicate m 0

zeros_byte : (m j : ℕ) → byte (zeros m) j ≡ 0
unfolding zeros byte
zeros_byte zero j = refl
zeros_byte (suc m) zero = refl
zeros_byte (suc m) (suc j) = zeros_byte m j

-- ---- the image, over SIZE zero bytes
module _ (z : List ℕ) (z-long : length z ≡ SIZE) (z-zero : (j : ℕ) → byte z j ≡ 0) (n : ℕ) where
  s₀ : List ℕ
  s₀ = set_word (set z meters_at n) free_at 1

  s : List ℕ
  s = chained 255 s₀

  long₀ : length s₀ ≡ SIZE
  unfolding s₀
  long₀ = length_word (set z meters_at n) free_at 1 ∙ length-set z meters_at n ∙ z-long

  -- a byte that is not stored
  rest : (j : ℕ) → 1 ≤ j → (free_at ≤ j → j < free_at + 2 → ⊥) → ((k : ℕ) → 1 ≤ k → k ≤ 255 → next_at k ≤ j → j < next_at k + 2 → ⊥) → byte s j ≡ 0
  unfolding s s₀
  rest j lo o p = chained_byte s₀ 255 j p ∙ byte_other (set z meters_at n) free_at 1 j o ∙ set_other z meters_at n j (λ e. omega arith) ∙ z-zero j

  -- ---- the header
  header : (j : ℕ) → 1 ≤ j → (free_at ≤ j → j < free_at + 2 → ⊥) → j < record_at 1 → byte s j ≡ 0
  header j lo o hi = rest j lo o (λ k a b x y. omega arith)

  -- the bytes before the records are not in next of one
  before : (j : ℕ) → j < record_at 1 → byte s j ≡ byte s₀ j
  unfolding s
  before j hi = chained_byte s₀ 255 j (λ k a b x y. omega arith)

  meters_is : meters s ≡ n
  unfolding meters s₀
  meters_is = before meters_at (omega arith) ∙ byte_other (set z meters_at n) free_at 1 meters_at (λ a b. omega arith) ∙ set_same z meters_at n (omega (arith, z-long))

  free_is : first_free s ≡ 1
  unfolding first_free s₀
  free_is = word_of s₀ s free_at (before free_at (omega arith)) (before (free_at + 1) (omega arith)) ∙ word_same (set z meters_at n) free_at 1 (rw (length-set z meters_at n, z-long) (omega arith))

  first_is : first s ≡ 0
  unfolding first word
  first_is = omega (arith, header first_at (omega arith) (λ a b. omega arith) (omega arith), header (first_at + 1) (omega arith) (λ a b. omega arith) (omega arith))

  count_is : count s ≡ 0
  unfolding count word
  count_is = omega (arith, header count_at (omega arith) (λ a b. omega arith) (omega arith), header (count_at + 1) (omega arith) (λ a b. omega arith) (omega arith))

  zeros_are : (m j : ℕ) → 8 ≤ j → j + m ≤ 16 → all (zero_at s) (from j m) ≡ true
  unfolding all from zero_at
  zeros_are zero j lo hi = refl
  zeros_are (suc m) j lo hi = and_both (eqb (byte s j) 0) _ (eq-eqb (byte s j) 0 (header j (omega arith) (λ a b. omega arith) (omega arith))) (zeros_are m (suc j) (omega arith) (omega arith))

  -- ---- the records
  inside : (k j : ℕ) → 1 ≤ k → record_at k ≤ j → j < record_at k + 8 → (next_at k ≤ j → j < next_at k + 2 → ⊥) → byte s j ≡ 0
  inside k j lo a b o = rest j (omega arith) (λ x y. omega arith) (λ i l h x y. o (omega arith) (omega arith))

  inside_word : (k i : ℕ) → 1 ≤ k → record_at k ≤ i → i + 1 < record_at k + 8 → (next_at k ≤ i + 1 → i < next_at k + 2 → ⊥) → word s i ≡ 0
  unfolding word
  inside_word k i lo a b o = omega (arith, inside k i lo a (omega arith) (λ x y. o (omega arith) y), inside k (i + 1) lo (omega arith) b (λ x y. o x (omega arith)))

  each_free : (k : ℕ) → 1 ≤ k → free_ok s k ≡ true
  unfolding free_ok every pad_zero end_u end_v weight pad
  each_free k lo = rw (
    inside k (record_at k) lo (omega arith) (omega arith) (λ x y. omega arith),
    inside k (record_at k + 1) lo (omega arith) (omega arith) (λ x y. omega arith),
    inside_word k (weight_at k) lo (omega arith) (omega arith) (λ x y. omega arith),
    inside_word k (pad_at k) lo (omega arith) (omega arith) (λ x y. omega arith),
  )

  frees_ok : (m k : ℕ) → 1 ≤ k → all (free_ok s) (from k m) ≡ true
  unfolding all from
  frees_ok zero k lo = refl
  frees_ok (suc m) k lo = and_both (free_ok s k) _ (each_free k lo) (frees_ok m (suc k) (omega arith))

  next_last : next s RECORDS ≡ 0
  unfolding next word
  next_last = omega (arith, rest (next_at RECORDS) (omega arith) (λ a b. omega arith) (λ k a b x y. omega arith), rest (next_at RECORDS + 1) (omega arith) (λ a b. omega arith) (λ k a b x y. omega arith))

  next_is : (k : ℕ) → 1 ≤ k → k ≤ 255 → next s k ≡ suc k
  unfolding s
  next_is k lo hi = omega (arith, chained_next s₀ 255 k (omega (arith, long₀)) lo hi)

  -- records k to 256, of which m are left after record k
  frees_linked : (m k : ℕ) → 1 ≤ k → k + m ≡ RECORDS → Linked s k (from k (suc m))
  unfolding from
  frees_linked zero k lo e = (refl, named_yes k lo (omega arith), subst (λ (j : ℕ). next s j ≡ 0) (omega arith) next_last)
  frees_linked (suc m) k lo e = (
    refl,
    named_yes k lo (omega arith),
    subst (λ (j : ℕ). Linked s j (from (suc k) (suc m))) (sym (next_is k lo (omega arith))) (frees_linked m (suc k) (omega arith) (omega arith)),
  )

  module _ (lo : 1 ≤ n) (hi : n ≤ METERS) where
    head_ok_is : head_ok s ≡ true
    unfolding head_ok all zero_at
    head_ok_is = rw (header 1 (omega arith) (λ a b. omega arith) (omega arith), zeros_are 8 8 (omega arith) (omega arith), meters_is, le-leb 1 n lo, le-leb n METERS hi)

    begun : Good s [] (from 1 RECORDS)
    unfolding all ascending s
    begun =
        record {
          long = chained_length s₀ 255 ∙ long₀;
          head = head_ok_is;
          links = first_is;
          links_ok = refl;
          links_pad = refl;
          links_rise = refl;
          counted = sym count_is;
          frees = subst (λ (j : ℕ). Linked s j (from 1 RECORDS)) (sym free_is) (frees_linked 255 1 (omega arith) (omega arith));
          frees_ok = frees_ok RECORDS 1 (omega arith);
          whole = omega (arith, length_from 1 RECORDS);
        }

-- ---- the theorems of begin
module _ (n : ℕ) (lo : 1 ≤ n) (hi : n ≤ METERS) where
  begin_good : Good (begin_bytes n) [] (from 1 RECORDS)
  unfolding begin_bytes s s₀
  begin_good = begun (zeros SIZE) (zeros_length SIZE) (zeros_byte SIZE) n lo hi

  -- a new image is valid
  pub begin_valid : valid (begin_bytes n) ≡ true
  begin_valid = good_valid (begin_bytes n) [] (from 1 RECORDS) begin_good

  -- it has no links
  pub begin_links : links (begin_bytes n) ≡ []
  unfolding links
  begin_links = ap (map (link_at (begin_bytes n))) (good_links (begin_bytes n) [] (from 1 RECORDS) begin_good)

  -- "chains records 1 to 256 as free, in that order"
  pub begin_free : free_chain (begin_bytes n) ≡ from 1 RECORDS
  begin_free = good_frees (begin_bytes n) [] (from 1 RECORDS) begin_good

  -- it has n meters
  pub begin_meters : meters (begin_bytes n) ≡ n
  unfolding begin_bytes s s₀
  begin_meters = meters_is (zeros SIZE) (zeros_length SIZE) (zeros_byte SIZE) n
