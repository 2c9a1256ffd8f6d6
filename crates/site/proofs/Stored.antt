-- The fields of an image after the stores that add and remove have in common: the first free record, the count, one record, and what follows another. Assumes nothing.
use Prim.Native.Nat.{ℕ, zero, suc, ◌+◌, ◌≤◌, ◌<◌}
use mathlib.Core.Bool.{Bool, true}
use mathlib.Core.Path.{◌≡◌, refl, ap₂, ◌∙◌}
use mathlib.Core.List.{List, [], ◌∷◌}
use lib.ListN.{length}
use lib.Dec.{eqb}
use borrow.Author.Tests.{eq-eqb, ne_eqb}
use native.Mathlib.Omega.{arith}
use Rattle.lists.specs.Tests.{every, all, from}
use Rattle.links.specs.declared.Link.{Link}
use Rattle.lists.proofs.Tests.{and_both, Equal, equal, other, equal?}
use Rattle.site.specs.Layout.{SIZE, RECORDS, byte, word, set_word, set_record, meters_at, first_at, free_at, count_at, record_at, weight_at, next_at, pad_at, meters, first_free, count, end_u, end_v, weight, next, pad}
use Rattle.site.specs.Image.{link_at, zero_at, pad_zero, free_ok}
use Rattle.site.specs.Edits.{slot, after}
use Rattle.site.specs.Inner.{head_ok}
use Rattle.site.proofs.Stores.{length_word, length_record, byte_other, word_same, word_of, record_other, record_u, record_v, record_w, record_next}

-- s with a as the first free record, b as the count, record r written with the ends u and v, the weight w and the next record q, and y as what follows record p
unfoldable pub stored : List ℕ → ℕ → ℕ → ℕ → ℕ → ℕ → ℕ → ℕ → ℕ → ℕ → List ℕ
stored s a b r u v w q p y = set_word (set_record (set_word (set_word s free_at a) count_at b) r u v w q) (slot p) y

-- what is read in it
pub record Stored (s s' : List ℕ) (a b r u v w q p y : ℕ) : Type 0 where
  pub length_same : length s' ≡ length s
  pub meters_same : meters s' ≡ meters s
  pub head_same : head_ok s' ≡ head_ok s
  pub free_new : first_free s' ≡ a
  pub count_new : count s' ≡ b
  pub after_place : after s' p ≡ y
  pub next_new : next s' r ≡ q
  pub after_same : (k : ℕ) → (k ≡ p → ⊥) → (k ≡ r → ⊥) → after s' k ≡ after s k
  pub link_new : link_at s' r ≡ record { u = u; v = v; weight = w }
  pub link_same : (k : ℕ) → 1 ≤ k → (k ≡ r → ⊥) → link_at s' k ≡ link_at s k
  pub pad_same : (k : ℕ) → 1 ≤ k → pad s' k ≡ pad s k

-- where a slot stands
data Slot (p : ℕ) : Type 0 where
  header : p ≡ 0 → slot p ≡ first_at → Slot p
  inner : 1 ≤ p → slot p ≡ next_at p → Slot p

slot_cases : (p : ℕ) → Slot p
unfolding slot
slot_cases p = go (equal? p 0)
  where
    go : Equal p 0 → Slot p
    go (equal e) = header e (rw (eq-eqb p 0 e))
    go (other n) = inner (omega arith) (rw (ne_eqb p 0 n))

module _ (s : List ℕ) (a b r u v w q p y : ℕ) where
  s₁ : List ℕ
  s₁ = set_word s free_at a

  s₂ : List ℕ
  s₂ = set_word s₁ count_at b

  s₃ : List ℕ
  s₃ = set_record s₂ r u v w q

  s' : List ℕ
  s' = stored s a b r u v w q p y

  stored_length : length s' ≡ length s
  unfolding s' stored s₁ s₂ s₃
  stored_length = length_word s₃ (slot p) y ∙ length_record s₂ r u v w q ∙ length_word s₁ count_at b ∙ length_word s free_at a

  -- a byte outside the slot is as before its store
  behind : (j : ℕ) → (slot p ≤ j → j < slot p + 2 → ⊥) → byte s' j ≡ byte s₃ j
  unfolding s' stored s₁ s₂ s₃
  behind j o = byte_other s₃ (slot p) y j o

  -- a byte that no store reaches
  same_byte : (j : ℕ) → (free_at ≤ j → j < count_at + 2 → ⊥) → (record_at r ≤ j → j < record_at r + 6 → ⊥) → (slot p ≤ j → j < slot p + 2 → ⊥) → byte s' j ≡ byte s j
  unfolding s₁ s₂ s₃
  same_byte j o₁ o₂ o₃ =
      behind j o₃
      ∙ record_other s₂ r u v w q j o₂
      ∙ byte_other s₁ count_at b j (λ x y. o₁ (omega arith) (omega arith))
      ∙ byte_other s free_at a j (λ x y. o₁ (omega arith) (omega arith))

  module _ (long : length s ≡ SIZE) (r-lo : 1 ≤ r) (r-hi : r ≤ RECORDS) (p-hi : p ≤ RECORDS) (apart : p ≡ r → ⊥) where
    long₁ : length s₁ ≡ SIZE
    unfolding s₁
    long₁ = length_word s free_at a ∙ long

    long₂ : length s₂ ≡ SIZE
    unfolding s₂
    long₂ = length_word s₁ count_at b ∙ long₁

    long₃ : length s₃ ≡ SIZE
    unfolding s₃
    long₃ = length_record s₂ r u v w q ∙ long₂

    -- ---- what follows a record
    slot_same : (k : ℕ) → (k ≡ p → ⊥) → (k ≡ r → ⊥) → word s' (slot k) ≡ word s (slot k)
    slot_same k n m = word_of s s' (slot k) (go (slot k) (omega arith) (omega arith) (slot_cases k) (slot_cases p)) (go (slot k + 1) (omega arith) (omega arith) (slot_cases k) (slot_cases p))
      where
        go : (j : ℕ) → slot k ≤ j → j < slot k + 2 → Slot k → Slot p → byte s' j ≡ byte s j
        go j h l (header z e) (header c f) = absurd (n (omega arith))
        go j h l (header z e) (inner c f) = same_byte j (λ x t. omega arith) (λ x t. omega arith) (λ x t. omega arith)
        go j h l (inner z e) (header c f) = same_byte j (λ x t. omega arith) (λ x t. omega arith) (λ x t. omega arith)
        go j h l (inner z e) (inner c f) = same_byte j (λ x t. omega arith) (λ x t. omega arith) (λ x t. omega arith)

    slot_new : word s' (slot p) ≡ y
    unfolding s' stored s₁ s₂ s₃
    slot_new = word_same s₃ (slot p) y (go (slot_cases p))
      where
        go : Slot p → slot p + 1 < length s₃
        go (header c f) = omega (arith, long₃)
        go (inner c f) = omega (arith, long₃)

    -- ---- bytes that the slot of p does not reach: the first free record, the count, and record r
    off : (j : ℕ) → (j < count_at + 2 → free_at ≤ j) → (count_at + 2 ≤ j → (record_at r ≤ j) × (j < record_at r + 8)) → slot p ≤ j → j < slot p + 2 → ⊥
    off j h k x t = go (slot_cases p) (equal? p r)
      where
        go : Slot p → Equal p r → ⊥
        go d (equal e) = apart e
        go (header c f) (other e) = omega (arith, h (omega arith))
        go (inner c f) (other e) = omega (arith, k (omega arith))

    in_record : (j : ℕ) → record_at r ≤ j → j < record_at r + 8 → byte s' j ≡ byte s₃ j
    in_record j h k = behind j (off j (λ x. omega arith) (λ x. (h, k)))

    in_head : (j : ℕ) → free_at ≤ j → j < count_at + 2 → byte s' j ≡ byte s₂ j
    unfolding s₃
    in_head j h k = behind j (off j (λ x. h) (λ x. absurd (omega arith))) ∙ record_other s₂ r u v w q j (λ x y. omega arith)

    -- ---- the header
    free_is : word s' free_at ≡ a
    unfolding s₁ s₂
    free_is = word_of s₁ s' free_at (go free_at (omega arith) (omega arith)) (go (free_at + 1) (omega arith) (omega arith)) ∙ word_same s free_at a (omega (arith, long))
      where
        go : (j : ℕ) → free_at ≤ j → j < free_at + 2 → byte s' j ≡ byte s₁ j
        go j h k = in_head j h (omega arith) ∙ byte_other s₁ count_at b j (λ x y. omega arith)

    count_is : word s' count_at ≡ b
    unfolding s₂
    count_is = word_of s₂ s' count_at (in_head count_at (omega arith) (omega arith)) (in_head (count_at + 1) (omega arith) (omega arith)) ∙ word_same s₁ count_at b (omega (arith, long₁))

    head_byte : (j : ℕ) → (first_at ≤ j → j < count_at + 2 → ⊥) → j < record_at 1 → byte s' j ≡ byte s j
    head_byte j o h = go (slot_cases p)
      where
        go : Slot p → byte s' j ≡ byte s j
        go (header c f) = same_byte j (λ x t. o (omega arith) (omega arith)) (λ x t. omega arith) (λ x t. o (omega arith) (omega arith))
        go (inner c f) = same_byte j (λ x t. o (omega arith) (omega arith)) (λ x t. omega arith) (λ x t. omega arith)

    zeros_same : (m j : ℕ) → 8 ≤ j → j + m ≤ 16 → all (zero_at s') (from j m) ≡ all (zero_at s) (from j m)
    unfolding all from zero_at
    zeros_same zero j h l = refl
    zeros_same (suc m) j h l = rw (head_byte j (λ x t. omega arith) (omega arith), zeros_same m (suc j) (omega arith) (omega arith))

    -- ---- another record, but for next, and the zero bytes of every record
    record_byte : (k j : ℕ) → 1 ≤ k → (k ≡ r → record_at k + 6 ≤ j) → record_at k ≤ j → j < record_at k + 8 → (next_at k ≤ j → j < next_at k + 2 → ⊥) → byte s' j ≡ byte s j
    record_byte k j lo n h l o = same_byte j (λ x y. omega arith) (go (equal? k r)) (at (slot_cases p) (equal? p k))
      where
        go : Equal k r → record_at r ≤ j → j < record_at r + 6 → ⊥
        go (equal e) x t = omega (arith, n e)
        go (other e) x t = omega arith

        at : Slot p → Equal p k → slot p ≤ j → j < slot p + 2 → ⊥
        at (header c f) e x t = omega arith
        at (inner c f) (equal e) x t = o (omega arith) (omega arith)
        at (inner c f) (other e) x t = omega arith

    record_word : (k i : ℕ) → 1 ≤ k → (k ≡ r → record_at k + 6 ≤ i) → record_at k ≤ i → i + 1 < record_at k + 8 → (next_at k ≤ i + 1 → i < next_at k + 2 → ⊥) → word s' i ≡ word s i
    record_word k i lo n h l o = word_of s s' i (record_byte k i lo n h (omega arith) (λ x t. o (omega arith) t)) (record_byte k (i + 1) lo (λ e. omega (arith, n e)) (omega arith) l (λ x t. o x (omega arith)))

    meters_is : meters s' ≡ meters s
    unfolding meters
    meters_is = head_byte meters_at (λ x t. omega arith) (omega arith)

    head_is : head_ok s' ≡ head_ok s
    unfolding head_ok all zero_at
    head_is = rw (head_byte 1 (λ x t. omega arith) (omega arith), zeros_same 8 8 (omega arith) (omega arith), meters_is)

    link_is : link_at s' r ≡ record { u = u; v = v; weight = w }
    unfolding link_at end_u end_v weight s₃
    link_is =
        let x = in_record (record_at r) (omega arith) (omega arith) ∙ record_u s₂ r u v w q (omega (arith, long₂)) in
        let y = in_record (record_at r + 1) (omega arith) (omega arith) ∙ record_v s₂ r u v w q (omega (arith, long₂)) in
        let z = word_of s₃ s' (weight_at r) (in_record (weight_at r) (omega arith) (omega arith)) (in_record (weight_at r + 1) (omega arith) (omega arith)) ∙ record_w s₂ r u v w q (omega (arith, long₂)) in
        λ i. record { u = x i; v = y i; weight = z i }

    next_is : next s' r ≡ q
    unfolding next s₃
    next_is = word_of s₃ s' (next_at r) (in_record (next_at r) (omega arith) (omega arith)) (in_record (next_at r + 1) (omega arith) (omega arith)) ∙ record_next s₂ r u v w q (omega (arith, long₂))

    link_other : (k : ℕ) → 1 ≤ k → (k ≡ r → ⊥) → link_at s' k ≡ link_at s k
    unfolding link_at end_u end_v weight
    link_other k lo n =
        let x = record_byte k (record_at k) lo (λ e. absurd (n e)) (omega arith) (omega arith) (λ x t. omega arith) in
        let y = record_byte k (record_at k + 1) lo (λ e. absurd (n e)) (omega arith) (omega arith) (λ x t. omega arith) in
        let z = record_word k (weight_at k) lo (λ e. absurd (n e)) (omega arith) (omega arith) (λ x t. omega arith) in
        λ i. record { u = x i; v = y i; weight = z i }

    -- the stores do what they should
    pub stored_all : Stored s (stored s a b r u v w q p y) a b r u v w q p y
    unfolding first_free count after pad s'
    stored_all =
        record {
          length_same = stored_length;
          meters_same = meters_is;
          head_same = head_is;
          free_new = free_is;
          count_new = count_is;
          after_place = slot_new;
          next_new = next_is;
          after_same = slot_same;
          link_new = link_is;
          link_same = link_other;
          pad_same = λ k lo. record_word k (pad_at k) lo (λ e. omega arith) (omega arith) (omega arith) (λ x t. omega arith);
        }

-- ---- tests of records afterwards

-- a free record, by its link and its zero bytes
free_of : Link → ℕ → Bool
free_of l z = every (eqb l.u 0 ∷ eqb l.v 0 ∷ eqb l.weight 0 ∷ eqb z 0 ∷ [])

module _ (s s' : List ℕ) (a b r u v w q p y : ℕ) (st : Stored s s' a b r u v w q p y) where
  -- zero bytes are as they were
  pub pad_zero_same : (k : ℕ) → 1 ≤ k → pad_zero s' k ≡ pad_zero s k
  unfolding pad_zero
  pad_zero_same k lo = rw (st.pad_same k lo)

  -- another record is free as it was
  pub free_same : (k : ℕ) → 1 ≤ k → (k ≡ r → ⊥) → free_ok s' k ≡ free_ok s k
  unfolding free_ok pad_zero free_of link_at
  free_same k lo n = ap₂ free_of (st.link_same k lo n) (st.pad_same k lo)

-- a record written with zeros is free
pub free_written : (s s' : List ℕ) (a b r q p y : ℕ) → Stored s s' a b r 0 0 0 q p y → 1 ≤ r → pad_zero s r ≡ true → free_ok s' r ≡ true
unfolding free_ok pad_zero free_of link_at every
free_written s _ a b r q p y st lo e = ap₂ free_of st.link_new (st.pad_same r lo) ∙ and_both (eqb (pad s r) 0) true e refl
