-- What is read after stores. Assumes nothing.
use Prim.Native.Nat.{ℕ, ◌+◌, ◌/◌, ◌%◌, ◌≤◌, ◌<◌}
use mathlib.Core.Path.{◌≡◌, ◌∙◌}
use mathlib.Core.List.{List}
use lib.ListN.{length, set, length-set}
use lib.Seq.{get_or-set_same, get_or-set_other}
use native.Mathlib.Omega.{arith}
use Rattle.site.specs.Layout.{byte, word, set_word, set_record, record_at, weight_at, next_at}

-- ---- one byte
module _ (s : List ℕ) (i x : ℕ) where
  -- the byte stored
  pub set_same : i < length s → byte (set s i x) i ≡ x
  unfolding byte
  set_same h = get_or-set_same s i x 0 h

  -- another byte
  pub set_other : (j : ℕ) → (j ≡ i → ⊥) → byte (set s i x) j ≡ byte s j
  unfolding byte
  set_other j n = get_or-set_other s i j x 0 n

-- ---- a field of two bytes

-- the same two bytes are the same field
pub word_of : (s t : List ℕ) (i : ℕ) → byte t i ≡ byte s i → byte t (i + 1) ≡ byte s (i + 1) → word t i ≡ word s i
unfolding word
word_of s t i a b = rw (a, b)

module _ (s : List ℕ) (i x : ℕ) where
  -- a store leaves the length
  pub length_word : length (set_word s i x) ≡ length s
  unfolding set_word
  length_word = simp length-set

  -- a byte outside the two that are stored
  pub byte_other : (j : ℕ) → (i ≤ j → j < i + 2 → ⊥) → byte (set_word s i x) j ≡ byte s j
  unfolding set_word
  byte_other j o =
      set_other (set s i (x % 256)) (i + 1) (x / 256) j (λ e. o (omega arith) (omega arith))
      ∙ set_other s i (x % 256) j (λ e. o (omega arith) (omega arith))

  -- a field outside them
  pub word_other : (j : ℕ) → (i < j + 2 → j < i + 2 → ⊥) → word (set_word s i x) j ≡ word s j
  word_other j o = word_of s (set_word s i x) j (byte_other j (λ a b. o (omega arith) b)) (byte_other (j + 1) (λ a b. o (omega arith) (omega arith)))

  -- the field that is stored
  pub word_same : i + 1 < length s → word (set_word s i x) i ≡ x
  unfolding set_word word
  word_same h =
      let t = set s i (x % 256) in
      let a = set_other t (i + 1) (x / 256) i (λ e. omega arith) ∙ set_same s i (x % 256) (omega arith) in
      let b = set_same t (i + 1) (x / 256) (simp length-set (omega arith)) in
      omega (arith, a, b)

-- ---- a record
module _ (s : List ℕ) (k u v w x : ℕ) where
  -- the stages of `set_record`
  s₁ : List ℕ
  s₁ = set s (record_at k) u

  s₂ : List ℕ
  s₂ = set s₁ (record_at k + 1) v

  s₃ : List ℕ
  s₃ = set_word s₂ (weight_at k) w

  -- a store leaves the length
  pub length_record : length (set_record s k u v w x) ≡ length s
  unfolding set_record set_word
  length_record = simp length-set

  -- a byte outside the six that are stored
  pub record_other : (j : ℕ) → (record_at k ≤ j → j < record_at k + 6 → ⊥) → byte (set_record s k u v w x) j ≡ byte s j
  unfolding set_record s₁ s₂ s₃
  record_other j o =
      byte_other s₃ (next_at k) x j (λ a b. o (omega arith) (omega arith))
      ∙ byte_other s₂ (weight_at k) w j (λ a b. o (omega arith) (omega arith))
      ∙ set_other s₁ (record_at k + 1) v j (λ e. o (omega arith) (omega arith))
      ∙ set_other s (record_at k) u j (λ e. o (omega arith) (omega arith))

  module _ (h : record_at k + 5 < length s) where
    -- the first end stored
    pub record_u : byte (set_record s k u v w x) (record_at k) ≡ u
    unfolding set_record s₁ s₂ s₃
    record_u =
        byte_other s₃ (next_at k) x (record_at k) (λ a b. omega arith)
        ∙ byte_other s₂ (weight_at k) w (record_at k) (λ a b. omega arith)
        ∙ set_other s₁ (record_at k + 1) v (record_at k) (λ e. omega arith)
        ∙ set_same s (record_at k) u (omega arith)

    -- the second end stored
    pub record_v : byte (set_record s k u v w x) (record_at k + 1) ≡ v
    unfolding set_record s₁ s₂ s₃
    record_v =
        byte_other s₃ (next_at k) x (record_at k + 1) (λ a b. omega arith)
        ∙ byte_other s₂ (weight_at k) w (record_at k + 1) (λ a b. omega arith)
        ∙ set_same s₁ (record_at k + 1) v (simp length-set (omega arith))

    -- the weight stored
    pub record_w : word (set_record s k u v w x) (weight_at k) ≡ w
    unfolding set_record s₁ s₂ s₃
    record_w = word_other s₃ (next_at k) x (weight_at k) (λ a b. omega arith) ∙ word_same s₂ (weight_at k) w (simp length-set (omega arith))

    -- the next record stored
    pub record_next : word (set_record s k u v w x) (next_at k) ≡ x
    unfolding set_record s₁ s₂ s₃
    record_next = word_same s₃ (next_at k) x (rw (length_word s₂ (weight_at k) w) (simp length-set (omega arith)))
