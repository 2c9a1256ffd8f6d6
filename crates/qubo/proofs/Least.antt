-- A word of least cost, found by trying all: among the lists of n entries, each at most k, that pass a decidable test. An assignment of n bits is a word of entries at most 1.
-- Assumes nothing.
use mathlib.Core.Path.{◌≡◌, refl, ap, subst}
use mathlib.Core.Logic.{◌⊎◌, inl, inr}
use mathlib.Core.List.{List, [], ◌∷◌}
use Prim.Native.Nat.{ℕ, zero, suc, ◌≤◌, ◌<◌, zero-le, suc-le-suc}
use native.Mathlib.Decide.{dec_lt}
use native.Mathlib.Nat.{le_refl, le_trans, le-suc, le_of_suc-le-suc, not-suc-le-zero}
use native.Mathlib.Omega.{arith}
use lib.ListN.{length, replicate, get_or}
use lib.IntN.{ℤ, pos}
use lib.Signed.{◌≤ℤ◌, ≤ℤ_refl}
use Rattle.qubo.proofs.Order.{≤ℤ_trans, ≤ℤ_total, pos-≤ℤ}
use Rattle.qubo.specs.Formula.{Assignment}

-- a list of n entries, each at most k
pub data Word (k : ℕ) : ℕ → List ℕ → Type 0 where
  stop : Word k zero []
  more : {n : ℕ} {x : ℕ} {xs : List ℕ} → x ≤ k → Word k n xs → Word k (suc n) (x ∷ xs)

-- none of the lists in W passes P, or one that does is least by f, in the order le
abbrev pub Least : {C : Type 0} → (C → C → Type 0) → (List ℕ → Type 0) → (List ℕ → Type 0) → (List ℕ → C) → Type 0
Least le W P f = ((xs : List ℕ) → W xs → P xs → ⊥) ⊎ ((xs : List ℕ) × W xs × P xs × ((ys : List ℕ) → W ys → P ys → le (f xs) (f ys)))

-- ---- the search
-- a word of n entries behind an entry below j
data Below (k n j : ℕ) : List ℕ → Type 0 where
  below : {x : ℕ} {xs : List ℕ} → x < j → Word k n xs → Below k n j (x ∷ xs)

-- a word of n + 1 entries is one of n behind an entry below k + 1
word_below : {k n : ℕ} (xs : List ℕ) → Word k (suc n) xs → Below k n (suc k) xs
word_below _ (more h w) = below (suc-le-suc h) w

-- and back
below_word : {k n : ℕ} (xs : List ℕ) → Below k n (suc k) xs → Word k (suc n) xs
below_word _ (below h w) = more (le_of_suc-le-suc h) w

module _ (k n : ℕ) (P : List ℕ → Type 0) (f : List ℕ → ℤ) where
  -- what is below j is below j + 1
  raise : (j : ℕ) (xs : List ℕ) → Below k n j xs → Below k n (suc j) xs
  raise j _ (below h w) = below (le_trans h (le-suc j)) w

  -- what holds behind each entry below j, and behind j, holds behind each entry below j + 1
  split : (j : ℕ) (Q : List ℕ → Type 0) → ((xs : List ℕ) → Below k n j xs → Q xs) → ((xs : List ℕ) → Word k n xs → Q (j ∷ xs)) → (xs : List ℕ) → Below k n (suc j) xs → Q xs
  split j Q a b _ (below {x = x} {xs = xs} h w) = elim (dec_lt x j) [ yes l ↦ a (x ∷ xs) (below l w) | no l ↦ subst (λ (y : ℕ). Q (y ∷ xs)) (let e : j ≡ x = omega arith in e) (b xs w) ]

  -- the better of a least word below j and a least word at j
  better : (j : ℕ) → Least ◌≤ℤ◌ (Below k n j) P f → Least ◌≤ℤ◌ (Word k n) (λ xs. P (j ∷ xs)) (λ xs. f (j ∷ xs)) → Least ◌≤ℤ◌ (Below k n (suc j)) P f
  better j (inl a) (inl b) = inl (split j (λ xs. P xs → ⊥) a b)
  better j (inl a) (inr (t, w, q, m)) = inr (j ∷ t, below (le_refl (suc j)) w, q, split j (λ xs. P xs → f (j ∷ t) ≤ℤ f xs) (λ xs v p. absurd (a xs v p)) m)
  better j (inr (s, v, p, l)) (inl b) = inr (s, raise j s v, p, split j (λ xs. P xs → f s ≤ℤ f xs) l (λ xs w q. absurd (b xs w q)))
  better j (inr (s, v, p, l)) (inr (t, w, q, m)) = elim (≤ℤ_total (f s) (f (j ∷ t))) [
    | inl h ↦ inr (s, raise j s v, p, split j (λ xs. P xs → f s ≤ℤ f xs) l (λ xs w q. ≤ℤ_trans h (m xs w q)))
    | inr h ↦ inr (j ∷ t, below (le_refl (suc j)) w, q, split j (λ xs. P xs → f (j ∷ t) ≤ℤ f xs) (λ xs v p. ≤ℤ_trans h (l xs v p)) m)
  ]

  -- from a least word behind each entry, a least one behind the entries below j
  behind : ((j : ℕ) → Least ◌≤ℤ◌ (Word k n) (λ xs. P (j ∷ xs)) (λ xs. f (j ∷ xs))) → (j : ℕ) → Least ◌≤ℤ◌ (Below k n j) P f
  behind h zero = inl none
    where
      none : (xs : List ℕ) → Below k n 0 xs → P xs → ⊥
      none _ (below l w) p = not-suc-le-zero l
  behind h (suc j) = better j (behind h j) (h j)

  -- all words, once j is past k
  whole : Least ◌≤ℤ◌ (Below k n (suc k)) P f → Least ◌≤ℤ◌ (Word k (suc n)) P f
  whole (inl a) = inl (λ xs w. a xs (word_below xs w))
  whole (inr (s, v, p, l)) = inr (s, below_word s v, p, λ ys w. l ys (word_below ys w))

-- a word of least cost among those that pass P
pub least : (k n : ℕ) (P : List ℕ → Type 0) → ((xs : List ℕ) → Dec (P xs)) → (f : List ℕ → ℤ) → Least ◌≤ℤ◌ (Word k n) P f
least k zero P d f = elim (d []) [ yes p ↦ inr ([], stop, p, λ ys w q. nil (λ xs. f [] ≤ℤ f xs) (≤ℤ_refl (f [])) ys w) | no p ↦ inl (nil (λ xs. P xs → ⊥) p) ]
  where
    nil : (Q : List ℕ → Type 0) → Q [] → (xs : List ℕ) → Word k zero xs → Q xs
    nil Q q _ stop = q
least k (suc n) P d f = whole k n P f (behind k n P f (λ j. least k n (λ xs. P (j ∷ xs)) (λ xs. d (j ∷ xs)) (λ xs. f (j ∷ xs))) (suc k))

-- the same with costs in ℕ
pub least_ℕ : (k n : ℕ) (P : List ℕ → Type 0) → ((xs : List ℕ) → Dec (P xs)) → (f : List ℕ → ℕ) → Least ◌≤◌ (Word k n) P f
least_ℕ k n P d f = elim (least k n P d (λ xs. pos (f xs))) [ inl a ↦ inl a | inr (s, w, p, l) ↦ inr (s, w, p, λ ys v q. pos-≤ℤ (l ys v q)) ]

-- ---- words and assignments
-- a word's length
pub word_size : {k n : ℕ} {x : List ℕ} → Word k n x → length x ≡ n
word_size stop = refl
word_size (more h w) = ap suc (word_size w)

-- each entry of a word is at most k
pub word_entry : {k n : ℕ} {x : List ℕ} → Word k n x → (i : ℕ) → get_or x i 0 ≤ k
word_entry stop i = zero-le
word_entry (more h w) zero = h
word_entry (more h w) (suc i) = word_entry w i

-- a list whose entries are at most k is a word
pub word_of : (k : ℕ) (x : List ℕ) → ((i : ℕ) → get_or x i 0 ≤ k) → Word k (length x) x
word_of k [] h = stop
word_of k (b ∷ x) h = more (h 0) (word_of k x (λ i. h (suc i)))

-- n zeros are a word: there is always one
pub zeros_word : (k n : ℕ) → Word k n (replicate n 0)
zeros_word k zero = stop
zeros_word k (suc n) = more zero-le (zeros_word k n)

-- a word of entries at most 1 is an assignment
pub word_assignment : (n : ℕ) (x : List ℕ) → Word 1 n x → Assignment n x
word_assignment n x w = record { size = word_size w; bits = word_entry w }

-- an assignment is a word of entries at most 1
pub assignment_word : (n : ℕ) (x : List ℕ) → Assignment n x → Word 1 n x
assignment_word n x a = subst (λ (m : ℕ). Word 1 m x) a.size (word_of 1 x a.bits)

-- an assignment of least energy
pub least_assignment : (n : ℕ) (E : List ℕ → ℤ) → (x : List ℕ) × Assignment n x × ((y : List ℕ) → Assignment n y → E x ≤ℤ E y)
least_assignment n E = elim (least 1 n (λ x. Unit) (λ x. yes tt) E) [
  | inl a ↦ absurd (a (replicate n 0) (zeros_word 1 n) tt)
  | inr (x, w, p, l) ↦ (x, word_assignment n x w, λ y v. l y (assignment_word n y v) tt)
]
