-- Codes of choices, and back: an assignment with exactly one bit set at each meter is the code of its choices. Assumes nothing.
use Prim.Native.Nat.{ℕ, zero, suc, ◌+◌, ◌*◌, ◌/◌, ◌%◌, ◌≤◌, ◌<◌}
use mathlib.Core.Path.{◌≡◌, refl, sym, ap, ap₂, ◌∙◌}
use mathlib.Core.Logic.{◌↔◌}
use mathlib.Core.Bool.{true, ◌&&◌}
use mathlib.Core.List.{List, [], ◌∷◌, ◌++◌}
use lib.ListN.{length, get_or, set, take, length-append, get_or-append}
use lib.Seq.{get_or_at, get_or-append-add, take-suc-set, take_all, ext_get_or}
use lib.Dec.{eqb, leb}
use native.Mathlib.Omega.{arith}
use native.Mathlib.Decide.{ℕ_discrete}
use native.Mathlib.Numerals.{add-one}
use native.Mathlib.Nat.{zero-mul, zero-add, suc-mul, one-le-mul, mod-lt, div-add-mod', div-lt_iff_lt-mul}
use borrow.Author.Tests.{eq-eqb, le-leb, eqb-true, leb-true}
use Rattle.lists.specs.Tests.{all}
use Rattle.lists.specs.Sums.{same, nth}
use Rattle.lists.proofs.Tests.{and_left, and_right, and_both, all_head, all_tail}
use Rattle.lists.proofs.Sums.{same_yes, same_le, same_one, sum_to_eq, sum_to_none, sum_to_same, sum_to_hot, sum_to_zero_at}
use Rattle.qubo.specs.Formula.{Bits, Assignment}
use Rattle.qubo.specs.Terms.{each}
use Rattle.onehot.specs.Choices.{bit_at, set_at, miss_squared, misses, are_choices, code}

-- ---- lists of n entries

pub each_length : (n : ℕ) (f : ℕ → ℕ) → length (each n f) ≡ n
each_length zero f = refl
each_length (suc k) f = rw length-append (omega (arith, each_length k f))

pub each_at : (n : ℕ) (f : ℕ → ℕ) (j : ℕ) → j < n → get_or (each n f) j 0 ≡ f (suc j)
each_at zero f j h = absurd (omega arith)
each_at (suc k) f j h =
    elim (ℕ_discrete j k) [
      | yes e ↦ get_or_at (each k f) (f (suc k)) [] 0 j (each_length k f ∙ sym e) ∙ ap (λ t. f (suc t)) (sym e)
      | no e ↦ get_or-append (each k f) (f (suc k) ∷ []) 0 j (omega (arith, each_length k f)) ∙ each_at k f j (omega arith)
    ]

module _ (f : ℕ → ℕ) where
  -- filled in turn: one entry more
  pub filled_next : (l : List ℕ) (v c : ℕ) → v < length l → take v l ≡ each v f → c ≡ f (v + 1) → take (v + 1) (set l v c) ≡ each (v + 1) f
  filled_next l v c h e d = rw add-one (take-suc-set l v c h ∙ ap₂ (λ (s : List ℕ) (t : ℕ). s ++ (t ∷ [])) e (rw (← add-one v) d))

  -- all of them
  pub filled_end : (N : ℕ) (l : List ℕ) (v : ℕ) → v ≡ N → length l ≡ N → take v l ≡ each v f → l ≡ each N f
  filled_end N l v d s e = sym (take_all v l (omega arith)) ∙ e ∙ ap (λ (t : ℕ). each t f) d

-- bits behind bits are bits
pub bits_append : (s t : List ℕ) → Bits s → Bits t → Bits (s ++ t)
bits_append [] t hs ht k = ht k
bits_append (a ∷ s) t hs ht zero = hs zero
bits_append (a ∷ s) t hs ht (suc k) = bits_append s t (λ j. hs (suc j)) ht k

small_one : (a : ℕ) → a ≤ 1 → (k : ℕ) → get_or (a ∷ []) k 0 ≤ 1
small_one a h zero = h
small_one a h (suc k) = omega arith

small_nil : (k : ℕ) → get_or {A = ℕ} [] k 0 ≤ 1
small_nil k = omega arith

small_each : (n : ℕ) (f : ℕ → ℕ) → ((i : ℕ) → f i ≤ 1) → (k : ℕ) → get_or (each n f) k 0 ≤ 1
small_each zero f h = small_nil
small_each (suc m) f h = bits_append (each m f) (f (suc m) ∷ []) (small_each m f h) (small_one (f (suc m)) (h (suc m)))

-- ---- the bits of a code

pub code_length : (n : ℕ) (p : List ℕ) → length (code n p) ≡ length p * n
unfolding code
code_length n [] = sym (zero-mul n)
code_length n (c ∷ p) = rw (length-append, suc-mul) (omega (arith, code_length n p, each_length n (same c)))

pub code_small : (n : ℕ) (p : List ℕ) (k : ℕ) → get_or (code n p) k 0 ≤ 1
unfolding code
code_small n [] = small_nil
code_small n (c ∷ p) = bits_append (each n (same c)) (code n p) (small_each n (same c) (same_le c)) (code_small n p)

pub code_at : (n : ℕ) (p : List ℕ) (k j : ℕ) → k < length p → j < n → get_or (code n p) (k * n + j) 0 ≡ same (get_or p k 0) (suc j)
unfolding code
code_at n [] k j a b = absurd (omega arith)
code_at n (c ∷ p) zero j a b =
    rw (zero-mul n, zero-add j)
    (get_or-append (each n (same c)) (code n p) 0 j (omega (arith, each_length n (same c))) ∙ each_at n (same c) j b)
code_at n (c ∷ p) (suc k) j a b =
    ap (λ t. get_or (each n (same c) ++ code n p) t 0) shift
    ∙ get_or-append-add (each n (same c)) (code n p) (k * n + j) 0
    ∙ code_at n p k j (omega arith) b
  where
    shift : suc k * n + j ≡ length (each n (same c)) + (k * n + j)
    shift = rw suc-mul (omega (arith, each_length n (same c)))

-- ---- the test of choices, as facts

pub record Choices (N n : ℕ) (p : List ℕ) : Type 0 where
  pub size : length p ≡ N
  pub fits : (v : ℕ) → 1 ≤ v → v ≤ N → (1 ≤ nth p v) × (nth p v ≤ n)

fit_entry : (n c : ℕ) → (leb 1 c && leb c n) ≡ true → (1 ≤ c) × (c ≤ n)
fit_entry n c e = (leb-true 1 c (and_left (leb 1 c) _ e), leb-true c n (and_right (leb 1 c) _ e))

all_entries : (n : ℕ) (p : List ℕ) → all (λ c. leb 1 c && leb c n) p ≡ true → (k : ℕ) → k < length p → (1 ≤ get_or p k 0) × (get_or p k 0 ≤ n)
all_entries n [] e k h = absurd (omega arith)
all_entries n (c ∷ p) e zero h = fit_entry n c (all_head (λ c. leb 1 c && leb c n) c p e)
all_entries n (c ∷ p) e (suc k) h = all_entries n p (all_tail (λ c. leb 1 c && leb c n) c p e) k (omega arith)

entries_all : (n : ℕ) (p : List ℕ) → ((k : ℕ) → k < length p → (1 ≤ get_or p k 0) × (get_or p k 0 ≤ n)) → all (λ c. leb 1 c && leb c n) p ≡ true
unfolding all
entries_all n [] h = refl
entries_all n (c ∷ p) h =
    let t : (1 ≤ c) × (c ≤ n) = h 0 (omega arith) in
    and_both (leb 1 c && leb c n) _ (and_both (leb 1 c) _ (le-leb 1 c t.0) (le-leb c n t.1)) (entries_all n p (λ k a. h (suc k) (omega arith)))

pub choices_are : (N n : ℕ) (p : List ℕ) → are_choices N n p ≡ true → Choices N n p
unfolding are_choices nth
choices_are N n p e = record {
  size = eqb-true (length p) N (and_left (eqb (length p) N) _ e);
  fits = fits;
}
  where
    fits : (v : ℕ) → 1 ≤ v → v ≤ N → (1 ≤ nth p v) × (nth p v ≤ n)
    fits zero a b = absurd (omega arith)
    fits (suc k) a b = all_entries n p (and_right (eqb (length p) N) _ e) k (omega (arith, eqb-true (length p) N (and_left (eqb (length p) N) _ e)))

pub choices_test : (N n : ℕ) (p : List ℕ) → Choices N n p → are_choices N n p ≡ true
unfolding are_choices nth
choices_test N n p c = and_both (eqb (length p) N) _ (eq-eqb (length p) N c.size) (entries_all n p (λ k h. c.fits (suc k) (omega arith) (omega (arith, c.size))))

-- ---- a plan's code

module _ (N n : ℕ) (p : List ℕ) (ok : Choices N n p) where
  pub bit_code : (v i : ℕ) → 1 ≤ v → v ≤ N → 1 ≤ i → i ≤ n → bit_at n (code n p) v i ≡ same (nth p v) i
  unfolding bit_at nth
  bit_code zero i a b c d = absurd (omega arith)
  bit_code (suc k) zero a b c d = absurd (omega arith)
  bit_code (suc k) (suc j) a b c d = code_at n p k j (omega (arith, ok.size)) d

  -- it is an assignment
  pub code_assigned : Assignment (N * n) (code n p)
  code_assigned = record { size = code_length n p ∙ ap (λ t. t * n) ok.size; bits = code_small n p }

  -- exactly one bit is set at each meter
  pub one_each : (v : ℕ) → 1 ≤ v → v ≤ N → set_at n (bit_at n (code n p)) v ≡ 1
  unfolding set_at
  one_each v a b = sum_to_eq n (bit_at n (code n p) v) (same (nth p v)) (λ i c d. bit_code v i a b c d) ∙ sum_to_same n (nth p v) (ok.fits v a b).0 (ok.fits v a b).1

-- two plans with one code are one plan
pub code_inj : (N n : ℕ) (p q : List ℕ) → Choices N n p → Choices N n q → code n p ≡ code n q → p ≡ q
unfolding nth
code_inj N n p q okp okq e = ext_get_or 0 p q (okp.size ∙ sym okq.size) (λ k h. at k (rw okp.size at h))
  where
    at : (k : ℕ) → k < N → get_or p k 0 ≡ get_or q k 0
    at k h =
        let f : (1 ≤ nth p (suc k)) × (nth p (suc k) ≤ n) = okp.fits (suc k) (omega arith) h in
        let a : bit_at n (code n p) (suc k) (nth p (suc k)) ≡ same (nth p (suc k)) (nth p (suc k)) = bit_code N n p okp (suc k) (nth p (suc k)) (omega arith) h f.0 f.1 in
        let b : bit_at n (code n q) (suc k) (nth p (suc k)) ≡ same (nth q (suc k)) (nth p (suc k)) = bit_code N n q okq (suc k) (nth p (suc k)) (omega arith) h f.0 f.1 in
        let s : bit_at n (code n p) (suc k) (nth p (suc k)) ≡ bit_at n (code n q) (suc k) (nth p (suc k)) = ap (λ t. bit_at n t (suc k) (nth p (suc k))) e in
        sym (same_one (nth q (suc k)) (nth p (suc k)) (omega (arith, same_yes (nth p (suc k)) (nth p (suc k)) refl)))

-- ---- exactly one bit set at each meter

abbrev pub Hot : ℕ → ℕ → (ℕ → ℕ → ℕ) → Type 0
Hot N n b = (v : ℕ) → 1 ≤ v → v ≤ N → set_at n b v ≡ 1

-- (1 - k)² is 0 only for 1
pub miss_one : (k : ℕ) → miss_squared k ≡ 0 → k ≡ 1
unfolding miss_squared
miss_one zero e = absurd (omega arith)
miss_one (suc zero) e = refl
miss_one (suc (suc k)) e = let h : 1 ≤ suc k * suc k = one-le-mul (omega arith) (omega arith) in absurd (omega arith)

pub misses_hot : (N n : ℕ) (b : ℕ → ℕ → ℕ) → misses N n b ≡ 0 ↔ Hot N n b
unfolding misses miss_squared
misses_hot N n b = (
  λ e v p q. miss_one (set_at n b v) (sum_to_zero_at N (λ v. miss_squared (set_at n b v)) e v p q),
  λ h. sum_to_none N (λ v. miss_squared (set_at n b v)) (λ v p q. ap miss_squared (h v p q)),
)

-- where p has at each meter a choice that is set, and just one is, the bits are the code of p
pub hot_code : (N n : ℕ) (x p : List ℕ) → 1 ≤ n → Assignment (N * n) x → Hot N n (bit_at n x) → Choices N n p → ((v : ℕ) → 1 ≤ v → v ≤ N → 1 ≤ bit_at n x v (nth p v)) → x ≡ code n p
unfolding bit_at set_at
hot_code N n x p n1 bits hot ok set =
    ext_get_or 0 x (code n p) (bits.size ∙ sym (code_assigned N n p ok).size)
    (λ q h. rw (← div-add-mod' q n) (at (q / n) (q % n) ((div-lt_iff_lt-mul n1).1 (rw bits.size at h)) (mod-lt q n1)))
  where
    at : (k j : ℕ) → k < N → j < n → get_or x (k * n + j) 0 ≡ get_or (code n p) (k * n + j) 0
    at k j a b =
        let f : (1 ≤ nth p (suc k)) × (nth p (suc k) ≤ n) = ok.fits (suc k) (omega arith) a in
        sum_to_hot n (bit_at n x (suc k)) (nth p (suc k)) (suc j) f.0 f.1 (omega arith) b (hot (suc k) (omega arith) a) (set (suc k) (omega arith) a)
        ∙ sym (bit_code N n p ok (suc k) (suc j) (omega arith) a (omega arith) b)
