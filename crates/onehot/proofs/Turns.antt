-- Laws that the proofs of src/ cite: the turns of loops and the values they end with. Assumes nothing.
use Prim.Native.Nat.{ℕ, zero, suc, ◌+◌, ◌-◌, ◌*◌, ◌/◌, ◌%◌, ◌≤◌, ◌<◌}
use mathlib.Core.Path.{◌≡◌, refl, sym, ap, ap₂, ◌∙◌}
use mathlib.Core.Bool.{Bool, true, ◌&&◌}
use mathlib.Core.List.{List, [], ◌∷◌}
use lib.ListN.{length, get_or, set, take, drop}
use lib.Seq.{ext_get_or, get_or-set_same, get_or-set_other}
use native.Mathlib.Omega.{arith}
use native.Mathlib.Decide.{ℕ_discrete}
use native.Mathlib.Numerals.{add-one}
use native.Mathlib.Nat.{le_refl, mul-le-mul, mul-zero, mod-lt, div-add-mod', div-lt_iff_lt-mul}
use lib.Dec.{eqb, leb}
use borrow.Author.Tests.{eq-eqb, ne_eqb}
use Rattle.std.specs.Int.{abs_diff}
use Rattle.std.specs.List.{list_all}
use Rattle.lists.specs.Tests.{all}
use Rattle.lists.specs.Sums.{sum_to, same, gap, nth}
use Rattle.lists.proofs.Sums.{sum_to_next, sum_to_eq, same_yes, same_no, nth_suc}
use Rattle.onehot.specs.Choices.{bit_at, set_at, miss_squared, misses, are_choices, code}
use Rattle.onehot.proofs.Codes.{choices_are, code_length, code_at}
use Rattle.onehot.proofs.Parts.{part_within, part_of, part_length, part_at}

-- ---- two parts, choice by choice

-- two bits
pub bit_bit : (x y : ℕ) → x ≤ 1 → y ≤ 1 → x * y ≤ 1
bit_bit x y a b = mul-le-mul a b

-- what f gives at the entries of two parts for choice i
unfoldable pub pair_at : (ℕ → ℕ → ℕ) → List ℕ → List ℕ → ℕ → ℕ
pair_at f part other i = f (nth part i) (nth other i)

-- the entries x and y at index i, counted from 0
pub pair_next : (f : ℕ → ℕ → ℕ) (part other : List ℕ) (i : ℕ) → sum_to (i + 1) (pair_at f part other) ≡ sum_to i (pair_at f part other) + f (get_or part i 0) (get_or other i 0)
unfolding pair_at
pair_next f part other i = rw (sum_to_next i (pair_at f part other), nth_suc part i, nth_suc other i) refl

pub pair_are : (f : ℕ → ℕ → ℕ) (part other : List ℕ) (i n s : ℕ) → i ≡ n → s ≡ sum_to i (pair_at f part other) → s ≡ sum_to n (λ j. f (nth part j) (nth other j))
unfolding pair_at
pair_are f part other i n s e h = rw (← e) h

-- ---- the parts of meters

module _ (n m : ℕ) (x : List ℕ) (low : 1 ≤ m) (fits : m * n ≤ length x) where
  cut_is : part_of n (m - 1) x ≡ take n (drop ((m - 1) * n) x)
  cut_is = let e : (m - 1) * n + n - (m - 1) * n ≡ n = omega arith in rw e refl

  pub cut_length : length (part_of n (m - 1) x) ≡ n
  cut_length = part_length n m m x (part_of n (m - 1) x) cut_is low (le_refl m) fits

  pub cut_at : (i : ℕ) → 1 ≤ i → i ≤ n → nth (part_of n (m - 1) x) i ≡ bit_at n x m i
  cut_at = part_at n m m x (part_of n (m - 1) x) cut_is low (le_refl m) fits

-- p and q are the parts of u and v
module _ (n u v : ℕ) (x p q : List ℕ) (p-is : p ≡ take n (drop ((u - 1) * n) x)) (q-is : q ≡ take n (drop ((v - 1) * n) x)) (u1 : 1 ≤ u) (v1 : 1 ≤ v) (fits-u : u * n ≤ length x) (fits-v : v * n ≤ length x) where
  -- what f makes of the two bits of each choice, added up
  pub cuts_sum : (f : ℕ → ℕ → ℕ) → sum_to (length p) (λ i. f (nth p i) (nth q i)) ≡ sum_to n (λ i. f (bit_at n x u i) (bit_at n x v i))
  cuts_sum f =
      rw (part_length n u u x p p-is u1 (le_refl u) fits-u)
      (sum_to_eq n _ _ (λ i a b. ap₂ f (part_at n u u x p p-is u1 (le_refl u) fits-u i a b) (part_at n v v x q q-is v1 (le_refl v) fits-v i a b)))

-- ---- the misses

-- the distance of k from 1, squared
pub miss_is : (k d : ℕ) → d ≡ abs_diff k 1 → k ≤ 48 → (d * d ≡ miss_squared k) × (d * d ≤ 2209)
unfolding miss_squared
miss_is zero d e h = let f : d ≡ 1 = omega arith in rw f (refl, omega arith)
miss_is (suc k) d e h = let f : d ≡ k = omega arith in rw f (refl, mul-le-mul {n₂ = 47} {m₂ = 47} (omega arith) (omega arith))

-- the distance of two numbers
pub abs_gap : (a b d : ℕ) → d ≡ abs_diff a b → d ≡ gap a b
unfolding gap
abs_gap a b d e = omega arith

pub misses_zero : (n : ℕ) (b : ℕ → ℕ → ℕ) → misses 0 n b ≡ 0
unfolding misses sum_to
misses_zero n b = refl

pub misses_next : (v n : ℕ) (b : ℕ → ℕ → ℕ) → misses (v + 1) n b ≡ misses v n b + miss_squared (set_at n b (v + 1))
unfolding misses sum_to
misses_next v n b = rw add-one refl

-- ---- the test of choices

all_is : (f : ℕ → Bool) (p : List ℕ) → list_all f p ≡ all f p
unfolding all
all_is f [] = refl
all_is f (c ∷ p) = ap (λ (t : Bool). f c && t) (all_is f p)

module _ (N n : ℕ) (p : List ℕ) where
  pub choices_size : (length p ≡ N → ⊥) → eqb (length p) N ≡ are_choices N n p
  unfolding are_choices
  choices_size h = rw (ne_eqb (length p) N h) refl

  pub choices_tested : length p ≡ N → (t : Bool) → t ≡ list_all (λ c. leb 1 c && leb c n) p → t ≡ are_choices N n p
  unfolding are_choices
  choices_tested e t h = rw (eq-eqb (length p) N e) (h ∙ all_is _ p)

  pub choice_at : are_choices N n p ≡ true → (k : ℕ) → k < N → (1 ≤ get_or p k 0) × (get_or p k 0 ≤ n)
  choice_at e k h = rw (nth_suc p k) at ((choices_are N n p e).fits (suc k) (omega arith) h)

  -- as many as meters, and none above n
  pub choices_within : are_choices N n p ≡ true → (length p ≡ N) × ((k : ℕ) → k < N → get_or p k 0 ≤ n)
  choices_within e = ((choices_are N n p e).size, λ k h. (choice_at e k h).1)

-- ---- a code, meter by meter

-- the first v meters have the bits of the code of p, and the others have none
pub record Coded (n : ℕ) (p x : List ℕ) (v : ℕ) : Type 0 where
  pub done : (k j : ℕ) → k < v → j < n → get_or x (k * n + j) 0 ≡ same (get_or p k 0) (suc j)
  pub rest : (q : ℕ) → v * n ≤ q → get_or x q 0 ≡ 0

pub coded_start : (n : ℕ) (p x : List ℕ) → ((k : ℕ) → get_or x k 0 ≡ 0) → Coded n p x 0
coded_start n p x z = record { done = λ k j a b. absurd (omega arith); rest = λ q a. z q }

module _ (n : ℕ) (p x : List ℕ) (v i : ℕ) (now : get_or p v 0 ≡ suc i) (fits : i < n) (long : v * n + n ≤ length x) (c : Coded n p x v) where
  -- the bits of meter v, and those of a meter before it
  here : (j : ℕ) → j < n → get_or (set x (v * n + i) 1) (v * n + j) 0 ≡ same (get_or p v 0) (suc j)
  here j h =
      elim (ℕ_discrete j i) [
        | yes e ↦ rw (e, now, same_yes (suc i) (suc i) refl) (get_or-set_same x (v * n + i) 1 0 (omega arith))
        | no e ↦ rw (now, same_no (suc i) (suc j) (omega arith)) (get_or-set_other x (v * n + i) (v * n + j) 1 0 (omega arith) ∙ c.rest (v * n + j) (omega arith))
      ]

  before : (k j : ℕ) → k < v → j < n → get_or (set x (v * n + i) 1) (k * n + j) 0 ≡ same (get_or p k 0) (suc j)
  before k j a b = get_or-set_other x (v * n + i) (k * n + j) 1 0 (omega (arith, part_within n k v a)) ∙ c.done k j a b

  coded_next : Coded n p (set x (v * n + i) 1) (v + 1)
  coded_next =
      record {
        done = λ k j a b. elim (ℕ_discrete k v) [ yes e ↦ rw e (here j b) | no e ↦ before k j (omega arith) b ];
        rest = λ q a. get_or-set_other x (v * n + i) q 1 0 (omega (arith, part_within n v (v + 1) (omega arith))) ∙ c.rest q (omega (arith, part_within n v (v + 1) (omega arith)));
      }

-- where the bit of meter v's choice c stands among l bits
pub place_in : (N n c v l : ℕ) → (c ≡ 0 → ⊥) → c ≤ n → v < N → l ≡ N * n → (v * n + (c - 1) < l) × (v * n + n ≤ l)
place_in N n c v l a b h d = omega (arith, part_within n v N h)

-- the choice 0 sets no bit
pub coded_skip : (n : ℕ) (p x : List ℕ) (v : ℕ) → get_or p v 0 ≡ 0 → Coded n p x v → Coded n p x (v + 1)
coded_skip n p x v e c =
    record {
      done = λ k j a b. elim (ℕ_discrete k v) [ yes d ↦ rw (d, e, same_no 0 (suc j) (omega arith)) (c.rest (v * n + j) (omega arith)) | no d ↦ c.done k j (omega arith) b ];
      rest = λ q a. c.rest q (omega (arith, part_within n v (v + 1) (omega arith)));
    }

-- the choice is counted from 1
pub coded_turn : (n : ℕ) (p x : List ℕ) (v c : ℕ) → get_or p v 0 ≡ c → (c ≡ 0 → ⊥) → c ≤ n → v * n + n ≤ length x → Coded n p x v → Coded n p (set x (v * n + (c - 1)) 1) (v + 1)
coded_turn n p x v c e a b l h = coded_next n p x v (c - 1) (omega arith) (omega arith) l h

pub coded_end : (N n : ℕ) (p x : List ℕ) (v : ℕ) → v ≡ N → length p ≡ N → length x ≡ N * n → Coded n p x v → x ≡ code n p
coded_end N n p x v e s l c =
    ext_get_or 0 x (code n p) (rw (code_length n p, s) l)
    (λ q h. rw (← div-add-mod' q n) (at (q / n) (q % n) ((div-lt_iff_lt-mul (some n (rw l at h))).1 (rw l at h)) (mod-lt q (some n (rw l at h)))))
  where
    some : {q : ℕ} (m : ℕ) → q < N * m → 1 ≤ m
    some zero h = absurd (omega (arith, mul-zero N))
    some (suc m) h = omega arith

    at : (k j : ℕ) → k < N → j < n → get_or x (k * n + j) 0 ≡ get_or (code n p) (k * n + j) 0
    at k j a b = c.done k j (omega arith) b ∙ sym (code_at n p k j (omega arith) b)
