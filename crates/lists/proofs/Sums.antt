-- Laws of sums, of what is picked from 1..n, and of entries of lists. Assumes nothing.
use Prim.Native.Nat.{ℕ, zero, suc, ◌+◌, ◌-◌, ◌*◌, ◌≤◌, ◌<◌, max}
use mathlib.Core.Path.{◌≡◌, refl, sym, ap, ap₂, ◌∙◌}
use mathlib.Core.Logic.{◌⊎◌, inl, inr, ⊎_elim}
use mathlib.Core.List.{List, [], ◌∷◌, ◌++◌}
use lib.ListN.{length, get_or, get_or-append, get_or-eq_default}
use lib.Seq.{get_or-append_seam}
use native.Mathlib.Omega.{arith}
use native.Mathlib.Decide.{ℕ_discrete, dec_le}
use native.Mathlib.Numerals.{add-one}
use native.Mathlib.Nat.{le_refl, le_trans, le_of_eq, mul-le-mul, mul-le-mul_left, mul-add, mul-one, mul-zero, one-mul, zero-mul, one-le-mul, add-le-add, add-zero}
use borrow.Author.Tests.{eq-eqb, ne_eqb, le-ltb, lt-ltb}
use Rattle.lists.specs.Sums.{sum_to, sum_of, greatest, least_at, lowest, same, differ, gap, nth}

-- ---- same

pub same_yes : (a b : ℕ) → a ≡ b → same a b ≡ 1
unfolding same
same_yes a b e = rw (eq-eqb a b e)

pub same_no : (a b : ℕ) → (a ≡ b → ⊥) → same a b ≡ 0
unfolding same
same_no a b e = rw (ne_eqb a b e)

pub same_le : (a b : ℕ) → same a b ≤ 1
same_le a b = elim (ℕ_discrete a b) [ yes e ↦ omega (arith, same_yes a b e) | no e ↦ omega (arith, same_no a b e) ]

pub same_one : (a b : ℕ) → 1 ≤ same a b → a ≡ b
same_one a b h = elim (ℕ_discrete a b) [ yes e ↦ e | no e ↦ absurd (omega (arith, same_no a b e)) ]

pub same_sym : (a b : ℕ) → same a b ≡ same b a
same_sym a b =
    elim (ℕ_discrete a b) [
      | yes e ↦ same_yes a b e ∙ sym (same_yes b a (sym e))
      | no e ↦ same_no a b e ∙ sym (same_no b a (λ d. e (sym d)))
    ]

-- equal where both pairs are equal or both are not
pub same_iff : (a b c d : ℕ) → (a ≡ b → c ≡ d) → (c ≡ d → a ≡ b) → same a b ≡ same c d
same_iff a b c d f g =
    elim (ℕ_discrete a b) [
      | yes e ↦ same_yes a b e ∙ sym (same_yes c d (f e))
      | no e ↦ same_no a b e ∙ sym (same_no c d (λ q. e (g q)))
    ]

-- the other factor where a and b are equal
pub same_times : (a b x : ℕ) → a ≡ b → same a b * x ≡ x
same_times a b x e = rw (same_yes a b e) (one-mul x)

-- nothing where they are not
pub same_none : (a b x : ℕ) → (a ≡ b → ⊥) → same a b * x ≡ 0
same_none a b x e = rw (same_no a b e) (zero-mul x)

-- the other factor counts only where a and b are equal
pub on_same : (a b x y : ℕ) → (a ≡ b → x ≡ y) → same a b * x ≡ same a b * y
on_same a b x y h =
    elim (ℕ_discrete a b) [
      | yes e ↦ ap (λ (t : ℕ). same a b * t) (h e)
      | no e ↦ same_none a b x e ∙ sym (same_none a b y e)
    ]

-- where x is q, which is r, what is said of x is said of r
pub same_turn : (f : ℕ → ℕ) (q r x : ℕ) → q ≡ r → same q x * f x ≡ same x r * f r
same_turn f q r x e =
    elim (ℕ_discrete x r) [
      | yes g ↦ rw (same_yes x r g, same_yes q x (e ∙ sym g)) (ap (λ (y : ℕ). 1 * f y) g)
      | no g ↦ same_none q x (f x) (λ h. g (sym h ∙ e)) ∙ sym (same_none x r (f r) g)
    ]

-- a product of two that are equal to what they are compared with
pub same_both : (a b c d : ℕ) → a ≡ b → c ≡ d → 1 ≤ same a b * same c d
same_both a b c d e f = one-le-mul (omega (arith, same_yes a b e)) (omega (arith, same_yes c d f))

-- ---- differ

pub differ_yes : (a b : ℕ) → (a ≡ b → ⊥) → differ a b ≡ 1
unfolding differ
differ_yes a b e = rw (ne_eqb a b e)

pub differ_no : (a b : ℕ) → a ≡ b → differ a b ≡ 0
unfolding differ
differ_no a b e = rw (eq-eqb a b e)

pub differ_le : (a b : ℕ) → differ a b ≤ 1
differ_le a b = elim (ℕ_discrete a b) [ yes e ↦ omega (arith, differ_no a b e) | no e ↦ omega (arith, differ_yes a b e) ]

-- ---- gap

pub gap_zero : (a b : ℕ) → gap a b ≡ 0 → a ≡ b
unfolding gap
gap_zero a b e = omega arith

pub gap_same : (a b : ℕ) → a ≡ b → gap a b ≡ 0
unfolding gap
gap_same a b e = omega arith

-- its square: of numbers up to m
pub gap_small : (a b m : ℕ) → a ≤ m → b ≤ m → gap a b * gap a b ≤ m * m
unfolding gap
gap_small a b m h k = mul-le-mul {n₁ = (a - b) + (b - a)} {m₁ = (a - b) + (b - a)} {n₂ = m} {m₂ = m} (omega arith) (omega arith)

-- 0 between equals
pub gap_squared_same : (a b : ℕ) → a ≡ b → gap a b * gap a b ≡ 0
gap_squared_same a b e = rw (gap_same a b e) refl

-- and only between equals
pub gap_squared_zero : (a b : ℕ) → gap a b * gap a b ≡ 0 → a ≡ b
gap_squared_zero a b e =
    elim (ℕ_discrete (gap a b) 0) [
      | yes z ↦ gap_zero a b z
      | no n ↦ let h : 1 ≤ gap a b * gap a b = one-le-mul (omega arith) (omega arith) in absurd (omega arith)
    ]

-- ---- sum_to

pub sum_to_le : (n : ℕ) (f g : ℕ → ℕ) → ((i : ℕ) → 1 ≤ i → i ≤ n → f i ≤ g i) → sum_to n f ≤ sum_to n g
unfolding sum_to
sum_to_le zero f g h = le_refl 0
sum_to_le (suc k) f g h = add-le-add (sum_to_le k f g (λ i a b. h i a (omega arith))) (h (suc k) (omega arith) (omega arith))

pub sum_to_eq : (n : ℕ) (f g : ℕ → ℕ) → ((i : ℕ) → 1 ≤ i → i ≤ n → f i ≡ g i) → sum_to n f ≡ sum_to n g
unfolding sum_to
sum_to_eq zero f g h = refl
sum_to_eq (suc k) f g h = ap₂ ◌+◌ (sum_to_eq k f g (λ i a b. h i a (omega arith))) (h (suc k) (omega arith) (omega arith))

pub sum_to_none : (n : ℕ) (f : ℕ → ℕ) → ((i : ℕ) → 1 ≤ i → i ≤ n → f i ≡ 0) → sum_to n f ≡ 0
unfolding sum_to
sum_to_none zero f h = refl
sum_to_none (suc k) f h = omega (arith, sum_to_none k f (λ i a b. h i a (omega arith)), h (suc k) (omega arith) (omega arith))

-- one term of a sum changed
pub sum_to_change : (n : ℕ) (f g : ℕ → ℕ) (m : ℕ) → 1 ≤ m → m ≤ n → ((i : ℕ) → (i ≡ m → ⊥) → f i ≡ g i) → sum_to n f + g m ≡ sum_to n g + f m
unfolding sum_to
sum_to_change zero f g m a b h = absurd (omega arith)
sum_to_change (suc k) f g m a b h =
    elim (ℕ_discrete m (suc k)) [
      | yes e ↦ rw e (omega (arith, sum_to_eq k f g (λ i p q. h i (omega arith))))
      | no e ↦ omega (arith, sum_to_change k f g m a (omega arith) h, h (suc k) (omega arith))
    ]

-- only one term counts
pub sum_to_single : (n : ℕ) (f : ℕ → ℕ) (m : ℕ) → 1 ≤ m → m ≤ n → ((i : ℕ) → (i ≡ m → ⊥) → f i ≡ 0) → sum_to n f ≡ f m
sum_to_single n f m a b h = omega (arith, sum_to_change n f (λ i. 0) m a b h, sum_to_none n (λ i. 0) (λ i p q. refl))

pub sum_to_same : (n c : ℕ) → 1 ≤ c → c ≤ n → sum_to n (same c) ≡ 1
sum_to_same n c a b = sum_to_single n (same c) c a b (λ i ne. same_no c i (λ e. ne (sym e))) ∙ same_yes c c refl

pub sum_to_term : (n : ℕ) (f : ℕ → ℕ) (m : ℕ) → 1 ≤ m → m ≤ n → f m ≤ sum_to n f
unfolding sum_to
sum_to_term zero f m a b = absurd (omega arith)
sum_to_term (suc k) f m a b =
    elim (ℕ_discrete m (suc k)) [ yes e ↦ rw e (omega arith) | no e ↦ omega (arith, sum_to_term k f m a (omega arith)) ]

pub sum_to_two : (n : ℕ) (f : ℕ → ℕ) (c i : ℕ) → 1 ≤ c → c ≤ n → 1 ≤ i → i ≤ n → (c ≡ i → ⊥) → f c + f i ≤ sum_to n f
unfolding sum_to
sum_to_two zero f c i a b d e ne = absurd (omega arith)
sum_to_two (suc k) f c i a b d e ne =
    elim (ℕ_discrete c (suc k)) [
      | yes q ↦ rw q (omega (arith, sum_to_term k f i d (omega arith)))
      | no q ↦ elim (ℕ_discrete i (suc k)) [
        | yes r ↦ rw r (omega (arith, sum_to_term k f c a (omega arith)))
        | no r ↦ omega (arith, sum_to_two k f c i a (omega arith) d (omega arith) ne)
      ]
    ]

-- exactly one of some bits is set, and c is: the others are not
pub sum_to_hot : (n : ℕ) (f : ℕ → ℕ) (c i : ℕ) → 1 ≤ c → c ≤ n → 1 ≤ i → i ≤ n → sum_to n f ≡ 1 → 1 ≤ f c → f i ≡ same c i
sum_to_hot n f c i a b d e s h =
    elim (ℕ_discrete c i) [
      | yes q ↦ rw (same_yes c i q, ← q) (omega (arith, sum_to_term n f c a b))
      | no q ↦ rw (same_no c i q) (omega (arith, sum_to_two n f c i a b d e q))
    ]

-- the term at c alone
pub sum_to_at : (n c : ℕ) (f : ℕ → ℕ) → 1 ≤ c → c ≤ n → sum_to n (λ i. same c i * f i) ≡ f c
sum_to_at n c f a b = sum_to_single n (λ i. same c i * f i) c a b (λ i ne. same_none c i (f i) (λ e. ne (sym e))) ∙ same_times c c (f c) refl

-- a sum that is not 0 has a term that is not
pub sum_to_some : (n : ℕ) (f : ℕ → ℕ) → 1 ≤ sum_to n f → (i : ℕ) × (1 ≤ i) × (i ≤ n) × (1 ≤ f i)
unfolding sum_to
sum_to_some zero f h = absurd (omega arith)
sum_to_some (suc k) f h =
    elim (dec_le 1 (f (suc k))) [
      | yes e ↦ (suc k, omega arith, omega arith, e)
      | no e ↦ let t = sum_to_some k f (omega arith) in (t.0, t.1, omega (arith, t.2), t.3)
    ]

-- ---- sums of sums

pub sum_to_add : (n : ℕ) (f g : ℕ → ℕ) → sum_to n (λ i. f i + g i) ≡ sum_to n f + sum_to n g
unfolding sum_to
sum_to_add zero f g = refl
sum_to_add (suc k) f g = omega (arith, sum_to_add k f g)

pub sum_to_swap : (m n : ℕ) (f : ℕ → ℕ → ℕ) → sum_to m (λ i. sum_to n (λ j. f i j)) ≡ sum_to n (λ j. sum_to m (λ i. f i j))
unfolding sum_to
sum_to_swap zero n f = sym (sum_to_none n (λ j. 0) (λ i a b. refl))
sum_to_swap (suc k) n f = omega (arith, sum_to_swap k n f, sum_to_add n (λ j. sum_to k (λ i. f i j)) (f (suc k)))

-- a factor taken out
pub sum_to_times : (n w : ℕ) (f : ℕ → ℕ) → sum_to n (λ i. w * f i) ≡ w * sum_to n f
unfolding sum_to
sum_to_times zero w f = sym (mul-zero w)
sum_to_times (suc k) w f = ap (λ t. t + w * f (suc k)) (sum_to_times k w f) ∙ sym (mul-add w (sum_to k f) (f (suc k)))

-- in two parts
pub sum_to_split : (k n : ℕ) (f : ℕ → ℕ) → sum_to (k + n) f ≡ sum_to k f + sum_to n (λ i. f (k + i))
unfolding sum_to
sum_to_split k zero f = let e : k + 0 ≡ k = omega arith in ap (λ t. sum_to t f) e ∙ omega arith
sum_to_split k (suc n) f =
    let e : k + suc n ≡ suc (k + n) = omega arith in
    ap (λ t. sum_to t f) e ∙ omega (arith, sum_to_split k n f, ap f e)

-- one term is less by some
pub sum_to_less : (n : ℕ) (f g : ℕ → ℕ) (m : ℕ) → 1 ≤ m → m ≤ n → ((i : ℕ) → 1 ≤ i → i ≤ n → f i ≤ g i) → sum_to n f + g m ≤ sum_to n g + f m
unfolding sum_to
sum_to_less zero f g m a b h = absurd (omega arith)
sum_to_less (suc k) f g m a b h =
    elim (ℕ_discrete m (suc k)) [
      | yes e ↦ rw e (omega (arith, sum_to_le k f g (λ i p q. h i p (omega arith))))
      | no e ↦ omega (arith, sum_to_less k f g m a (omega arith) (λ i p q. h i p (omega arith)), h (suc k) (omega arith) (omega arith))
    ]

-- n times one number
pub sum_to_const : (n : ℕ) (c : ℕ) (f : ℕ → ℕ) → ((i : ℕ) → 1 ≤ i → i ≤ n → f i ≡ c) → sum_to n f ≡ c * n
unfolding sum_to
sum_to_const zero c f h = omega arith
sum_to_const (suc k) c f h = omega (arith, sum_to_const k c f (λ i a b. h i a (omega arith)), h (suc k) (omega arith) (omega arith), mul-add c k 1)

-- a sum that is 0 has terms that are 0
pub sum_to_zero_at : (n : ℕ) (f : ℕ → ℕ) → sum_to n f ≡ 0 → (i : ℕ) → 1 ≤ i → i ≤ n → f i ≡ 0
sum_to_zero_at n f e i a b = omega (arith, sum_to_term n f i a b)

-- bits: at most n of them are set
pub sum_to_bits : (n : ℕ) (f : ℕ → ℕ) → ((i : ℕ) → f i ≤ 1) → sum_to n f ≤ n
unfolding sum_to
sum_to_bits zero f h = omega arith
sum_to_bits (suc k) f h = omega (arith, sum_to_bits k f h, h (suc k))

-- each summand is at most b
pub sum_to_bound : (n : ℕ) (f : ℕ → ℕ) (b : ℕ) → ((i : ℕ) → 1 ≤ i → i ≤ n → f i ≤ b) → sum_to n f ≤ n * b
unfolding sum_to
sum_to_bound zero f b h = omega arith
sum_to_bound (suc k) f b h = omega (arith, sum_to_bound k f b (λ i p q. h i p (omega arith)), h (suc k) (omega arith) (omega arith))

-- a summand times a bit
pub times_bit : (w b : ℕ) → b ≤ 1 → w * b ≤ w
times_bit w b h = le_trans (mul-le-mul_left w h) (le_of_eq (mul-one w))

-- a product that is not 0 has no factor 0
pub times_factors : (x y : ℕ) → 1 ≤ x * y → (1 ≤ x) × (1 ≤ y)
times_factors zero y h = absurd (omega (arith, zero-mul y))
times_factors (suc x) zero h = absurd (omega (arith, mul-zero (suc x)))
times_factors (suc x) (suc y) h = omega arith

-- ---- the greatest

pub greatest_term : (n : ℕ) (f : ℕ → ℕ) (m : ℕ) → 1 ≤ m → m ≤ n → f m ≤ greatest n f
unfolding greatest
greatest_term zero f m a b = absurd (omega arith)
greatest_term (suc k) f m a b =
    elim (ℕ_discrete m (suc k)) [ yes e ↦ rw e (omega arith) | no e ↦ omega (arith, greatest_term k f m a (omega arith)) ]

pub greatest_bound : (n : ℕ) (f : ℕ → ℕ) (b : ℕ) → ((k : ℕ) → 1 ≤ k → k ≤ n → f k ≤ b) → greatest n f ≤ b
unfolding greatest
greatest_bound zero f b h = omega arith
greatest_bound (suc n) f b h = omega (arith, greatest_bound n f b (λ k p q. h k p (omega arith)), h (suc n) (omega arith) (omega arith))

pub greatest_eq : (n : ℕ) (f g : ℕ → ℕ) → ((k : ℕ) → 1 ≤ k → k ≤ n → f k ≡ g k) → greatest n f ≡ greatest n g
unfolding greatest
greatest_eq zero f g h = refl
greatest_eq (suc n) f g h = ap₂ max (greatest_eq n f g (λ k p q. h k p (omega arith))) (h (suc n) (omega arith) (omega arith))

-- ---- sum_of

pub sum_of_le : {A : Type 0} (xs : List A) (f g : A → ℕ) → ((x : A) → f x ≤ g x) → sum_of xs f ≤ sum_of xs g
unfolding sum_of
sum_of_le [] f g h = le_refl 0
sum_of_le (x ∷ xs) f g h = add-le-add (h x) (sum_of_le xs f g h)

pub sum_of_add : {A : Type 0} (xs : List A) (f g : A → ℕ) → sum_of xs (λ x. f x + g x) ≡ sum_of xs f + sum_of xs g
unfolding sum_of
sum_of_add [] f g = refl
sum_of_add (x ∷ xs) f g = omega (arith, sum_of_add xs f g)

-- a factor taken out
pub sum_of_times : {A : Type 0} (xs : List A) (w : ℕ) (f : A → ℕ) → sum_of xs (λ x. w * f x) ≡ w * sum_of xs f
unfolding sum_of
sum_of_times [] w f = sym (mul-zero w)
sum_of_times (x ∷ xs) w f = ap (λ t. w * f x + t) (sum_of_times xs w f) ∙ sym (mul-add w (f x) (sum_of xs f))

-- ---- the lowest

-- the lowest number found is one at which f is not 0, where there is one
pub lowest_cases : (n : ℕ) (f : ℕ → ℕ) → ((sum_to n f ≡ 0) × (lowest n f ≡ 0)) ⊎ ((1 ≤ lowest n f) × (lowest n f ≤ n) × (1 ≤ f (lowest n f)))
unfolding lowest sum_to
lowest_cases zero f = inl (refl, refl)
lowest_cases (suc k) f =
    ⊎_elim
    (λ (z : (sum_to k f ≡ 0) × (lowest k f ≡ 0)). elim (ℕ_discrete (f (suc k)) 0) [
      | yes r ↦ inl (omega arith, rw (eq-eqb (lowest k f) 0 z.1, eq-eqb (f (suc k)) 0 r) refl)
      | no r ↦ inr (rw (eq-eqb (lowest k f) 0 z.1, ne_eqb (f (suc k)) 0 r) (omega arith, omega arith, omega arith))
    ])
    (λ h. inr (rw (ne_eqb (lowest k f) 0 (omega arith)) (h.0, omega arith, h.2)))
    (lowest_cases k f)

pub lowest_ok : (n : ℕ) (f : ℕ → ℕ) → 1 ≤ sum_to n f → (1 ≤ lowest n f) × (lowest n f ≤ n) × (1 ≤ f (lowest n f))
lowest_ok n f h = ⊎_elim (λ z. absurd (omega arith)) (λ t. t) (lowest_cases n f)

pub lowest_le : (n : ℕ) (f : ℕ → ℕ) → lowest n f ≤ n
lowest_le n f = ⊎_elim (λ z. omega arith) (λ t. t.1) (lowest_cases n f)

pub lowest_eq : (n : ℕ) (f g : ℕ → ℕ) → ((i : ℕ) → 1 ≤ i → i ≤ n → f i ≡ g i) → lowest n f ≡ lowest n g
unfolding lowest
lowest_eq zero f g h = refl
lowest_eq (suc k) f g h = rw (lowest_eq k f g (λ i a b. h i a (omega arith)), h (suc k) (omega arith) (omega arith)) refl

-- ---- in a loop from 1 to n

pub sum_to_zero : (f : ℕ → ℕ) → sum_to 0 f ≡ 0
unfolding sum_to
sum_to_zero f = refl

pub sum_to_next : (k : ℕ) (f : ℕ → ℕ) → sum_to (k + 1) f ≡ sum_to k f + f (suc k)
unfolding sum_to
sum_to_next k f = rw add-one refl

pub greatest_zero : (f : ℕ → ℕ) → greatest 0 f ≡ 0
unfolding greatest
greatest_zero f = refl

pub greatest_next : (k : ℕ) (f : ℕ → ℕ) → greatest (k + 1) f ≡ max (greatest k f) (f (suc k))
unfolding greatest
greatest_next k f = rw (add-one k) refl

pub lowest_zero : (f : ℕ → ℕ) → lowest 0 f ≡ 0
unfolding lowest
lowest_zero f = refl

-- nothing found up to k, nor next
pub lowest_skip : (k : ℕ) (f : ℕ → ℕ) → lowest k f ≡ 0 → f (suc k) ≡ 0 → lowest (k + 1) f ≡ 0
unfolding lowest
lowest_skip k f a b = rw add-one (rw (eq-eqb (lowest k f) 0 a, eq-eqb (f (suc k)) 0 b) refl)

-- once found it stays
lowest_stays : (r k : ℕ) (f : ℕ → ℕ) → 1 ≤ lowest k f → lowest (k + r) f ≡ lowest k f
unfolding lowest
lowest_stays zero k f h = rw add-zero refl
lowest_stays (suc r) k f h =
    ap (λ t. lowest t f) e ∙ rw (ne_eqb (lowest (k + r) f) 0 (omega (arith, lowest_stays r k f h))) (lowest_stays r k f h)
  where
    e : k + suc r ≡ suc (k + r)
    e = omega arith

pub lowest_found : (n k : ℕ) (f : ℕ → ℕ) → k < n → lowest k f ≡ 0 → (f (suc k) ≡ 0 → ⊥) → k + 1 ≡ lowest n f
unfolding lowest
lowest_found n k f h a b =
    sym (ap (λ t. lowest t f) e ∙ lowest_stays (n - suc k) (suc k) f (omega (arith, here)) ∙ here ∙ sym (add-one k))
  where
    here : lowest (suc k) f ≡ suc k
    here = rw (eq-eqb (lowest k f) 0 a, ne_eqb (f (suc k)) 0 b) refl

    e : n ≡ suc k + (n - suc k)
    e = omega arith

-- ---- the least

-- where f is least is one of 1..n
pub least_at_ok : (k : ℕ) (f : ℕ → ℕ) → (1 ≤ least_at k f) × (least_at k f ≤ max 1 k)
unfolding least_at
least_at_ok zero f = (omega arith, omega arith)
least_at_ok (suc k) f =
    elim (dec_le (f (least_at k f)) (f (suc k))) [
      | yes r ↦ rw (le-ltb (f (suc k)) (f (least_at k f)) r) (omega (arith, least_at_ok k f))
      | no r ↦ rw (lt-ltb (f (suc k)) (f (least_at k f)) (omega arith)) (omega arith)
    ]

pub least_at_eq : (n : ℕ) (f g : ℕ → ℕ) → ((i : ℕ) → 1 ≤ i → i ≤ max 1 n → f i ≡ g i) → least_at n f ≡ least_at n g
unfolding least_at
least_at_eq zero f g h = refl
least_at_eq (suc k) f g h =
    rw (least_at_eq k f g (λ i a b. h i a (omega arith)), h (suc k) (omega arith) (omega arith), h (least_at k g) (least_at_ok k g).0 (omega (arith, (least_at_ok k g).1))) refl

pub least_at_one : (f : ℕ → ℕ) → least_at 1 f ≡ 1
unfolding least_at
least_at_one f = elim (dec_le (f 1) (f 1)) [ yes h ↦ rw (le-ltb (f 1) (f 1) h) refl | no h ↦ absurd (omega arith) ]

pub least_at_new : (f : ℕ → ℕ) (i b : ℕ) → b ≡ least_at i f → f (i + 1) < f b → i + 1 ≡ least_at (i + 1) f
unfolding least_at
least_at_new f i b e h = rw add-one (sym (rw (lt-ltb (f (suc i)) (f (least_at i f)) (rw (← e, ← add-one i) h)) refl))

pub least_at_old : (f : ℕ → ℕ) (i b : ℕ) → b ≡ least_at i f → f b ≤ f (i + 1) → b ≡ least_at (i + 1) f
unfolding least_at
least_at_old f i b e h = rw add-one (e ∙ sym (rw (le-ltb (f (suc i)) (f (least_at i f)) (rw (← e, ← add-one i) h)) refl))

-- ---- entries of lists, counted from 1

pub nth_index : (l : List ℕ) (m : ℕ) → 1 ≤ m → nth l m ≡ get_or l (m - 1) 0
unfolding nth
nth_index l zero h = absurd (omega arith)
nth_index l (suc k) h = let e : suc k - 1 ≡ k = omega arith in rw e refl

-- there is no entry 0
pub nth_zero : (l : List ℕ) → nth l 0 ≡ 0
unfolding nth
nth_zero l = refl

-- nor one past the end
pub nth_past : (l : List ℕ) (k : ℕ) → length l < k → nth l k ≡ 0
unfolding nth
nth_past l zero h = refl
nth_past l (suc k) h = let g : length l ≤ k = omega arith in rw (get_or-eq_default l 0 g) refl

pub nth_suc : (l : List ℕ) (k : ℕ) → nth l (suc k) ≡ get_or l k 0
unfolding nth
nth_suc l k = refl

-- one entry more
pub nth_low : (l : List ℕ) (c v : ℕ) → v ≤ length l → nth (l ++ (c ∷ [])) v ≡ nth l v
unfolding nth
nth_low l c zero h = refl
nth_low l c (suc k) h = get_or-append l (c ∷ []) 0 k h

pub nth_top : (l : List ℕ) (c v : ℕ) → v ≡ suc (length l) → nth (l ++ (c ∷ [])) v ≡ c
unfolding nth
nth_top l c v h = rw h (get_or-append_seam l c [] 0)
