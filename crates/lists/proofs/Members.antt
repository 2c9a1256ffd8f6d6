-- Laws of sums over the members of a list, where a summand need be known only of members. Assumes nothing.
use Prim.Native.Nat.{ℕ, ◌+◌, ◌*◌, ◌≤◌}
use mathlib.Core.Path.{◌≡◌, refl, sym, ap, ap₂, ◌∙◌}
use mathlib.Core.List.{List, [], ◌∷◌, Memᴰ}
use lib.ListN.{length}
use native.Mathlib.Omega.{arith}
use native.Mathlib.Decide.{dec_le}
use native.Mathlib.Nat.{zero-mul, one-mul, add-mul}
use Rattle.lists.specs.Sums.{sum_to, sum_of, same}
use Rattle.lists.proofs.Sums.{sum_to_none, sum_to_add, sum_to_at}

-- equal terms, equal sums
pub sum_of_eq : {A : Type 0} (ks : List A) (f g : A → ℕ) → ((a : A) → Memᴰ a ks → f a ≡ g a) → sum_of ks f ≡ sum_of ks g
unfolding sum_of
sum_of_eq [] f g h = refl
sum_of_eq (a ∷ ks) f g h = ap₂ ◌+◌ (h a (Memᴰ.head refl)) (sum_of_eq ks f g (λ b i. h b (Memᴰ.tail i)))

-- no term counts
pub sum_of_none : {A : Type 0} (ks : List A) (f : A → ℕ) → ((a : A) → Memᴰ a ks → f a ≡ 0) → sum_of ks f ≡ 0
unfolding sum_of
sum_of_none [] f h = refl
sum_of_none (a ∷ ks) f h = omega (arith, h a (Memᴰ.head refl), sum_of_none ks f (λ b i. h b (Memᴰ.tail i)))

-- each term is at most b
pub sum_of_bound : {A : Type 0} (ks : List A) (f : A → ℕ) (b : ℕ) → ((a : A) → Memᴰ a ks → f a ≤ b) → sum_of ks f ≤ length ks * b
unfolding sum_of
sum_of_bound [] f b h = omega arith
sum_of_bound (a ∷ ks) f b h = omega (arith, h a (Memᴰ.head refl), sum_of_bound ks f b (λ c i. h c (Memᴰ.tail i)))

-- a factor behind taken out
pub sum_of_mul : {A : Type 0} (ks : List A) (f : A → ℕ) (c : ℕ) → sum_of ks (λ a. f a * c) ≡ sum_of ks f * c
unfolding sum_of
sum_of_mul [] f c = sym (zero-mul c)
sum_of_mul (a ∷ ks) f c = ap (λ (t : ℕ). f a * c + t) (sum_of_mul ks f c) ∙ sym (add-mul (f a) (sum_of ks f) c)

-- a term is at most the sum
pub sum_of_term : {A : Type 0} (ks : List A) (f : A → ℕ) (a : A) → Memᴰ a ks → f a ≤ sum_of ks f
unfolding sum_of
sum_of_term [] f a i = elim i [ ]
sum_of_term (b ∷ ks) f a (Memᴰ.head e) = omega (arith, ap f e)
sum_of_term (b ∷ ks) f a (Memᴰ.tail i) = omega (arith, sum_of_term ks f a i)

-- a sum that is 0 has terms that are 0
pub sum_of_zero : {A : Type 0} (ks : List A) (f : A → ℕ) → sum_of ks f ≡ 0 → (a : A) → Memᴰ a ks → f a ≡ 0
sum_of_zero ks f z a i = omega (arith, sum_of_term ks f a i)

-- a sum that is not 0 has a term that is not
pub sum_of_some : {A : Type 0} (ks : List A) (f : A → ℕ) → 1 ≤ sum_of ks f → (a : A) × Memᴰ a ks × (1 ≤ f a)
unfolding sum_of
sum_of_some [] f h = absurd (omega arith)
sum_of_some (a ∷ ks) f h =
    elim (dec_le 1 (f a)) [
      | yes e ↦ (a, Memᴰ.head refl, e)
      | no e ↦ let t = sum_of_some ks f (omega arith) in (t.0, Memᴰ.tail t.1, t.2)
    ]

-- where f is 1 at one member and 0 at the others, g is weighed there only
pub sum_of_hot : {A : Type 0} (ks : List A) (f g : A → ℕ) (a : A) → Memᴰ a ks → 1 ≤ f a → sum_of ks f ≡ 1 → sum_of ks (λ b. f b * g b) ≡ g a
unfolding sum_of
sum_of_hot [] f g a i h s = elim i [ ]
sum_of_hot (b ∷ ks) f g a (Memᴰ.head e) h s =
    let z : f b ≡ 1 = omega (arith, ap f e) in
    let r : sum_of ks (λ c. f c * g c) ≡ 0 = sum_of_none ks _ (λ c i. let k : f c ≡ 0 = sum_of_zero ks f (omega arith) c i in rw k (zero-mul (g c))) in
    let w : f b * g b ≡ g b = rw z (one-mul (g b)) in
    omega (arith, ap g e)
sum_of_hot (b ∷ ks) f g a (Memᴰ.tail i) h s =
    let z : f b ≡ 0 = omega (arith, sum_of_term ks f a i) in
    let w : f b * g b ≡ 0 = rw z (zero-mul (g b)) in
    omega (arith, sum_of_hot ks f g a i h (omega arith))

-- over a list and over 1..n, in either order
pub sum_of_swap : {A : Type 0} (xs : List A) (n : ℕ) (f : A → ℕ → ℕ) → sum_of xs (λ x. sum_to n (f x)) ≡ sum_to n (λ i. sum_of xs (λ x. f x i))
unfolding sum_of
sum_of_swap [] n f = sym (sum_to_none n (λ i. 0) (λ i a b. refl))
sum_of_swap (x ∷ xs) n f = ap (λ (t : ℕ). sum_to n (f x) + t) (sum_of_swap xs n f) ∙ sym (sum_to_add n (f x) (λ i. sum_of xs (λ y. f y i)))

-- the members taken together by a key in 1..n
pub sum_of_keys : {A : Type 0} (ks : List A) (n : ℕ) (key : A → ℕ) (f : A → ℕ) → ((a : A) → Memᴰ a ks → (1 ≤ key a) × (key a ≤ n))
    → sum_of ks f ≡ sum_to n (λ v. sum_of ks (λ a. same (key a) v * f a))
sum_of_keys ks n key f h =
    sum_of_eq ks f (λ a. sum_to n (λ v. same (key a) v * f a)) (λ a i. sym (sum_to_at n (key a) (λ _. f a) (h a i).0 (h a i).1))
    ∙ sum_of_swap ks n (λ a v. same (key a) v * f a)
