-- Chains of parents. One that ends repeats no meter, so by the pigeonhole principle it has at most as many meters as there are; so have two together, before they meet. Assumes nothing.
use Prim.Native.Nat.{ℕ, zero, suc, ◌+◌, ◌-◌, ◌≤◌, ◌<◌, min}
use mathlib.Core.Path.{◌≡◌, refl, sym, ap, ◌∙◌}
use mathlib.Core.Logic.{◌⊎◌, inl, inr, ◌≢◌, ⊎_elim}
use native.Mathlib.Nat.{zero-add, suc-add}
use native.Mathlib.Decide.{dec_lt, ℕ_discrete}
use native.Mathlib.Omega.{arith}

-- ---- ancestors

-- the k-th ancestor of v, where f v is the parent; 0 is no meter, and its parent is 0
unfoldable pub up : (ℕ → ℕ) → ℕ → ℕ → ℕ
up f zero v = v
up f (suc k) v = up f k (f v)

-- 0 has no ancestors
pub up_zero : (f : ℕ → ℕ) → f 0 ≡ 0 → (k : ℕ) → up f k 0 ≡ 0
unfolding up
up_zero f z zero = refl
up_zero f z (suc k) = rw z (up_zero f z k)

-- a steps, then b
up_add : (f : ℕ → ℕ) (a b v : ℕ) → up f (a + b) v ≡ up f b (up f a v)
unfolding up
up_add f zero b v = rw zero-add
up_add f (suc a) b v = rw suc-add (up_add f a b (f v))

-- the last step taken apart
pub up_last : (f : ℕ → ℕ) (k v : ℕ) → up f (suc k) v ≡ f (up f k v)
unfolding up
up_last f zero v = refl
up_last f (suc k) v = up_last f k (f v)

-- a chain that has ended stays ended
pub up_more : (f : ℕ → ℕ) → f 0 ≡ 0 → (k m v : ℕ) → k ≤ m → up f k v ≡ 0 → up f m v ≡ 0
up_more f z k m v h e =
    let s : k + (m - k) ≡ m = omega arith in
    rw (← s, up_add, e) (up_zero f z (m - k))

-- ancestors are at most n where parents are
pub up_le : (f : ℕ → ℕ) (n : ℕ) → ((v : ℕ) → v ≤ n → f v ≤ n) → (k v : ℕ) → v ≤ n → up f k v ≤ n
unfolding up
up_le f n b zero v h = h
up_le f n b (suc k) v h = up_le f n b k (f v) (b v h)

-- ---- the pigeonhole principle

-- the numbers other than a, with the gap at a closed
closed : ℕ → ℕ → ℕ
closed a x = x - min 1 (x - a)

-- below a they stay, above it they are one less
closed_cases : (a x : ℕ) → x ≢ a → ((x < a) × (closed a x ≡ x)) ⊎ ((a < x) × (suc (closed a x) ≡ x))
unfolding closed
closed_cases a x n = elim (dec_lt x a) [ yes h ↦ inl (h, omega arith) | no h ↦ inr (omega arith) ]

-- different ones stay different
closed_inj : (a x y : ℕ) → x ≢ a → y ≢ a → x ≢ y → closed a x ≢ closed a y
closed_inj a x y n m d e = go (closed_cases a x n) (closed_cases a y m)
  where
    go : ((x < a) × (closed a x ≡ x)) ⊎ ((a < x) × (suc (closed a x) ≡ x)) → ((y < a) × (closed a y ≡ y)) ⊎ ((a < y) × (suc (closed a y) ≡ y)) → ⊥
    go (inl p) (inl q) = d (omega (arith, e))
    go (inl p) (inr q) = omega arith
    go (inr p) (inl q) = omega arith
    go (inr p) (inr q) = d (omega (arith, e))

-- m different numbers below n are at most n
pigeonhole : (n m : ℕ) (g : ℕ → ℕ) → ((i : ℕ) → i < m → g i < n) → ((i j : ℕ) → i < j → j < m → g i ≢ g j) → m ≤ n
pigeonhole zero zero g b d = omega arith
pigeonhole zero (suc m) g b d = omega (arith, b 0 (omega arith))
pigeonhole (suc n) zero g b d = omega arith
pigeonhole (suc n) (suc m) g b d =
    let r : m ≤ n = pigeonhole n m (λ i. closed (g m) (g i))
    (λ i h. ⊎_elim (λ q. omega (arith, b m (omega arith))) (λ q. omega (arith, b i (omega arith))) (closed_cases (g m) (g i) (d i m h (omega arith))))
    (λ i j h k. closed_inj (g m) (g i) (g j) (d i m (omega arith) (omega arith)) (d j m k (omega arith)) (d i j h (omega arith))) in
    omega arith

-- ---- chains that end

-- the last meter of the chain of v is its d-th ancestor
abbrev pub Last : (ℕ → ℕ) → ℕ → ℕ → Type 0
Last f v d = (up f d v ≢ 0) × (up f (suc d) v ≡ 0)

-- a chain that ends has a last meter
pub last_of : (f : ℕ → ℕ) (k v : ℕ) → up f k v ≡ 0 → v ≢ 0 → (d : ℕ) × Last f v d
unfolding up
last_of f zero v e n = absurd (n e)
last_of f (suc k) v e n = go (λ m. last_of f k (f v) e m) (ℕ_discrete (f v) 0)
  where
    go : (f v ≢ 0 → (d : ℕ) × Last f (f v) d) → Dec (f v ≡ 0) → (d : ℕ) × Last f v d
    go ih (yes q) = (0, (n, q))
    go ih (no m) = let t = ih m in (suc t.0, t.1)

-- and repeats no meter
no_repeat : (f : ℕ → ℕ) → f 0 ≡ 0 → (v d : ℕ) → Last f v d → (i j : ℕ) → i < j → j ≤ suc d → up f i v ≢ up f j v
no_repeat f z v d (n, e) i j h k q =
    let s : j + (suc d - j) ≡ suc d = omega arith in
    let t : up f (i + (suc d - j)) v ≡ 0 = up_add f i (suc d - j) v ∙ ap (up f (suc d - j)) q ∙ sym (up_add f j (suc d - j) v) ∙ ap (λ (m : ℕ). up f m v) s ∙ e in
    n (up_more f z (i + (suc d - j)) d v (omega arith) t)

module _ (f : ℕ → ℕ) (n : ℕ) (z : f 0 ≡ 0) (b : (v : ℕ) → v ≤ n → f v ≤ n) where
  -- so it has at most n meters
  chain_short : (v d : ℕ) → v ≤ n → Last f v d → d < n
  chain_short v d h e =
      let r : suc (suc d) ≤ suc n = pigeonhole (suc n) (suc (suc d)) (λ i. up f i v) (λ i k. omega (arith, up_le f n b i v h)) (λ i j k l. no_repeat f z v d e i j k (omega arith)) in
      omega arith

  -- and ends within n steps
  pub ends_within : (k v : ℕ) → v ≤ n → up f k v ≡ 0 → up f n v ≡ 0
  ends_within k v h e = go (ℕ_discrete v 0)
    where
      go : Dec (v ≡ 0) → up f n v ≡ 0
      go (yes q) = rw q (up_zero f z n)
      go (no q) = let t = last_of f k v e q in up_more f z (suc t.0) n v (chain_short v t.0 h t.1) t.1.1

  -- two chains, where that of v does not come to the h-th ancestor of w
  module _ (w h v d : ℕ) (hw : w ≤ n) (hv : v ≤ n) (ew : Last f w (suc h)) (ev : Last f v d) (off : (j : ℕ) → up f j v ≢ up f h w) where
    -- w's up to that ancestor, then v's
    both : (i : ℕ) → Dec (i < suc h) → ℕ
    both i (yes _) = up f i w
    both i (no _) = up f (i - suc h) v

    -- all of them are at most n
    both_le : (i : ℕ) (q : Dec (i < suc h)) → both i q ≤ n
    unfolding both
    both_le i (yes _) = up_le f n b i w hw
    both_le i (no _) = up_le f n b (i - suc h) v hv

    -- and different
    both_differ : (i j : ℕ) (p : Dec (i < suc h)) (q : Dec (j < suc h)) → i < j → j < suc h + suc (suc d) → both i p ≢ both j q
    unfolding both
    both_differ i j (yes p) (yes q) k l e = no_repeat f z w (suc h) ew i j k (omega arith) e
    both_differ i j (yes p) (no q) k l e =
        let s : i + (h - i) ≡ h = omega arith in
        off ((j - suc h) + (h - i)) (up_add f (j - suc h) (h - i) v ∙ ap (up f (h - i)) (sym e) ∙ sym (up_add f i (h - i) w) ∙ ap (λ (m : ℕ). up f m w) s)
    both_differ i j (no p) (yes q) k l e = absurd (p (omega arith))
    both_differ i j (no p) (no q) k l e = no_repeat f z v d ev (i - suc h) (j - suc h) (omega arith) (omega arith) e

    -- the h + 1 meters of the one and the d + 1 of the other are at most n
    pub two_chains : h + d + 2 ≤ n
    two_chains =
        let r : suc h + suc (suc d) ≤ suc n = pigeonhole (suc n) (suc h + suc (suc d)) (λ i. both i (dec_lt i (suc h)))
        (λ i k. omega (arith, both_le i (dec_lt i (suc h)))) (λ i j k l. both_differ i j (dec_lt i (suc h)) (dec_lt j (suc h)) k l) in
        omega arith
