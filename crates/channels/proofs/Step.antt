-- One meter settled on a channel: the energy does not rise, and falls where the meter did not have exactly one bit set.
-- An assignment is here a function: b v i is 1 where meter v is on channel i. For any A above every meter's load. Assumes nothing.
use Prim.Native.Nat.{ℕ, zero, suc, ◌+◌, ◌*◌, ◌≤◌, ◌<◌}
use mathlib.Core.Path.{◌≡◌, refl, sym, ap, ap₂, ◌∙◌}
use mathlib.Core.Logic.{◌⊎◌, inl, inr}
use mathlib.Core.List.{List}
use native.Mathlib.Omega.{arith}
use native.Mathlib.Decide.{ℕ_discrete}
use native.Mathlib.Nat.{le_refl, le_trans, le_of_eq, mul-le-mul_left, mul-le-mul, mul-add, mul-one, mul-zero, zero-mul, one-mul, mul_comm, one-le-mul}
use Rattle.lists.specs.Sums.{sum_to, same, differ}
use Rattle.lists.proofs.Sums.{same_yes, same_no, same_le, differ_yes, differ_no, sum_to_le, sum_to_eq, sum_to_change, sum_to_single, sum_to_same, sum_of_le, sum_of_add}
use Rattle.links.specs.declared.Link.{Link}
use Rattle.onehot.specs.Choices.{set_at, miss_squared, misses}
use Rattle.channels.specs.Formula.{load, clashing_of}
use Rattle.channels.proofs.Load.{load_of, load_u, load_v, load_sum}

-- the energy of such an assignment, a whole number from 0
unfoldable pub worth : ℕ → ℕ → ℕ → List Link → (ℕ → ℕ → ℕ) → ℕ
worth A N n ls b = A * misses N n b + clashing_of n ls b

-- (1 - k)² is at least 1 unless k is 1
miss_off : (k : ℕ) → differ k 1 ≤ miss_squared k
unfolding miss_squared
miss_off zero = omega (arith, differ_yes 0 1 (omega arith))
miss_off (suc zero) = omega (arith, differ_no 1 1 refl)
miss_off (suc (suc k)) = le_trans {m = 1} (omega (arith, differ_yes (suc (suc k)) 1 (omega arith))) (one-le-mul (omega arith) (omega arith))

pub set_at_eq : (n : ℕ) (b b' : ℕ → ℕ → ℕ) (v : ℕ) → ((i : ℕ) → 1 ≤ i → i ≤ n → b v i ≡ b' v i) → set_at n b v ≡ set_at n b' v
unfolding set_at
set_at_eq n b b' v h = sum_to_eq n (b v) (b' v) h

module _ (A N n : ℕ) (ls : List Link) (b b' : ℕ → ℕ → ℕ) (m c : ℕ)
    (m1 : 1 ≤ m) (mN : m ≤ N) (c1 : 1 ≤ c) (cn : c ≤ n) (heavy : load ls m < A)
    (small : (v i : ℕ) → b v i ≤ 1)
    (off : (v i : ℕ) → (v ≡ m → ⊥) → b' v i ≡ b v i)
    (on : (i : ℕ) → b' m i ≡ same c i) where
  one_set : set_at n b' m ≡ 1
  unfolding set_at
  one_set = sum_to_eq n (b' m) (same c) (λ i p q. on i) ∙ sum_to_same n c c1 cn

  misses_step : misses N n b ≡ misses N n b' + miss_squared (set_at n b m)
  unfolding misses miss_squared
  misses_step =
      let e : sum_to N (λ v. miss_squared (set_at n b v)) + miss_squared (set_at n b' m) ≡ sum_to N (λ v. miss_squared (set_at n b' v)) + miss_squared (set_at n b m)
      = sum_to_change N (λ v. miss_squared (set_at n b v)) (λ v. miss_squared (set_at n b' v)) m m1 mN
      (λ v ne. ap miss_squared (set_at_eq n b b' v (λ i p q. sym (off v i ne)))) in
      let z : miss_squared (set_at n b' m) ≡ 0 = ap miss_squared one_set in
      omega arith

  small' : (v i : ℕ) → b' v i ≤ 1
  small' v i = elim (ℕ_discrete v m) [ yes e ↦ rw e (rw (on i) (same_le c i)) | no e ↦ rw (off v i e) (small v i) ]

  -- the bit kept was set: nothing is added
  module _ (kept : 1 ≤ b m c) where
    under : (v i : ℕ) → b' v i ≤ b v i
    under v i =
        elim (ℕ_discrete v m) [
          | yes e ↦ rw e (rw (on i) (elim (ℕ_discrete c i) [
            | yes d ↦ rw (same_yes c i d) (rw (← d) kept)
            | no d ↦ omega (arith, same_no c i d)
          ]))
          | no e ↦ le_of_eq (off v i e)
        ]

    clashes_fall : clashing_of n ls b' ≤ clashing_of n ls b
    unfolding clashing_of
    clashes_fall =
        sum_of_le ls _ _ (λ l. sum_to_le n _ _ (λ i p q. mul-le-mul_left l.weight (mul-le-mul (under l.u i) (under l.v i))))

  -- a link with an end on channel c alone clashes once at most
  one_end : (w : ℕ) (f g : ℕ → ℕ) → ((i : ℕ) → f i ≡ same c i) → ((i : ℕ) → g i ≤ 1) → sum_to n (λ i. w * (f i * g i)) ≤ w
  one_end w f g h s =
      rw (sum_to_single n (λ i. w * (f i * g i)) c c1 cn
      (λ i ne. rw (h i) (rw (same_no c i (λ e. ne (sym e))) (rw zero-mul (mul-zero w)))))
      (rw (h c) (rw (same_yes c c refl) (rw one-mul (le_trans (mul-le-mul_left w (s c)) (le_of_eq (mul-one w))))))

  -- whatever channel is picked, at most the meter's load is added
  clashes_rise : clashing_of n ls b' ≤ clashing_of n ls b + load ls m
  unfolding clashing_of
  clashes_rise =
      le_trans (sum_of_le ls _ _ each)
      (le_of_eq (sum_of_add ls (λ l. sum_to n (λ i. l.weight * (b l.u i * b l.v i))) (load_of m) ∙ ap (λ t. clashing_of n ls b + t) (load_sum ls m)))
    where
      each : (l : Link) → sum_to n (λ i. l.weight * (b' l.u i * b' l.v i))
          ≤ sum_to n (λ i. l.weight * (b l.u i * b l.v i)) + load_of m l
      each l =
          elim (ℕ_discrete l.u m) [
            | yes e ↦ omega (arith, one_end l.weight (b' l.u) (b' l.v) (λ i. rw e (on i)) (small' l.v), load_u l m e)
            | no e ↦
                elim (ℕ_discrete l.v m) [
                  | yes d ↦
                      omega (
                        arith,
                        one_end l.weight (b' l.v) (b' l.u) (λ i. rw d (on i)) (small' l.u),
                        sum_to_eq n (λ i. l.weight * (b' l.u i * b' l.v i)) (λ i. l.weight * (b' l.v i * b' l.u i))
                            (λ i p q. ap (λ t. l.weight * t) (mul_comm (b' l.u i) (b' l.v i))),
                        load_v l m e d,
                      )
                  | no d ↦
                      omega (
                        arith,
                        sum_to_eq n (λ i. l.weight * (b' l.u i * b' l.v i)) (λ i. l.weight * (b l.u i * b l.v i))
                            (λ i p q. ap (λ t. l.weight * t) (ap₂ ◌*◌ (off l.u i e) (off l.v i d))),
                      )
                ]
          ]

  -- the penalty that the step saves
  saved : A * misses N n b ≡ A * misses N n b' + A * miss_squared (set_at n b m)
  saved = rw misses_step (mul-add A (misses N n b') (miss_squared (set_at n b m)))

  pub step : (1 ≤ b m c) ⊎ (set_at n b m ≡ 0) → worth A N n ls b' + differ (set_at n b m) 1 ≤ worth A N n ls b
  unfolding worth miss_squared
  step (inl kept) =
      omega (
        arith,
        saved,
        clashes_fall kept,
        miss_off (set_at n b m),
        mul-le-mul {n₁ = 1} {m₁ = miss_squared (set_at n b m)} {n₂ = A} {m₂ = miss_squared (set_at n b m)} (omega arith) (le_refl (miss_squared (set_at n b m))),
        one-mul (miss_squared (set_at n b m)),
      )
  step (inr none) =
      omega (arith, saved, clashes_rise, heavy, none_costs, none_counts)
    where
      none_costs : A * miss_squared (set_at n b m) ≡ A
      none_costs = rw none (mul-one A)

      none_counts : differ (set_at n b m) 1 ≤ 1
      none_counts = rw none (omega (arith, differ_yes 0 1 (omega arith)))
