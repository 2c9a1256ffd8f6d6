-- The repaired plan clashes no more than the assignment's energy, and less where a meter was repaired.
-- For any A above every meter's load, and whatever channel of 1..n is picked for a meter with no bit set. Assumes nothing.
use Prim.Native.Nat.{ℕ, zero, suc, ◌+◌, ◌*◌, ◌≤◌, ◌<◌}
use mathlib.Core.Path.{◌≡◌, refl, sym, ap, ap₂, ◌∙◌}
use mathlib.Core.Logic.{◌⊎◌, inl, inr, ⊎_elim}
use mathlib.Core.Bool.{true}
use mathlib.Core.List.{List, [], ◌∷◌, ◌++◌}
use lib.ListN.{length, length-append}
use native.Mathlib.Omega.{arith}
use native.Mathlib.Decide.{ℕ_discrete, dec_le}
use native.Mathlib.Nat.{le_refl, mul-zero, zero-mul, one-mul}
use borrow.Author.Tests.{eq-eqb, ne_eqb, le-leb, lt-leb}
use Rattle.lists.specs.Tests.{all}
use Rattle.lists.specs.Sums.{sum_to, sum_of, lowest, same, differ, nth}
use Rattle.lists.proofs.Sums.{same_yes, same_no, same_le, same_sym, differ_yes, differ_no, sum_to_eq, sum_to_none, sum_to_term, sum_to_single, sum_to_same, lowest_ok, least_at_ok, nth_low, nth_top}
use Rattle.links.specs.Links.{link_ok}
use Rattle.links.specs.declared.Link.{Link}
use Rattle.links.proofs.Walk.{sum_equal}
use Rattle.qubo.specs.Formula.{Bits, Assignment}
use Rattle.onehot.specs.Choices.{bit_at, set_at, miss_squared, misses, code}
use Rattle.onehot.proofs.Codes.{Choices, Hot, hot_code, code_inj, code_assigned, one_each}
use Rattle.channels.specs.Formula.{clashing_of}
use Rattle.channels.specs.Plans.{clash_weight}
use Rattle.channels.specs.Repair.{bears, heard, quietest, repair_one, repair_by, repaired}
use Rattle.channels.proofs.Load.{Heavy}
use Rattle.channels.proofs.Step.{worth, set_at_eq, step}

-- ---- assignments that agree, and those that are a plan's

module _ (A N n : ℕ) (ls : List Link) (ok : all (link_ok N) ls ≡ true) where
  -- bits that agree at meters and channels have one energy
  pub worth_eq : (b b' : ℕ → ℕ → ℕ) → ((v i : ℕ) → 1 ≤ v → v ≤ N → 1 ≤ i → i ≤ n → b v i ≡ b' v i) → worth A N n ls b ≡ worth A N n ls b'
  unfolding worth misses clashing_of
  worth_eq b b' h =
      ap₂ ◌+◌
      (ap (λ t. A * t) (sum_to_eq N (λ v. miss_squared (set_at n b v)) (λ v. miss_squared (set_at n b' v)) (λ v p q. ap miss_squared (set_at_eq n b b' v (λ i r s. h v i p q r s)))))
      (sum_equal N ls ok (λ l. sum_to n (λ i. l.weight * (b l.u i * b l.v i))) (λ l. sum_to n (λ i. l.weight * (b' l.u i * b' l.v i)))
      (λ l o. sum_to_eq n (λ i. l.weight * (b l.u i * b l.v i)) (λ i. l.weight * (b' l.u i * b' l.v i))
      (λ i p q. ap (λ t. l.weight * t) (ap₂ ◌*◌ (h l.u i o.u_low (omega (arith, o.ordered, o.v_high)) p q) (h l.v i (omega (arith, o.u_low, o.ordered)) o.v_high p q)))))

  -- both ends on one channel: the link's terms add up to its weight, else to 0
  both : (w c d : ℕ) → 1 ≤ c → c ≤ n → sum_to n (λ i. w * (same c i * same d i)) ≡ w * same c d
  both w c d a b =
      sum_to_single n (λ i. w * (same c i * same d i)) c a b (λ i ne. rw (same_no c i (λ e. ne (sym e))) (rw zero-mul (mul-zero w)))
      ∙ rw (same_yes c c refl, one-mul, same_sym d c) refl

  -- the energy of a plan's own bits is its clash weight
  pub plan_worth : (p : List ℕ) → Choices N n p → worth A N n ls (λ v i. same (nth p v) i) ≡ clash_weight ls p
  unfolding worth misses clashing_of clash_weight set_at miss_squared
  plan_worth p c = omega (arith, none_missed, met)
    where
      none_missed : A * sum_to N (λ v. miss_squared (set_at n (λ v i. same (nth p v) i) v)) ≡ 0
      none_missed =
          rw (sum_to_none N (λ v. miss_squared (set_at n (λ v i. same (nth p v) i) v))
          (λ v a b. ap miss_squared (sum_to_same n (nth p v) (c.fits v a b).0 (c.fits v a b).1)))
          (mul-zero A)

      met : sum_of ls (λ l. sum_to n (λ i. l.weight * (same (nth p l.u) i * same (nth p l.v) i))) ≡ sum_of ls (λ l. l.weight * same (nth p l.u) (nth p l.v))
      met = sum_equal N ls ok _ _ (λ l o.
          let u : l.u ≤ N = omega (arith, o.ordered, o.v_high) in
          both l.weight (nth p l.u) (nth p l.v) (c.fits l.u o.u_low u).0 (c.fits l.u o.u_low u).1)

-- ---- what a meter bears

module _ (n : ℕ) (x p : List ℕ) where
  pub bears_low : (v i : ℕ) → v ≤ length p → bears n x p v i ≡ same (nth p v) i
  unfolding bears
  bears_low v i h = rw (le-leb v (length p) h)

  pub bears_high : (v i : ℕ) → length p < v → bears n x p v i ≡ bit_at n x v i
  unfolding bears
  bears_high v i h = rw (lt-leb v (length p) h)

  pub bears_small : (v i : ℕ) → Bits x → bears n x p v i ≤ 1
  unfolding bit_at
  bears_small v i s =
      elim (dec_le v (length p)) [
        | yes h ↦ rw (bears_low v i h) (same_le (nth p v) i)
        | no h ↦ rw (bears_high v i (omega arith)) (s _)
      ]

-- ---- the channel of a meter

-- a picked channel is one of 1..n
abbrev pub Picks : ℕ → (List ℕ → ℕ → ℕ) → Type 0
Picks n pick = (p : List ℕ) (m : ℕ) → (1 ≤ pick p m) × (pick p m ≤ n)

-- 01's is
pub quietest_picks : (n : ℕ) (ls : List Link) (x : List ℕ) → 1 ≤ n → Picks n (quietest n ls x)
unfolding quietest
quietest_picks n ls x h p m = ((least_at_ok n (heard ls (bears n x p) m)).0, omega (arith, (least_at_ok n (heard ls (bears n x p) m)).1))

module _ (n : ℕ) (x : List ℕ) (silent m : ℕ) where
  pub repair_silent : set_at n (bit_at n x) m ≡ 0 → repair_one n x silent m ≡ silent
  unfolding repair_one
  repair_silent e = rw (eq-eqb (set_at n (bit_at n x) m) 0 e) refl

  pub repair_lowest : (set_at n (bit_at n x) m ≡ 0 → ⊥) → repair_one n x silent m ≡ lowest n (bit_at n x m)
  unfolding repair_one
  repair_lowest e = rw (ne_eqb (set_at n (bit_at n x) m) 0 e) refl

  lowest_set : (set_at n (bit_at n x) m ≡ 0 → ⊥) → (1 ≤ lowest n (bit_at n x m)) × (lowest n (bit_at n x m) ≤ n) × (1 ≤ bit_at n x m (lowest n (bit_at n x m)))
  unfolding set_at
  lowest_set e = lowest_ok n (bit_at n x m) (omega arith)

  -- it is one of 1..n, and a bit that is set, unless none is
  pub repair_one_choice : 1 ≤ silent → silent ≤ n → (1 ≤ repair_one n x silent m) × (repair_one n x silent m ≤ n) × ((1 ≤ bit_at n x m (repair_one n x silent m)) ⊎ (set_at n (bit_at n x) m ≡ 0))
  repair_one_choice a b =
      elim (ℕ_discrete (set_at n (bit_at n x) m) 0) [
        | yes e ↦ rw (repair_silent e) (a, b, inr e)
        | no e ↦ (let t : (1 ≤ lowest n (bit_at n x m)) × (lowest n (bit_at n x m) ≤ n) × (1 ≤ bit_at n x m (lowest n (bit_at n x m))) = lowest_set e in
            rw (repair_lowest e) (t.0, t.1, inl t.2))
      ]

-- ---- the meters repaired one after another

module _ (pick : List ℕ → ℕ → ℕ) (n : ℕ) (x : List ℕ) (picks : Picks n pick) where
  pub repair_length : (k : ℕ) → length (repair_by pick n x k) ≡ k
  unfolding repair_by
  repair_length zero = refl
  repair_length (suc k) = rw length-append (omega (arith, repair_length k))

  -- the channel of meter k + 1
  settled : ℕ → ℕ
  settled k = repair_one n x (pick (repair_by pick n x k) (suc k)) (suc k)

  repair_suc : (k : ℕ) → repair_by pick n x (suc k) ≡ repair_by pick n x k ++ (settled k ∷ [])
  unfolding repair_by settled
  repair_suc k = refl

  settled_ok : (k : ℕ) → (1 ≤ settled k) × (settled k ≤ n) × ((1 ≤ bit_at n x (suc k) (settled k)) ⊎ (set_at n (bit_at n x) (suc k) ≡ 0))
  unfolding settled
  settled_ok k = repair_one_choice n x (pick (repair_by pick n x k) (suc k)) (suc k) (picks _ _).0 (picks _ _).1

  -- each meter has its channel
  repair_nth : (k j : ℕ) → j < k → nth (repair_by pick n x k) (suc j) ≡ settled j
  repair_nth zero j h = absurd (omega arith)
  repair_nth (suc k) j h =
      elim (ℕ_discrete j k) [
        | yes e ↦ rw (repair_suc k, nth_top (repair_by pick n x k) (settled k) (suc j) (omega (arith, repair_length k)), e) refl
        | no e ↦ rw (repair_suc k, nth_low (repair_by pick n x k) (settled k) (suc j) (omega (arith, repair_length k))) (repair_nth k j (omega arith))
      ]

  -- the plan so far is one of so many meters
  pub repair_plan : (N : ℕ) → Choices N n (repair_by pick n x N)
  repair_plan N = record { size = repair_length N; fits = fits }
    where
      fits : (v : ℕ) → 1 ≤ v → v ≤ N → (1 ≤ nth (repair_by pick n x N) v) × (nth (repair_by pick n x N) v ≤ n)
      fits zero a b = absurd (omega arith)
      fits (suc j) a b = rw (repair_nth N j b) ((settled_ok j).0, (settled_ok j).1)

  -- a meter with a bit set keeps one that is set
  pub repair_set : (N v : ℕ) → 1 ≤ v → v ≤ N → (set_at n (bit_at n x) v ≡ 0 → ⊥) → 1 ≤ bit_at n x v (nth (repair_by pick n x N) v)
  repair_set N zero a b ne = absurd (omega arith)
  repair_set N (suc j) a b ne = rw (repair_nth N j b) (⊎_elim (λ t. t) (λ z. absurd (ne z)) (settled_ok j).2)

  -- a meter that is not the next one bears what it bore
  others : (k v i : ℕ) → (v ≡ suc k → ⊥) → bears n x (repair_by pick n x (suc k)) v i ≡ bears n x (repair_by pick n x k) v i
  others k v i ne =
      elim (dec_le v k) [
        | yes h ↦
            bears_low n x (repair_by pick n x (suc k)) v i (omega (arith, repair_length (suc k)))
            ∙ ap (λ t. same t i) (rw (repair_suc k) (nth_low (repair_by pick n x k) (settled k) v (omega (arith, repair_length k))))
            ∙ sym (bears_low n x (repair_by pick n x k) v i (omega (arith, repair_length k)))
        | no h ↦
            bears_high n x (repair_by pick n x (suc k)) v i (omega (arith, repair_length (suc k)))
            ∙ sym (bears_high n x (repair_by pick n x k) v i (omega (arith, repair_length k)))
      ]

  -- the next one bears its channel
  next : (k i : ℕ) → bears n x (repair_by pick n x (suc k)) (suc k) i ≡ same (settled k) i
  next k i =
      bears_low n x (repair_by pick n x (suc k)) (suc k) i (omega (arith, repair_length (suc k)))
      ∙ ap (λ t. same t i) (rw (repair_suc k) (nth_top (repair_by pick n x k) (settled k) (suc k) (omega (arith, repair_length k))))

  -- it came with the bits lent
  as_came : (k i : ℕ) → bears n x (repair_by pick n x k) (suc k) i ≡ bit_at n x (suc k) i
  as_came k i = bears_high n x (repair_by pick n x k) (suc k) i (omega (arith, repair_length k))

  set_came : (k : ℕ) → set_at n (bears n x (repair_by pick n x k)) (suc k) ≡ set_at n (bit_at n x) (suc k)
  set_came k = set_at_eq n (bears n x (repair_by pick n x k)) (bit_at n x) (suc k) (λ i a b. as_came k i)

  module _ (A N : ℕ) (ls : List Link) (bits : Bits x) (heavy : Heavy A N ls) where
    -- one meter more
    one_more : (k : ℕ) → suc k ≤ N
        → worth A N n ls (bears n x (repair_by pick n x (suc k))) + differ (set_at n (bit_at n x) (suc k)) 1 ≤ worth A N n ls (bears n x (repair_by pick n x k))
    one_more k h =
        rw (← set_came k)
        (step A N n ls (bears n x (repair_by pick n x k)) (bears n x (repair_by pick n x (suc k))) (suc k) (settled k) (omega arith) h
        (settled_ok k).0 (settled_ok k).1 (heavy (suc k) (omega arith) h) (λ v i. bears_small n x (repair_by pick n x k) v i bits) (others k) (next k)
        (⊎_elim (λ t. inl (rw (as_came k (settled k)) t)) (λ z. inr (set_came k ∙ z)) (settled_ok k).2))

    all_more : (k : ℕ) → k ≤ N
        → worth A N n ls (bears n x (repair_by pick n x k)) + sum_to k (λ v. differ (set_at n (bit_at n x) v) 1) ≤ worth A N n ls (bears n x [])
    unfolding sum_to repair_by
    all_more zero h = omega arith
    all_more (suc k) h = omega (arith, one_more k h, all_more k (omega arith))

    -- THE BOUND: the clash weight of the repaired plan, and 1 for each meter repaired, is at most the energy
    pub repair_bound : all (link_ok N) ls ≡ true → clash_weight ls (repair_by pick n x N) + repaired N n x ≤ worth A N n ls (bit_at n x)
    unfolding repaired
    repair_bound ok = omega (arith, all_more N (le_refl N), start, finish)
      where
        start : worth A N n ls (bears n x []) ≡ worth A N n ls (bit_at n x)
        start = worth_eq A N n ls ok (bears n x []) (bit_at n x) (λ v i a b c d. bears_high n x [] v i a)

        finish : worth A N n ls (bears n x (repair_by pick n x N)) ≡ clash_weight ls (repair_by pick n x N)
        finish =
            worth_eq A N n ls ok (bears n x (repair_by pick n x N)) (λ v i. same (nth (repair_by pick n x N) v) i)
            (λ v i a b c d. bears_low n x (repair_by pick n x N) v i (omega (arith, repair_length N)))
            ∙ plan_worth A N n ls ok (repair_by pick n x N) (repair_plan N)

-- ---- where exactly one bit is set at each meter

module _ (pick : List ℕ → ℕ → ℕ) (N n : ℕ) (n1 : 1 ≤ n) where
  -- the bits are the code of the plan that they decode to
  pub repair_hot : (x : List ℕ) → Picks n pick → Assignment (N * n) x → Hot N n (bit_at n x) → x ≡ code n (repair_by pick n x N)
  repair_hot x picks a hot =
      hot_code N n x (repair_by pick n x N) n1 a hot (repair_plan pick n x picks N) (λ v p q. repair_set pick n x picks N v p q (λ z. omega (arith, hot v p q)))

  -- the code of a plan decodes to the plan
  pub repair_code : (p : List ℕ) → Picks n pick → Choices N n p → repair_by pick n (code n p) N ≡ p
  repair_code p picks ok =
      code_inj N n (repair_by pick n (code n p) N) p (repair_plan pick n (code n p) picks N) ok
      (sym (repair_hot (code n p) picks (code_assigned N n p ok) (one_each N n p ok)))

-- no meter is repaired exactly where each has exactly one bit set
pub none_repaired : (N n : ℕ) (x : List ℕ) → repaired N n x ≡ 0 → Hot N n (bit_at n x)
unfolding repaired
none_repaired N n x z v a b =
    elim (ℕ_discrete (set_at n (bit_at n x) v) 1) [
      | yes e ↦ e
      | no e ↦ absurd (omega (arith, sum_to_term N (λ v. differ (set_at n (bit_at n x) v) 1) v a b, differ_yes (set_at n (bit_at n x) v) 1 e))
    ]

pub hot_repaired : (N n : ℕ) (x : List ℕ) → Hot N n (bit_at n x) → repaired N n x ≡ 0
unfolding repaired
hot_repaired N n x hot = sum_to_none N _ (λ v a b. differ_no (set_at n (bit_at n x) v) 1 (hot v a b))
