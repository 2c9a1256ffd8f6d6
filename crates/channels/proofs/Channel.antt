-- Laws that the proofs of src/repair.rt and src/repairing.rt cite: a meter's channel, and the plan meter by meter. Assumes nothing.
use Prim.Native.Nat.{ℕ, ◌+◌, ◌-◌, ◌*◌, ◌≤◌, ◌<◌}
use mathlib.Core.Path.{◌≡◌, refl, sym, ap, ◌∙◌}
use mathlib.Core.Logic.{⊎_elim}
use mathlib.Core.List.{List, [], ◌∷◌, ◌++◌}
use lib.ListN.{length, set, take}
use lib.Seq.{take-suc-set, take_all}
use native.Mathlib.Omega.{arith}
use native.Mathlib.Numerals.{add-one}
use Rattle.lists.specs.Sums.{sum_to, lowest, differ, nth}
use Rattle.lists.proofs.Sums.{differ_yes, differ_no, sum_to_term, lowest_cases}
use Rattle.links.specs.declared.Link.{Link}
use Rattle.onehot.specs.Choices.{bit_at, set_at}
use Rattle.onehot.proofs.Parts.{part_of, cut_lowest}
use Rattle.channels.specs.Repair.{quietest, repair_one, repair_by, decoded, repaired}
use Rattle.channels.proofs.Repaired.{quietest_picks, repair_silent, repair_lowest, repair_one_choice}

-- ---- a meter's channel

-- it is a byte
pub channel_le : (n : ℕ) (ls : List Link) (x p : List ℕ) (m r : ℕ) → 1 ≤ n → r ≡ repair_one n x (quietest n ls x p m) m → r ≤ n
channel_le n ls x p m r h e = rw e (repair_one_choice n x (quietest n ls x p m) m (quietest_picks n ls x h p m).0 (quietest_picks n ls x h p m).1).1

-- as the code finds it, from the lowest bit set in the part of meter m, if any is
module _ (n N m : ℕ) (x : List ℕ) (m1 : 1 ≤ m) (mN : m ≤ N) (size : length x ≡ N * n) where
  abbrev part : List ℕ
  part = part_of n (m - 1) x

  found_lowest : lowest (length part) (nth part) ≡ lowest n (bit_at n x m)
  found_lowest =
      let e : m - 1 + 1 ≡ m = omega arith in
      cut_lowest n N (m - 1) x (omega arith) (omega arith) ∙ ap (λ t. lowest n (bit_at n x t)) e

  none_set : lowest n (bit_at n x m) ≡ 0 → set_at n (bit_at n x) m ≡ 0
  unfolding set_at
  none_set e = ⊎_elim (λ z. z.0) (λ t. absurd (omega arith)) (lowest_cases n (bit_at n x m))

  some_set : 1 ≤ lowest n (bit_at n x m) → set_at n (bit_at n x) m ≡ 0 → ⊥
  unfolding set_at
  some_set e z = ⊎_elim (λ y. omega (arith, y.1)) (λ t. omega (arith, t, sum_to_term n (bit_at n x m) (lowest n (bit_at n x m)) t.0 t.1)) (lowest_cases n (bit_at n x m))

  pub meter_silent : (silent : ℕ) → lowest (length part) (nth part) ≡ 0 → silent ≡ repair_one n x silent m
  meter_silent silent e = sym (repair_silent n x silent m (none_set (sym found_lowest ∙ e)))

  pub meter_lowest : (silent c : ℕ) → 1 ≤ c → c ≡ lowest (length part) (nth part) → c ≡ repair_one n x silent m
  meter_lowest silent c a e = e ∙ found_lowest ∙ sym (repair_lowest n x silent m (some_set (omega (arith, found_lowest))))

-- ---- the plan, one meter more

-- the channels of the first k meters
abbrev pub channels_to : ℕ → List Link → List ℕ → ℕ → List ℕ
channels_to n ls x k = repair_by (quietest n ls x) n x k

module _ (n : ℕ) (ls : List Link) (x : List ℕ) where
  pub channels_start : [] ≡ channels_to n ls x 0
  unfolding repair_by
  channels_start = refl

  next_is : (v : ℕ) (p : List ℕ) (r : ℕ) → p ≡ channels_to n ls x v → r ≡ repair_one n x (quietest n ls x p (v + 1)) (v + 1) → p ++ (r ∷ []) ≡ channels_to n ls x (v + 1)
  unfolding repair_by
  next_is v p r e d = rw (d, e, add-one v) refl

  pub channels_next : (p : List ℕ) (v r : ℕ) → v < length p → take v p ≡ channels_to n ls x v → r ≡ repair_one n x (quietest n ls x (take v p) (v + 1)) (v + 1) → take (v + 1) (set p v r) ≡ channels_to n ls x (v + 1)
  channels_next p v r h e d = rw add-one (take-suc-set p v r h) ∙ next_is v (take v p) r e d

  pub channels_end : (N : ℕ) (p : List ℕ) (v : ℕ) → v ≡ N → length p ≡ N → take v p ≡ channels_to n ls x v → p ≡ decoded N n ls x
  unfolding decoded
  channels_end N p v d l e = sym (take_all v p (omega arith)) ∙ e ∙ ap (λ t. channels_to n ls x t) d

-- ---- how many meters are repaired

module _ (n : ℕ) (x : List ℕ) where
  pub repaired_zero : repaired 0 n x ≡ 0
  unfolding repaired sum_to
  repaired_zero = refl

  repaired_next : (v : ℕ) → repaired (v + 1) n x ≡ repaired v n x + differ (set_at n (bit_at n x) (v + 1)) 1
  unfolding repaired sum_to
  repaired_next v = rw add-one refl

  pub repaired_more : (v : ℕ) → (set_at n (bit_at n x) (v + 1) ≡ 1 → ⊥) → repaired (v + 1) n x ≡ repaired v n x + 1
  repaired_more v h = omega (arith, repaired_next v, differ_yes (set_at n (bit_at n x) (v + 1)) 1 h)

  pub repaired_same : (v : ℕ) → set_at n (bit_at n x) (v + 1) ≡ 1 → repaired (v + 1) n x ≡ repaired v n x
  repaired_same v h = omega (arith, repaired_next v, differ_no (set_at n (bit_at n x) (v + 1)) 1 h)
