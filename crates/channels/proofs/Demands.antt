-- Demands 2 and 3 for channels: of every survey, every n within the limits, and any A that is large enough for demand 3 and small enough for demand 2; and whatever channel is picked for a meter with no bit set (`repair_energy`). That 01's A is both is in Asking; what follows from `Sound` is the same for any kind, crate `plans`. Assumes nothing.
use Prim.Native.Nat.{ℕ, ◌+◌, ◌^◌, ◌≤◌}
use mathlib.Core.Path.{◌≡◌, refl, sym, ap, ◌∙◌, subst}
use mathlib.Core.Logic.{◌↔◌}
use mathlib.Core.Bool.{true}
use mathlib.Core.List.{List}
use lib.ListN.{length}
use lib.IntN.{pos}
use lib.Signed.{◌≤ℤ◌}
use native.Mathlib.Omega.{arith}
use Rattle.lists.specs.Sums.{nth, same}
use Rattle.links.specs.declared.Link.{Link}
use Rattle.links.specs.Survey.{IsSurvey}
use Rattle.qubo.specs.Formula.{Assignment}
use Rattle.qubo.specs.Instance.{Instance, energy_of, LeastEnergy, CodesLeast}
use Rattle.qubo.proofs.Order.{≤ℤ_pos, pos-≤ℤ}
use Rattle.qubo.proofs.Least.{least_assignment}
use Rattle.qubo.proofs.TableBound.{table_bound}
use Rattle.qubo.proofs.Plans.{Sound}
use Rattle.onehot.specs.Choices.{bit_at}
use Rattle.onehot.proofs.Codes.{choices_are, choices_test, bit_code, code_assigned, one_each}
use Rattle.channels.specs.Formula.{within_limits, bit_count, formula}
use Rattle.channels.specs.Plans.{is_plan, code_of, clash_weight}
use Rattle.channels.specs.Repair.{quietest, repair_by, decoded, repaired}
use Rattle.channels.specs.Instance.{instance}
use Rattle.channels.proofs.Load.{Heavy}
use Rattle.channels.proofs.Asking.{limit_low, limit_high}
use Rattle.channels.proofs.Worth.{formula_value}
use Rattle.channels.proofs.Bound.{formula_small}
use Rattle.channels.proofs.Step.{worth}
use Rattle.channels.proofs.Repaired.{worth_eq, plan_worth, Picks, quietest_picks, repair_plan, repair_bound, repair_hot, repair_code, none_repaired, hot_repaired}

-- ---- a plan and its code

-- "A plan is N bytes"
plan_bytes_length : (N n : ℕ) (p : List ℕ) → is_plan N n p ≡ true → length p ≡ N
unfolding is_plan
plan_bytes_length N n p e = (choices_are N n p e).size

-- its code is an assignment
code_assignment : (N n : ℕ) (p : List ℕ) → is_plan N n p ≡ true → Assignment (bit_count N n) (code_of n p)
unfolding is_plan code_of
code_assignment N n p e = code_assigned N n p (choices_are N n p e)

-- which decodes to that plan, with none repaired
code_decoded : (N n : ℕ) (ls : List Link) → 1 ≤ n → (p : List ℕ) → is_plan N n p ≡ true → (decoded N n ls (code_of n p) ≡ p) × (repaired N n (code_of n p) ≡ 0)
unfolding is_plan code_of decoded
code_decoded N n ls n1 p e =
    let ok = choices_are N n p e in
    (repair_code (quietest n ls (code_of n p)) N n n1 p (quietest_picks n ls (code_of n p) n1) ok, hot_repaired N n (code_of n p) (one_each N n p ok))

-- an assignment with none to repair codes the plan that it decodes to
none_coded : (N n : ℕ) (ls : List Link) → 1 ≤ n → (x : List ℕ) → Assignment (bit_count N n) x → repaired N n x ≡ 0 → x ≡ code_of n (decoded N n ls x)
unfolding code_of decoded
none_coded N n ls n1 x a z = repair_hot (quietest n ls x) N n n1 x (quietest_picks n ls x n1) a (none_repaired N n x z)

module _ (N n : ℕ) (ls : List Link) (s : IsSurvey N ls) (w : within_limits n ≡ true) (A : ℕ) where
  abbrev I : Instance
  I = instance A N n ls

  -- ---- demand 2

  pub sound : A ≤ 2 ^ 32 → Sound I
  sound small = record {
    small = omega (arith, table_bound (formula A N n ls) (bit_count N n), formula_small A N n ls s (limit_high n w) small);
    plan_bytes_length = plan_bytes_length N n;
    assigned = code_assignment N n;
    decodes_code = λ p e. refl;
    decoded_code = λ p e. (code_decoded N n ls (limit_low n w) p e).0;
    none_repaired = λ p e. (code_decoded N n ls (limit_low n w) p e).1;
  }

  -- ---- energies and weights

  -- the energy of an assignment as a whole number from 0
  energy_worth : (x : List ℕ) → energy_of I x ≡ pos (worth A N n ls (bit_at n x))
  unfolding worth
  energy_worth x = formula_value A N n ls x

  -- that of a plan's code is the plan's clash weight
  code_energy : (p : List ℕ) → is_plan N n p ≡ true → energy_of I (code_of n p) ≡ pos (clash_weight ls p)
  unfolding is_plan code_of
  code_energy p e =
      let ok = choices_are N n p e in
      energy_worth (code_of n p) ∙ ap pos (worth_eq A N n ls s.each (bit_at n (code_of n p)) (λ v i. same (nth p v) i) (bit_code N n p ok) ∙ plan_worth A N n ls s.each p ok)

  -- so an assignment that codes a plan of least clash weight has that weight for its energy
  pub least_weight : (x : List ℕ) (c : CodesLeast I x) → energy_of I x ≡ pos (I.weight c.plan)
  least_weight x c = ap (energy_of I) c.codes ∙ code_energy c.plan c.best.ok

  -- ---- demand 3, where A is above every meter's load

  module _ (heavy : Heavy A N ls) where
    -- "every assignment decodes to a plan no heavier than its energy", and by 1 lighter for each meter repaired, whatever channel is picked for a meter with no bit set
    pub repair_energy : (pick : List ℕ → ℕ → ℕ) → Picks n pick → (x : List ℕ) → Assignment I.bits x
        → (is_plan N n (repair_by pick n x N) ≡ true) × (pos (clash_weight ls (repair_by pick n x N) + repaired N n x) ≤ℤ energy_of I x)
    unfolding is_plan
    repair_energy pick picks x a = (
      choices_test N n (repair_by pick n x N) (repair_plan pick n x picks N),
      subst (λ z. pos (clash_weight ls (repair_by pick n x N) + repaired N n x) ≤ℤ z) (sym (energy_worth x)) (≤ℤ_pos (repair_bound pick n x picks A N ls a.bits heavy s.each)),
    )

    -- the same of 01's decoding
    pub decodes_lighter : (x : List ℕ) → Assignment I.bits x → (I.is_plan (I.decoded x) ≡ true) × (pos (I.weight (I.decoded x) + I.repaired x) ≤ℤ energy_of I x)
    unfolding decoded
    decodes_lighter x a = repair_energy (quietest n ls x) (quietest_picks n ls x (limit_low n w)) x a

    -- "least energy exactly at the codes of plans of least clash weight"
    pub least_exactly : (x : List ℕ) → Assignment I.bits x → LeastEnergy I x ↔ CodesLeast I x
    least_exactly x a = (there, back)
      where
        plan : List ℕ
        plan = decoded N n ls x

        ok : is_plan N n plan ≡ true
        ok = (decodes_lighter x a).0

        -- energies and weights as whole numbers from 0
        below : (y : List ℕ) → Assignment I.bits y → clash_weight ls (decoded N n ls y) + repaired N n y ≤ worth A N n ls (bit_at n y)
        below y b = pos-≤ℤ (subst (λ z. pos (clash_weight ls (decoded N n ls y) + repaired N n y) ≤ℤ z) (energy_worth y) (decodes_lighter y b).1)

        there : LeastEnergy I x → CodesLeast I x
        there h =
            let least : (q : List ℕ) → is_plan N n q ≡ true → worth A N n ls (bit_at n x) ≤ clash_weight ls q =
            λ q e. pos-≤ℤ (subst (λ z. z ≤ℤ pos (clash_weight ls q)) (energy_worth x) (subst (λ z. energy_of I x ≤ℤ z) (code_energy q e) (h (code_of n q) (code_assignment N n q e)))) in
            let none : repaired N n x ≡ 0 = omega (arith, below x a, least plan ok) in
            record {
              plan = plan;
              best = record { ok = ok; least = λ q e. omega (arith, below x a, least q e) };
              codes = none_coded N n ls (limit_low n w) x a none;
            }

        back : CodesLeast I x → LeastEnergy I x
        back c y b =
            subst (λ z. z ≤ℤ energy_of I y) (sym (least_weight x c))
            (subst (λ z. pos (clash_weight ls c.plan) ≤ℤ z) (sym (energy_worth y))
            (≤ℤ_pos (omega (arith, below y b, c.best.least (decoded N n ls y) (decodes_lighter y b).0))))

    -- such an assignment exists
    pub least_exists : (x : List ℕ) × Assignment I.bits x × LeastEnergy I x × CodesLeast I x
    least_exists = go (least_assignment I.bits (energy_of I))
      where
        go : (x : List ℕ) × Assignment I.bits x × LeastEnergy I x → (x : List ℕ) × Assignment I.bits x × LeastEnergy I x × CodesLeast I x
        go (x, a, l) = (x, a, l, (least_exactly x a).0 l)
