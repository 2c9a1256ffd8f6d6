-- What is asked of any kind (`Sound`), and demand 3 for a kind that repairs nothing (`Penalised`): its assignments of energy below A are exactly the codes of its plans, and the code of a plan has an energy that rises with the plan's weight.
-- Assumes nothing.
use mathlib.Core.Path.{◌≡◌, refl, sym, ap, ◌∙◌, subst}
use mathlib.Core.Logic.{◌↔◌}
use mathlib.Core.Bool.{true}
use mathlib.Core.List.{List}
use Prim.Native.Nat.{ℕ, ◌^◌, ◌≤◌, ◌<◌}
use native.Mathlib.Decide.{dec_lt}
use native.Mathlib.Omega.{arith}
use lib.ListN.{length}
use lib.IntN.{pos}
use lib.Signed.{◌≤ℤ◌, ◌<ℤ◌}
use Rattle.qubo.specs.Formula.{Assignment}
use Rattle.qubo.specs.Table.{table_abs}
use Rattle.qubo.specs.Instance.{Instance, table_is, energy_of, LeastEnergy, CodesPlan, LeastPlan, CodesLeast}
use Rattle.qubo.proofs.Order.{≤ℤ_pos, pos-≤ℤ}
use Rattle.qubo.proofs.Least.{least_assignment}
use Rattle.qubo.proofs.Penalty.{below_ℤ}

-- ---- any kind: demand 2

pub record Sound (I : Instance) : Type 0 where
  -- "The sum of the absolute values of a table's numbers is below 2^54"
  pub small : table_abs (table_is I) < 2 ^ 54
  -- a plan has plan_bytes bytes, and its code is an assignment
  pub plan_bytes_length : (p : List ℕ) → I.is_plan p ≡ true → length p ≡ I.plan_bytes
  pub assigned : (p : List ℕ) → I.is_plan p ≡ true → Assignment I.bits (I.code_of p)
  -- that decodes to the same plan, and nothing is repaired
  pub decodes_code : (p : List ℕ) → I.is_plan p ≡ true → I.decodes (I.code_of p) ≡ true
  pub decoded_code : (p : List ℕ) → I.is_plan p ≡ true → I.decoded (I.code_of p) ≡ p
  pub none_repaired : (p : List ℕ) → I.is_plan p ≡ true → I.repaired (I.code_of p) ≡ 0

-- ---- a kind that repairs nothing

-- what is asked of it; E is the energy as a whole number from 0, and cost turns a plan's weight into the energy of its code
pub record Penalised (I : Instance) (cost : ℕ → ℕ) : Type 0 where
  pub E : List ℕ → ℕ
  pub energy : (x : List ℕ) → Assignment I.bits x → energy_of I x ≡ pos (E x)
  pub below : (x : List ℕ) → Assignment I.bits x → (E x < I.penalty) ↔ CodesPlan I x
  pub assigned : (p : List ℕ) → I.is_plan p ≡ true → Assignment I.bits (I.code_of p)
  pub worth : (p : List ℕ) → I.is_plan p ≡ true → E (I.code_of p) ≡ cost (I.weight p)
  pub rises : (a b : ℕ) → (cost a ≤ cost b) ↔ (a ≤ b)
  -- bits decode exactly where they code a plan
  pub decides : (x : List ℕ) → (I.decodes x ≡ true) ↔ CodesPlan I x

module _ {I : Instance} {cost : ℕ → ℕ} (k : Penalised I cost) where
  -- energies in ℤ and from 0
  energy_le : (x y : List ℕ) → Assignment I.bits x → Assignment I.bits y → k.E x ≤ k.E y → energy_of I x ≤ℤ energy_of I y
  energy_le x y a b h = subst (λ z. z ≤ℤ energy_of I y) (sym (k.energy x a)) (subst (λ z. pos (k.E x) ≤ℤ z) (sym (k.energy y b)) (≤ℤ_pos h))

  le_energy : (x y : List ℕ) → Assignment I.bits x → Assignment I.bits y → energy_of I x ≤ℤ energy_of I y → k.E x ≤ k.E y
  le_energy x y a b h = pos-≤ℤ (subst (λ z. z ≤ℤ pos (k.E y)) (k.energy x a) (subst (λ z. energy_of I x ≤ℤ z) (k.energy y b) h))

  -- an energy lies below A exactly where the assignment codes a plan
  pub below_exactly : (x : List ℕ) → Assignment I.bits x → (energy_of I x <ℤ pos I.penalty) ↔ CodesPlan I x
  below_exactly x a =
      let i = below_ℤ I.penalty (k.E x) (energy_of I x) (k.energy x a) in
      (λ h. (k.below x a).0 (i.0 h), λ c. i.1 ((k.below x a).1 c))

  -- a plan's code lies below A
  code_below : (p : List ℕ) → I.is_plan p ≡ true → k.E (I.code_of p) < I.penalty
  code_below p e = (k.below (I.code_of p) (k.assigned p e)).1 (record { plan = p; ok = e; codes = refl })

  -- an assignment below A has the energy of the plan that it codes
  coded_worth : (x : List ℕ) (c : CodesPlan I x) → k.E x ≡ cost (I.weight c.plan)
  coded_worth x c = ap k.E c.codes ∙ k.worth c.plan c.ok

  -- the energy of an assignment that codes a plan
  pub coded_energy : (x : List ℕ) → Assignment I.bits x → (c : CodesPlan I x) → energy_of I x ≡ pos (cost (I.weight c.plan))
  coded_energy x a c = k.energy x a ∙ ap pos (coded_worth x c)

  -- the code of a plan is an assignment, and its energy is that of its weight
  pub code_energy : (p : List ℕ) → I.is_plan p ≡ true → Assignment I.bits (I.code_of p) × (energy_of I (I.code_of p) ≡ pos (cost (I.weight p)))
  code_energy p e = (k.assigned p e, k.energy (I.code_of p) (k.assigned p e) ∙ ap pos (k.worth p e))

  -- the code of a plan of least weight has least energy
  pub best_least : (p : List ℕ) → LeastPlan I p → LeastEnergy I (I.code_of p)
  best_least p b y a =
      energy_le (I.code_of p) y (k.assigned p b.ok) a
      (elim (dec_lt (k.E y) I.penalty) [
        | yes h ↦ let c = (k.below y a).0 h in omega (arith, k.worth p b.ok, coded_worth y c, (k.rises (I.weight p) (I.weight c.plan)).1 (b.least c.plan c.ok))
        | no h ↦ omega (arith, code_below p b.ok)
      ])

  -- an assignment of least energy that codes a plan codes one of least weight
  least_best : (x : List ℕ) → Assignment I.bits x → LeastEnergy I x → (c : CodesPlan I x) → LeastPlan I c.plan
  least_best x a h c = record {
    ok = c.ok;
    least = λ q e. (k.rises (I.weight c.plan) (I.weight q)).0 (omega (arith, coded_worth x c, k.worth q e, le_energy x (I.code_of q) a (k.assigned q e) (h (I.code_of q) (k.assigned q e))));
  }

  -- where there is a plan, least energy is exactly at the codes of plans of least weight
  pub least_exactly : (p : List ℕ) → I.is_plan p ≡ true → (x : List ℕ) → Assignment I.bits x → LeastEnergy I x ↔ CodesLeast I x
  least_exactly p e x a = (there, λ c. subst (LeastEnergy I) (sym c.codes) (best_least c.plan c.best))
    where
      there : LeastEnergy I x → CodesLeast I x
      there h =
          let c = (k.below x a).0 (omega (arith, code_below p e, le_energy x (I.code_of p) a (k.assigned p e) (h (I.code_of p) (k.assigned p e)))) in
          record { plan = c.plan; best = least_best x a h c; codes = c.codes }

  -- it is the energy of the weight of such a plan
  pub least_weight : (p : List ℕ) → LeastPlan I p → (x : List ℕ) → Assignment I.bits x → LeastEnergy I x → energy_of I x ≡ pos (cost (I.weight p))
  least_weight p b x a h =
      let c = (least_exactly p b.ok x a).0 h in
      let e : I.weight c.plan ≡ I.weight p = omega (arith, c.best.least p b.ok, b.least c.plan c.best.ok) in
      coded_energy x a (record { plan = c.plan; ok = c.best.ok; codes = c.codes }) ∙ ap (λ (w : ℕ). pos (cost w)) e

  -- where there is a plan, there is one of least weight
  pub best_exists : (p : List ℕ) → I.is_plan p ≡ true → (q : List ℕ) × LeastPlan I q
  best_exists p e = go (least_assignment I.bits (energy_of I))
    where
      go : (x : List ℕ) × Assignment I.bits x × LeastEnergy I x → (q : List ℕ) × LeastPlan I q
      go (x, a, h) = let c = (least_exactly p e x a).0 h in (c.plan, c.best)

  -- where there is none, nothing lies below A
  pub none_below : ((p : List ℕ) → I.is_plan p ≡ true → ⊥) → (x : List ℕ) → Assignment I.bits x → pos I.penalty ≤ℤ energy_of I x
  none_below none x a =
      subst (λ z. pos I.penalty ≤ℤ z) (sym (k.energy x a))
      (≤ℤ_pos (elim (dec_lt (k.E x) I.penalty) [ yes h ↦ let c = (k.below x a).0 h in absurd (none c.plan c.ok) | no h ↦ omega arith ]))
