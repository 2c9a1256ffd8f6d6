-- Decoding: the test of decoding says whether bits code a plan, and a sum that is 0 exactly where they do decides the answer. Assumes nothing.
use Prim.Native.Nat.{ℕ}
use mathlib.Core.Path.{◌≡◌, refl, sym, ap, ◌∙◌}
use mathlib.Core.Logic.{◌↔◌}
use mathlib.Core.Bool.{Bool, true}
use mathlib.Core.List.{List}
use lib.Dec.{eqb}
use borrow.Author.Tests.{eqb-true, eq-eqb, ne_eqb}
use Rattle.lists.proofs.Tests.{and_left, and_right, and_both, alike_same, same_alike, same_test}
use Rattle.qubo.specs.Best as best
use Rattle.qubo.specs.Instance.{Instance, CodesPlan}
use Rattle.qubo.specs.Decoding.{codes_plan, answer_of, plan_after}
use Rattle.std.specs.Prelude.{Some, None}

-- the test says whether bits code a plan, where the candidate of a plan's code is that plan
pub codes_exactly : (is_plan : List ℕ → Bool) (code_of candidate : List ℕ → List ℕ) → ((p : List ℕ) → is_plan p ≡ true → candidate (code_of p) ≡ p)
    → (x : List ℕ) → (codes_plan is_plan code_of candidate x ≡ true) ↔ best.CodesPlan is_plan code_of x
unfolding codes_plan
codes_exactly is_plan code_of candidate back x = (
  λ e. record { plan = candidate x; ok = and_left (is_plan (candidate x)) _ e; codes = sym (alike_same (code_of (candidate x)) x (and_right (is_plan (candidate x)) _ e)) },
  λ c.
      let q : candidate x ≡ c.plan = ap candidate c.codes ∙ back c.plan c.ok in
      and_both (is_plan (candidate x)) _ (rw q c.ok) (same_alike (code_of (candidate x)) x (ap code_of q ∙ sym c.codes)),
)

-- a sum B that is 0 exactly where bits code a plan decides what they decode to
module _ (I : Instance) (x : List ℕ) (decides : (I.decodes x ≡ true) ↔ CodesPlan I x) (B : ℕ) (zero : (B ≡ 0) ↔ CodesPlan I x) where
  decodes_test : I.decodes x ≡ eqb B 0
  decodes_test = same_test (I.decodes x) (eqb B 0) (λ e. eq-eqb B 0 (zero.1 (decides.0 e))) (λ e. decides.1 (zero.0 (eqb-true B 0 e)))

  -- it is not 0: no plan, and the lent plan is as it was
  pub none_decoded : (B ≡ 0 → ⊥) → (q : List ℕ) → (None ≡ answer_of I x) × (q ≡ plan_after I x q)
  unfolding answer_of plan_after
  none_decoded n q = rw (decodes_test, ne_eqb B 0 n) (refl, refl)

  -- it is 0: the candidate, its weight, and how many are repaired
  pub plan_decoded : B ≡ 0 → (q p : List ℕ) (w : ℕ) → p ≡ I.decoded x → w ≡ I.weight p → (Some (record { weight = w; repaired = I.repaired x }) ≡ answer_of I x) × (p ≡ plan_after I x q)
  unfolding answer_of plan_after
  plan_decoded z q p w e c = rw (decodes_test, eq-eqb B 0 z) (ap (λ (t : ℕ). Some (record { weight = t; repaired = I.repaired x })) (c ∙ ap I.weight e), e)
