-- Demands 2 and 3 for groups: of every survey, every m within the limits, and any A that is large enough for demand 3 and small enough for demand 2. That 01's A is both is in Asking; what follows from `Sound` and `Penalised` is the same for any kind, qubo/proofs/Plans. Assumes nothing.
use Prim.Native.Nat.{ℕ, ◌*◌, ◌%◌, ◌^◌, ◌≤◌, ◌<◌}
use mathlib.Core.Path.{◌≡◌, refl, ap, ◌∙◌}
use mathlib.Core.Logic.{◌↔◌}
use mathlib.Core.Bool.{true}
use mathlib.Core.List.{List}
use native.Mathlib.Omega.{arith}
use Rattle.links.specs.Links.{total}
use Rattle.links.specs.declared.Link.{Link}
use Rattle.links.specs.Survey.{IsSurvey}
use Rattle.qubo.specs.Formula.{Assignment}
use Rattle.qubo.specs.Best.{CodesPlan}
use Rattle.qubo.proofs.TableBound.{table_bound}
use Rattle.qubo.proofs.Penalty.{below_penalty, unpenalised}
use Rattle.qubo.proofs.Decoding.{codes_exactly}
use Rattle.qubo.proofs.Plans.{Sound, Penalised}
use Rattle.onehot.specs.Choices.{bit_at, candidate}
use Rattle.groups.specs.Formula.{within_limits, bit_count, formula, bracket, cutting_of}
use Rattle.groups.specs.Plans.{is_plan, code_of, cut_weight}
use Rattle.groups.specs.Instance.{instance}
use Rattle.groups.proofs.Asking.{limit_low, limit_high}
use Rattle.groups.proofs.Worth.{worth, formula_value}
use Rattle.groups.proofs.Bound.{formula_small}
use Rattle.groups.proofs.Bracket.{plan_split, code_assignment, candidate_plan, plan_bracket, bracket_exactly}
use Rattle.groups.proofs.Twice.{cutting_twice, cut_total}
use Rattle.groups.proofs.Dealt.{plan_exists}

module _ (N m : ℕ) (ls : List Link) (s : IsSurvey N ls) (w : within_limits m ≡ true) where
  -- "with N not divisible by m no plan exists", and else there is one
  pub exists_exactly : (N % m ≡ 0) ↔ ((p : List ℕ) × (is_plan N m p ≡ true))
  exists_exactly = plan_exists N m (limit_low m w)

  module _ (A : ℕ) where
    -- demand 2
    pub sound : A ≤ 2 ^ 32 → Sound (instance A N m ls)
    sound small = record {
      small = omega (arith, table_bound (formula A N m ls) (bit_count N m), formula_small A N m ls s (limit_high m w) small);
      plan_bytes_length = λ p e. (plan_split N m p e).choices.size;
      assigned = code_assignment N m;
      decodes_code = λ p e. (codes_exactly (is_plan N m) (code_of m) (candidate N m) (candidate_plan N m) (code_of m p)).1 (record { plan = p; ok = e; codes = refl });
      decoded_code = candidate_plan N m;
      none_repaired = λ p e. refl;
    }

    -- ---- demand 3

    module _ (heavy : 2 * total ls < A) where
      -- bits that code a plan cost twice what it cuts
      coded_cost : (x : List ℕ) (c : CodesPlan (is_plan N m) (code_of m) x) → cutting_of m ls (bit_at m x) ≡ 2 * cut_weight ls c.plan
      unfolding code_of
      coded_cost x c = ap (λ (y : List ℕ). cutting_of m ls (bit_at m y)) c.codes ∙ cutting_twice N m ls s c.plan (plan_split N m c.plan c.ok).choices

      -- below A exactly where the bracket is 0
      worth_below : (x : List ℕ) → Assignment (bit_count N m) x → (worth A N m ls x < A) ↔ CodesPlan (is_plan N m) (code_of m) x
      unfolding worth
      worth_below x a =
          let i = bracket_exactly N m (limit_low m w) x a in
          let b = below_penalty A (bracket N m (bit_at m x)) (cutting_of m ls (bit_at m x)) (λ z. let c = i.0 z in omega (arith, coded_cost x c, cut_total ls c.plan)) in
          (λ h. i.0 (b.0 h), λ c. b.1 (i.1 c))

      -- at a code only the cost is left
      code_worth : (p : List ℕ) → is_plan N m p ≡ true → worth A N m ls (code_of m p) ≡ 2 * cut_weight ls p
      unfolding worth
      code_worth p e = unpenalised A (bracket N m (bit_at m (code_of m p))) (cutting_of m ls (bit_at m (code_of m p))) (plan_bracket N m p e) ∙ coded_cost (code_of m p) (record { plan = p; ok = e; codes = refl })

      -- "energy below the penalty A exactly at the codes of plans", "the least energy is that of the best equal split": the facts from which these follow. A cut link counts twice, so a plan's code costs twice its cut weight
      pub penalised : Penalised (instance A N m ls) (λ w. 2 * w)
      penalised = record {
        E = worth A N m ls;
        energy = λ x a. formula_value A N m ls x a.bits;
        below = worth_below;
        assigned = code_assignment N m;
        worth = code_worth;
        rises = λ a b. (λ h. omega arith, λ h. omega arith);
        decides = codes_exactly (is_plan N m) (code_of m) (candidate N m) (candidate_plan N m);
      }
