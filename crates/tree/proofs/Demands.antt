-- Demands 2 and 3 for trees: of every survey, every d within the limits, and any A that is large enough for demand 3 and small enough for demand 2. That 01's A is both is in Asking; what follows from `Sound` and `Penalised` is the same for any kind, qubo/proofs/Plans. Assumes nothing.
use Prim.Native.Nat.{ℕ, suc, ◌≤◌, ◌<◌}
use mathlib.Core.Path.{◌≡◌, refl, sym, ap, ◌∙◌, subst}
use mathlib.Core.Logic.{◌↔◌}
use mathlib.Core.Bool.{true}
use mathlib.Core.List.{List}
use lib.ListN.{length}
use lib.Dec.{eqb}
use lib.IntN.{pos}
use lib.Signed.{◌≤ℤ◌}
use native.Mathlib.Omega.{arith}
use borrow.Author.Tests.{eqb-true}
use Rattle.lists.specs.Tests.{every}
use Rattle.lists.proofs.Tests.{and_left}
use Rattle.links.specs.Links.{total}
use Rattle.links.specs.declared.Link.{Link}
use Rattle.links.specs.Survey.{IsSurvey}
use Rattle.qubo.specs.Formula.{Assignment}
use Rattle.qubo.specs.Instance.{Instance, energy_of, LeastEnergy, CodesPlan}
use Rattle.qubo.proofs.TableBound.{table_bound}
use Rattle.qubo.proofs.Penalty.{below_penalty, unpenalised}
use Rattle.qubo.proofs.Decoding.{codes_exactly}
use Rattle.qubo.proofs.Plans as plans
use Rattle.qubo.proofs.Plans.{Sound, Penalised}
use Rattle.spanning.specs.Parents.{deepest, is_rooted, tree_links}
use Rattle.spanning.specs.Spanning.{Spanning, WithinLimit, BestTree}
use Rattle.spanning.proofs.Trees.{shallow_root}
use Rattle.arcs.specs.Arcs.{arcs, arc_at}
use Rattle.arcs.specs.Sums.{arc_cost}
use Rattle.tree.specs.Formula.{within_limits, bit_count, formula, bits_of, broken}
use Rattle.tree.specs.Plans.{is_plan, code_of, tree_weight}
use Rattle.tree.specs.Decoding.{candidate}
use Rattle.tree.specs.Instance.{instance}
use Rattle.tree.specs.Best.{CodesBest}
use Rattle.tree.proofs.Asking.{limit_high, two_meters}
use Rattle.tree.proofs.Value.{worth, formula_value}
use Rattle.tree.proofs.Bound.{formula_small}
use Rattle.tree.proofs.CodeBits.{code_assignment}
use Rattle.tree.proofs.CodeSums.{weight_total, code_broken, code_cost, candidate_code}
use Rattle.tree.proofs.PlanFacts as facts
use Rattle.tree.proofs.Broken.{broken_exactly, broken_cost}

-- "A plan is N bytes"
plan_bytes_length : (N d : ℕ) (ls : List Link) (p : List ℕ) → is_plan N d ls p ≡ true → length p ≡ N
unfolding is_plan is_rooted every
plan_bytes_length N d ls p e = eqb-true (length p) N (and_left (eqb (length p) N) _ (and_left (is_rooted N (deepest N) ls p) _ e))

module _ (N d : ℕ) (ls : List Link) (s : IsSurvey N ls) (w : within_limits N d ≡ true) where
  -- ---- plans and spanning trees

  -- "every spanning tree has a root with no depth over D"
  pub root_exists : (T : List Link) → Spanning N ls T → (p : List ℕ) × (is_rooted N (deepest N) ls p ≡ true) × (tree_links p ls ≡ T)
  root_exists T t = shallow_root N ls T s t

  -- a plan's links are a spanning tree within the limit, of the same weight
  pub plan_tree : (p : List ℕ) → is_plan N d ls p ≡ true → Spanning N ls (tree_links p ls) × WithinLimit N d (tree_links p ls) × (total (tree_links p ls) ≡ tree_weight ls p)
  plan_tree = facts.plan_spanning N d ls s

  -- every spanning tree within the limit is the links of some plan, of the same weight
  pub tree_plan : (T : List Link) → Spanning N ls T → WithinLimit N d T → (p : List ℕ) × (is_plan N d ls p ≡ true) × (tree_links p ls ≡ T) × (tree_weight ls p ≡ total T)
  tree_plan = facts.spanning_plan N d ls s

  module _ (A : ℕ) where
    abbrev I : Instance
    I = instance A N d ls

    -- ---- demand 2

    pub sound : A ≤ 20000000 → Sound I
    sound small = record {
      small = omega (arith, table_bound (formula A N d ls) (bit_count N (length ls) d), formula_small A N d ls s (limit_high N d w) small);
      plan_bytes_length = plan_bytes_length N d ls;
      assigned = code_assignment N d ls;
      decodes_code = λ p e. (codes_exactly (is_plan N d ls) (code_of N d ls) (candidate N ls) (candidate_code N d ls s) (code_of N d ls p)).1 (record { plan = p; ok = e; codes = refl });
      decoded_code = candidate_code N d ls s;
      none_repaired = λ p e. refl;
    }

    -- ---- demand 3

    module _ (heavy : total ls < A) where
      -- below A exactly where the sum that A multiplies is 0
      worth_below : (x : List ℕ) → Assignment I.bits x → (worth A N d ls x < A) ↔ CodesPlan I x
      unfolding worth
      worth_below x a =
          let i = broken_exactly N d ls s (two_meters N d w) x a in
          let b = below_penalty A (broken N (deepest N) d (arcs ls) (bits_of N (deepest N) (length ls) d x)) (arc_cost (deepest N) (arcs ls) (arc_at N (deepest N) x))
          (λ z. omega (arith, broken_cost N d ls s (two_meters N d w) x a z, weight_total ls (candidate N ls x))) in
          (λ h. i.0 (b.0 h), λ c. b.1 (i.1 c))

      -- at a code only the cost is left
      code_worth : (p : List ℕ) → is_plan N d ls p ≡ true → worth A N d ls (code_of N d ls p) ≡ tree_weight ls p
      unfolding worth
      code_worth p e = unpenalised A _ _ (code_broken N d ls s (two_meters N d w) p e) ∙ code_cost N d ls s p e

      -- "energy below the penalty A exactly at the codes of plans": the facts from which that and what is below follow. A plan's code costs its tree's weight
      pub penalised : Penalised I (λ w. w)
      penalised = record {
        E = worth A N d ls;
        energy = λ x a. formula_value A N d ls s x a.bits;
        below = worth_below;
        assigned = code_assignment N d ls;
        worth = code_worth;
        rises = λ a b. (λ h. h, λ h. h);
        decides = codes_exactly (is_plan N d ls) (code_of N d ls) (candidate N ls) (candidate_code N d ls s);
      }

      -- where a spanning tree is within the limit, least energy is exactly at the codes of best ones, whichever meter is the root
      pub least_exactly : (T : List Link) → Spanning N ls T → WithinLimit N d T → (x : List ℕ) → Assignment I.bits x → LeastEnergy I x ↔ CodesBest N d ls x
      least_exactly T t u x a =
          let p = tree_plan T t u in
          let i = plans.least_exactly penalised p.0 p.1 x a in (
            λ h. let c = i.0 h in record { plan = c.plan; ok = c.best.ok; best = facts.least_best N d ls s c.plan c.best; codes = c.codes },
            λ c. i.1 (record { plan = c.plan; best = facts.best_least N d ls s c.plan c.ok c.best; codes = c.codes }),
          )

      -- "the least energy is that .. of the best spanning tree within the neighbour limit": where there is a best one, every assignment of least energy has its weight for energy
      pub least_weight : (T : List Link) → BestTree N d ls T → (x : List ℕ) → Assignment I.bits x → LeastEnergy I x → energy_of I x ≡ pos (total T)
      unfolding tree_weight
      least_weight T b x a h =
          let c = (least_exactly T b.spanning b.within x a).0 h in
          let e : tree_weight ls c.plan ≡ total T = omega (arith, c.best.least T b.spanning b.within, b.least (tree_links c.plan ls) c.best.spanning c.best.within) in
          plans.coded_energy penalised x a (record { plan = c.plan; ok = c.ok; codes = c.codes }) ∙ ap pos e

      -- and there is such an assignment: the code of a plan with these links
      pub best_least : (T : List Link) → BestTree N d ls T → (x : List ℕ) × Assignment I.bits x × LeastEnergy I x × (energy_of I x ≡ pos (total T))
      best_least T b =
          let p = tree_plan T b.spanning b.within in
          let a = code_assignment N d ls p.0 p.1 in
          let h = (least_exactly T b.spanning b.within (code_of N d ls p.0) a).1 (record { plan = p.0; ok = p.1; best = subst (BestTree N d ls) (sym p.2) b; codes = refl }) in
          (code_of N d ls p.0, a, h, least_weight T b (code_of N d ls p.0) a h)

      -- "with none, nothing lies below A"
      pub none_below : ((T : List Link) → Spanning N ls T → WithinLimit N d T → ⊥) → (x : List ℕ) → Assignment I.bits x → pos A ≤ℤ energy_of I x
      none_below none = plans.none_below penalised (λ p e. let t = plan_tree p e in none (tree_links p ls) t.0 t.1)

  -- where a spanning tree is within the limit, there is a best one: some A is above the sum of weights
  pub best_exists : (T : List Link) → Spanning N ls T → WithinLimit N d T → (S : List Link) × BestTree N d ls S
  best_exists T t u =
      let p = tree_plan T t u in
      let q = plans.best_exists (penalised (suc (total ls)) (omega arith)) p.0 p.1 in
      (tree_links q.0 ls, facts.least_best N d ls s q.0 q.1)
