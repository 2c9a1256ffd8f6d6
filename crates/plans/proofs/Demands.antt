-- The three demands, for all kinds, over the definitions that the public calls promise (specs/Calls), in the order of the mission's text. The proofs are citations. Assumes nothing.
use Prim.Native.Nat.{ℕ, ◌+◌, ◌-◌, ◌*◌, ◌%◌, ◌^◌, ◌≤◌, ◌<◌}
use mathlib.Core.Bool.{true}
use mathlib.Core.Path.{◌≡◌, refl, sym, ap, ◌∙◌, subst}
use mathlib.Core.Logic.{◌↔◌}
use mathlib.Core.List.{List, [], ◌++◌}
use lib.ListN.{length}
use lib.IntN.{ℤ, pos}
use lib.Signed.{◌≤ℤ◌, ◌<ℤ◌}
use native.Mathlib.Omega.{arith}
use Rattle.links.specs.Links.{total}
use Rattle.links.specs.declared.Link.{Link}
use Rattle.qubo.specs.Formula.{Assignment}
use Rattle.qubo.specs.Table.{row_of, table_of, energy, table_abs}
use Rattle.qubo.specs.Instance.{Instance, table_is, energy_of, LeastEnergy, CodesPlan, LeastPlan, CodesLeast}
use Rattle.qubo.proofs.TableValue.{table_value}
use Rattle.qubo.proofs.RowAction.{row_length}
use Rattle.qubo.proofs.Plans as best
use Rattle.qubo.proofs.Plans.{Penalised}
use Rattle.spanning.specs.Parents.{deepest, is_rooted, tree_links}
use Rattle.spanning.specs.Spanning.{Spanning, WithinLimit, BestTree}
use Rattle.site.specs.Layout.{meters}
use Rattle.site.specs.Image.{links}
use Rattle.site.specs.Refusal.{unless_refused}
use Rattle.site.specs.Edits.{begin_tests, add_tests, remove_tests, begin_refusal, add_refusal, remove_refusal}
use Rattle.site.proofs.Refused.{kept}
use Rattle.channels.specs.Formula as channels-formula
use Rattle.channels.specs.Instance as channels-kind
use Rattle.channels.proofs.Load.{Heavy}
use Rattle.channels.proofs.Asking as channels-asking
use Rattle.channels.proofs.Demands as channels
use Rattle.groups.specs.Formula as groups-formula
use Rattle.groups.specs.Instance as groups-kind
use Rattle.groups.proofs.Asking as groups-asking
use Rattle.groups.proofs.Demands as groups
use Rattle.tree.specs.Formula as tree-formula
use Rattle.tree.specs.Instance as tree-kind
use Rattle.tree.specs.Best.{CodesBest}
use Rattle.tree.proofs.Asking as tree-asking
use Rattle.tree.proofs.Demands as tree
use Rattle.plans.specs.declared.Ask.{Ask}
use Rattle.plans.specs.declared.Kind.TheVariants.{Channels, Groups, Tree}
use Rattle.plans.specs.Answers.{Value, Plan}
use Rattle.plans.specs.Kinds.{kind_of, limits_hold, penalty_of, penalty_asked, instance_by, instance_of}
use Rattle.plans.specs.Refusals.{ask_tests, count_tests, kind_tests, site_in, image_tests, row_tests, energy_tests, code_tests, decode_tests}
use Rattle.plans.specs.Calls.{instance_in, accept_number_in, penalty_answer_in, constant_answer_in, row_number_in, row_part_in, row_after_in, energy_number_in, energy_answer_in, code_number_in, code_after_in, decode_number_in, decode_answer_in, decode_after_in}
use Rattle.plans.specs.Best.{First, InOrder, rises_from, Accepted, SamePlans}
use Rattle.plans.proofs.Tried.{refusal_first}
use Rattle.plans.proofs.ByKind.{penalty_is, same_plans}
use Rattle.plans.proofs.Accepted.{Facts, accepted_facts, Asked, asked, is_channels, is_groups, is_tree, row_accepts, energy_accepts, code_accepts, decode_accepts, refused_exactly, row_taken}

-- ---- demand 1: each call "gives its result or the first refusal that applies". The lists are 01's table with 02's additions, in the order of trial; `given_applies` and `lowest_given`, Tried.antt, say what follows of any such list

pub begin_first : (s : List ℕ) (n : ℕ) → First (begin_tests s n) (begin_refusal s n) × InOrder (begin_tests s n)
unfolding begin_refusal rises_from
begin_first s n = (refusal_first _, refl)

pub add_first : (s : List ℕ) (u v w : ℕ) → First (add_tests s u v w) (add_refusal s u v w) × InOrder (add_tests s u v w)
unfolding add_refusal rises_from
add_first s u v w = (refusal_first _, refl)

pub remove_first : (s : List ℕ) (u v : ℕ) → First (remove_tests s u v) (remove_refusal s u v) × InOrder (remove_tests s u v)
unfolding remove_refusal rises_from
remove_first s u v = (refusal_first _, refl)

module _ (s : List ℕ) (a : Ask) where
  -- bit count, penalty and constant
  pub accept_first : First (image_tests s a) (accept_number_in s a) × InOrder (image_tests s a)
  unfolding accept_number_in rises_from image_tests kind_tests ask_tests count_tests
  accept_first = (refusal_first _, refl)

  pub row_first : (i room : ℕ) → First (image_tests s a ++ row_tests (instance_in s a).bits i room) (row_number_in s a i room) × InOrder (image_tests s a ++ row_tests (instance_in s a).bits i room)
  unfolding row_number_in rises_from image_tests kind_tests ask_tests count_tests row_tests
  row_first i room = (refusal_first _, refl)

  pub energy_first : (x : List ℕ) → First (image_tests s a ++ energy_tests (instance_in s a).bits x) (energy_number_in s a x) × InOrder (image_tests s a ++ energy_tests (instance_in s a).bits x)
  unfolding energy_number_in rises_from image_tests kind_tests ask_tests count_tests energy_tests
  energy_first x = (refusal_first _, refl)

  pub code_first : (q x : List ℕ) → First (image_tests s a ++ code_tests (instance_in s a) q x) (code_number_in s a q x) × InOrder (image_tests s a ++ code_tests (instance_in s a) q x)
  unfolding code_number_in rises_from image_tests kind_tests ask_tests count_tests code_tests
  code_first q x = (refusal_first _, refl)

  pub decode_first : (x q : List ℕ) → First (image_tests s a ++ decode_tests (instance_in s a) x q) (decode_number_in s a x q) × InOrder (image_tests s a ++ decode_tests (instance_in s a) x q)
  unfolding decode_number_in rises_from image_tests kind_tests ask_tests count_tests decode_tests
  decode_first x q = (refusal_first _, refl)

  -- ---- "a refused call alters nothing lent to it". Begin, add and remove: begin-refused, add-refused and remove-refused, site/proofs/Images.antt

  pub row_refused : (i : ℕ) (out : List ℤ) → (row_number_in s a i (length out) ≡ 0 → ⊥) → (row_after_in s a i out ≡ out) × (row_part_in s a i (length out) ≡ [])
  unfolding row_after_in row_part_in
  row_refused i out h = (kept _ _ out h, kept _ _ [] h)

  pub code_refused : (q x : List ℕ) → (code_number_in s a q x ≡ 0 → ⊥) → code_after_in s a q x ≡ x
  unfolding code_after_in
  code_refused q x h = kept _ _ x h

  pub decode_refused : (x q : List ℕ) → (decode_number_in s a x q ≡ 0 → ⊥) → decode_after_in s a x q ≡ q
  unfolding decode_after_in
  decode_refused x q h = kept _ _ q h

-- ---- demand 2

module _ (s : List ℕ) (a : Ask) (ok : Accepted s a) where
  abbrev I : Instance
  I = instance_in s a

  facts : Facts s a
  facts = accepted_facts s a ok

  -- "The table's energy equals the written formula at all assignments"
  pub table_energy : (x : List ℕ) → Assignment I.bits x → energy (table_is I) x ≡ energy_of I x
  table_energy x b = table_value I.formula I.bits x b

  -- which is what the calls give: the constant of that table,
  pub constant_given : constant_answer_in s a ≡ Value (table_is I).constant
  unfolding constant_answer_in table_of
  constant_given = rw ok

  -- each of its rows, of bits - i numbers,
  pub row_given : (i room : ℕ) → i < I.bits → I.bits - i ≤ room → (row_part_in s a i room ≡ row_of I.formula I.bits i) × (length (row_part_in s a i room) ≡ I.bits - i)
  unfolding row_part_in unless_refused
  row_given i room h r = rw (row_accepts s a ok i room h r) (refl, row_length I.formula I.bits i)

  -- and its energies
  pub energy_given : (x : List ℕ) → Assignment I.bits x → energy_answer_in s a x ≡ Value (energy (table_is I) x)
  unfolding energy_answer_in
  energy_given x b = rw (energy_accepts s a ok x b, table_energy x b)

  -- A is 01's, with "a margin from 0 to 1,000,000 that is added to A in all kinds" (02, S-7), and the call gives it: "every threshold means the raised A"
  pub penalty_given : (I.penalty ≡ penalty_of (site_in s) (kind_of a) + a.margin) × (penalty_answer_in s a ≡ Value I.penalty)
  unfolding instance_of penalty_asked penalty_answer_in
  penalty_given = (sym (penalty_is _ (site_in s) (kind_of a)), rw ok)

  -- "The sum of the absolute values of a table's numbers is below 2^54"
  pub table_small : table_abs (table_is I) < 2 ^ 54
  table_small = facts.is_sound.small

  -- "coding and decoding are inverse to each other": every plan is coded, and its code decodes to that plan, with its weight and none repaired
  pub plan_coded : (q x : List ℕ) → I.is_plan q ≡ true → length x ≡ I.bits → (code_number_in s a q x ≡ 0) × (code_after_in s a q x ≡ I.code_of q)
  unfolding code_after_in unless_refused
  plan_coded q x e h = let z = code_accepts s a ok q x e h in (z, rw z)

  pub plan_decodes : (q r : List ℕ) → I.is_plan q ≡ true → length r ≡ I.plan_bytes → (decode_answer_in s a (I.code_of q) r ≡ Plan (I.weight q) 0) × (decode_after_in s a (I.code_of q) r ≡ q)
  unfolding decode_answer_in decode_after_in unless_refused
  plan_decodes q r e h =
      let c = facts.is_sound in
      rw (decode_accepts s a ok (I.code_of q) r (c.assigned q e) h (c.decodes_code q e), c.decoded_code q e, c.none_repaired q e) (refl, refl)

  -- every assignment that codes a plan decodes, and the plan that it decodes to is coded to the same bits
  pub bits_code : (x r : List ℕ) → CodesPlan I x → length r ≡ I.plan_bytes
      → (I.is_plan (decode_after_in s a x r) ≡ true) × (I.code_of (decode_after_in s a x r) ≡ x) × (decode_answer_in s a x r ≡ Plan (I.weight (decode_after_in s a x r)) 0)
  bits_code x r c h =
      let e : decode_after_in s a x r ≡ c.plan = ap (λ y. decode_after_in s a y r) c.codes ∙ (plan_decodes c.plan r c.ok h).1 in
      (ap I.is_plan e ∙ c.ok, ap I.code_of e ∙ sym c.codes, ap (λ y. decode_answer_in s a y r) c.codes ∙ (plan_decodes c.plan r c.ok h).0 ∙ ap (λ y. Plan (I.weight y) 0) (sym e))

  -- ---- demand 3, for every kind that repairs nothing: those that are `Penalised`, below. cost w is the energy of the code of a plan of weight w

  module _ (cost : ℕ → ℕ) (k : Penalised I cost) where
    -- "energy below the penalty A exactly at the codes of plans"
    pub below_exactly : (x : List ℕ) → Assignment I.bits x → (energy_of I x <ℤ pos I.penalty) ↔ CodesPlan I x
    below_exactly = best.below_exactly k

    -- the code of every plan is an assignment, whose energy is the cost of the plan's weight
    pub code_energy : (q : List ℕ) → I.is_plan q ≡ true → Assignment I.bits (I.code_of q) × (energy_of I (I.code_of q) ≡ pos (cost (I.weight q)))
    code_energy = best.code_energy k

    -- where there is a plan, least energy is exactly at the codes of plans of least weight,
    pub least_exactly : (q : List ℕ) → I.is_plan q ≡ true → (x : List ℕ) → Assignment I.bits x → LeastEnergy I x ↔ CodesLeast I x
    least_exactly = best.least_exactly k

    -- it is the cost of the weight of such a plan,
    pub least_weight : (q : List ℕ) → LeastPlan I q → (x : List ℕ) → Assignment I.bits x → LeastEnergy I x → energy_of I x ≡ pos (cost (I.weight q))
    least_weight = best.least_weight k

    -- which the code of that plan has,
    pub best_least : (q : List ℕ) → LeastPlan I q → Assignment I.bits (I.code_of q) × LeastEnergy I (I.code_of q) × (energy_of I (I.code_of q) ≡ pos (cost (I.weight q)))
    best_least q b = ((code_energy q b.ok).0, best.best_least k q b, (code_energy q b.ok).1)

    -- and there is a plan of least weight
    pub best_exists : (q : List ℕ) → I.is_plan q ≡ true → (r : List ℕ) × LeastPlan I r
    best_exists = best.best_exists k

    -- "with none, nothing lies below A"
    pub none_below : ((q : List ℕ) → I.is_plan q ≡ true → ⊥) → (x : List ℕ) → Assignment I.bits x → pos I.penalty ≤ℤ energy_of I x
    none_below = best.none_below k

    -- "group or tree bits code none": such an assignment is refused by 12, and no other
    pub none_refused : (x r : List ℕ) → Assignment I.bits x → length r ≡ I.plan_bytes → (decode_number_in s a x r ≡ 12) ↔ (CodesPlan I x → ⊥)
    none_refused x r b h = refused_exactly s a ok x r b h (k.decides x)

-- what a margin leaves alone: all but A and the energy
pub margin_leaves : (s : List ℕ) (a b : Ask) → kind_of a ≡ kind_of b → SamePlans (instance_in s a) (instance_in s b)
unfolding instance_of
margin_leaves s a b e = rw e (same_plans _ _ (site_in s) (kind_of b))

-- "An empty part is given only on refusal"
pub row_empty : (s : List ℕ) (a : Ask) (i room : ℕ) → row_part_in s a i room ≡ [] → row_number_in s a i room ≡ 0 → ⊥
row_empty s a i room e z =
    let t = row_taken s a i room z in
    let g = (row_given s a t.0 i room t.1 (omega (arith, t.2))).1 in
    omega (arith, ap length e, g, t.1)

-- ---- demand 3, channels: kind 1

module _ (s : List ℕ) (a : Ask) (is : a.kind ≡ 1) (ok : Accepted s a) where
  abbrev C : Instance
  C = instance_in s a

  -- A, which is 01's or more
  abbrev channels_A : ℕ
  channels_A = penalty_asked (site_in s) a

  channels_asked : Asked s a (Channels a.parameter)
  channels_asked = asked s a ok (Channels a.parameter) (is_channels a is)

  channels_is : C ≡ channels-kind.instance channels_A (meters s) a.parameter (links s)
  unfolding instance_by
  channels_is = channels_asked.is

  channels_limits : channels-formula.within_limits a.parameter ≡ true
  unfolding limits_hold
  channels_limits = channels_asked.limits

  channels_heavy : Heavy channels_A (meters s) (links s)
  unfolding penalty_of
  channels_heavy m l h = omega (arith, channels-asking.penalty_heavy (meters s) (links s) m l h, channels_asked.from)

  -- "least energy exactly at the codes of plans of least clash weight"
  pub channels_least : (x : List ℕ) → Assignment C.bits x → LeastEnergy C x ↔ CodesLeast C x
  channels_least = subst (λ (I : Instance). (x : List ℕ) → Assignment I.bits x → LeastEnergy I x ↔ CodesLeast I x) (sym channels_is) (channels.least_exactly (meters s) a.parameter (links s) channels_asked.survey channels_limits channels_A channels_heavy)

  -- and its energy is that weight
  pub channels_weight : (x : List ℕ) (c : CodesLeast C x) → energy_of C x ≡ pos (C.weight c.plan)
  channels_weight = subst (λ (I : Instance). (x : List ℕ) (c : CodesLeast I x) → energy_of I x ≡ pos (I.weight c.plan)) (sym channels_is) (channels.least_weight (meters s) a.parameter (links s) channels_asked.survey channels_limits channels_A)

  -- such an assignment exists
  pub channels_exists : (x : List ℕ) × Assignment C.bits x × LeastEnergy C x × CodesLeast C x
  channels_exists = subst (λ (I : Instance). (x : List ℕ) × Assignment I.bits x × LeastEnergy I x × CodesLeast I x) (sym channels_is) (channels.least_exists (meters s) a.parameter (links s) channels_asked.survey channels_limits channels_A channels_heavy)

  -- "every assignment decodes to a plan no heavier than its energy", and by 1 lighter for each meter repaired
  pub channels_lighter : (x r : List ℕ) → Assignment C.bits x → length r ≡ C.plan_bytes
      → (C.is_plan (decode_after_in s a x r) ≡ true)
      × (decode_answer_in s a x r ≡ Plan (C.weight (decode_after_in s a x r)) (C.repaired x))
      × (pos (C.weight (decode_after_in s a x r) + C.repaired x) ≤ℤ energy_of C x)
  unfolding decode_answer_in decode_after_in unless_refused
  channels_lighter x r b h =
      let l = subst (λ (I : Instance). (y : List ℕ) → Assignment I.bits y → (I.is_plan (I.decoded y) ≡ true) × (pos (I.weight (I.decoded y) + I.repaired y) ≤ℤ energy_of I y) × (I.decodes y ≡ true)) (sym channels_is)
      (λ y e. let d = channels.decodes_lighter (meters s) a.parameter (links s) channels_asked.survey channels_limits channels_A channels_heavy y e in (d.0, d.1, refl)) x b in
      rw (decode_accepts s a ok x r b h l.2) (l.0, refl, l.1)

-- ---- demand 3, groups: kind 2

module _ (s : List ℕ) (a : Ask) (is : a.kind ≡ 2) (ok : Accepted s a) where
  abbrev G : Instance
  G = instance_in s a

  groups_asked : Asked s a (Groups a.parameter)
  groups_asked = asked s a ok (Groups a.parameter) (is_groups a is)

  groups_is : G ≡ groups-kind.instance (penalty_asked (site_in s) a) (meters s) a.parameter (links s)
  unfolding instance_by
  groups_is = groups_asked.is

  groups_limits : groups-formula.within_limits a.parameter ≡ true
  unfolding limits_hold
  groups_limits = groups_asked.limits

  -- nothing is repaired, and the code of a plan costs twice its cut weight: all that is said above of such a kind holds
  pub groups_penalised : Penalised G (λ w. 2 * w)
  unfolding penalty_of
  groups_penalised = subst (λ (I : Instance). Penalised I (λ w. 2 * w)) (sym groups_is) (groups.penalised (meters s) a.parameter (links s) groups_asked.survey groups_limits (penalty_asked (site_in s) a) (omega (arith, groups-asking.penalty_heavy (links s), groups_asked.from)))

  -- "energy below the penalty A exactly at the codes of plans"
  pub groups_below : (x : List ℕ) → Assignment G.bits x → (energy_of G x <ℤ pos G.penalty) ↔ CodesPlan G x
  groups_below = below_exactly s a ok _ groups_penalised

  -- "the least energy is that of the best equal split": where there is a plan, exactly at the codes of best ones,
  pub groups_least : (q : List ℕ) → G.is_plan q ≡ true → (x : List ℕ) → Assignment G.bits x → LeastEnergy G x ↔ CodesLeast G x
  groups_least = least_exactly s a ok _ groups_penalised

  -- and it is twice the cut weight of a best one
  pub groups_weight : (q : List ℕ) → LeastPlan G q → (x : List ℕ) → Assignment G.bits x → LeastEnergy G x → energy_of G x ≡ pos (2 * G.weight q)
  groups_weight = least_weight s a ok _ groups_penalised

  -- "with N not divisible by m no plan exists", and else there is one
  pub groups_divided : (meters s % a.parameter ≡ 0) ↔ ((q : List ℕ) × (G.is_plan q ≡ true))
  groups_divided = subst (λ (I : Instance). (meters s % a.parameter ≡ 0) ↔ ((q : List ℕ) × (I.is_plan q ≡ true))) (sym groups_is) (groups.exists_exactly (meters s) a.parameter (links s) groups_asked.survey groups_limits)

  -- "with none, nothing lies below A"
  pub groups_none : ((q : List ℕ) → G.is_plan q ≡ true → ⊥) → (x : List ℕ) → Assignment G.bits x → pos G.penalty ≤ℤ energy_of G x
  groups_none = none_below s a ok _ groups_penalised

-- ---- demand 3, trees: kind 3

module _ (s : List ℕ) (a : Ask) (is : a.kind ≡ 3) (ok : Accepted s a) where
  abbrev T : Instance
  T = instance_in s a

  -- the neighbour limit
  abbrev d : ℕ
  d = a.parameter

  tree_asked : Asked s a (Tree a.parameter)
  tree_asked = asked s a ok (Tree a.parameter) (is_tree a is)

  tree_is : T ≡ tree-kind.instance (penalty_asked (site_in s) a) (meters s) d (links s)
  unfolding instance_by
  tree_is = tree_asked.is

  tree_limits : tree-formula.within_limits (meters s) d ≡ true
  unfolding limits_hold
  tree_limits = tree_asked.limits

  tree_heavy : total (links s) < penalty_asked (site_in s) a
  unfolding penalty_of
  tree_heavy = omega (arith, tree-asking.penalty_heavy (links s), tree_asked.from)

  -- nothing is repaired, and the code of a plan costs the tree's weight: all that is said above of such a kind holds
  pub tree_penalised : Penalised T (λ w. w)
  tree_penalised = subst (λ (I : Instance). Penalised I (λ w. w)) (sym tree_is) (tree.penalised (meters s) d (links s) tree_asked.survey tree_limits (penalty_asked (site_in s) a) tree_heavy)

  -- "energy below the penalty A exactly at the codes of plans"
  pub tree_below : (x : List ℕ) → Assignment T.bits x → (energy_of T x <ℤ pos T.penalty) ↔ CodesPlan T x
  tree_below = below_exactly s a ok _ tree_penalised

  -- "every spanning tree has a root with no depth over D"
  pub tree_root : (t : List Link) → Spanning (meters s) (links s) t → (q : List ℕ) × (is_rooted (meters s) (deepest (meters s)) (links s) q ≡ true) × (tree_links q (links s) ≡ t)
  tree_root = tree.root_exists (meters s) d (links s) tree_asked.survey tree_limits

  -- a plan's links are a spanning tree within the neighbour limit, of the same weight
  pub tree_spans : (q : List ℕ) → T.is_plan q ≡ true → Spanning (meters s) (links s) (tree_links q (links s)) × WithinLimit (meters s) d (tree_links q (links s)) × (total (tree_links q (links s)) ≡ T.weight q)
  tree_spans = subst (λ (I : Instance). (q : List ℕ) → I.is_plan q ≡ true → Spanning (meters s) (links s) (tree_links q (links s)) × WithinLimit (meters s) d (tree_links q (links s)) × (total (tree_links q (links s)) ≡ I.weight q)) (sym tree_is) (tree.plan_tree (meters s) d (links s) tree_asked.survey tree_limits)

  -- and every spanning tree within the limit is the links of some plan, of the same weight
  pub tree_planned : (t : List Link) → Spanning (meters s) (links s) t → WithinLimit (meters s) d t → (q : List ℕ) × (T.is_plan q ≡ true) × (tree_links q (links s) ≡ t) × (T.weight q ≡ total t)
  tree_planned = subst (λ (I : Instance). (t : List Link) → Spanning (meters s) (links s) t → WithinLimit (meters s) d t → (q : List ℕ) × (I.is_plan q ≡ true) × (tree_links q (links s) ≡ t) × (I.weight q ≡ total t)) (sym tree_is) (tree.tree_plan (meters s) d (links s) tree_asked.survey tree_limits)

  -- "the least energy is that .. of the best spanning tree within the neighbour limit": where there is one within the limit, least energy is exactly at the codes of plans whose links are a best one, whichever meter is the root,
  pub tree_least : (t : List Link) → Spanning (meters s) (links s) t → WithinLimit (meters s) d t → (x : List ℕ) → Assignment T.bits x → LeastEnergy T x ↔ CodesBest (meters s) d (links s) x
  tree_least t p w = subst (λ (I : Instance). (x : List ℕ) → Assignment I.bits x → LeastEnergy I x ↔ CodesBest (meters s) d (links s) x) (sym tree_is) (tree.least_exactly (meters s) d (links s) tree_asked.survey tree_limits (penalty_asked (site_in s) a) tree_heavy t p w)

  -- it is the weight of a best one,
  pub tree_weight_least : (t : List Link) → BestTree (meters s) d (links s) t → (x : List ℕ) → Assignment T.bits x → LeastEnergy T x → energy_of T x ≡ pos (total t)
  tree_weight_least t b = subst (λ (I : Instance). (x : List ℕ) → Assignment I.bits x → LeastEnergy I x → energy_of I x ≡ pos (total t)) (sym tree_is) (tree.least_weight (meters s) d (links s) tree_asked.survey tree_limits (penalty_asked (site_in s) a) tree_heavy t b)

  -- which some assignment has,
  pub tree_reached : (t : List Link) → BestTree (meters s) d (links s) t → (x : List ℕ) × Assignment T.bits x × LeastEnergy T x × (energy_of T x ≡ pos (total t))
  tree_reached t b = subst (λ (I : Instance). (x : List ℕ) × Assignment I.bits x × LeastEnergy I x × (energy_of I x ≡ pos (total t))) (sym tree_is) (tree.best_least (meters s) d (links s) tree_asked.survey tree_limits (penalty_asked (site_in s) a) tree_heavy t b)

  -- and there is a best one
  pub tree_exists : (t : List Link) → Spanning (meters s) (links s) t → WithinLimit (meters s) d t → (u : List Link) × BestTree (meters s) d (links s) u
  tree_exists = tree.best_exists (meters s) d (links s) tree_asked.survey tree_limits

  -- "with none, nothing lies below A"
  pub tree_none : ((t : List Link) → Spanning (meters s) (links s) t → WithinLimit (meters s) d t → ⊥) → (x : List ℕ) → Assignment T.bits x → pos T.penalty ≤ℤ energy_of T x
  tree_none none = subst (λ (I : Instance). (x : List ℕ) → Assignment I.bits x → pos I.penalty ≤ℤ energy_of I x) (sym tree_is) (tree.none_below (meters s) d (links s) tree_asked.survey tree_limits (penalty_asked (site_in s) a) tree_heavy none)
