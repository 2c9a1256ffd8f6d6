-- 01's worked surveys marked P: a test of a line, computed over the whole table at once, and the law that what passes the test is what the line means. Assumes nothing.
use Prim.Native.Nat.{ℕ, ◌%◌, ◌≤◌}
use mathlib.Core.Path.{◌≡◌, refl, ap, subst, ◌∙◌}
use mathlib.Core.Bool.{Bool, true, false, ◌&&◌, ◌||◌, not, false≢true}
use mathlib.Core.List.{List, [], ◌∷◌, Memᴰ}
use lib.ListN.{length}
use lib.IntN.{ℤ, pos, negsuc}
use lib.Dec.{eqb, leb}
use native.Mathlib.Omega.{arith}
use borrow.Author.Tests.{eqb-true, eqb-false, leb-true, not-true}
use Rattle.lists.specs.Tests.{every, any, all, from, alike}
use Rattle.lists.specs.Sums.{sum_to, sum_of, greatest, least_at, lowest, same, differ, nth}
use Rattle.lists.proofs.Tests.{and_left, and_right, all_member, alike_same}
use Rattle.links.specs.Links.{link_ok, before, ascending_from, ascending, total, is_at, has_ends, present}
use Rattle.links.specs.declared.Link.{Link}
use Rattle.links.specs.Survey.{IsSurvey}
use Rattle.qubo.specs.Instance.{Instance, energy_of, LeastPlan}
use Rattle.qubo.specs.Table.{constant_of, pair_of, row_of}
use Rattle.onehot.specs.Choices.{bit_at, set_at, one_hots, are_choices, code}
use Rattle.channels.specs.Formula as c-formula
use Rattle.channels.specs.Plans as c-plans
use Rattle.channels.specs.Repair as c-repair
use Rattle.groups.specs.Formula as g-formula
use Rattle.spanning.specs.Parents.{deepest, depth_of, at_most, linked, parent_linked, roots_of, is_rooted, neighbours, is_used, tree_links}
use Rattle.arcs.specs.Arcs.{arcs, arcs_from}
use Rattle.arcs.specs.Formula.{depth_terms, entry_terms, end_terms, weight_terms}
use Rattle.neighbours.specs.Formula.{count_terms, degree_terms}
use Rattle.tree.specs.Formula as tree-formula
use Rattle.site.specs.Refusal.{refusal}
use Rattle.site.proofs.Refused.{refusal_next, refusal_here}
use Rattle.groups.proofs.Demands as groups
use Rattle.tree.specs.Plans as tree-plans
use Rattle.tree.proofs.Trial.{options, tried, no_lighter, not_plan, plans_tried, none_lighter, none_plan}
use Rattle.tree.proofs.PlanFacts.{least_best}
use Rattle.tree.proofs.Asking as tree-asking
use Rattle.tree.proofs.Demands as tree
use Rattle.plans.specs.declared.Kind.{Kind}
use Rattle.plans.specs.declared.Kind.TheVariants.{Channels, Groups, Tree}
use Rattle.plans.specs.Kinds.{Site, kind_of, limits_hold, penalty_of, penalty_asked, instance_by, instance_of}
use Rattle.plans.specs.Refusals.{code_tests}
use Rattle.plans.proofs.ByKind.{asked_from}
use Rattle.plans.proofs.Accepted.{both_lengths}
use Rattle.plans.specs.Surveys as lines
use Rattle.plans.specs.Surveys.{Line, Means, Worked, table}

-- ---- tests of whole numbers

-- two are the same
same_int : ℤ → ℤ → Bool
same_int (pos a) (pos b) = eqb a b
same_int (pos a) (negsuc b) = false
same_int (negsuc a) (pos b) = false
same_int (negsuc a) (negsuc b) = eqb a b

int_same : (a b : ℤ) → same_int a b ≡ true → a ≡ b
unfolding same_int
int_same (pos a) (pos b) e = ap pos (eqb-true a b e)
int_same (pos a) (negsuc b) e = absurd (false≢true e)
int_same (negsuc a) (pos b) e = absurd (false≢true e)
int_same (negsuc a) (negsuc b) e = ap negsuc (eqb-true a b e)

-- two lists are
same_ints : List ℤ → List ℤ → Bool
same_ints [] [] = true
same_ints [] (b ∷ bs) = false
same_ints (a ∷ xs) [] = false
same_ints (a ∷ xs) (b ∷ bs) = same_int a b && same_ints xs bs

ints_same : (xs ys : List ℤ) → same_ints xs ys ≡ true → xs ≡ ys
unfolding same_ints
ints_same [] [] e = refl
ints_same [] (b ∷ bs) e = absurd (false≢true e)
ints_same (a ∷ xs) [] e = absurd (false≢true e)
ints_same (a ∷ xs) (b ∷ bs) e = cons (int_same a b (and_left (same_int a b) _ e)) (ints_same xs bs (and_right (same_int a b) _ e))
  where
    cons : {a b : ℤ} {xs ys : List ℤ} → a ≡ b → xs ≡ ys → a ∷ xs ≡ b ∷ ys
    cons p q = rw (p, q)

-- ---- the test of a line

-- no plan is lighter than w: over all lists of parents of a tree
lightest : ℕ → List Link → Kind → ℕ → Bool
lightest N ls (Channels n) w = false
lightest N ls (Groups m) w = false
lightest N ls (Tree d) w = tried (no_lighter N d ls w) (options ls) 1 N []

-- no list of parents is a plan
unplanned : ℕ → List Link → Kind → Bool
unplanned N ls (Channels n) = false
unplanned N ls (Groups m) = false
unplanned N ls (Tree d) = tried (not_plan N d ls) (options ls) 1 N []

-- every plan is among those: over all lists of parents of a tree
among : List (List ℕ) → List ℕ → Bool
among qs p = any (alike p) qs

listed : ℕ → List Link → Kind → List (List ℕ) → Bool
listed N ls (Channels n) qs = false
listed N ls (Groups m) qs = false
listed N ls (Tree d) qs = tried (λ p. not (tree-plans.is_plan N d ls p) || among qs p) (options ls) 1 N []

-- N does not divide into equal groups
undivided : ℕ → Kind → Bool
undivided N (Channels n) = false
undivided N (Groups m) = not (eqb (N % m) 0)
undivided N (Tree d) = false

holds : Site → Kind → Instance → Line → Bool
holds s k I (lines.bits b) = eqb I.bits b
holds s k I (lines.A a) = eqb I.penalty a
holds s k I (lines.constant c) = same_int (constant_of I.formula) c
holds s k I (lines.row i r) = same_ints (row_of I.formula I.bits i) r
holds s k I (lines.pair i j z) = same_int (pair_of I.formula i j) z
holds s k I (lines.energy x e) = same_int (energy_of I x) (pos e)
holds s k I (lines.plan q) = I.is_plan q
holds s k I (lines.plan_of q w) = I.is_plan q && (eqb (I.weight q) w && same_int (energy_of I (I.code_of q)) (pos w))
holds s k I (lines.just qs) = listed s.meters s.links k qs
holds s k I (lines.no_plan_12 q) = eqb (length q) I.plan_bytes && not (I.is_plan q)
holds s k I (lines.repairs x q w m) = alike (I.decoded x) q && (eqb (I.weight q) w && eqb (I.repaired x) m)
holds s k I (lines.least q w) = I.is_plan q && (eqb (I.weight q) w && lightest s.meters s.links k w)
holds s k I lines.nothing_below = unplanned s.meters s.links k
holds s k I lines.no_plan = undivided s.meters k

-- ---- what passes is what the line means

among_in : (p : List ℕ) (qs : List (List ℕ)) → among qs p ≡ true → Memᴰ p qs
unfolding among any
among_in p [] t = absurd (false≢true t)
among_in p (q ∷ qs) t = pick (alike p q) refl t (among_in p qs)
  where
    pick : (b : Bool) → alike p q ≡ b → (b || among qs p) ≡ true → (among qs p ≡ true → Memᴰ p qs) → Memᴰ p (q ∷ qs)
    pick true h u later = Memᴰ.head (alike_same p q h)
    pick false h u later = Memᴰ.tail (later u)

module _ (N : ℕ) (ls : List Link) (s : IsSurvey N ls) (A : ℕ) where
  abbrev site : Site
  site = record { meters = N; links = ls }

  -- a plan that no plan is lighter than, and the least energy
  least_shown : (k : Kind) (q : List ℕ) (w : ℕ) → limits_hold N k ≡ true → penalty_of site k ≤ A → (instance_by A site k).is_plan q ≡ true → (instance_by A site k).weight q ≡ w → lightest N ls k w ≡ true → Means (instance_by A site k) (lines.least q w)
  unfolding limits_hold penalty_of instance_by lightest tree-plans.tree_weight
  least_shown (Channels n) q w l a e h t = absurd (false≢true t)
  least_shown (Groups m) q w l a e h t = absurd (false≢true t)
  least_shown (Tree d) q w l a e h t =
      let best : LeastPlan (instance_by A site (Tree d)) q = record { ok = e; least = λ r f. omega (arith, h, none_lighter N d ls w s.each t r f) } in
      let b = tree.best_least N d ls s l A (omega (arith, tree-asking.penalty_heavy ls, a)) (tree_links q ls) (least_best N d ls s q best) in
      (e, h, (b.0, b.1, b.2, b.3 ∙ ap pos h))

  below_shown : (k : Kind) → limits_hold N k ≡ true → penalty_of site k ≤ A → unplanned N ls k ≡ true → Means (instance_by A site k) lines.nothing_below
  unfolding limits_hold penalty_of instance_by unplanned
  below_shown (Channels n) l a t = absurd (false≢true t)
  below_shown (Groups m) l a t = absurd (false≢true t)
  below_shown (Tree d) l a t = tree.none_below N d ls s l A (omega (arith, tree-asking.penalty_heavy ls, a)) (λ T p w. let q = tree.tree_plan N d ls s l T p w in none_plan N d ls s.each t q.0 q.1)

  listed_shown : (k : Kind) (qs : List (List ℕ)) → listed N ls k qs ≡ true → Means (instance_by A site k) (lines.just qs)
  unfolding listed instance_by
  listed_shown (Channels n) qs t q e = absurd (false≢true t)
  listed_shown (Groups m) qs t q e = absurd (false≢true t)
  listed_shown (Tree d) qs t q e = among_in q qs (subst (λ (b : Bool). (not b || among qs q) ≡ true) e (plans_tried N d ls s.each _ t q e))

  none_shown : (k : Kind) → limits_hold N k ≡ true → undivided N k ≡ true → Means (instance_by A site k) lines.no_plan
  unfolding limits_hold penalty_of instance_by undivided
  none_shown (Channels n) l t q e = absurd (false≢true t)
  none_shown (Groups m) l t q e = eqb-false (N % m) 0 (not-true (eqb (N % m) 0) t) ((groups.exists_exactly N m ls s l).1 (q, e))
  none_shown (Tree d) l t q e = absurd (false≢true t)

  -- coding what is no plan gives 12
  refused_shown : (I : Instance) (q x : List ℕ) → length q ≡ I.plan_bytes → I.is_plan q ≡ false → length x ≡ I.bits → refusal (code_tests I q x) ≡ 12
  unfolding code_tests
  refused_shown I q x h e l = refusal_next 9 _ _ (both_lengths (length q) I.plan_bytes (length x) I.bits h l) ∙ refusal_here 12 _ _ (ap not e)

  shown : (k : Kind) → limits_hold N k ≡ true → penalty_of site k ≤ A → (l : Line) → holds site k (instance_by A site k) l ≡ true → Means (instance_by A site k) l
  unfolding holds
  shown k w f (lines.bits b) t = eqb-true (instance_by A site k).bits b t
  shown k w f (lines.A a) t = eqb-true (instance_by A site k).penalty a t
  shown k w f (lines.constant c) t = int_same (constant_of (instance_by A site k).formula) c t
  shown k w f (lines.row i r) t = ints_same (row_of (instance_by A site k).formula (instance_by A site k).bits i) r t
  shown k w f (lines.pair i j z) t = int_same (pair_of (instance_by A site k).formula i j) z t
  shown k w f (lines.energy x e) t = int_same (energy_of (instance_by A site k) x) (pos e) t
  shown k w f (lines.plan q) t = t
  shown k w f (lines.plan_of q v) t =
      let I = instance_by A site k in
      let r = and_right (I.is_plan q) _ t in
      (and_left (I.is_plan q) _ t, eqb-true (I.weight q) v (and_left (eqb (I.weight q) v) _ r), int_same (energy_of I (I.code_of q)) (pos v) (and_right (eqb (I.weight q) v) _ r))
  shown k w f (lines.just qs) t = listed_shown k qs t
  shown k w f (lines.no_plan_12 q) t =
      let I = instance_by A site k in
      λ x h. refused_shown I q x (eqb-true (length q) I.plan_bytes (and_left (eqb (length q) I.plan_bytes) _ t)) (not-true (I.is_plan q) (and_right (eqb (length q) I.plan_bytes) _ t)) h
  shown k w f (lines.repairs x q v m) t =
      let I = instance_by A site k in
      let r = and_right (alike (I.decoded x) q) _ t in
      (alike_same (I.decoded x) q (and_left (alike (I.decoded x) q) _ t), eqb-true (I.weight q) v (and_left (eqb (I.weight q) v) _ r), eqb-true (I.repaired x) m (and_right (eqb (I.weight q) v) _ r))
  shown k w f (lines.least q v) t =
      let I = instance_by A site k in
      let r = and_right (I.is_plan q) _ t in
      least_shown k q v w f (and_left (I.is_plan q) _ t) (eqb-true (I.weight q) v (and_left (eqb (I.weight q) v) _ r)) (and_right (eqb (I.weight q) v) _ r)
  shown k w f lines.nothing_below t = below_shown k w f t
  shown k w f lines.no_plan t = none_shown k w t

-- ---- the whole table

-- the site is one that an image can have, the kind's limits hold, and every line passes
passes : Worked → Bool
passes e =
    leb 1 e.site.meters
    && (leb e.site.meters 48
    && (leb (length e.site.links) 256
    && (all (link_ok e.site.meters) e.site.links
    && (ascending e.site.links
    && (limits_hold e.site.meters (kind_of e.ask)
    && all (holds e.site (kind_of e.ask) (instance_of e.site e.ask)) e.lines)))))

-- computed
table_passes : all passes table ≡ true
unfolding table passes holds same_int same_ints lightest unplanned among listed undivided all alike from every any tried options no_lighter not_plan kind_of limits_hold penalty_of penalty_asked instance_by instance_of link_ok ascending ascending_from before total is_at has_ends present sum_to sum_of greatest least_at lowest same differ nth row_of bit_at set_at one_hots are_choices code c-formula.within_limits c-formula.load c-formula.penalty c-formula.clash_terms c-formula.formula c-plans.is_plan c-plans.code_of c-plans.clash_weight c-repair.bears c-repair.heard c-repair.quietest c-repair.repair_one c-repair.repair_by c-repair.decoded c-repair.repaired g-formula.within_limits g-formula.penalty g-formula.size_terms g-formula.cut_terms g-formula.formula tree-formula.within_limits tree-formula.penalty tree-formula.formula_to tree-plans.few_neighbours tree-plans.is_plan tree-plans.tree_weight tree-plans.depth_choices tree-plans.arc_choice tree-plans.arc_choices tree-plans.count_choices tree-plans.code_of deepest depth_of at_most linked parent_linked roots_of is_rooted neighbours is_used tree_links arcs arcs_from depth_terms entry_terms end_terms weight_terms count_terms degree_terms
table_passes = refl

-- one entry
entry_shown : (e : Worked) → passes e ≡ true → (l : Line) → Memᴰ l e.lines → Means (instance_of e.site e.ask) l
unfolding passes instance_of
entry_shown e t l i =
    let N = e.site.meters in
    let ls = e.site.links in
    let k = kind_of e.ask in
    let r1 = and_right (leb 1 N) _ t in
    let r2 = and_right (leb N 48) _ r1 in
    let r3 = and_right (leb (length ls) 256) _ r2 in
    let r4 = and_right (all (link_ok N) ls) _ r3 in
    let r5 = and_right (ascending ls) _ r4 in
    let r6 = and_right (limits_hold N k) _ r5 in
    let v : IsSurvey N ls = record {
      meters_low = leb-true 1 N (and_left (leb 1 N) _ t);
      meters_high = leb-true N 48 (and_left (leb N 48) _ r1);
      few = leb-true (length ls) 256 (and_left (leb (length ls) 256) _ r2);
      each = and_left (all (link_ok N) ls) _ r3;
      rises = and_left (ascending ls) _ r4;
    } in
    shown N ls v (penalty_asked e.site e.ask) k (and_left (limits_hold N k) _ r5) (asked_from e.site e.ask) l (all_member (holds e.site k (instance_of e.site e.ask)) e.lines r6 l i)

-- every line of the table is as 01 says
pub worked : (e : Worked) → Memᴰ e table → (l : Line) → Memᴰ l e.lines → Means (instance_of e.site e.ask) l
worked e i = entry_shown e (all_member passes table table_passes e i)
