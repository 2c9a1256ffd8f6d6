-- What an accepted image and what is asked of it have, and what the calls then give. Assumes nothing.
use Prim.Native.Nat.{ℕ, ◌+◌, ◌-◌, ◌≤◌, ◌<◌}
use mathlib.Core.Bool.{Bool, true, false, ◌&&◌, cond, not, true≢false}
use mathlib.Core.Logic.{◌↔◌}
use mathlib.Core.Path.{◌≡◌, refl, sym, ap, ◌∙◌, subst}
use mathlib.Core.List.{List, []}
use lib.ListN.{length}
use lib.Dec.{eqb}
use lib.IntN.{ℤ}
use native.Mathlib.Omega.{arith}
use native.Mathlib.Decide.{ℕ_discrete}
use borrow.Author.Tests.{eq-eqb, lt-leb, le-ltb}
use Rattle.links.specs.Survey.{IsSurvey}
use Rattle.qubo.specs.Formula.{Bits, Assignment}
use Rattle.qubo.specs.Table.{row_of}
use Rattle.qubo.specs.Instance.{Instance, CodesPlan}
use Rattle.qubo.proofs.RowAction.{row_length}
use Rattle.qubo.proofs.Plans.{Sound}
use Rattle.site.specs.Layout.{meters}
use Rattle.site.specs.Image.{links}
use Rattle.site.specs.Refusal.{unless_refused}
use Rattle.site.proofs.Refused.{kept, refusal_here, refusal_next, refusal_last}
use Rattle.plans.specs.declared.Ask.{Ask}
use Rattle.plans.specs.declared.Kind.{Kind}
use Rattle.plans.specs.declared.Kind.TheVariants.{Channels, Groups, Tree}
use Rattle.plans.specs.Kinds.{kind_of, limits_hold, penalty_of, penalty_asked, instance_by, instance_of}
use Rattle.plans.specs.Refusals.{most_bits, are_bits, site_in, image_tests, row_tests, energy_tests, code_tests, decode_tests}
use Rattle.plans.specs.Calls.{instance_in, accept_number_in, row_number_in, row_part_in, energy_number_in, code_number_in, decode_number_in}
use Rattle.plans.specs.Best.{Accepted}
use Rattle.plans.proofs.ByKind.{sound, asked_from, asked_small}
use Rattle.plans.proofs.Earlier.{Alike, alike_none, stops_some, image_numbered}
use Rattle.plans.proofs.Refusing.{bits_test, row_within}
use Rattle.plans.proofs.Posed.{good_survey, good_limits, good_margin, good_count}

-- a valid image, limits that hold, and at most 8,192 bits
pub record Facts (s : List ℕ) (a : Ask) : Type 0 where
  pub survey : IsSurvey (meters s) (links s)
  pub limits : limits_hold (meters s) (kind_of a) ≡ true
  pub few : (instance_in s a).bits ≤ most_bits
  pub is_sound : Sound (instance_in s a)

pub accepted_facts : (s : List ℕ) (a : Ask) → Accepted s a → Facts s a
unfolding accept_number_in instance_of
accepted_facts s a ok =
    let v = good_survey s a ok in
    let l = good_limits s a ok in
    record { survey = v; limits = l; few = good_count s a ok; is_sound = sound (site_in s) v (penalty_asked (site_in s) a) (kind_of a) l (asked_small (site_in s) v a (good_margin s a ok)) }

-- the same where the kind is known: k
pub record Asked (s : List ℕ) (a : Ask) (k : Kind) : Type 0 where
  pub survey : IsSurvey (meters s) (links s)
  pub limits : limits_hold (meters s) k ≡ true
  pub from : penalty_of (site_in s) k ≤ penalty_asked (site_in s) a
  pub is : instance_in s a ≡ instance_by (penalty_asked (site_in s) a) (site_in s) k

pub asked : (s : List ℕ) (a : Ask) → Accepted s a → (k : Kind) → kind_of a ≡ k → Asked s a k
unfolding instance_of
asked s a ok k e =
    let f = accepted_facts s a ok in
    subst (Asked s a) e (record { survey = f.survey; limits = f.limits; from = asked_from (site_in s) a; is = refl })

pub is_channels : (a : Ask) → a.kind ≡ 1 → kind_of a ≡ Channels a.parameter
unfolding kind_of
is_channels a e = rw e refl

pub is_groups : (a : Ask) → a.kind ≡ 2 → kind_of a ≡ Groups a.parameter
unfolding kind_of
is_groups a e = rw e refl

pub is_tree : (a : Ask) → a.kind ≡ 3 → kind_of a ≡ Tree a.parameter
unfolding kind_of
is_tree a e = rw e refl

-- ---- what the calls give where nothing is wrong

-- bits that are each 0 or 1 pass the test
bits_pass : (x : List ℕ) → Bits x → are_bits x ≡ true
bits_pass x b = bits_test x (λ k _. b k)

-- two lengths that are as needed
pub both_lengths : (a b c d : ℕ) → a ≡ b → c ≡ d → not (eqb a b && eqb c d) ≡ false
both_lengths a b c d e f = rw (eq-eqb a b e, eq-eqb c d f)

module _ (s : List ℕ) (a : Ask) (ok : Accepted s a) where
  abbrev I : Instance
  I = instance_in s a

  -- then only the later tests count
  accepted_then : Alike (image_tests s a) []
  unfolding accept_number_in
  accepted_then = alike_none (image_tests s a) (image_numbered s a) ok

  -- an assignment is not refused by 9 or 11
  pub energy_accepts : (x : List ℕ) → Assignment I.bits x → energy_number_in s a x ≡ 0
  unfolding energy_number_in energy_tests
  energy_accepts x b =
      accepted_then _
      ∙ refusal_next 9 _ _ (ap not (eq-eqb (length x) I.bits b.size))
      ∙ refusal_last 11 _ (ap not (bits_pass x b.bits))

  -- a row below the bit count is not refused where there is room
  pub row_accepts : (i room : ℕ) → i < I.bits → I.bits - i ≤ room → row_number_in s a i room ≡ 0
  unfolding row_number_in row_tests
  row_accepts i room h r =
      accepted_then _
      ∙ refusal_next 10 _ _ (lt-leb I.bits i h)
      ∙ refusal_last 9 _ (le-ltb room (I.bits - i) r)

  -- a plan is not refused where there are as many bits as its code has
  pub code_accepts : (q x : List ℕ) → I.is_plan q ≡ true → length x ≡ I.bits → code_number_in s a q x ≡ 0
  unfolding code_number_in code_tests
  code_accepts q x e h =
      accepted_then _
      ∙ refusal_next 9 _ _ (both_lengths (length q) I.plan_bytes (length x) I.bits ((accepted_facts s a ok).is_sound.plan_bytes_length q e) h)
      ∙ refusal_last 12 _ (ap not e)

  module _ (x q : List ℕ) (b : Assignment I.bits x) (h : length q ≡ I.plan_bytes) where
    -- an assignment that decodes to a plan is not refused where there are bytes for it
    pub decode_accepts : I.decodes x ≡ true → decode_number_in s a x q ≡ 0
    unfolding decode_number_in decode_tests
    decode_accepts d =
        accepted_then _
        ∙ refusal_next 9 _ _ (both_lengths (length x) I.bits (length q) I.plan_bytes b.size h)
        ∙ refusal_next 11 _ _ (ap not (bits_pass x b.bits))
        ∙ refusal_last 12 _ (ap not d)

    -- one that does not is refused by 12
    decode_none : I.decodes x ≡ false → decode_number_in s a x q ≡ 12
    unfolding decode_number_in decode_tests
    decode_none d =
        accepted_then _
        ∙ refusal_next 9 _ _ (both_lengths (length x) I.bits (length q) I.plan_bytes b.size h)
        ∙ refusal_next 11 _ _ (ap not (bits_pass x b.bits))
        ∙ refusal_here 12 _ _ (ap not d)

    -- where bits decode exactly when they code a plan, 12 is given exactly when they code none
    pub refused_exactly : I.decodes x ≡ true ↔ CodesPlan I x → (decode_number_in s a x q ≡ 12) ↔ (CodesPlan I x → ⊥)
    refused_exactly i = go (I.decodes x) refl
      where
        go : (t : Bool) → I.decodes x ≡ t → (decode_number_in s a x q ≡ 12) ↔ (CodesPlan I x → ⊥)
        go true e = (λ r. let z : ⊥ = omega (arith, decode_accepts e, r) in absurd z, λ none. absurd (none (i.0 e)))
        go false e = (λ r c. true≢false (sym (i.1 c) ∙ e), λ none. decode_none e)

-- ---- a row, whatever is lent

at_most : (r : ℕ) (xs : List ℤ) → length (unless_refused r xs []) ≤ length xs
unfolding unless_refused
at_most r xs = go (eqb r 0)
  where
    go : (b : Bool) → length (cond b xs []) ≤ length xs
    go true = omega arith
    go false = omega arith

module _ (s : List ℕ) (a : Ask) (i room : ℕ) where
  abbrev J : Instance
  J = instance_in s a

  -- what is refused by 1, 7, 18 or 8 is refused as a row
  row_stopped : (accept_number_in s a ≡ 0 → ⊥) → row_number_in s a i room ≡ accept_number_in s a
  unfolding accept_number_in row_number_in
  row_stopped n = (stops_some (image_tests s a) _ refl n).by _

  -- no row has more than 8,192 numbers
  pub part_few : length (row_part_in s a i room) ≤ most_bits
  unfolding row_part_in
  part_few =
      elim (ℕ_discrete (accept_number_in s a) 0) [
        | yes ok ↦ omega (arith, at_most (row_number_in s a i room) (row_of J.formula J.bits i), row_length J.formula J.bits i, (accepted_facts s a ok).few)
        | no n ↦ omega (arith, ap length (kept (row_number_in s a i room) (row_of J.formula J.bits i) [] (λ z. n (sym (row_stopped n) ∙ z))))
      ]

  -- a row that is not refused is one of an accepted image, and there is room for it
  pub row_taken : row_number_in s a i room ≡ 0 → Accepted s a × (i < J.bits) × (J.bits ≤ i + room)
  unfolding row_number_in
  row_taken z =
      let ok : Accepted s a = elim (ℕ_discrete (accept_number_in s a) 0) [ yes ok ↦ ok | no n ↦ absurd (n (sym (row_stopped n) ∙ z)) ] in
      let w = row_within J.bits i room (sym (accepted_then s a ok _) ∙ z) in
      (ok, w.0, w.1)

-- the same of the list that a call hands on
pub few_numbers : (s : List ℕ) (a : Ask) (i room : ℕ) (xs : List ℤ) → xs ≡ row_part_in s a i room → length xs ≤ 8192
few_numbers s a i room xs e = rw e (part_few s a i room)
