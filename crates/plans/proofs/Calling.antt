-- The calls of src/lib.rt: what they give where an earlier test refuses, and what the later tests and the kind's own crate decide once image and ask are accepted. Assumes nothing.
use Prim.Native.Nat.{ℕ, zero, suc, ◌-◌, ◌<◌}
use mathlib.Core.Bool.{Bool, true, false, not, cond}
use mathlib.Core.Path.{◌≡◌, refl, sym, ap, ap₂, ◌∙◌}
use mathlib.Core.List.{List, [], ◌∷◌, ◌++◌}
use lib.IntN.{ℤ}
use lib.Dec.{eqb}
use lib.ListN.{length, take, drop, take-append-drop}
use native.Mathlib.Omega.{arith}
use native.Mathlib.Nat.{suc-ne-zero}
use borrow.Author.Tests.{not-true, not-false}
use Rattle.qubo.specs.Table.{constant_of, row_of}
use Rattle.qubo.specs.Instance.{Instance, energy_of}
use Rattle.qubo.specs.Decoding.{row_filled, code_after, answer_of, plan_after}
use Rattle.qubo.specs.declared.problem.Decoded.{Decoded}
use Rattle.qubo.proofs.RowAction.{row_length}
use Rattle.std.specs.Prelude.{Option, Some, None, Result, Ok, Err, MatchResult, IsErrAnd, ◌≤◌}
use Rattle.std.specs.Result.{result_unwrap_or}
use Rattle.std.proofs.lemmas.Result.{err_from_is_err_and}
use Rattle.std.specs.Option.{ok_or}
use Rattle.site.specs.Refusal.{refusal, unless_refused, number_of}
use Rattle.site.proofs.Calls.{number_above}
use Rattle.site.proofs.Refused.{refusal_here, refusal_last, done, kept}
use Rattle.plans.specs.declared.Ask.{Ask}
use Rattle.site.specs.declared.refusals.Refusal.{Refusal}
use Rattle.site.specs.declared.refusals.Refusal.TheVariants.{NoPlan}
use Rattle.plans.specs.Refusals.{most_bits, site_in, image_tests, row_tests, energy_tests, code_tests, decode_tests}
use Rattle.plans.specs.Answers.{Answer, Value, Refused, answer, told, Plan}
use Rattle.plans.specs.Calls.{instance_in, accept_number_in, bits_answer_in, penalty_answer_in, constant_answer_in, row_number_in, row_part_in, row_after_in, energy_number_in, energy_answer_in, code_number_in, code_after_in, decode_number_in, decode_answer_in, decode_after_in}
use Rattle.plans.specs.Inner.{code_lengths, decode_bytes}
use Rattle.plans.specs.Kinds.{kind_of, penalty_asked, instance_of}
use Rattle.plans.proofs.ByKind.{penalty_is, asked_small, most_small}
use Rattle.plans.proofs.Posed.{good_survey, good_margin, good_count}
use Rattle.plans.proofs.Earlier.{Numbered, Alike, Stops, alike_none, stops_some, image_numbered}

-- ---- the exit of a `?`, which hands on the refusal that it is given

pub exit_is : {T : Type 0} {e : Refusal} (r : Result T Refusal) → IsErrAnd r (λ f. f ≡ e) → r ≡ Err e
exit_is r h =
    let q = err_from_is_err_and r h in
    q.1 ∙ ap Err q.2

-- ---- answers in 01's number and values

module _ {A : Type 0} where
  -- a refusal is that of its number
  pub refused_told : (e : Refusal) (r : ℕ) (z : A) → number_of e ≡ r → Refused (number_of e) ≡ answer r z
  refused_told e zero z f = absurd (number_above e f)
  refused_told e (suc r) z f = ap Refused f

  -- a value is given where the number is 0
  pub value_told : (r : ℕ) (y z : A) → r ≡ 0 → y ≡ z → Value y ≡ answer r z
  value_told r y z e f = rw (e, f)

-- ---- bit count, penalty and constant

module _ (s : List ℕ) (a : Ask) where
  -- refused
  pub bits_refused : (e : Refusal) → number_of e ≡ accept_number_in s a → Refused (number_of e) ≡ bits_answer_in s a
  unfolding bits_answer_in
  bits_refused e f = refused_told e _ _ f

  pub penalty_refused : (e : Refusal) → number_of e ≡ accept_number_in s a → Refused (number_of e) ≡ penalty_answer_in s a
  unfolding penalty_answer_in
  penalty_refused e f = refused_told e _ _ f

  pub constant_refused : (e : Refusal) → number_of e ≡ accept_number_in s a → Refused (number_of e) ≡ constant_answer_in s a
  unfolding constant_answer_in
  constant_refused e f = refused_told e _ _ f

  -- and given, by the problem's instance
  module _ (z : accept_number_in s a ≡ 0) (I : Instance) (e : I ≡ instance_in s a) where
    pub bits_given : (b : ℕ) → b ≡ I.bits → Value b ≡ bits_answer_in s a
    unfolding bits_answer_in
    bits_given b f = value_told _ _ _ z (f ∙ ap (λ (J : Instance). J.bits) e)

    pub penalty_given : (p : ℕ) → p ≡ I.penalty → Value p ≡ penalty_answer_in s a
    unfolding penalty_answer_in
    penalty_given p f = value_told _ _ _ z (f ∙ ap (λ (J : Instance). J.penalty) e)

    pub constant_given : (c : ℤ) → c ≡ constant_of I.formula → Value c ≡ constant_answer_in s a
    unfolding constant_answer_in
    constant_given c f = value_told _ _ _ z (f ∙ ap (λ (J : Instance). constant_of J.formula) e)

    -- there are at most 8,192 bits
    pub bits_few : (b : ℕ) → b ≡ I.bits → b ≤ most_bits
    unfolding accept_number_in
    bits_few b f = omega (arith, f, ap (λ (J : Instance). J.bits) e, good_count s a z)

    -- and A is below 2^33
    pub penalty_below : (p : ℕ) → p ≡ I.penalty → p < 8589934592
    unfolding accept_number_in instance_of
    penalty_below p f = omega (arith, f, ap (λ (J : Instance). J.penalty) e, penalty_is (penalty_asked (site_in s) a) (site_in s) (kind_of a), asked_small (site_in s) (good_survey s a z) a (good_margin s a z), most_small (kind_of a))

-- ---- what is promised of the other calls

-- row i in a slice that held out: the refusal's number, the length of the row, and what the slice holds then
abbrev pub RowDone : List ℕ → Ask → ℕ → List ℤ → ℕ → ℕ → List ℤ → Type 0
RowDone s a i out r len then = ((r ≡ row_number_in s a i (length out)) × (len ≡ length (row_part_in s a i (length out)))) × (then ≡ row_after_in s a i out)

-- the energy of the bits x
abbrev pub EnergyDone : List ℕ → Ask → List ℕ → Answer ℤ → Type 0
EnergyDone s a x d = d ≡ energy_answer_in s a x

-- the plan q coded into bits that were x: the refusal's number, and the bits then
abbrev pub CodeDone : List ℕ → Ask → List ℕ → List ℕ → ℕ → List ℕ → Type 0
CodeDone s a q x r then = (r ≡ code_number_in s a q x) × (then ≡ code_after_in s a q x)

-- the bits x decoded into a plan that was q: the answer, and the plan then
abbrev pub DecodeDone : List ℕ → Ask → List ℕ → List ℕ → Answer Decoded → List ℕ → Type 0
DecodeDone s a x q d then = (d ≡ decode_answer_in s a x q) × (then ≡ decode_after_in s a x q)

-- ---- refused by r: nothing lent is altered

-- an answer that is refused
answer_refused : {A : Type 0} (r : ℕ) (z : A) → (r ≡ 0 → ⊥) → Refused r ≡ answer r z
answer_refused zero z n = absurd (n refl)
answer_refused (suc r) z n = refl

module _ (s : List ℕ) (a : Ask) (r : ℕ) (n : r ≡ 0 → ⊥) where
  row_refused : (i : ℕ) (out : List ℤ) → row_number_in s a i (length out) ≡ r → RowDone s a i out r 0 out
  unfolding row_part_in row_after_in
  row_refused i out e = rw e ((refl, ap length (sym (kept {A = List ℤ} r _ [] n))), sym (kept r _ out n))

  energy_refused : (x : List ℕ) → energy_number_in s a x ≡ r → EnergyDone s a x (Refused r)
  unfolding energy_answer_in
  energy_refused x e = rw e (answer_refused r _ n)

  code_refused : (q x : List ℕ) → code_number_in s a q x ≡ r → CodeDone s a q x r x
  unfolding code_after_in
  code_refused q x e = rw e (refl, sym (kept r _ x n))

  decode_refused : (x q : List ℕ) → decode_number_in s a x q ≡ r → DecodeDone s a x q (Refused r) q
  unfolding decode_answer_in decode_after_in
  decode_refused x q e = rw e (answer_refused r _ n, sym (kept r _ q n))

-- by a test of image and ask: what posing gives
module _ (s : List ℕ) (a : Ask) (e : Refusal) (f : number_of e ≡ accept_number_in s a) where
  stopped : Stops (image_tests s a) (number_of e)
  unfolding accept_number_in
  stopped = stops_some (image_tests s a) _ (sym f) (number_above e)

  pub row_stops : (i : ℕ) (out : List ℤ) → RowDone s a i out (number_of e) 0 out
  unfolding row_number_in
  row_stops i out = row_refused s a _ (number_above e) i out (stopped.by _)

  pub energy_stops : (x : List ℕ) → EnergyDone s a x (Refused (number_of e))
  unfolding energy_number_in
  energy_stops x = energy_refused s a _ (number_above e) x (stopped.by _)

  pub code_stops : (q x : List ℕ) → CodeDone s a q x (number_of e) x
  unfolding code_number_in
  code_stops q x = code_refused s a _ (number_above e) q x (stopped.by _)

  pub decode_stops : (x q : List ℕ) → DecodeDone s a x q (Refused (number_of e)) q
  unfolding decode_number_in
  decode_stops x q = decode_refused s a _ (number_above e) x q (stopped.by _)

-- ---- the tests that the code makes first have numbers

lengths_numbered : (b n k l : ℕ) → Numbered (code_lengths b n k l)
unfolding code_lengths
lengths_numbered b n k l = (omega arith, tt)

bytes_numbered : (b n : ℕ) (x : List ℕ) (k : ℕ) → Numbered (decode_bytes b n x k)
unfolding decode_bytes
bytes_numbered b n x k = (omega arith, (omega arith, tt))

-- ---- image and ask are accepted: what posing gives, of a problem whose instance is J

module _ (s : List ℕ) (a : Ask) where
  abbrev I : Instance
  I = instance_in s a

  module _ {J : Instance} (posed : (accept_number_in s a ≡ 0) × (J ≡ instance_in s a)) where
    -- it is as if the tests of image and ask were not there
    alike : Alike (image_tests s a) []
    unfolding accept_number_in
    alike = alike_none (image_tests s a) (image_numbered s a) posed.0

    -- ---- rows

    module _ {b : ℕ} (count : b ≡ J.bits) (i : ℕ) (out : List ℤ) {r : ℕ} (h : r ≡ refusal (row_tests b i (length out))) where
      e : b ≡ I.bits
      e = count ∙ ap (λ (K : Instance). K.bits) posed.1

      pub row_number : row_number_in s a i (length out) ≡ r
      unfolding row_number_in
      row_number = alike _ ∙ sym (h ∙ ap (λ (c : ℕ). refusal (row_tests c i (length out))) e)

      pub row_tested : (r ≡ 0 → ⊥) → RowDone s a i out r 0 out
      row_tested n = row_refused s a r n i out row_number

      pub row_given : r ≡ 0 → {then : List ℤ} → then ≡ row_filled J i out → RowDone s a i out 0 (b - i) then
      unfolding row_part_in row_after_in
      row_given z p =
          let g : row_number_in s a i (length out) ≡ 0 = row_number ∙ z in
          let part = done (row_number_in s a i (length out)) (row_of I.formula I.bits i) [] g in
          let size : b - i ≡ length (row_of I.formula I.bits i) = ap (λ (c : ℕ). c - i) e ∙ sym (row_length I.formula I.bits i) in
          ((sym g, size ∙ sym (ap length part)), p ∙ ap (λ (K : Instance). row_filled K i out) posed.1 ∙ sym (done (row_number_in s a i (length out)) _ out g))

    -- ---- energies

    module _ (x : List ℕ) {r : ℕ} (h : r ≡ refusal (energy_tests J.bits x)) where
      energy_number : energy_number_in s a x ≡ r
      unfolding energy_number_in
      energy_number = alike _ ∙ sym (h ∙ ap (λ (K : Instance). refusal (energy_tests K.bits x)) posed.1)

      pub energy_tested : (r ≡ 0 → ⊥) → EnergyDone s a x (Refused r)
      energy_tested n = energy_refused s a r n x energy_number

      pub energy_given : r ≡ 0 → {z : ℤ} → z ≡ energy_of J x → EnergyDone s a x (Value z)
      unfolding energy_answer_in
      energy_given q g = value_told _ _ _ (energy_number ∙ q) (g ∙ ap (λ (K : Instance). energy_of K x) posed.1)

    -- ---- codes

    module _ (q x : List ℕ) {r : ℕ} (h : r ≡ refusal (code_lengths J.bits J.plan_bytes (length q) (length x))) where
      -- the first test decides, and then the plan
      code_first : refusal (code_tests I q x) ≡ refusal (code_lengths J.bits J.plan_bytes (length q) (length x) ++ ((12, not (I.is_plan q)) ∷ []))
      unfolding code_tests code_lengths
      code_first = rw posed.1 refl

      pub code_tested : (r ≡ 0 → ⊥) → CodeDone s a q x r x
      unfolding code_number_in
      code_tested n = code_refused s a r n q x (alike _ ∙ code_first ∙ (stops_some _ r (sym h) n).by _)

      module _ (z : r ≡ 0) {t : Bool} (is : t ≡ J.is_plan q) {then : List ℕ} (by : then ≡ code_after J q x) where
        code_number : code_number_in s a q x ≡ refusal ((12, not (I.is_plan q)) ∷ [])
        unfolding code_number_in
        code_number = alike _ ∙ code_first ∙ alike_none (code_lengths J.bits J.plan_bytes (length q) (length x)) (lengths_numbered J.bits J.plan_bytes (length q) (length x)) (sym h ∙ z) _

        told_plan : t ≡ I.is_plan q
        told_plan = is ∙ ap (λ (K : Instance). K.is_plan q) posed.1

        is_coded : then ≡ cond t (I.code_of q) x
        unfolding code_after
        is_coded = by ∙ rw (posed.1, told_plan) refl

        pub code_no_plan : not t ≡ true → CodeDone s a q x 12 then
        code_no_plan u =
            let c = code_refused s a 12 (suc-ne-zero 11) q x (code_number ∙ refusal_here 12 _ _ (ap not (sym told_plan) ∙ u)) in
            (c.0, is_coded ∙ ap (λ (v : Bool). cond v (I.code_of q) x) (not-true t u) ∙ c.1)

        pub code_given : not t ≡ false → CodeDone s a q x 0 then
        unfolding code_after_in
        code_given u =
            let k : code_number_in s a q x ≡ 0 = code_number ∙ refusal_last 12 _ (ap not (sym told_plan) ∙ u) in
            (sym k, is_coded ∙ ap (λ (v : Bool). cond v (I.code_of q) x) (not-false t u) ∙ sym (done (code_number_in s a q x) _ x k))

    -- ---- decoding

    module _ (x q : List ℕ) {r : ℕ} (h : r ≡ refusal (decode_bytes J.bits J.plan_bytes x (length q))) where
      -- the first tests decide, and then the bits
      decode_first : refusal (decode_tests I x q) ≡ refusal (decode_bytes J.bits J.plan_bytes x (length q) ++ ((12, not (I.decodes x)) ∷ []))
      unfolding decode_tests decode_bytes
      decode_first = rw posed.1 refl

      pub decode_tested : (r ≡ 0 → ⊥) → DecodeDone s a x q (Refused r) q
      unfolding decode_number_in
      decode_tested n = decode_refused s a r n x q (alike _ ∙ decode_first ∙ (stops_some _ r (sym h) n).by _)

      module _ (z : r ≡ 0) where
        decode_number : decode_number_in s a x q ≡ refusal ((12, not (I.decodes x)) ∷ [])
        unfolding decode_number_in
        decode_number = alike _ ∙ decode_first ∙ alike_none (decode_bytes J.bits J.plan_bytes x (length q)) (bytes_numbered J.bits J.plan_bytes x (length q)) (sym h ∙ z) _

        decode_go : (v : Bool) → I.decodes x ≡ v → DecodeDone s a x q (cond v (Plan (I.weight (I.decoded x)) (I.repaired x)) (Refused 12)) (cond v (I.decoded x) q)
        unfolding decode_answer_in decode_after_in
        decode_go true d =
            let g : decode_number_in s a x q ≡ 0 = decode_number ∙ refusal_last 12 _ (ap not d) in
            (value_told _ _ _ g refl, sym (done (decode_number_in s a x q) _ q g))
        decode_go false d = decode_refused s a 12 (suc-ne-zero 11) x q (decode_number ∙ refusal_here 12 _ _ (ap not d))

        decode_said : (v : Bool) → DecodeDone s a x q (cond v (Plan (I.weight (I.decoded x)) (I.repaired x)) (Refused 12)) (cond v (I.decoded x) q)
            → DecodeDone s a x q (told (ok_or (cond v (Some (record { weight = I.weight (I.decoded x); repaired = I.repaired x })) None) NoPlan)) (cond v (I.decoded x) q)
        decode_said true h = h
        decode_said false h = h

        pub decode_given : {d : Option Decoded} {then : List ℕ} → d ≡ answer_of J x → then ≡ plan_after J x q → DecodeDone s a x q (told (ok_or d NoPlan)) then
        unfolding answer_of plan_after
        decode_given p t = rw (p, t, posed.1) (decode_said (I.decodes x) (decode_go (I.decodes x) refl))

-- ---- the row comes back as the front part of the slice

-- its length, 0 where it is refused
pub row_len : (s : List ℕ) (a : Ask) (i : ℕ) (out : List ℤ) (r : Result ℕ Refusal)
    → MatchResult r (λ len. (row_number_in s a i (length out) ≡ 0) × (len ≡ length (row_part_in s a i (length out)))) (λ e. number_of e ≡ row_number_in s a i (length out))
    → result_unwrap_or r 0 ≡ length (row_part_in s a i (length out))
unfolding row_part_in
row_len s a i out (Ok len) h = h.1
row_len s a i out (Err e) h = ap length (sym (kept {A = List ℤ} (row_number_in s a i (length out)) _ [] (λ z. number_above e (h ∙ z))))

take_front : (xs ys : List ℤ) → take (length xs) (xs ++ ys) ≡ xs
take_front [] ys = refl
take_front (x ∷ xs) ys = ap (λ (t : List ℤ). x ∷ t) (take_front xs ys)

drop_front : (xs ys : List ℤ) → drop (length xs) (xs ++ ys) ≡ ys
drop_front [] ys = refl
drop_front (x ∷ xs) ys = drop_front xs ys

-- in front of the slice afterwards is the part, and behind it what was there
pub row_front : (s : List ℕ) (a : Ask) (i : ℕ) (out : List ℤ) (len : ℕ) (then : List ℤ) → len ≡ length (row_part_in s a i (length out)) → then ≡ row_after_in s a i out
    → (take len then ≡ row_part_in s a i (length out)) × (drop len then ≡ drop (length (row_part_in s a i (length out))) out)
unfolding row_part_in row_after_in unless_refused
row_front s a i out len then p q =
    let I = instance_in s a in
    rw (p, q) (go (eqb (row_number_in s a i (length out)) 0) (row_of I.formula I.bits i) (I.bits - i) (row_length I.formula I.bits i))
  where
    go : (b : Bool) (xs : List ℤ) (k : ℕ) → length xs ≡ k
        → (take (length (cond b xs [])) (cond b (xs ++ drop k out) out) ≡ cond b xs []) × (drop (length (cond b xs [])) (cond b (xs ++ drop k out) out) ≡ drop (length (cond b xs [])) out)
    go true xs k e = (take_front xs (drop k out), drop_front xs (drop k out) ∙ ap (λ (j : ℕ). drop j out) (sym e))
    go false xs k e = (refl, refl)

-- with the part as it was given, what `rest` says of the slice is what `fill_row` leaves
pub row_whole : (s : List ℕ) (a : Ask) (i : ℕ) (out : List ℤ)
    → row_part_in s a i (length out) ++ drop (length (row_part_in s a i (length out))) out ≡ row_after_in s a i out
row_whole s a i out =
    let n = length (row_part_in s a i (length out)) in
    let cut = row_front s a i out n (row_after_in s a i out) refl refl in
    sym (ap₂ (λ (xs ys : List ℤ). xs ++ ys) cut.0 cut.1) ∙ take-append-drop n (row_after_in s a i out)
