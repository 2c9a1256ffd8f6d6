-- The tests of src/refusals.rt: which number is given, and what the number 0 says. Assumes nothing.
use Prim.Native.Nat.{ℕ, zero, suc, ◌-◌, ◌+◌, ◌≤◌, ◌<◌}
use mathlib.Core.Path.{◌≡◌, refl, sym, ap, ◌∙◌}
use mathlib.Core.Bool.{Bool, true, false, ◌&&◌, not}
use mathlib.Core.List.{List, [], ◌∷◌}
use lib.ListN.{length, get_or}
use lib.Dec.{eqb, leb}
use native.Mathlib.Omega.{arith}
use native.Mathlib.Decide.{dec_le}
use borrow.Author.Count.{below_more}
use Rattle.std.specs.Prelude.{max, Option, Some, None, Result, MatchOption, MatchResult}
use Rattle.std.specs.Bool.{then_some}
use Rattle.std.specs.Option.{ok_or}
use borrow.Author.Tests.{le-leb, lt-leb, leb-true, leb-false, lt-ltb, le-ltb, ltb-false, eq-eqb, ne_eqb, eqb-true, not-false}
use Rattle.lists.specs.Tests.{all}
use Rattle.lists.proofs.Tests.{and_left, and_right, and_both, or_right}
use Rattle.qubo.specs.Formula.{Bits, Assignment}
use Rattle.site.specs.Refusal.{refusal, number_of}
use Rattle.site.specs.declared.refusals.Refusal.{Refusal}
use Rattle.site.specs.declared.refusals.Refusal.TheVariants as refusals
use Rattle.site.proofs.Refused.{refusal_here, refusal_next, refusal_last, refusal_none}
use Rattle.plans.specs.declared.Ask.{Ask}
use Rattle.plans.specs.declared.Kind.{Kind}
use Rattle.plans.specs.declared.Kind.TheVariants.{Channels, Groups, Tree}
use Rattle.plans.specs.Kinds.{kind_of, limits_hold}
use Rattle.plans.specs.Refusals.{most_bits, most_margin, bad_kind, are_bits, ask_tests, count_tests, row_tests, energy_tests}
use Rattle.plans.specs.Inner.{code_lengths, decode_bytes}

-- ---- what is asked

-- the kind that is asked for, by its number
pub kind_1 : (a : Ask) (k : Kind) → k ≡ Channels a.parameter → a.kind ≡ 1 → k ≡ kind_of a
unfolding kind_of
kind_1 a k e h = rw (e, h) refl

pub kind_2 : (a : Ask) (k : Kind) → k ≡ Groups a.parameter → a.kind ≡ 2 → k ≡ kind_of a
unfolding kind_of
kind_2 a k e h = rw (e, h) refl

pub kind_3 : (a : Ask) (k : Kind) → k ≡ Tree a.parameter → a.kind ≡ 3 → k ≡ kind_of a
unfolding kind_of
kind_3 a k e h = rw (e, h) refl

module _ (N : ℕ) (a : Ask) where
  -- no other number is a kind's
  pub kind_none : (a.kind ≡ 1 → ⊥) → (a.kind ≡ 2 → ⊥) → (a.kind ≡ 3 → ⊥) → bad_kind N a ≡ true
  unfolding bad_kind
  kind_none e f g =
      elim (dec_le 1 a.kind) [
        | yes h ↦ rw (le-leb 1 a.kind h, lt-leb a.kind 3 (omega arith))
        | no h ↦ rw (lt-leb 1 a.kind (omega arith))
      ]

  -- and a kind's limits tell
  pub kind_tells : (k : Kind) {t v : Bool} → k ≡ kind_of a → (1 ≤ a.kind) × (a.kind ≤ 3) → t ≡ limits_hold N k → t ≡ v → bad_kind N a ≡ not v
  unfolding bad_kind
  kind_tells k e h f g = rw (le-leb 1 a.kind h.0, le-leb a.kind 3 h.1, ← e, ← f, g)

  pub kind_given : (k : Kind) (t : Bool) → k ≡ kind_of a → (1 ≤ a.kind) × (a.kind ≤ 3) → t ≡ limits_hold N k
      → MatchOption (then_some t k) (bad_kind N a ≡ true) (λ l. (bad_kind N a ≡ false) × (l ≡ kind_of a))
  kind_given k true e h f = (kind_tells k e h f refl, e)
  kind_given k false e h f = kind_tells k e h f refl

  pub ask_bad : bad_kind N a ≡ true → 7 ≡ refusal (ask_tests N a)
  unfolding ask_tests
  ask_bad e = sym (refusal_here 7 _ _ e)

  -- and what `ok_or` makes of that
  pub kind_asked : (o : Option Kind) → MatchOption o (bad_kind N a ≡ true) (λ k. (bad_kind N a ≡ false) × (k ≡ kind_of a))
      → (x : Result Kind Refusal) → x ≡ ok_or o refusals.Kind → MatchResult x (λ k. (bad_kind N a ≡ false) × (k ≡ kind_of a)) (λ r. number_of r ≡ refusal (ask_tests N a))
  kind_asked None h x e = rw e (ask_bad h)
  kind_asked (Some k) h x e = rw e h

  pub ask_wide : bad_kind N a ≡ false → most_margin < a.margin → 18 ≡ refusal (ask_tests N a)
  unfolding ask_tests
  ask_wide e h = sym (refusal_next 7 _ _ e ∙ refusal_here 18 _ _ (lt-ltb most_margin a.margin h))

  pub ask_fine : bad_kind N a ≡ false → a.margin ≤ most_margin → 0 ≡ refusal (ask_tests N a)
  unfolding ask_tests
  ask_fine e h = sym (refusal_next 7 _ _ e ∙ refusal_last 18 _ (le-ltb most_margin a.margin h))

  -- the kind's limits hold
  pub ask_limits : refusal (ask_tests N a) ≡ 0 → limits_hold N (kind_of a) ≡ true
  unfolding ask_tests bad_kind
  ask_limits z = not-false _ (or_right (not (leb 1 a.kind && leb a.kind 3)) _ (refusal_none 6 _ _ z).0)

  -- the margin is not too large
  pub ask_margin : refusal (ask_tests N a) ≡ 0 → a.margin ≤ most_margin
  unfolding ask_tests
  ask_margin z = ltb-false most_margin a.margin (refusal_none 17 _ _ (refusal_none 6 _ _ z).1).0

-- ---- the number of bits

pub count_many : (b : ℕ) → most_bits < b → 8 ≡ refusal (count_tests b)
unfolding count_tests
count_many b h = sym (refusal_here 8 _ _ (lt-ltb most_bits b h))

pub count_fine : (b : ℕ) → b ≤ most_bits → 0 ≡ refusal (count_tests b)
unfolding count_tests
count_fine b h = sym (refusal_last 8 _ (le-ltb most_bits b h))

pub count_few : (b : ℕ) → refusal (count_tests b) ≡ 0 → b ≤ most_bits
unfolding count_tests
count_few b z = ltb-false most_bits b (refusal_none 7 _ _ z).0

-- ---- bits

pub bits_test : (x : List ℕ) → ((k : ℕ) → k < length x → get_or x k 0 ≤ 1) → are_bits x ≡ true
unfolding are_bits all
bits_test [] h = refl
bits_test (b ∷ x) h = and_both (leb b 1) _ (le-leb b 1 (h 0 (omega arith))) (bits_test x (λ k l. h (suc k) (omega arith)))

bits_are : (x : List ℕ) → are_bits x ≡ true → Bits x
unfolding are_bits all
bits_are [] e zero = omega arith
bits_are [] e (suc k) = omega arith
bits_are (b ∷ x) e zero = leb-true b 1 (and_left (leb b 1) _ e)
bits_are (b ∷ x) e (suc k) = bits_are x (and_right (leb b 1) _ e) k

-- one byte above 1 is enough
are_no_bits : (x : List ℕ) (k : ℕ) → 1 < get_or x k 0 → are_bits x ≡ false
are_no_bits x k h = go (are_bits x) refl
  where
    go : (t : Bool) → are_bits x ≡ t → t ≡ false
    go true e = absurd (omega (arith, bits_are x e k))
    go false e = refl

-- the first i bytes are at most top, and one of all is no bit where top is none
pub record Topped (x : List ℕ) (i top : ℕ) : Type 0 where
  pub within : (k : ℕ) → k < i → get_or x k 0 ≤ top
  pub reached : 1 < top → are_bits x ≡ false

pub topped_start : (x : List ℕ) → Topped x 0 0
topped_start x = record { within = λ k h. absurd (omega arith); reached = λ h. absurd (omega arith) }

-- a byte more: the greater of the two
pub topped_more : (x : List ℕ) (i top : ℕ) → Topped x i top → Topped x (i + 1) (max top (get_or x i 0))
topped_more x i top t = record {
  within = below_more (λ k. get_or x k 0 ≤ max top (get_or x i 0)) i (λ k l. omega (arith, t.within k l)) (omega arith);
  reached = λ h. elim (dec_le top 1) [ yes l ↦ are_no_bits x i (omega arith) | no l ↦ t.reached (omega arith) ];
}

pub topped_end : (x : List ℕ) (i top : ℕ) → i ≡ length x → Topped x i top → leb top 1 ≡ are_bits x
topped_end x i top e t =
    elim (dec_le top 1) [
      | yes h ↦ le-leb top 1 h ∙ sym (bits_test x (λ k l. omega (arith, t.within k (omega arith))))
      | no h ↦ lt-leb top 1 (omega arith) ∙ sym (t.reached (omega arith))
    ]

-- ---- rows

module _ (bits i room : ℕ) where
  pub row_past : bits ≤ i → 10 ≡ refusal (row_tests bits i room)
  unfolding row_tests
  row_past h = sym (refusal_here 10 _ _ (le-leb bits i h))

  pub row_short : i < bits → room < bits - i → 9 ≡ refusal (row_tests bits i room)
  unfolding row_tests
  row_short h g = sym (refusal_next 10 _ _ (lt-leb bits i h) ∙ refusal_here 9 _ _ (lt-ltb room (bits - i) g))

  pub row_fits : i < bits → bits - i ≤ room → 0 ≡ refusal (row_tests bits i room)
  unfolding row_tests
  row_fits h g = sym (refusal_next 10 _ _ (lt-leb bits i h) ∙ refusal_last 9 _ (le-ltb room (bits - i) g))

  pub row_within : refusal (row_tests bits i room) ≡ 0 → (i < bits) × (bits ≤ i + room)
  unfolding row_tests
  row_within e =
      let e₁ = refusal_none 9 _ _ e in
      let e₂ = refusal_none 8 _ _ e₁.1 in
      let l = leb-false bits i e₁.0 in
      let g = ltb-false room (bits - i) e₂.0 in
      (l, omega arith)

-- ---- energies: b bits are needed

module _ (b : ℕ) (x : List ℕ) where
  pub energy_length : (length x ≡ b → ⊥) → 9 ≡ refusal (energy_tests b x)
  unfolding energy_tests
  energy_length n = sym (refusal_here 9 _ _ (ap not (ne_eqb (length x) b n)))

  pub energy_no_bits : length x ≡ b → not (are_bits x) ≡ true → 11 ≡ refusal (energy_tests b x)
  unfolding energy_tests
  energy_no_bits l u = sym (refusal_next 9 _ _ (ap not (eq-eqb (length x) b l)) ∙ refusal_here 11 _ _ u)

  pub energy_fits : length x ≡ b → not (are_bits x) ≡ false → 0 ≡ refusal (energy_tests b x)
  unfolding energy_tests
  energy_fits l u = sym (refusal_next 9 _ _ (ap not (eq-eqb (length x) b l)) ∙ refusal_last 11 _ u)

  -- they are an assignment
  pub energy_assignment : refusal (energy_tests b x) ≡ 0 → Assignment b x
  unfolding energy_tests
  energy_assignment e =
      let e₁ = refusal_none 8 _ _ e in
      let e₂ = refusal_none 10 _ _ e₁.1 in
      record { size = eqb-true (length x) b (not-false _ e₁.0); bits = bits_are x (not-false _ e₂.0) }

-- ---- codes: b bits and n bytes of a plan are needed, l and k are lent

module _ (b n k l : ℕ) where
  pub lengths_plan : (k ≡ n → ⊥) → 9 ≡ refusal (code_lengths b n k l)
  unfolding code_lengths
  lengths_plan h = sym (refusal_here 9 _ _ (rw (ne_eqb k n h) refl))

  pub lengths_bits : k ≡ n → (l ≡ b → ⊥) → 9 ≡ refusal (code_lengths b n k l)
  unfolding code_lengths
  lengths_bits e h = sym (refusal_here 9 _ _ (rw (eq-eqb k n e, ne_eqb l b h) refl))

  pub lengths_fit : k ≡ n → l ≡ b → 0 ≡ refusal (code_lengths b n k l)
  unfolding code_lengths
  lengths_fit e f = sym (refusal_last 9 _ (rw (eq-eqb k n e, eq-eqb l b f) refl))

  pub lengths_right : refusal (code_lengths b n k l) ≡ 0 → (k ≡ n) × (l ≡ b)
  unfolding code_lengths
  lengths_right e =
      let t = not-false (eqb k n && eqb l b) (refusal_none 8 _ _ e).0 in
      (eqb-true k n (and_left (eqb k n) _ t), eqb-true l b (and_right (eqb k n) _ t))

-- ---- decoding: b bits and n bytes of a plan are needed, k are lent for it

module _ (b n : ℕ) (x : List ℕ) (k : ℕ) where
  pub decode_plan_length : (k ≡ n → ⊥) → 9 ≡ refusal (decode_bytes b n x k)
  unfolding decode_bytes
  decode_plan_length h = sym (refusal_here 9 _ _ (go (eqb (length x) b) (ne_eqb k n h)))
    where
      go : (t : Bool) → eqb k n ≡ false → not (t && eqb k n) ≡ true
      go true e = ap not e
      go false e = refl

  -- the rest is as for an energy
  same_tests : k ≡ n → refusal (energy_tests b x) ≡ refusal (decode_bytes b n x k)
  unfolding energy_tests decode_bytes
  same_tests e = ap (λ (t : Bool). refusal ((9, not t) ∷ (11, not (are_bits x)) ∷ [])) (go (eqb (length x) b) (eq-eqb k n e))
    where
      go : (t : Bool) → eqb k n ≡ true → t ≡ (t && eqb k n)
      go true h = sym h
      go false h = refl

  pub decode_rest : k ≡ n → (r : ℕ) → r ≡ refusal (energy_tests b x) → r ≡ refusal (decode_bytes b n x k)
  decode_rest e r h = h ∙ same_tests e

  pub decode_right : refusal (decode_bytes b n x k) ≡ 0 → Assignment b x × (k ≡ n)
  unfolding decode_bytes
  decode_right e =
      let t = not-false (eqb (length x) b && eqb k n) (refusal_none 8 _ _ e).0 in
      let f = eqb-true k n (and_right (eqb (length x) b) _ t) in
      (energy_assignment b x (same_tests f ∙ e), f)
