-- What an answer says once it is numbers. Assumes nothing.
use Rattle.std.proofs.Common.{ℕ, zero, suc, ◌≡◌, refl, sym, ap, ◌∙◌}
use Rattle.std.specs.Prelude.{ℤ, pos, Result, Ok, Err, MatchResult, IsOkAnd, IfOk, ◌<◌}
use Rattle.site.specs.Refusal.{unless_refused, number_of}
use Rattle.site.specs.declared.refusals.Refusal.{Refusal}
use Rattle.site.proofs.Refused.{done, kept}
use Rattle.plans.specs.Answers.{Value, Refused, answer, told}

module _ {A : Type 0} where
  -- a value is given where nothing is refused
  given : (r : ℕ) (y z : A) → Value y ≡ answer r z → (0 ≡ r) × (y ≡ z)
  given zero y z e = (refl, cc)
  given (suc r) y z e = cc

  withheld : (n r : ℕ) (z : A) → Refused n ≡ answer r z → (n ≡ r) × (r ≡ 0 → ⊥)
  withheld n zero z e = cc
  withheld n (suc r) z e = (cc, λ q. let y : ⊥ = cc in y)

  -- and each number made of it is then that of the value, and else 0
  module _ {B : Type 0} (f : A → B) (b : B) where
    pub given_is : (r : ℕ) (y z : A) → Value y ≡ answer r z → (0 ≡ r) × (f y ≡ unless_refused r (f z) b)
    given_is r y z e = let g = given r y z e in (g.0, ap f g.1 ∙ sym (done r (f z) b (sym g.0)))

    pub withheld_is : (n r : ℕ) (z : A) → Refused n ≡ answer r z → (n ≡ r) × (b ≡ unless_refused r (f z) b)
    withheld_is n r z e = let g = withheld n r z e in (g.0, sym (kept r (f z) b g.1))

-- whatever the value would be
withheld_same : {A B : Type 0} (n r : ℕ) (z : A) (w : B) → Refused n ≡ answer r z → Refused n ≡ answer r w
withheld_same n zero z w e = cc
withheld_same n (suc r) z w e = ap Refused (withheld n (suc r) z e).0

given_same : {A : Type 0} (r : ℕ) (y w : A) → 0 ≡ r → y ≡ w → Value y ≡ answer r w
given_same r y w e f = rw (← e, f)

-- a count below 2^63 crosses as a number with a sign
pub counted : (P : ℕ → ℤ → Type 0) → ((x : ℕ) (y : ℤ) → x < 9223372036854775808 → P x y → y ≡ pos x) → (o : Result ℕ Refusal) (m : Result ℤ Refusal) (r b : ℕ) → (IfOk o (λ x. x < 9223372036854775808)) → MatchResult o (λ x. IsOkAnd m (P x)) (λ e. m ≡ Err e) → told o ≡ answer r b → told m ≡ answer r (pos b)
counted P p (Err e) m r b l h q = rw h (withheld_same (number_of e) r b (pos b) q)
counted P p (Ok x) (Err e) r b l h q = absurd h
counted P p (Ok x) (Ok y) r b l h q = let g = given r x b q in given_same r y (pos b) g.0 (p x y l h ∙ ap pos g.1)
