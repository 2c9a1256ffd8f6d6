-- Laws of tests, alone and over lists. Assumes nothing.
use Prim.Native.Nat.{ℕ, zero, suc, ◌+◌, ◌≤◌, ◌<◌}
use mathlib.Core.Bool.{Bool, true, false, ◌&&◌, ◌||◌, true≢false, false≢true}
use mathlib.Core.Path.{◌≡◌, refl, sym, ap, ap₂, ◌∙◌, subst}
use mathlib.Core.List.{List, [], ◌∷◌, ◌++◌, Memᴰ}
use lib.ListN.{length, get_or}
use native.Mathlib.Omega.{arith}
use native.Mathlib.Decide.{ℕ_discrete}
use lib.Dec.{eqb}
use borrow.Author.Tests.{eqb-true, eqb-false, eq-eqb}
use Rattle.lists.specs.Tests.{every, all, alike, from}

-- ---- both, either

pub and_left : (a b : Bool) → (a && b) ≡ true → a ≡ true
and_left true b e = refl
and_left false b e = e

pub and_right : (a b : Bool) → (a && b) ≡ true → b ≡ true
and_right true b e = e
and_right false b e = absurd (false≢true e)

pub and_both : (a b : Bool) → a ≡ true → b ≡ true → (a && b) ≡ true
and_both a b e f = rw (e, f)

pub and_true : (b : Bool) → (b && true) ≡ b
and_true true = refl
and_true false = refl

pub or_left : (a b : Bool) → (a || b) ≡ false → a ≡ false
or_left true b e = e
or_left false b e = refl

pub or_right : (a b : Bool) → (a || b) ≡ false → b ≡ false
or_right true b e = absurd (true≢false e)
or_right false b e = e

-- two tests that imply each other are one
pub same_test : (a b : Bool) → (a ≡ true → b ≡ true) → (b ≡ true → a ≡ true) → a ≡ b
same_test true b f g = sym (f refl)
same_test false true f g = g refl
same_test false false f g = refl

-- an equation of numbers, or its refutation
pub data Equal (a b : ℕ) : Type 0 where
  equal : a ≡ b → Equal a b
  other : (a ≡ b → ⊥) → Equal a b

pub equal? : (a b : ℕ) → Equal a b
equal? a b = go (eqb a b) refl
  where
    go : (t : Bool) → eqb a b ≡ t → Equal a b
    go true e = equal (eqb-true a b e)
    go false e = other (eqb-false a b e)

-- ---- over lists

pub every_at : (ts : List Bool) (i : ℕ) → every ts ≡ true → get_or ts i true ≡ true
unfolding every
every_at [] i e = refl
every_at (t ∷ ts) zero e = and_left t _ e
every_at (t ∷ ts) (suc i) e = every_at ts i (and_right t _ e)

module _ {A : Type 0} (p : A → Bool) where
  pub all_head : (x : A) (xs : List A) → all p (x ∷ xs) ≡ true → p x ≡ true
  unfolding all
  all_head x xs e = and_left (p x) _ e

  pub all_tail : (x : A) (xs : List A) → all p (x ∷ xs) ≡ true → all p xs ≡ true
  unfolding all
  all_tail x xs e = and_right (p x) _ e

  pub all_cons : (x : A) (xs : List A) → p x ≡ true → all p xs ≡ true → all p (x ∷ xs) ≡ true
  unfolding all
  all_cons x xs e f = and_both (p x) _ e f

  pub all_append : (xs ys : List A) → all p xs ≡ true → all p ys ≡ true → all p (xs ++ ys) ≡ true
  unfolding all
  all_append [] ys e f = f
  all_append (x ∷ xs) ys e f = and_both (p x) _ (and_left (p x) _ e) (all_append xs ys (and_right (p x) _ e) f)

  -- what holds of all holds of each member
  pub all_member : (xs : List A) → all p xs ≡ true → (x : A) → Memᴰ x xs → p x ≡ true
  all_member [] e x i = elim i [ ]
  all_member (y ∷ ys) e x (Memᴰ.head q) = ap p q ∙ all_head y ys e
  all_member (y ∷ ys) e x (Memᴰ.tail i) = all_member ys (all_tail y ys e) x i

-- ---- over the n numbers from a on

pub length_from : (a n : ℕ) → length (from a n) ≡ n
unfolding from
length_from a zero = refl
length_from a (suc n) = ap suc (length_from (suc a) n)

module _ (p : ℕ → Bool) where
  -- what holds of all of them holds of each
  pub all_from : (a n v : ℕ) → all p (from a n) ≡ true → a ≤ v → v < a + n → p v ≡ true
  unfolding from
  all_from a zero v e l h = absurd (omega arith)
  all_from a (suc n) v e l h =
      elim (ℕ_discrete a v) [
        | yes q ↦ ap p (sym q) ∙ all_head p a (from (suc a) n) e
        | no q ↦ all_from (suc a) n v (all_tail p a (from (suc a) n) e) (omega arith) (omega arith)
      ]

  -- what holds of each holds of all
  pub from_all : (a n : ℕ) → ((v : ℕ) → a ≤ v → v < a + n → p v ≡ true) → all p (from a n) ≡ true
  unfolding from all
  from_all a zero h = refl
  from_all a (suc n) h = all_cons p a (from (suc a) n) (h a (omega arith) (omega arith)) (from_all (suc a) n (λ v l k. h v (omega arith) (omega arith)))

  -- what fails for one does not hold of all
  pub from_not : (a n v : ℕ) → a ≤ v → v < a + n → p v ≡ false → all p (from a n) ≡ false
  from_not a n v l h e = go (all p (from a n)) refl
    where
      go : (t : Bool) → all p (from a n) ≡ t → t ≡ false
      go true q = absurd (true≢false (sym (all_from a n v q l h) ∙ e))
      go false q = refl

-- what holds of 1..k and of the next number holds of 1..k + 1
pub each_next : (P : ℕ → Type 0) (k : ℕ) → ((v : ℕ) → 1 ≤ v → v ≤ k → P v) → P (k + 1) → (v : ℕ) → 1 ≤ v → v ≤ k + 1 → P v
each_next P k f g v a b = elim (ℕ_discrete v (k + 1)) [ yes e ↦ subst P (sym e) g | no e ↦ f v a (omega arith) ]

-- ---- lists with the same entries are equal

pub alike_same : (xs ys : List ℕ) → alike xs ys ≡ true → xs ≡ ys
unfolding alike
alike_same [] [] e = refl
alike_same [] (y ∷ ys) e = absurd (false≢true e)
alike_same (x ∷ xs) [] e = absurd (false≢true e)
alike_same (x ∷ xs) (y ∷ ys) e = ap₂ ◌∷◌ (eqb-true x y (and_left (eqb x y) _ e)) (alike_same xs ys (and_right (eqb x y) _ e))

alike_self : (xs : List ℕ) → alike xs xs ≡ true
unfolding alike
alike_self [] = refl
alike_self (x ∷ xs) = and_both (eqb x x) _ (eq-eqb x x refl) (alike_self xs)

pub same_alike : (xs ys : List ℕ) → xs ≡ ys → alike xs ys ≡ true
same_alike xs ys e = subst (λ (zs : List ℕ). alike xs zs ≡ true) e (alike_self xs)
