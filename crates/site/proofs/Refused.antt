-- Laws of refusals: which number is given, and what is left then. Assumes nothing.
use Prim.Native.Nat.{ℕ, suc, ◌≤◌, ◌<◌}
use mathlib.Core.Bool.{Bool, true, false, not, ◌||◌, cond}
use mathlib.Core.Path.{◌≡◌, refl}
use mathlib.Core.List.{List, [], ◌∷◌}
use lib.ListN.{length}
use lib.Dec.{eqb, ltb}
use borrow.Author.Tests.{eq-eqb, ne_eqb, eqb-false, ltb-true, ltb-false, not-false}
use native.Mathlib.Omega.{arith}
use native.Mathlib.Nat.{suc-ne-zero}
use Rattle.lists.specs.Tests.{some}
use Rattle.links.specs.Links.{bad_ends, low, high, present}
use Rattle.lists.proofs.Tests.{or_left, or_right}
use Rattle.site.specs.Layout.{SIZE, METERS, meters, first_free}
use Rattle.site.specs.Image.{links, valid}
use Rattle.site.specs.Refusal.{refusal, unless_refused}
use Rattle.site.specs.Edits.{check_refusal, begin_bytes, begin_refusal, begin_image, add_bytes, add_refusal, add_image, remove_bytes, remove_refusal, remove_image}
use Rattle.site.specs.Inner.{find_refusal}

-- the first that applies is given
pub refusal_here : (n : ℕ) (t : Bool) (xs : List (ℕ × Bool)) → t ≡ true → refusal ((n, t) ∷ xs) ≡ n
unfolding refusal
refusal_here n t xs e = rw e

-- one that does not is passed over
pub refusal_next : (n : ℕ) (t : Bool) (xs : List (ℕ × Bool)) → t ≡ false → refusal ((n, t) ∷ xs) ≡ refusal xs
unfolding refusal
refusal_next n t xs e = rw e

-- past the last one, 0 is given
pub refusal_last : (n : ℕ) (t : Bool) → t ≡ false → refusal ((n, t) ∷ []) ≡ 0
unfolding refusal
refusal_last n t e = rw e

-- where 0 is given none applies
pub refusal_none : (n : ℕ) (t : Bool) (xs : List (ℕ × Bool)) → refusal ((suc n, t) ∷ xs) ≡ 0 → (t ≡ false) × (refusal xs ≡ 0)
unfolding refusal
refusal_none n true xs e = absurd (suc-ne-zero n e)
refusal_none n false xs e = (refl, e)

-- a call that is not refused leaves what it makes
pub done : {A : Type 0} (r : ℕ) (t s : A) → r ≡ 0 → unless_refused r t s ≡ t
unfolding unless_refused
done r t s e = rw (eq-eqb r 0 e)

-- a call that is refused leaves all as it was
pub kept : {A : Type 0} (r : ℕ) (t s : A) → (r ≡ 0 → ⊥) → unless_refused r t s ≡ s
unfolding unless_refused
kept r t s e = rw (ne_eqb r 0 e)

-- ---- what the number 0 says

-- of add
pub add_zero : (s : List ℕ) (a b w : ℕ) → add_refusal s a b w ≡ 0 → (valid s ≡ true) × (bad_ends (meters s) a b ≡ false) × (eqb w 0 ≡ false) × (present (low a b) (high a b) (links s) ≡ false) × (eqb (first_free s) 0 ≡ false)
unfolding add_refusal
add_zero s a b w e =
    let e₁ = refusal_none 0 _ _ e in
    let e₂ = refusal_none 1 _ _ e₁.1 in
    let e₃ = refusal_none 2 _ _ e₂.1 in
    let e₄ = refusal_none 3 _ _ e₃.1 in
    let e₆ = refusal_none 5 _ _ e₄.1 in
    (not-false (valid s) e₁.0, e₂.0, e₃.0, e₄.0, e₆.0)

-- of remove
pub remove_zero : (s : List ℕ) (a b : ℕ) → remove_refusal s a b ≡ 0 → (valid s ≡ true) × (bad_ends (meters s) a b ≡ false) × (present (low a b) (high a b) (links s) ≡ true)
unfolding remove_refusal
remove_zero s a b e =
    let e₁ = refusal_none 0 _ _ e in
    let e₂ = refusal_none 1 _ _ e₁.1 in
    let e₅ = refusal_none 4 _ _ e₂.1 in
    (not-false (valid s) e₁.0, e₂.0, not-false (present (low a b) (high a b) (links s)) e₅.0)

-- ends that are not refused, in order
pub ends_order : (n a b : ℕ) → bad_ends n a b ≡ false → (1 ≤ low a b) × (low a b < high a b) × (high a b ≤ n)
unfolding bad_ends some low high
ends_order n a b e = go (ltb a b) refl
  where
    e₁ : (ltb n a || (eqb b 0 || (ltb n b || (eqb a b || false)))) ≡ false
    e₁ = or_right (eqb a 0) _ e

    e₂ : (eqb b 0 || (ltb n b || (eqb a b || false))) ≡ false
    e₂ = or_right (ltb n a) _ e₁

    e₃ : (ltb n b || (eqb a b || false)) ≡ false
    e₃ = or_right (eqb b 0) _ e₂

    a_lo : a ≡ 0 → ⊥
    a_lo = eqb-false a 0 (or_left (eqb a 0) _ e)

    a_hi : a ≤ n
    a_hi = ltb-false n a (or_left (ltb n a) _ e₁)

    b_lo : b ≡ 0 → ⊥
    b_lo = eqb-false b 0 (or_left (eqb b 0) _ e₂)

    b_hi : b ≤ n
    b_hi = ltb-false n b (or_left (ltb n b) _ e₃)

    apart : a ≡ b → ⊥
    apart = eqb-false a b (or_left (eqb a b) _ (or_right (ltb n b) _ e₃))

    go : (t : Bool) → ltb a b ≡ t → (1 ≤ cond (ltb a b) a b) × (cond (ltb a b) a b < cond (ltb a b) b a) × (cond (ltb a b) b a ≤ n)
    go true q = let l = ltb-true a b q in rw q (omega (arith, a_lo), l, b_hi)
    go false q = let l = ltb-false a b q in rw q (omega (arith, b_lo), omega (arith, apart), a_hi)

-- ---- what each call tells and leaves, by its tests

pub check_number : (s : List ℕ) → check_refusal s ≡ cond (not (valid s)) 1 0
unfolding check_refusal refusal
check_number s = refl

module _ (s : List ℕ) (n : ℕ) where
  pub begin_number : begin_refusal s n ≡ cond (not (eqb (length s) SIZE)) 1 (cond (ltb n 1 || ltb METERS n) 7 0)
  unfolding begin_refusal refusal
  begin_number = refl

  pub begin_leaves : begin_image s n ≡ cond (eqb (begin_refusal s n) 0) (begin_bytes n) s
  unfolding begin_image unless_refused
  begin_leaves = refl

-- what add and remove refuse alike
pub find_number : (s : List ℕ) (a b : ℕ) → find_refusal s a b ≡ cond (not (valid s)) 1 (cond (bad_ends (meters s) a b) 2 0)
unfolding find_refusal refusal
find_number s a b = refl

-- and each of them then by itself
shared : (p q : Bool) (n : ℕ) → cond p 1 (cond q 2 n) ≡ cond (eqb (cond p 1 (cond q 2 0)) 0) n (cond p 1 (cond q 2 0))
shared true q n = refl
shared false true n = refl
shared false false n = refl

module _ (s : List ℕ) (a b w : ℕ) where
  pub add_number : add_refusal s a b w ≡ cond (eqb (find_refusal s a b) 0) (cond (eqb w 0) 3 (cond (present (low a b) (high a b) (links s)) 4 (cond (eqb (first_free s) 0) 6 0))) (find_refusal s a b)
  unfolding add_refusal find_refusal refusal
  add_number = shared (not (valid s)) (bad_ends (meters s) a b) _

  pub add_leaves : add_image s a b w ≡ cond (eqb (add_refusal s a b w) 0) (add_bytes s (low a b) (high a b) w) s
  unfolding add_image unless_refused
  add_leaves = refl

module _ (s : List ℕ) (a b : ℕ) where
  pub remove_number : remove_refusal s a b ≡ cond (eqb (find_refusal s a b) 0) (cond (not (present (low a b) (high a b) (links s))) 5 0) (find_refusal s a b)
  unfolding remove_refusal find_refusal refusal
  remove_number = shared (not (valid s)) (bad_ends (meters s) a b) _

  pub remove_leaves : remove_image s a b ≡ cond (eqb (remove_refusal s a b) 0) (remove_bytes s (low a b) (high a b)) s
  unfolding remove_image unless_refused
  remove_leaves = refl
