-- Laws of the order of ℤ that lib.Signed lacks. The order is a sum with a natural number: a ≤ b just where b ≡ a + n, and the laws follow from those of the sum.
-- Assumes nothing.
use mathlib.Core.Path.{◌≡◌, sym, ap, ◌∙◌, subst}
use mathlib.Core.Logic.{◌⊎◌, inl, inr}
use mathlib.Core.Bool.{Bool, true, false, cond}
use Prim.Native.Nat.{ℕ, suc, ◌+◌, ◌-◌, ◌≤◌}
use native.Mathlib.Nat.{le_antisymm}
use native.Mathlib.Decide.{dec_le}
use native.Mathlib.Omega.{arith}
use lib.Dec.{T, ltb, leb→le, le→leb}
use lib.IntN.{ℤ, pos, negsuc, neg_ℤ, nat_abs, ◌+ℤ◌, +ℤ_idl, +ℤ_assoc, +ℤ_invl, neg_ℤ-+ℤ, -ℤ-+ℤ_cancel}
use lib.Signed.{mag, le_z, ◌≤ℤ◌, le_z_yes}

diff : (a b : ℤ) → T (le_z a b) → (n : ℕ) × (b ≡ a +ℤ pos n)
diff (pos a) (pos b) t = let h = leb→le a b t in let e : b ≡ a + (b - a) = omega arith in (b - a, ap pos e)
diff (pos a) (negsuc b) t = absurd t
diff (negsuc a) (pos b) t = (suc a + b, sym (sym (+ℤ_assoc (negsuc a) (pos (suc a)) (pos b)) ∙ ap (λ z. z +ℤ pos b) (+ℤ_invl (pos (suc a))) ∙ +ℤ_idl (pos b)))
diff (negsuc a) (negsuc b) t =
    let h = leb→le b a t in
    let e : suc a ≡ suc b + (a - b) = omega arith in
    (a - b, sym (ap (λ (k : ℕ). neg_ℤ (pos k) +ℤ pos (a - b)) e ∙ ap (λ z. z +ℤ pos (a - b)) (neg_ℤ-+ℤ (pos (suc b)) (pos (a - b))) ∙ -ℤ-+ℤ_cancel (negsuc b) (pos (a - b))))

le_sum : (a : ℤ) (n : ℕ) → T (le_z a (a +ℤ pos n))
le_sum (pos a) n = le→leb a (a + n) (omega arith)
le_sum (negsuc a) n = go (ltb n (suc a))
  where
    go : (t : Bool) → T (le_z (negsuc a) (cond t (negsuc (suc a - suc n)) (pos (n - suc a))))
    go true = le→leb (suc a - suc n) a (omega arith)
    go false = tt

-- the two ways between the order and the sum
pub ≤ℤ_diff : {a b : ℤ} → a ≤ℤ b → (n : ℕ) × (b ≡ a +ℤ pos n)
≤ℤ_diff {a} {b} h = diff a b h.le

pub ≤ℤ_of_diff : {a b : ℤ} (n : ℕ) → b ≡ a +ℤ pos n → a ≤ℤ b
≤ℤ_of_diff {a} {b} n e = le_z_yes (subst (λ z. T (le_z a z)) (sym e) (le_sum a n))

pub ≤ℤ_trans : {a b c : ℤ} → a ≤ℤ b → b ≤ℤ c → a ≤ℤ c
≤ℤ_trans {a} {b} {c} h k =
    let (n, e) = ≤ℤ_diff h in
    let (m, f) = ≤ℤ_diff k in
    ≤ℤ_of_diff (n + m) (f ∙ ap (λ z. z +ℤ pos m) e ∙ +ℤ_assoc a (pos n) (pos m))

antisymm : (a b : ℤ) → T (le_z a b) → T (le_z b a) → a ≡ b
antisymm (pos a) (pos b) h k = ap pos (le_antisymm (leb→le a b h) (leb→le b a k))
antisymm (pos a) (negsuc b) h k = absurd h
antisymm (negsuc a) (pos b) h k = absurd k
antisymm (negsuc a) (negsuc b) h k = ap negsuc (le_antisymm (leb→le a b k) (leb→le b a h))

pub ≤ℤ_antisymm : {a b : ℤ} → a ≤ℤ b → b ≤ℤ a → a ≡ b
≤ℤ_antisymm {a} {b} h k = antisymm a b h.le k.le

-- ---- the order of ℤ on numbers from 0
pub ≤ℤ_pos : {a b : ℕ} → a ≤ b → pos a ≤ℤ pos b
≤ℤ_pos {a} {b} h = le_z_yes (le→leb a b h)

pub pos-≤ℤ : {a b : ℕ} → pos a ≤ℤ pos b → a ≤ b
pos-≤ℤ {a} {b} h = leb→le a b h.le

-- of two numbers one is at most the other
pub ≤ℤ_total : (a b : ℤ) → (a ≤ℤ b) ⊎ (b ≤ℤ a)
≤ℤ_total (pos a) (pos b) = elim (dec_le a b) [ yes h ↦ inl (≤ℤ_pos h) | no h ↦ inr (≤ℤ_pos (omega arith)) ]
≤ℤ_total (pos a) (negsuc b) = inr (le_z_yes tt)
≤ℤ_total (negsuc a) (pos b) = inl (le_z_yes tt)
≤ℤ_total (negsuc a) (negsuc b) = elim (dec_le b a) [ yes h ↦ inl (le_z_yes (le→leb b a h)) | no h ↦ inr (le_z_yes (le→leb a b (omega arith))) ]

-- ---- that a number fits a signed width, from a bound of its absolute value
pub mag_nat_abs : (z : ℤ) → mag z ≤ nat_abs z
mag_nat_abs (pos n) = omega arith
mag_nat_abs (negsuc n) = omega arith
