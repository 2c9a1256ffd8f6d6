-- Runs of bits: which bits a run has, and what of it comes after one of its bits.
-- Assumes nothing.
use mathlib.Core.Path.{◌≡◌, refl, sym, ap, ap₂, ◌∙◌}
use Prim.Native.Nat.{ℕ, zero, suc, pred, ◌+◌, ◌-◌, ◌*◌, ◌/◌, ◌%◌, ◌^◌, ◌≤◌, ◌<◌}
use native.Mathlib.Nat.{mul-le-mul_right, add-mul, div-add-mod', mod-lt}
use native.Mathlib.Omega.{arith}
use native.Mathlib.Decide.{dec_lt}
use mathlib.Core.Bool.{Bool, true, false}
use Rattle.std.specs.Bool.{then_some}
use Rattle.std.specs.Prelude.{MatchOption}
use lib.IntN.{ℤ, pos, ◌+ℤ◌, +ℤ_idl}
use Rattle.qubo.specs.Table.{only, coef}
use Rattle.qubo.specs.Rows.{run_bit, run_sum, RunBelow, IsNumber, later}
use Rattle.qubo.specs.declared.Run.{Run}
use Rattle.qubo.proofs.TableValue.{only_same, only_other}
use Rattle.qubo.proofs.Families.{sum_each, sum_each_none, sum_each_only, sum_each_eq, sum_each_split, coef_bits}
use Rattle.qubo.proofs.RowTerms.{only_shift}

-- ---- runs that lie in a table
-- the way in: the run ends before `top` and a step
pub run_below : (r : Run) (top : ℕ) → 1 ≤ r.step → r.start + r.count * r.step < top + r.step → top + r.step ≤ 2 ^ 63 → RunBelow r top
run_below r top h l e =
    record {
      apart = h;
      inside = λ t g. omega (arith, mul-le-mul_right r.step (let k : t + 1 ≤ r.count = omega arith in k), add-mul t 1 r.step);
      end = omega arith;
    }

-- in an equally long table
pub run_same_top : (r : Run) (top other : ℕ) → top ≡ other → RunBelow r top → RunBelow r other
run_same_top r top other e h = record { apart = h.apart; inside = λ t l. omega (arith, h.inside t l); end = h.end }

-- ---- a bit of a run
module _ (r : Run) (i t : ℕ) (top : ℕ) (h : RunBelow r top) (n : IsNumber r i t) where
  pub later_below : RunBelow (later r i t) top
  later_below =
      record {
        apart = h.apart;
        inside = λ s l. omega (arith, n.here, h.inside (t + 1 + s) (omega arith), add-mul (t + 1) s r.step, add-mul t 1 r.step);
        end = omega (arith, n.here, h.end, n.below, ap (λ (k : ℕ). k * r.step) (let e : r.count ≡ t + 1 + (r.count - (t + 1)) = omega (arith, n.below) in e), add-mul (t + 1) (r.count - (t + 1)) r.step, add-mul t 1 r.step);
      }

-- ---- bits that a run has not
pub run_lacks : (r : Run) (i : ℕ) → ((t : ℕ) → t < r.count → r.start + t * r.step ≡ i → ⊥) → coef (run_sum r) i ≡ pos 0
run_lacks r i h =
    coef_bits (pos 1) r.count (run_bit r) i
    ∙ sum_each_none r.count (λ k. only (run_bit r k) (pos 1) i) (λ k a b. only_other (run_bit r k) i (pos 1) (none k a b))
  where
    none : (k : ℕ) → 1 ≤ k → k ≤ r.count → run_bit r k ≡ i → ⊥
    none zero a b e = omega arith
    none (suc t) a b e = h t b e

-- bit i lies before a run
pub run_before : (r : Run) (i : ℕ) → i < r.start → coef (run_sum r) i ≡ pos 0
run_before r i l = run_lacks r i (λ t _ e. omega arith)

module _ (r : Run) (i : ℕ) (h : 1 ≤ r.step) (l : r.start ≤ i) where
  abbrev quotient : ℕ
  quotient = (i - r.start) / r.step

  -- it lies between two of its bits
  pub run_between : ((i - r.start) % r.step ≡ 0 → ⊥) → coef (run_sum r) i ≡ pos 0
  run_between ne = run_lacks r i (λ t _ e. off t (omega arith))
    where
      off : (t : ℕ) → t * r.step ≡ i - r.start → ⊥
      off t e = elim (dec_lt quotient t) [
        | yes g ↦ omega (arith, div-add-mod' (i - r.start) r.step, mod-lt (i - r.start) h, mul-le-mul_right r.step g, add-mul quotient 1 r.step)
        | no g ↦ (let k : t ≤ quotient = omega arith in omega (arith, div-add-mod' (i - r.start) r.step, mul-le-mul_right r.step k))
      ]

  -- it is in step with the run: the quotient is its number, unless the run has ended before
  pub run_number : (i - r.start) % r.step ≡ 0 → (quotient < r.count → IsNumber r i quotient) × (r.count ≤ quotient → coef (run_sum r) i ≡ pos 0)
  run_number z = (λ g. record { below = g; here = omega (arith, whole) }, λ g. run_lacks r i (λ t k e. past t (omega arith) (omega arith)))
    where
      whole : quotient * r.step ≡ i - r.start
      whole = omega (arith, div-add-mod' (i - r.start) r.step)

      past : (t : ℕ) → t + 1 ≤ quotient → t * r.step ≡ i - r.start → ⊥
      past t k e = omega (arith, whole, mul-le-mul_right r.step k, add-mul t 1 r.step)

-- ---- a bit that it has, once
pub run_has : (r : Run) (i t : ℕ) → 1 ≤ r.step → IsNumber r i t → coef (run_sum r) i ≡ pos 1
run_has r i t h n =
    coef_bits (pos 1) r.count (run_bit r) i
    ∙ sum_each_only r.count (λ k. only (run_bit r k) (pos 1) i) (suc t) (omega arith) n.below (λ k a b ne. only_other (run_bit r k) i (pos 1) (apart k a ne))
    ∙ ap (λ (j : ℕ). only j (pos 1) i) n.here ∙ only_same i (pos 1)
  where
    apart : (k : ℕ) → 1 ≤ k → (k ≡ suc t → ⊥) → run_bit r k ≡ i → ⊥
    apart zero a ne e = omega arith
    apart (suc s) a ne e = elim (dec_lt s t) [
      | yes l ↦ omega (arith, n.here, mul-le-mul_right r.step l, add-mul s 1 r.step)
      | no l ↦ (let g : t + 1 ≤ s = omega arith in omega (arith, n.here, mul-le-mul_right r.step g, add-mul t 1 r.step))
    ]

-- ---- a run from one of its bits on: that bit, and those after it
pub later_coef : (r : Run) (i t : ℕ) → 1 ≤ r.step → IsNumber r i t → (k : ℕ) → coef (run_sum r) (i + k) ≡ only 0 (pos 1) k +ℤ coef (run_sum (later r i t)) (i + k)
later_coef r i t h n k =
    coef_bits (pos 1) r.count (run_bit r) (i + k)
    ∙ ap (λ (c : ℕ). sum_each c f) count
    ∙ sum_each_split (suc t) m f
    ∙ ap₂ ◌+ℤ◌ (ap₂ ◌+ℤ◌ (sum_each_none t f earlier) own ∙ +ℤ_idl (only 0 (pos 1) k)) (sum_each_eq m (λ s. f (suc t + s)) (λ s. only (run_bit (later r i t) s) (pos 1) (i + k)) after)
    ∙ ap (λ z. only 0 (pos 1) k +ℤ z) (sym (coef_bits (pos 1) m (run_bit (later r i t)) (i + k)))
  where
    m : ℕ
    m = r.count - (t + 1)

    f : ℕ → ℤ
    f s = only (run_bit r s) (pos 1) (i + k)

    count : r.count ≡ suc t + m
    count = omega (arith, n.below)

    -- the bits before are below i
    earlier : (s : ℕ) → 1 ≤ s → s ≤ t → f s ≡ pos 0
    earlier zero a b = absurd (omega arith)
    earlier (suc s) a b = only_other (run_bit r (suc s)) (i + k) (pos 1) (λ e. omega (arith, n.here, mul-le-mul_right r.step (let g : s + 1 ≤ t = omega arith in g), add-mul s 1 r.step))

    own : f (suc t) ≡ only 0 (pos 1) k
    own = ap (λ (j : ℕ). only j (pos 1) (i + k)) n.here ∙ only_shift i (pos 1) i k (omega arith) ∙ ap (λ (j : ℕ). only j (pos 1) k) (let z : i - i ≡ 0 = omega arith in z)

    after : (s : ℕ) → 1 ≤ s → s ≤ m → f (suc t + s) ≡ only (run_bit (later r i t) s) (pos 1) (i + k)
    after zero a b = absurd (omega arith)
    after (suc s) a b = ap (λ (j : ℕ). only j (pos 1) (i + k)) (ap (λ (p : ℕ). r.start + p * r.step) (ap pred (let e : suc t + suc s ≡ suc (t + suc s) = omega arith in e)) ∙ omega (arith, n.here, add-mul t (suc s) r.step, add-mul s 1 r.step, ap (λ (p : ℕ). p * r.step) (let e : suc s ≡ s + 1 = omega arith in e)))

-- ---- what a test tells of a number

pub number_told : (P : Type 0) (Q : ℕ → Type 0) (b : Bool) (t : ℕ) → (b ≡ true → Q t) → (b ≡ false → P) → MatchOption (then_some b t) P Q
number_told P Q true t y n = y refl
number_told P Q false t y n = n refl
