-- The one-hot penalty: its value, its constant and its norm. Assumes nothing.
use Prim.Native.Nat.{ℕ, zero, suc, ◌+◌, ◌-◌, ◌*◌, ◌^◌, ◌≤◌}
use mathlib.Core.Path.{◌≡◌, refl, sym, ap, ◌∙◌}
use mathlib.Core.List.{List}
use native.Mathlib.Omega.{arith}
use native.Mathlib.Nat.{le_trans, mul-le-mul}
use lib.ListN.{get_or}
use lib.IntN.{pos, negsuc, sub_ℕ, ◌-ℤ◌, ◌*ℤ◌}
use mir.Syntax.{w64}
use mir.Val.{to_z}
use mir.Facts.{to_z_pos}
use borrow.Author.Tests.{lt-ltb}
use Rattle.lists.specs.Sums.{sum_to}
use Rattle.lists.proofs.Sums.{sum_to_const}
use Rattle.qubo.specs.Formula.{term_value, value}
use Rattle.qubo.specs.Table.{term_constant, constant_of}
use Rattle.qubo.specs.Norm.{formula_norm}
use Rattle.qubo.specs.Terms.{one_hot}
use Rattle.qubo.proofs.Families.{sum_each_eq, sum_each_times, sum_each_pos, sum_over_each, constant_sum, norm_each}
use Rattle.qubo.proofs.Values.{value_sum, one_hot_value}
use Rattle.qubo.proofs.RowShapes.{one_hot_norm}
use Rattle.onehot.specs.Choices.{bit_number, bit_at, set_at, one_hots, miss_squared, misses}

below : (k : ℕ) → sub_ℕ 1 (suc (suc k)) ≡ negsuc k
below k =
    let e : suc (suc k) - 2 ≡ k = omega arith in
    rw (lt-ltb 1 (suc (suc k)) (omega arith), e) refl

-- `miss_squared k` is (1 - k)² in ℤ
pub miss_squared_whole : (k : ℕ) → pos (miss_squared k) ≡ (pos 1 -ℤ pos k) *ℤ (pos 1 -ℤ pos k)
unfolding miss_squared
miss_squared_whole zero = refl
miss_squared_whole (suc zero) = refl
miss_squared_whole (suc (suc k)) = rw (below k) refl

meter_value : (A n : ℕ) (x : List ℕ) (v : ℕ) → term_value (one_hot (pos A) n (bit_number n v)) x ≡ pos A *ℤ pos (miss_squared (set_at n (bit_at n x) v))
unfolding set_at bit_at
meter_value A n x v =
    one_hot_value (pos A) n (bit_number n v) x
    ∙ ap (λ z. pos A *ℤ ((pos 1 -ℤ z) *ℤ (pos 1 -ℤ z))) (sum_each_pos n (λ i. get_or x (bit_number n v i) 0))
    ∙ ap (λ z. pos A *ℤ z) (sym (miss_squared_whole (sum_to n (λ i. get_or x (bit_number n v i) 0))))

-- the value of the penalty is A times the sum of the squares
pub one_hots_value : (A N n : ℕ) (x : List ℕ) → value (one_hots A N n) x ≡ pos (A * misses N n (bit_at n x))
unfolding one_hots misses
one_hots_value A N n x =
    value_sum (one_hots A N n) x
    ∙ sum_over_each N (λ v. one_hot (pos A) n (bit_number n v)) (λ t. term_value t x)
    ∙ sum_each_eq N (λ v. term_value (one_hot (pos A) n (bit_number n v)) x) (λ v. pos A *ℤ pos (miss_squared (set_at n (bit_at n x) v))) (λ v p q. meter_value A n x v)
    ∙ sym (sum_each_times (pos A) N (λ v. pos (miss_squared (set_at n (bit_at n x) v))))
    ∙ ap (λ z. pos A *ℤ z) (sum_each_pos N (λ v. miss_squared (set_at n (bit_at n x) v)))

-- its constant is A for each meter
pub one_hots_constant : (A N n : ℕ) → constant_of (one_hots A N n) ≡ pos (A * N)
unfolding one_hots
one_hots_constant A N n =
    constant_sum (one_hots A N n)
    ∙ sum_over_each N (λ v. one_hot (pos A) n (bit_number n v)) term_constant
    ∙ sum_each_eq N (λ v. term_constant (one_hot (pos A) n (bit_number n v))) (λ v. pos A) (λ v p q. ap pos (let e : A * 1 ≡ A = omega arith in e))
    ∙ sum_each_pos N (λ v. A)
    ∙ ap pos (sum_to_const N A (λ v. A) (λ i p q. refl))

-- which is so small that the code's signed number is it
pub constant_signed : (A N : ℕ) → N ≤ 48 → A ≤ 2 ^ 32 → to_z w64 (A * N) ≡ pos (A * N)
constant_signed A N a b = to_z_pos w64 {n = A * N} (omega (arith, mul-le-mul b a))

-- its norm
pub one_hots_norm : (A N n : ℕ) → formula_norm (one_hots A N n) ≤ N * (A * ((1 + n) * (1 + n)))
unfolding one_hots
one_hots_norm A N n = norm_each (A * ((1 + n) * (1 + n))) N (λ v. one_hot (pos A) n (bit_number n v)) (λ v p q. omega (arith, one_hot_norm (pos A) n (bit_number n v)))

-- at most 48 meters, 16 choices and A of 2³²
pub one_hots_small : (A N n : ℕ) → N ≤ 48 → n ≤ 16 → A ≤ 2 ^ 32 → formula_norm (one_hots A N n) ≤ 59579786330112
one_hots_small A N n a b c = le_trans (one_hots_norm A N n) (mul-le-mul {n₂ = 48} {m₂ = 1241245548544} a (mul-le-mul {n₂ = 4294967296} {m₂ = 289} c (mul-le-mul {n₂ = 17} {m₂ = 17} (omega arith) (omega arith))))
