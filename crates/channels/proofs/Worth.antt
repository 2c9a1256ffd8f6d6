-- The value of the formula, a whole number from 0, and its constant. Assumes nothing.
use Prim.Native.Nat.{ℕ, ◌+◌, ◌*◌, ◌^◌, ◌≤◌, ◌<◌}
use mathlib.Core.Path.{◌≡◌, refl, sym, ap₂, ◌∙◌}
use mathlib.Core.List.{List, [], ◌∷◌}
use native.Mathlib.Omega.{arith}
use native.Mathlib.Nat.{mul-le-mul}
use lib.IntN.{pos, ◌+ℤ◌, +ℤ_idr, *ℤ-zero}
use Rattle.lists.specs.Sums.{sum_to}
use Rattle.links.specs.declared.Link.{Link}
use Rattle.qubo.specs.Formula.{Term, term_value, value}
use Rattle.qubo.specs.Table.{constant_of}
use Rattle.qubo.specs.Terms.{pair}
use Rattle.qubo.proofs.Families.{sum_over, sum_over_over, sum_over_pos, constant_append, each_constant}
use Rattle.qubo.proofs.Values.{value_sum, value_append, each_value, pair_value}
use Rattle.onehot.specs.Choices.{bit_number, bit_at, one_hots, misses}
use Rattle.onehot.proofs.Penalty.{one_hots_value, one_hots_constant}
use Rattle.channels.specs.Formula.{link_clashes, clash_terms, clashing_of, formula}

-- the term of a link and channel
abbrev clash_term : ℕ → Link → ℕ → Term
clash_term n l i = pair (pos l.weight) (bit_number n l.u i) (bit_number n l.v i)

-- ---- the value

-- what a link has for channel i
abbrev clash_at : ℕ → List ℕ → Link → ℕ → ℕ
clash_at n x l i = l.weight * (bit_at n x l.u i * bit_at n x l.v i)

clash_value : (n : ℕ) (x : List ℕ) (l : Link) (i : ℕ) → term_value (clash_term n l i) x ≡ pos (clash_at n x l i)
unfolding bit_at
clash_value n x l i = pair_value (pos l.weight) (bit_number n l.u i) (bit_number n l.v i) x

link_value : (n : ℕ) (x : List ℕ) (l : Link) → sum_over (link_clashes n l) (λ t. term_value t x) ≡ pos (sum_to n (clash_at n x l))
link_value n x l = each_value n (clash_term n l) (clash_at n x l) x (clash_value n x l)

clashes_value : (n : ℕ) (ls : List Link) (x : List ℕ) → value (clash_terms n ls) x ≡ pos (clashing_of n ls (bit_at n x))
unfolding clash_terms clashing_of
clashes_value n ls x =
    value_sum (clash_terms n ls) x
    ∙ sum_over_over ls (link_clashes n) (λ t. term_value t x)
    ∙ sum_over_pos ls (λ l. sum_over (link_clashes n l) (λ t. term_value t x)) (λ l. sum_to n (clash_at n x l)) (link_value n x)

-- A times the misses, plus what clashes
pub formula_value : (A N n : ℕ) (ls : List Link) (x : List ℕ) → value (formula A N n ls) x ≡ pos (A * misses N n (bit_at n x) + clashing_of n ls (bit_at n x))
unfolding formula
formula_value A N n ls x = value_append (one_hots A N n) (clash_terms n ls) x ∙ ap₂ ◌+ℤ◌ (one_hots_value A N n x) (clashes_value n ls x)

-- ---- the constant

link_constant : (n : ℕ) (l : Link) → constant_of (link_clashes n l) ≡ pos 0
link_constant n l = each_constant n (clash_term n l) (λ i. *ℤ-zero (pos l.weight))

clashes_constant : (n : ℕ) (ls : List Link) → constant_of (clash_terms n ls) ≡ pos 0
unfolding clash_terms
clashes_constant n [] = refl
clashes_constant n (l ∷ ls) = constant_append (link_clashes n l) (clash_terms n ls) ∙ ap₂ ◌+ℤ◌ (link_constant n l) (clashes_constant n ls)

-- A for each meter
pub constant_is : (A N n : ℕ) (ls : List Link) → constant_of (formula A N n ls) ≡ pos (A * N)
unfolding formula
constant_is A N n ls =
    constant_append (one_hots A N n) (clash_terms n ls)
    ∙ ap₂ ◌+ℤ◌ (one_hots_constant A N n) (clashes_constant n ls)
    ∙ +ℤ_idr (pos (A * N))

-- ---- as the code adds it up

pub energy_small : (A P C : ℕ) → A ≤ 2 ^ 32 → P ≤ 106032 → C ≤ 268431360 → A * P + C < 2 ^ 63
energy_small A P C a p c = omega (arith, mul-le-mul a p)

pub energy_is : (A N n : ℕ) (ls : List Link) (x : List ℕ) (P C : ℕ) → P ≡ misses N n (bit_at n x) → C ≡ clashing_of n ls (bit_at n x) → pos (A * P + C) ≡ value (formula A N n ls) x
energy_is A N n ls x P C p c = rw (p, c) (sym (formula_value A N n ls x))
