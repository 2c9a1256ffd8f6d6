-- The value of the formula, a whole number from 0, and its constant. Assumes nothing.
use Prim.Native.Nat.{ℕ, pred, ◌+◌, ◌*◌, ◌^◌, ◌≤◌, ◌<◌}
use mathlib.Core.Path.{◌≡◌, refl, sym, ap, ap₂, ◌∙◌}
use mathlib.Core.List.{List, [], ◌∷◌, ◌++◌}
use native.Mathlib.Omega.{arith}
use native.Mathlib.Nat.{mul-le-mul, mul-add}
use lib.IntN.{pos, ◌+ℤ◌, +ℤ_idr, *ℤ-zero}
use Rattle.lists.specs.Sums.{sum_to, differ, gap}
use Rattle.lists.proofs.Sums.{sum_to_eq, sum_to_times}
use Rattle.links.specs.declared.Link.{Link}
use Rattle.qubo.specs.Formula.{Bits, term_value, value}
use Rattle.qubo.specs.Table.{term_constant, constant_of}
use Rattle.qubo.specs.Terms.{each, unequal}
use Rattle.qubo.proofs.Families.{sum_over, sum_each_eq, sum_each_none, sum_each_pos, sum_over_each_of, sum_over_over, sum_over_pos, constant_sum, constant_append, each_constant}
use Rattle.qubo.proofs.Values.{value_sum, value_append, each_value, squared_difference_pos, unequal_value}
use Rattle.onehot.specs.Choices.{bit_number, bit_at, one_hots, misses}
use Rattle.onehot.proofs.Penalty.{one_hots_value, one_hots_constant}
use Rattle.groups.specs.Sizes.{spread}
use Rattle.groups.specs.Formula.{size_difference, size_terms, link_cuts, cut_terms, formula, size_in, bracket, cutting_of}

-- ---- the value of the size differences

-- the squared difference of the sizes of g and h
abbrev apart_squared : ℕ → ℕ → List ℕ → ℕ → ℕ → ℕ
apart_squared N m x h g = gap (size_in N (bit_at m x) g) (size_in N (bit_at m x) h) * gap (size_in N (bit_at m x) g) (size_in N (bit_at m x) h)

difference_value : (A N m : ℕ) (x : List ℕ) (h g : ℕ) → term_value (size_difference A N m h g) x ≡ pos (A * apart_squared N m x h g)
unfolding size_in bit_at
difference_value A N m x h g = squared_difference_pos A N (λ v. bit_number m v g) N (λ v. bit_number m v h) x

sizes_value : (A N m : ℕ) (x : List ℕ) → value (size_terms A N m) x ≡ pos (A * spread m (size_in N (bit_at m x)))
unfolding size_terms spread
sizes_value A N m x =
    value_sum (size_terms A N m) x
    ∙ sum_over_each_of m (λ h. each (pred h) (size_difference A N m h)) (λ t. term_value t x)
    ∙ sum_each_eq m (λ h. sum_over (each (pred h) (size_difference A N m h)) (λ t. term_value t x)) (λ h. pos (sum_to (pred h) (λ g. A * apart_squared N m x h g)))
    (λ h p q. each_value (pred h) (size_difference A N m h) (λ g. A * apart_squared N m x h g) x (difference_value A N m x h))
    ∙ sum_each_pos m (λ h. sum_to (pred h) (λ g. A * apart_squared N m x h g))
    ∙ ap pos (sum_to_eq m _ (λ h. A * sum_to (pred h) (apart_squared N m x h)) (λ h p q. sum_to_times (pred h) A (apart_squared N m x h))
    ∙ sum_to_times m A (λ h. sum_to (pred h) (apart_squared N m x h)))

-- ---- the value of what is cut

cuts_value : (m : ℕ) (ls : List Link) (x : List ℕ) → Bits x → value (cut_terms m ls) x ≡ pos (cutting_of m ls (bit_at m x))
unfolding cut_terms cutting_of bit_at
cuts_value m ls x b =
    value_sum (cut_terms m ls) x
    ∙ sum_over_over ls (link_cuts m) (λ t. term_value t x)
    ∙ sum_over_pos ls (λ l. sum_over (link_cuts m l) (λ t. term_value t x)) (λ l. sum_to m (λ g. l.weight * differ (bit_at m x l.u g) (bit_at m x l.v g)))
    (λ l. each_value m (λ g. unequal (pos l.weight) (bit_number m l.u g) (bit_number m l.v g)) (λ g. l.weight * differ (bit_at m x l.u g) (bit_at m x l.v g)) x
    (λ g. unequal_value l.weight (bit_number m l.u g) (bit_number m l.v g) x b))

-- ---- the whole

-- the energy as a whole number from 0
unfoldable pub worth : ℕ → ℕ → ℕ → List Link → List ℕ → ℕ
worth A N m ls x = A * bracket N m (bit_at m x) + cutting_of m ls (bit_at m x)

pub formula_value : (A N m : ℕ) (ls : List Link) (x : List ℕ) → Bits x → value (formula A N m ls) x ≡ pos (worth A N m ls x)
unfolding formula worth bracket
formula_value A N m ls x b =
    value_append (one_hots A N m ++ size_terms A N m) (cut_terms m ls) x
    ∙ ap₂ ◌+ℤ◌ (value_append (one_hots A N m) (size_terms A N m) x ∙ ap₂ ◌+ℤ◌ (one_hots_value A N m x) (sizes_value A N m x)) (cuts_value m ls x b)
    ∙ ap pos (ap (λ t. t + cutting_of m ls (bit_at m x)) (sym (mul-add A (misses N m (bit_at m x)) (spread m (size_in N (bit_at m x))))))

-- ---- the constant

sizes_constant : (A N m : ℕ) → constant_of (size_terms A N m) ≡ pos 0
unfolding size_terms
sizes_constant A N m =
    constant_sum (size_terms A N m)
    ∙ sum_over_each_of m (λ h. each (pred h) (size_difference A N m h)) term_constant
    ∙ sum_each_none m (λ h. sum_over (each (pred h) (size_difference A N m h)) term_constant) (λ h p q. sym (constant_sum (each (pred h) (size_difference A N m h))) ∙ each_constant (pred h) (size_difference A N m h) (λ g. *ℤ-zero (pos A)))

cuts_constant : (m : ℕ) (ls : List Link) → constant_of (cut_terms m ls) ≡ pos 0
unfolding cut_terms
cuts_constant m [] = refl
cuts_constant m (l ∷ ls) =
    constant_append (link_cuts m l) (cut_terms m ls)
    ∙ ap₂ ◌+ℤ◌ (each_constant m (λ g. unequal (pos l.weight) (bit_number m l.u g) (bit_number m l.v g)) (λ g. *ℤ-zero (pos l.weight))) (cuts_constant m ls)

-- A for each meter
pub constant_is : (A N m : ℕ) (ls : List Link) → constant_of (formula A N m ls) ≡ pos (A * N)
unfolding formula
constant_is A N m ls =
    constant_append (one_hots A N m ++ size_terms A N m) (cut_terms m ls)
    ∙ ap₂ ◌+ℤ◌ (constant_append (one_hots A N m) (size_terms A N m) ∙ ap₂ ◌+ℤ◌ (one_hots_constant A N m) (sizes_constant A N m)) (cuts_constant m ls)
    ∙ +ℤ_idr (pos (A * N) +ℤ pos 0)
    ∙ +ℤ_idr (pos (A * N))

-- ---- as the code adds it up

pub energy_small : (A B C : ℕ) → A ≤ 2 ^ 32 → B ≤ 658992 → C ≤ 268431360 → A * B + C < 2 ^ 63
energy_small A B C a b c = omega (arith, mul-le-mul a b)

pub energy_is : (A N m : ℕ) (ls : List Link) (x : List ℕ) (B C : ℕ) → Bits x → B ≡ bracket N m (bit_at m x) → C ≡ cutting_of m ls (bit_at m x) → pos (A * B + C) ≡ value (formula A N m ls) x
unfolding worth
energy_is A N m ls x B C b p c = rw (p, c) (sym (formula_value A N m ls x b))
