-- Rows of kind 2: what the size differences add to row i. Each bit is of one group, so in row i only the differences to its own group count. Assumes nothing.
use Prim.Native.Nat.{ℕ, zero, suc, pred, ◌+◌, ◌*◌, ◌/◌, ◌%◌, ◌≤◌, ◌<◌}
use mathlib.Core.Path.{◌≡◌, refl, sym, ap, ap₂, ◌∙◌, fun_ext}
use mathlib.Core.List.{List, [], ◌∷◌}
use native.Mathlib.Omega.{arith}
use native.Mathlib.Decide.{dec_lt}
use native.Mathlib.Numerals.{add-one}
use native.Mathlib.Nat.{add-zero, add_comm, mod-lt, div-add-mod'}
use lib.IntN.{ℤ, pos, negsuc, ◌+ℤ◌, ◌-ℤ◌, ◌*ℤ◌, zero-*ℤ}
use Rattle.qubo.specs.Table.{only, coef, coefficient, cell}
use Rattle.qubo.specs.Terms.{bits, difference, each, single, times}
use Rattle.qubo.specs.Rows.{plus, add_terms, run_sum, IsNumber, later}
use Rattle.qubo.specs.declared.Run.{Run}
use Rattle.qubo.proofs.Ints.{one_*ℤ}
use Rattle.qubo.proofs.Ring.{var, con, ◌⊕◌, ◌⊖◌, ◌⊗◌, solve}
use Rattle.qubo.proofs.Families.{sum_each, sum_each_eq, sum_each_none, sum_each_only, sum_each_times, sum_over, sum_over_each, sum_over_each_of, coef_append, coef_bits}
use Rattle.qubo.proofs.TableValue.{only_same, only_other}
use Rattle.qubo.proofs.RowAction.{plus_eq, plus_plus, term_cell, cell_sum}
use Rattle.qubo.proofs.RowTerms.{single_here, add_times, coef_scaled}
use Rattle.qubo.proofs.Runs.{run_has, run_lacks, run_before, later_coef}
use Rattle.onehot.specs.Choices.{bit_number}
use Rattle.onehot.proofs.Parts.{part_within}
use Rattle.onehot.proofs.Rows.{bit_meter, bit_choice, own_bit, meter_inside}
use Rattle.groups.specs.Formula.{size_difference, size_terms}

-- ---- a sum over pairs of products of differences

-- over the pairs g < h of 1..m, of (a g - a h) (b g - b h)
pair_sum : ℕ → (ℕ → ℤ) → (ℕ → ℤ) → ℤ
pair_sum m a b = sum_each m (λ h. sum_each (pred h) (λ g. (a g -ℤ a h) *ℤ (b g -ℤ b h)))

-- the pairs of one h
column : (k : ℕ) (a b : ℕ → ℤ) (c d : ℤ) → sum_each k (λ g. (a g -ℤ c) *ℤ (b g -ℤ d)) ≡ sum_each k (λ g. a g *ℤ b g) -ℤ c *ℤ sum_each k b -ℤ d *ℤ sum_each k a +ℤ pos k *ℤ (c *ℤ d)
column zero a b c d = solve (con (pos 0)) (con (pos 0) ⊖ var 0 ⊗ con (pos 0) ⊖ var 1 ⊗ con (pos 0) ⊕ con (pos 0) ⊗ (var 0 ⊗ var 1)) tt (c ∷ d ∷ [])
column (suc k) a b c d =
    ap (λ z. z +ℤ (a (suc k) -ℤ c) *ℤ (b (suc k) -ℤ d)) (column k a b c d)
    ∙ solve
    (var 0 ⊖ var 5 ⊗ var 1 ⊖ var 6 ⊗ var 2 ⊕ var 7 ⊗ (var 5 ⊗ var 6) ⊕ (var 3 ⊖ var 5) ⊗ (var 4 ⊖ var 6))
    (var 0 ⊕ var 3 ⊗ var 4 ⊖ var 5 ⊗ (var 1 ⊕ var 4) ⊖ var 6 ⊗ (var 2 ⊕ var 3) ⊕ (var 7 ⊕ con (pos 1)) ⊗ (var 5 ⊗ var 6)) tt
    (sum_each k (λ g. a g *ℤ b g) ∷ sum_each k b ∷ sum_each k a ∷ a (suc k) ∷ b (suc k) ∷ c ∷ d ∷ pos k ∷ [])
    ∙ ap (λ (j : ℕ). sum_each (suc k) (λ g. a g *ℤ b g) -ℤ c *ℤ sum_each (suc k) b -ℤ d *ℤ sum_each (suc k) a +ℤ pos j *ℤ (c *ℤ d)) (add-one k)

-- is m times the sum of the products, less the product of the sums
pair_sum_value : (m : ℕ) (a b : ℕ → ℤ) → pair_sum m a b ≡ pos m *ℤ sum_each m (λ g. a g *ℤ b g) -ℤ sum_each m a *ℤ sum_each m b
unfolding pair_sum
pair_sum_value zero a b = refl
pair_sum_value (suc k) a b =
    ap₂ ◌+ℤ◌ (pair_sum_value k a b) (column k a b (a (suc k)) (b (suc k)))
    ∙ solve
    (var 5 ⊗ var 0 ⊖ var 1 ⊗ var 2 ⊕ (var 0 ⊖ var 3 ⊗ var 2 ⊖ var 4 ⊗ var 1 ⊕ var 5 ⊗ (var 3 ⊗ var 4)))
    ((var 5 ⊕ con (pos 1)) ⊗ (var 0 ⊕ var 3 ⊗ var 4) ⊖ (var 1 ⊕ var 3) ⊗ (var 2 ⊕ var 4)) tt
    (sum_each k (λ g. a g *ℤ b g) ∷ sum_each k a ∷ sum_each k b ∷ a (suc k) ∷ b (suc k) ∷ pos k ∷ [])
    ∙ ap (λ (j : ℕ). pos j *ℤ sum_each (suc k) (λ g. a g *ℤ b g) -ℤ sum_each (suc k) a *ℤ sum_each (suc k) b) (add-one k)

-- ---- which bits are of group g

module _ (N m : ℕ) where
  -- the coefficient of bit j in the size of group g: 1 where it is one of its bits, else 0
  pub in_group : ℕ → ℕ → ℤ
  in_group g j = coef (bits (pos 1) N (λ v. bit_number m v g)) j

  group_sum : (g j : ℕ) → in_group g j ≡ sum_each N (λ v. only (bit_number m v g) (pos 1) j)
  unfolding in_group
  group_sum g j = coef_bits (pos 1) N (λ v. bit_number m v g) j

  -- bit j is of no other group than its own
  group_other : (g j : ℕ) → 1 ≤ g → g ≤ m → (g ≡ suc (j % m) → ⊥) → in_group g j ≡ pos 0
  group_other g j a b ne =
      group_sum g j ∙ sum_each_none N (λ v. only (bit_number m v g) (pos 1) j) (λ v p q. only_other (bit_number m v g) j (pos 1) (λ e. ne (omega (arith, bit_choice m v g j a b e))))

  module _ (m1 : 1 ≤ m) where
    group_own : (j : ℕ) → j < N * m → in_group (suc (j % m)) j ≡ pos 1
    group_own j h =
        group_sum (suc (j % m)) j
        ∙ sum_each_only N (λ v. only (bit_number m v (suc (j % m))) (pos 1) j) (suc (j / m)) (omega arith) (meter_inside N m j m1 h)
        (λ v p q ne. only_other (bit_number m v (suc (j % m))) j (pos 1) (λ e. ne (omega (arith, bit_meter m v (suc (j % m)) j p (omega arith) (mod-lt j m1) e))))
        ∙ ap (λ (k : ℕ). only k (pos 1) j) (own_bit m j (suc (j / m)) (omega arith))
        ∙ only_same j (pos 1)

    -- bits past the table are of none
    group_past : (g j : ℕ) → 1 ≤ g → g ≤ m → N * m ≤ j → in_group g j ≡ pos 0
    group_past g j a b h =
        group_sum g j ∙ sum_each_none N (λ v. only (bit_number m v g) (pos 1) j) (λ v p q. only_other (bit_number m v g) j (pos 1) (λ e. below v g p q a b e))
      where
        below : (v g : ℕ) → 1 ≤ v → v ≤ N → 1 ≤ g → g ≤ m → bit_number m v g ≡ j → ⊥
        below zero g p q a b e = omega arith
        below (suc v) zero p q a b e = omega arith
        below (suc v) (suc g) p q a b e = omega (arith, part_within m v N q)

    -- all bits of the table, one after another, and those of the group of bit i
    abbrev pub all_run : Run
    all_run = record { start = 0; step = 1; count = N * m }

    abbrev pub own_run : ℕ → Run
    own_run i = record { start = i % m; step = m; count = N }

    own_coef : (i j : ℕ) → coef (run_sum (own_run i)) j ≡ in_group (suc (i % m)) j
    unfolding in_group
    own_coef i j = ap (λ (b : ℕ → ℕ). coef (bits (pos 1) N b) j) (fun_ext (λ v. add_comm (i % m) (pred v * m)))

    -- the groups share out the bits of the table
    groups_all : (j : ℕ) → sum_each m (λ g. in_group g j) ≡ coef (run_sum all_run) j
    groups_all j =
        elim (dec_lt j (N * m)) [
          | yes h ↦
              sum_each_only m (λ g. in_group g j) (suc (j % m)) (omega arith) (mod-lt j m1) (λ g a b ne. group_other g j a b ne)
              ∙ group_own j h
              ∙ sym (run_has all_run j j (omega arith) (record { below = h; here = omega arith }))
          | no h ↦
              sum_each_none m (λ g. in_group g j) (λ g a b. group_past g j a b (omega arith))
              ∙ sym (run_lacks all_run j (λ t l e. h (omega arith)))
        ]

-- ---- one size difference in row i

-- a pair of bits counts twice, a bit by itself once
factor : ℕ → ℤ
factor zero = pos 1
factor (suc k) = pos 2

module _ (A N m i : ℕ) where
  difference_coef : (h g j : ℕ) → coefficient (difference N (λ v. bit_number m v g) N (λ v. bit_number m v h)) j ≡ in_group N m g j -ℤ in_group N m h j
  unfolding in_group
  difference_coef h g j =
      coef_append (bits (pos 1) N (λ v. bit_number m v g)) (bits (negsuc 0) N (λ v. bit_number m v h)) j
      ∙ ap (λ z. in_group N m g j +ℤ z) (coef_scaled (negsuc 0) N (λ v. bit_number m v h) j)
      ∙ solve (var 0 ⊕ con (negsuc 0) ⊗ var 1) (var 0 ⊖ var 1) tt (in_group N m g j ∷ in_group N m h j ∷ [])

  difference_cell : (h g k : ℕ) → term_cell (size_difference A N m h g) i k ≡ pos A *ℤ factor k *ℤ ((in_group N m g i -ℤ in_group N m h i) *ℤ (in_group N m g (i + k) -ℤ in_group N m h (i + k)))
  unfolding factor
  difference_cell h g zero =
      ap (λ z. pos A *ℤ (pos 2 *ℤ (pos 0 *ℤ z) +ℤ z *ℤ z)) (difference_coef h g i)
      ∙ solve (var 0 ⊗ (con (pos 2) ⊗ (con (pos 0) ⊗ var 1) ⊕ var 1 ⊗ var 1)) (var 0 ⊗ con (pos 1) ⊗ (var 1 ⊗ var 1)) tt (pos A ∷ (in_group N m g i -ℤ in_group N m h i) ∷ [])
      ∙ ap (λ (j : ℕ). pos A *ℤ pos 1 *ℤ ((in_group N m g i -ℤ in_group N m h i) *ℤ (in_group N m g j -ℤ in_group N m h j))) (sym (add-zero i))
  difference_cell h g (suc k) =
      ap₂ (λ y z. pos A *ℤ (pos 2 *ℤ (y *ℤ z))) (difference_coef h g i) (difference_coef h g (i + suc k))
      ∙ solve (var 0 ⊗ (con (pos 2) ⊗ (var 1 ⊗ var 2))) (var 0 ⊗ con (pos 2) ⊗ (var 1 ⊗ var 2)) tt (pos A ∷ (in_group N m g i -ℤ in_group N m h i) ∷ (in_group N m g (i + suc k) -ℤ in_group N m h (i + suc k)) ∷ [])

  -- all of them
  sizes_cell : (k : ℕ) → cell (size_terms A N m) i k ≡ pos A *ℤ factor k *ℤ pair_sum m (λ g. in_group N m g i) (λ g. in_group N m g (i + k))
  unfolding size_terms pair_sum
  sizes_cell k =
      cell_sum (size_terms A N m) i k
      ∙ sum_over_each_of m (λ h. each (pred h) (size_difference A N m h)) (λ t. term_cell t i k)
      ∙ sum_each_eq m (λ h. sum_over (each (pred h) (size_difference A N m h)) (λ t. term_cell t i k)) (λ h. pos A *ℤ factor k *ℤ sum_each (pred h) (pair_at h))
      (λ h p q. sum_over_each (pred h) (size_difference A N m h) (λ t. term_cell t i k) ∙ sum_each_eq (pred h) _ (λ g. pos A *ℤ factor k *ℤ pair_at h g) (λ g a b. difference_cell h g k) ∙ sym (sum_each_times (pos A *ℤ factor k) (pred h) (pair_at h)))
      ∙ sym (sum_each_times (pos A *ℤ factor k) m (λ h. sum_each (pred h) (pair_at h)))
    where
      pair_at : ℕ → ℕ → ℤ
      pair_at h g = (in_group N m g i -ℤ in_group N m h i) *ℤ (in_group N m g (i + k) -ℤ in_group N m h (i + k))

-- ---- all of them in row i

module _ (A N m i : ℕ) (m1 : 1 ≤ m) (inside : i < N * m) where
  abbrev all : ℕ → ℤ
  all j = coef (run_sum (all_run N m m1)) j

  abbrev own : ℕ → ℤ
  own j = coef (run_sum (own_run N m m1 i)) j

  -- m at the bits of i's own group, less 1 at all bits
  pairs_own : (k : ℕ) → pair_sum m (λ g. in_group N m g i) (λ g. in_group N m g (i + k)) ≡ pos m *ℤ own (i + k) -ℤ all (i + k)
  pairs_own k =
      pair_sum_value m (λ g. in_group N m g i) (λ g. in_group N m g (i + k))
      ∙ ap₂ (λ y z. pos m *ℤ y -ℤ z) products sums
    where
      here : in_group N m (suc (i % m)) i ≡ pos 1
      here = group_own N m m1 i inside

      products : sum_each m (λ g. in_group N m g i *ℤ in_group N m g (i + k)) ≡ own (i + k)
      products =
          sum_each_only m (λ g. in_group N m g i *ℤ in_group N m g (i + k)) (suc (i % m)) (omega arith) (mod-lt i m1)
          (λ g a b ne. ap (λ z. z *ℤ in_group N m g (i + k)) (group_other N m g i a b ne) ∙ zero-*ℤ (in_group N m g (i + k)))
          ∙ ap (λ z. z *ℤ in_group N m (suc (i % m)) (i + k)) here
          ∙ one_*ℤ (in_group N m (suc (i % m)) (i + k))
          ∙ sym (own_coef N m m1 i (i + k))

      sums : sum_each m (λ g. in_group N m g i) *ℤ sum_each m (λ g. in_group N m g (i + k)) ≡ all (i + k)
      sums =
          ap₂ ◌*ℤ◌ (sum_each_only m (λ g. in_group N m g i) (suc (i % m)) (omega arith) (mod-lt i m1) (λ g a b ne. group_other N m g i a b ne) ∙ here) (groups_all N m m1 (i + k))
          ∙ one_*ℤ (all (i + k))

  -- bit i in the two runs, and what comes after it
  abbrev pub later_all : Run
  later_all = later (all_run N m m1) i i

  abbrev pub later_own : Run
  later_own = later (own_run N m m1 i) i (i / m)

  all_number : IsNumber (all_run N m m1) i i
  all_number = record { below = inside; here = omega arith }

  own_number : IsNumber (own_run N m m1 i) i (i / m)
  own_number = record { below = meter_inside N m i m1 inside; here = omega (arith, div-add-mod' i m) }

  -- A (m - 1) at bit i, -2 A at each later bit, and 2 A m more at those of its own group
  abbrev here : ℤ
  here = pos A *ℤ (pos m -ℤ pos 1)

  abbrev less : ℤ
  less = pos 0 -ℤ pos 2 *ℤ pos A

  abbrev more : ℤ
  more = pos 2 *ℤ pos A *ℤ pos m

  row_cell : (k : ℕ) → cell (size_terms A N m) i k ≡ only 0 here k +ℤ less *ℤ coef (run_sum later_all) (i + k) +ℤ more *ℤ coef (run_sum later_own) (i + k)
  unfolding factor
  row_cell zero =
      sizes_cell A N m i zero
      ∙ ap (λ z. pos A *ℤ pos 1 *ℤ z) (pairs_own zero ∙ ap₂ (λ y z. pos m *ℤ y -ℤ z) (ap own (add-zero i) ∙ run_has (own_run N m m1 i) i (i / m) m1 own_number) (ap all (add-zero i) ∙ run_has (all_run N m m1) i i (omega arith) all_number))
      ∙ solve (var 0 ⊗ con (pos 1) ⊗ (var 1 ⊗ con (pos 1) ⊖ con (pos 1))) (var 0 ⊗ (var 1 ⊖ con (pos 1)) ⊕ (con (pos 0) ⊖ con (pos 2) ⊗ var 0) ⊗ con (pos 0) ⊕ con (pos 2) ⊗ var 0 ⊗ var 1 ⊗ con (pos 0)) tt (pos A ∷ pos m ∷ [])
      ∙ sym (ap₂ (λ y z. here +ℤ less *ℤ y +ℤ more *ℤ z) (run_before later_all (i + 0) (omega arith)) (run_before later_own (i + 0) (omega arith)))
  row_cell (suc k) =
      sizes_cell A N m i (suc k)
      ∙ ap (λ z. pos A *ℤ pos 2 *ℤ z) (pairs_own (suc k) ∙ ap₂ (λ y z. pos m *ℤ y -ℤ z) (later_coef (own_run N m m1 i) i (i / m) m1 own_number (suc k) ∙ ap (λ z. z +ℤ coef (run_sum later_own) (i + suc k)) none) (later_coef (all_run N m m1) i i (omega arith) all_number (suc k) ∙ ap (λ z. z +ℤ coef (run_sum later_all) (i + suc k)) none))
      ∙ solve (var 0 ⊗ con (pos 2) ⊗ (var 1 ⊗ (con (pos 0) ⊕ var 2) ⊖ (con (pos 0) ⊕ var 3))) (con (pos 0) ⊕ (con (pos 0) ⊖ con (pos 2) ⊗ var 0) ⊗ var 3 ⊕ con (pos 2) ⊗ var 0 ⊗ var 1 ⊗ var 2) tt
      (pos A ∷ pos m ∷ coef (run_sum later_own) (i + suc k) ∷ coef (run_sum later_all) (i + suc k) ∷ [])
      ∙ ap (λ z. z +ℤ less *ℤ coef (run_sum later_all) (i + suc k) +ℤ more *ℤ coef (run_sum later_own) (i + suc k)) (sym (only_other 0 (suc k) here (omega arith)))
    where
      none : only 0 (pos 1) (suc k) ≡ pos 0
      none = only_other 0 (suc k) (pos 1) (omega arith)

  pub sizes_row : (r : List ℤ) → add_terms (size_terms A N m) i r ≡ add_terms (times more i (run_sum later_own) ∷ []) i (add_terms (times less i (run_sum later_all) ∷ []) i (add_terms (single here i ∷ []) i r))
  unfolding add_terms
  sizes_row r =
      plus_eq r (cell (size_terms A N m) i) (λ k. only 0 here k +ℤ less *ℤ coef (run_sum later_all) (i + k) +ℤ more *ℤ coef (run_sum later_own) (i + k)) row_cell
      ∙ sym (plus_plus r (λ k. only 0 here k +ℤ less *ℤ coef (run_sum later_all) (i + k)) (λ k. more *ℤ coef (run_sum later_own) (i + k)))
      ∙ ap (λ (s : List ℤ). plus s (λ k. more *ℤ coef (run_sum later_own) (i + k))) (sym (plus_plus r (only 0 here) (λ k. less *ℤ coef (run_sum later_all) (i + k))))
      ∙ sym (add_times more i (run_sum later_own) (plus (plus r (only 0 here)) (λ k. less *ℤ coef (run_sum later_all) (i + k))))
      ∙ ap (add_terms (times more i (run_sum later_own) ∷ []) i) (sym (add_times less i (run_sum later_all) (plus r (only 0 here))) ∙ ap (add_terms (times less i (run_sum later_all) ∷ []) i) (sym (single_here here i r)))
