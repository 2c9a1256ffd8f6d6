-- Rows of bits of choices: which meter and which choice bit i is of, and that the one-hot penalty adds to row i the term of that meter. Assumes nothing.
use Prim.Native.Nat.{ℕ, zero, suc, pred, ◌+◌, ◌-◌, ◌*◌, ◌/◌, ◌%◌, ◌^◌, ◌≤◌, ◌<◌}
use mathlib.Core.Path.{◌≡◌, sym, ap, ◌∙◌, fun_ext}
use mathlib.Core.List.{List, [], ◌∷◌}
use native.Mathlib.Omega.{arith}
use native.Mathlib.Nat.{mul-one, mul-le-mul_right, add-mul, mod-lt, div-add-mod', div-lt_iff_lt-mul, div-eq_of_lt-le}
use lib.IntN.{ℤ, pos}
use lib.ListN.{length}
use Rattle.qubo.specs.Formula.{Term}
use Rattle.qubo.specs.Norm.{term_norm}
use Rattle.qubo.specs.Terms.{one_hot}
use Rattle.qubo.specs.Table.{row_of}
use Rattle.qubo.specs.Rows.{zeros, add_terms, run_one_hot, RunBelow, Room}
use Rattle.qubo.specs.declared.Run.{Run}
use Rattle.qubo.proofs.Families.{norm_part}
use Rattle.qubo.proofs.RowAction.{Absent, add_only, row_none, row_next, row_top, row_room}
use Rattle.qubo.proofs.Runs.{run_lacks}
use Rattle.qubo.proofs.RowShapes.{one_hot_absent}
use Rattle.qubo.proofs.Turns.{one_hot_factor}
use Rattle.onehot.specs.Choices.{bit_number, one_hots}
use Rattle.links.specs.declared.Link.{Link}
use Rattle.onehot.specs.Inner.{WithChoices}
use Rattle.onehot.proofs.Penalty.{one_hots_small}
use Rattle.onehot.proofs.Parts.{part_within}

-- ---- bit i is that of meter i / n + 1 and choice i % n + 1

bit_quotient : (n v c : ℕ) → 1 ≤ c → c ≤ n → bit_number n v c / n ≡ pred v
bit_quotient n v zero a b = absurd (omega arith)
bit_quotient n v (suc j) a b = div-eq_of_lt-le n (omega arith) (omega (arith, add-mul (pred v) 1 n))

pub bit_meter : (n v c i : ℕ) → 1 ≤ v → 1 ≤ c → c ≤ n → bit_number n v c ≡ i → v ≡ i / n + 1
bit_meter n zero c i h a b e = absurd (omega arith)
bit_meter n (suc k) c i h a b e = omega (arith, sym (bit_quotient n (suc k) c a b) ∙ ap (λ (j : ℕ). j / n) e)

pub bit_choice : (n v c i : ℕ) → 1 ≤ c → c ≤ n → bit_number n v c ≡ i → c ≡ i % n + 1
bit_choice n v zero i a b e = absurd (omega arith)
bit_choice n v (suc j) i a b e =
    omega (arith, div-add-mod' i n, ap (λ (k : ℕ). k * n) (sym (ap (λ (k : ℕ). k / n) e) ∙ bit_quotient n v (suc j) a b))

-- a higher meter's bit is higher
pub bit_rise : (n u v c : ℕ) → 1 ≤ n → 1 ≤ u → u < v → bit_number n u c < bit_number n v c
bit_rise n zero v c a b h = absurd (omega arith)
bit_rise n (suc u) zero c a b h = absurd (omega arith)
bit_rise n (suc u) (suc v) c a b h = let g : u + 1 ≤ v = omega arith in omega (arith, add-mul u 1 n, mul-le-mul_right n g)

-- bit i is that of its meter and its choice, and the one of a higher meter and the same choice is n further for each meter
pub own_bit : (n i u : ℕ) → u ≡ i / n + 1 → bit_number n u (suc (i % n)) ≡ i
own_bit n i zero e = absurd (omega arith)
own_bit n i (suc u) e = omega (arith, div-add-mod' i n, ap (λ (j : ℕ). j * n) (let g : u ≡ i / n = omega arith in g))

pub higher_bit : (n i v : ℕ) → i / n + 1 ≤ v → bit_number n v (suc (i % n)) ≡ i + (v - (i / n + 1)) * n
higher_bit n i zero h = absurd (omega arith)
higher_bit n i (suc v) h =
    let g : v ≡ i / n + (suc v - (i / n + 1)) = omega arith in
    omega (arith, div-add-mod' i n, ap (λ (j : ℕ). j * n) g, add-mul (i / n) (suc v - (i / n + 1)) n)

-- and is one of the table's
pub higher_inside : (N n i v : ℕ) → 1 ≤ n → i / n + 1 ≤ v → v ≤ N → i + (v - (i / n + 1)) * n < N * n
higher_inside N n i v n1 h top =
    let g : v ≡ i / n + 1 + (v - (i / n + 1)) = omega arith in
    omega (
      arith,
      div-add-mod' i n,
      mod-lt i n1,
      mul-le-mul_right n top,
      ap (λ (j : ℕ). j * n) g,
      add-mul (i / n + 1) (v - (i / n + 1)) n,
      add-mul (i / n) 1 n,
    )

-- that meter is one of the N
pub meter_inside : (N n i : ℕ) → 1 ≤ n → i < N * n → i / n < N
meter_inside N n i n1 h = (div-lt_iff_lt-mul n1).1 h

-- ---- the term of a meter, over the run of its bits

-- n bits from `start` on
abbrev pub part_run : ℕ → ℕ → Run
part_run n start = record { start = start; step = 1; count = n }

meter_term : (A n v : ℕ) → one_hot (pos A) n (bit_number n v) ≡ run_one_hot (pos A) (part_run n (pred v * n))
meter_term A n v = ap (one_hot (pos A) n) (fun_ext (λ i. ap (λ (k : ℕ). pred v * n + k) (sym (mul-one (pred i)))))

-- that of the meter whose bit i is
own_term : (A n i : ℕ) → one_hot (pos A) n (bit_number n (suc (i / n))) ≡ run_one_hot (pos A) (part_run n (i - i % n))
own_term A n i =
    let e : i / n * n ≡ i - i % n = omega (arith, div-add-mod' i n) in
    meter_term A n (suc (i / n)) ∙ ap (λ (k : ℕ). run_one_hot (pos A) (part_run n k)) e

-- those of the others have no bit i
other_absent : (A n i v : ℕ) → 1 ≤ v → (v ≡ suc (i / n) → ⊥) → Absent (one_hot (pos A) n (bit_number n v) ∷ []) i
other_absent A n i v h ne =
    rw (meter_term A n v)
    (one_hot_absent (pos A) (part_run n (pred v * n)) i (run_lacks (part_run n (pred v * n)) i
    (λ t l e. let g = bit_meter n v (suc t) i h (omega arith) l (ap (λ (k : ℕ). pred v * n + k) (sym (mul-one t)) ∙ e) in ne (omega arith))))

-- ---- add_one_hots

module _ (A N n i : ℕ) (r : List ℤ) (n1 : 1 ≤ n) (h : i < N * n) where
  pub own_added : add_terms (one_hots A N n) i r ≡ add_terms (run_one_hot (pos A) (part_run n (i - i % n)) ∷ []) i r
  unfolding one_hots
  own_added =
      add_only N (λ v. one_hot (pos A) n (bit_number n v) ∷ []) (suc (i / n)) i r (omega arith) (meter_inside N n i n1 h) (λ v p q. other_absent A n i v p)
      ∙ ap (λ (t : Term). add_terms (t ∷ []) i r) (own_term A n i)

  pub own_room : (limit : ℕ) → Room limit (one_hots A N n) r → Room limit (run_one_hot (pos A) (part_run n (i - i % n)) ∷ []) r
  unfolding one_hots
  own_room limit g = record {
    room = λ k. omega (arith, g.room k, norm_part N (λ v. one_hot (pos A) n (bit_number n v) ∷ []) (i / n) (meter_inside N n i n1 h), ap term_norm (own_term A n i));
  }

  -- so A is small
  pub own_small : Room (2 ^ 61) (one_hots A N n) r → A ≤ 2 ^ 61
  own_small g = one_hot_factor (pos A) (part_run n (i - i % n)) r (own_room (2 ^ 61) g)

  pub own_below : N * n ≤ i + length r → N * n ≤ 2 ^ 32 → RunBelow (part_run n (i - i % n)) (i + length r)
  own_below top few =
      let e : i - i % n ≡ i / n * n = omega (arith, div-add-mod' i n) in
      let f = part_within n (i / n) N (meter_inside N n i n1 h) in
      record { apart = omega arith; inside = λ t l. omega arith; end = omega arith }

-- ---- the first part of a row: zeros, then the penalty

module _ (A N n i : ℕ) (ls : List Link) (lent : WithChoices N n ls) (small : A ≤ 2 ^ 32) (L : ℕ) (top : i + L ≡ N * n) (r : List ℤ) (none : r ≡ zeros L) where
  pub hots_ready : (N * n ≤ i + length r) × Room (2 ^ 61) (one_hots A N n) r
  hots_ready =
      let e = row_none (N * n) L i r top none in (
        omega (arith, row_top (N * n) [] i r (omega arith) e),
        row_room _ (N * n) [] (one_hots A N n) i r e (omega (arith, one_hots_small A N n lent.survey.meters_high lent.high small)),
      )

  pub row_hots : (s : List ℤ) → s ≡ add_terms (one_hots A N n) i r → s ≡ row_of (one_hots A N n) (N * n) i
  row_hots s hots = row_next (N * n) [] (one_hots A N n) i r s (row_none (N * n) L i r top none) hots
