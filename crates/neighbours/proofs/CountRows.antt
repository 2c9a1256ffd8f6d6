-- Rows of neighbour-count bits: which meter a bit is of, and that the one-hot penalty adds to row i the term of that meter alone, or nothing where i is before those bits. Assumes nothing.
use Prim.Native.Nat.{ℕ, suc, pred, ◌+◌, ◌-◌, ◌*◌, ◌/◌, ◌^◌, ◌≤◌, ◌<◌}
use mathlib.Core.Path.{◌≡◌, refl, sym, ap, ◌∙◌, fun_ext}
use mathlib.Core.List.{List, [], ◌∷◌}
use native.Mathlib.Omega.{arith}
use native.Mathlib.Nat.{mul-one, mul-le-mul}
use native.Mathlib.Numerals.{add-one}
use mir.Facts.{to_z_pos}
use mir.Syntax.{w64}
use mir.Val.{to_z}
use lib.IntN.{ℤ, pos}
use lib.ListN.{length}
use Rattle.qubo.specs.Formula.{Term}
use Rattle.qubo.specs.Terms.{one_hot}
use Rattle.qubo.specs.Rows.{add_terms, run_one_hot, RunBelow, Room}
use Rattle.qubo.proofs.RowAction.{Absent, add_absent, absent_each_of, add_only}
use Rattle.qubo.proofs.Runs.{run_lacks}
use Rattle.qubo.proofs.RowShapes.{one_hot_absent, one_hot_norm}
use Rattle.onehot.proofs.Rows.{bit_meter, meter_inside, part_run}
use Rattle.onehot.proofs.Parts.{part_within}
use Rattle.arcs.specs.Arcs.{arcs_end}
use Rattle.arcs.proofs.RowRoom.{room_for}
use Rattle.neighbours.proofs.CountBits.{bits_few}
use Rattle.neighbours.specs.Formula.{count_bit, count_terms}
use Rattle.neighbours.specs.Inner.{count_start, TableRow}
use Rattle.neighbours.specs.declared.counts.Counts.{Counts}

-- ---- bit i, behind those of depths and arcs, is that of a meter and a count

module _ (N D M d i : ℕ) (behind : arcs_end N D M ≤ i) where
  -- its number among the neighbour-count bits
  abbrev off : ℕ
  off = i - arcs_end N D M

  pub count_meter : (v j : ℕ) → 1 ≤ v → 1 ≤ j → j ≤ d → count_bit N D M d v j ≡ i → v ≡ off / d + 1
  count_meter v j a b h e = bit_meter d v j off a b h (omega arith)

  pub count_inside : 1 ≤ d → i < arcs_end N D M + N * d → off / d < N
  count_inside h l = meter_inside N d off h (omega arith)

-- ---- the term of a meter, over the run of its bits

meter_term : (A N D M d v : ℕ) → one_hot (pos A) d (count_bit N D M d v) ≡ run_one_hot (pos A) (part_run d (count_start N D M d v))
meter_term A N D M d v = ap (one_hot (pos A) d) (fun_ext (λ j. ap (λ (k : ℕ). count_start N D M d v + k) (sym (mul-one (pred j)))))

-- it has no bit of another meter, nor one before the neighbour-count bits
term_absent : (A N D M d i v : ℕ) → ((j : ℕ) → 1 ≤ j → j ≤ d → count_bit N D M d v j ≡ i → ⊥) → Absent (one_hot (pos A) d (count_bit N D M d v) ∷ []) i
term_absent A N D M d i v h =
    rw (meter_term A N D M d v)
    (one_hot_absent (pos A) (part_run d (count_start N D M d v)) i (run_lacks (part_run d (count_start N D M d v)) i
    (λ t l e. h (suc t) (omega arith) l (ap (λ (k : ℕ). count_start N D M d v + k) (sym (mul-one t)) ∙ e))))

-- ---- add_counts

module _ (k : Counts) {A i : ℕ} {r : List ℤ} (asked : (1 ≤ k.d) × TableRow (2 ^ 59) k.layout.meters k.layout.deepest k.links k.d A i r) {first : ℕ} (first_is : first ≡ arcs_end k.layout.meters k.layout.deepest k.links) where
  abbrev N : ℕ
  N = k.layout.meters

  abbrev D : ℕ
  D = k.layout.deepest

  abbrev M : ℕ
  M = k.links

  abbrev d : ℕ
  d = k.d

  -- nothing is added to the row of a bit before them
  pub counts_before : i < first → r ≡ add_terms (count_terms A N D M d) i r
  unfolding count_terms
  counts_before h =
      sym (add_absent (count_terms A N D M d) i r (absent_each_of N (λ v. one_hot (pos A) d (count_bit N D M d v) ∷ []) i (λ v p q. term_absent A N D M d i v (λ j a c e. omega (arith, first_is)))))

  -- bit i is one of meter m, whose bits start at s; A is a word of 64 bits
  module _ (late : first ≤ i) {m : ℕ} (meter : m ≡ (i - first) / d + 1) {s : ℕ} (start : s ≡ count_start N D M d m) where
    behind : arcs_end N D M ≤ i
    behind = omega (arith, first_is)

    meter_is : m ≡ suc ((i - arcs_end N D M) / d)
    meter_is = meter ∙ rw (first_is, add-one) refl

    inside : (i - arcs_end N D M) / d < N
    inside = count_inside N D M d i behind asked.0 (omega (arith, asked.1.whole, asked.1.own))

    as_number : to_z w64 A ≡ pos A
    as_number = to_z_pos w64 (omega (arith, asked.1.penalty))

    pub counts_done : {z : List ℤ} → z ≡ add_terms (run_one_hot (to_z w64 A) (part_run d s) ∷ []) i r → z ≡ add_terms (count_terms A N D M d) i r
    unfolding count_terms
    counts_done e =
        e ∙ rw as_number (sym (add_only N (λ v. one_hot (pos A) d (count_bit N D M d v) ∷ []) m i r (omega (arith, meter_is)) (rw meter_is inside)
        (λ v p q ne. term_absent A N D M d i v (λ j a c f. ne (omega (arith, meter_is, count_meter N D M d i behind v j p a c f))))
        ∙ ap (λ (t : Term). add_terms (t ∷ []) i r) (meter_term A N D M d m ∙ ap (λ (b : ℕ). run_one_hot (pos A) (part_run d b)) (sym start))))

    pub counts_ready : RunBelow (part_run d s) (i + length r) × Room (2 ^ 61) (run_one_hot (to_z w64 A) (part_run d s) ∷ []) r
    counts_ready =
        let f = part_within d ((i - arcs_end N D M) / d) N inside in
        let e : s ≡ arcs_end N D M + (i - arcs_end N D M) / d * d = start ∙ ap (count_start N D M d) meter_is in
        let g = bits_few N D M d k.layout.meters_high k.layout.shallow k.few k.high in
        let few : 1 + d ≤ 48 = omega (arith, k.high) in (
          record { apart = omega arith; inside = λ t l. omega (arith, asked.1.whole); end = omega arith },
          rw as_number (room_for _ r asked.1.small (omega (arith, one_hot_norm (pos A) d (λ t. s + pred t * 1), mul-le-mul asked.1.penalty (mul-le-mul few few)))),
        )
