-- One meter's square in row i, where bit i has the coefficient c in its form: a number of bit i itself, then the numbered bits and the arc bits with the factor 2 A c. Its numbers fit and there is room. The function add_degree of src/degrees.rt cites these. Assumes nothing.
use Prim.Native.Nat.{ℕ, zero, suc, ◌+◌, ◌*◌, ◌^◌, ◌≤◌, ◌<◌}
use mathlib.Core.Path.{◌≡◌, refl, sym, ap, ◌∙◌}
use mathlib.Core.List.{List, [], ◌∷◌}
use native.Mathlib.Omega.{arith}
use native.Mathlib.Nat.{mul-le-mul}
use mir.Facts.{to_z-of_z}
use mir.Syntax.{w64}
use mir.Val.{SFits, to_z}
use lib.ListN.{length, get_or}
use lib.IntN.{ℤ, pos, nat_abs, ◌-ℤ◌, ◌*ℤ◌}
use Rattle.links.specs.declared.Link.{Link}
use Rattle.qubo.specs.Table.{coef}
use Rattle.qubo.specs.Terms.{over, sum, bit, single, times}
use Rattle.qubo.specs.Rows.{add_terms, Room}
use Rattle.qubo.proofs.Ints.{nat_abs_*ℤ}
use Rattle.qubo.proofs.Ring.{var, con, ◌⊕◌, ◌⊖◌, ◌⊗◌, solve}
use Rattle.qubo.proofs.RowAction.{add_two, add_length, added_abs}
use Rattle.qubo.proofs.RowTerms.{own, product_split, square_row, single_norm}
use Rattle.qubo.proofs.Turns.{less_abs, fits_abs, fits_less}
use Rattle.onehot.proofs.Parts.{part_within}
use Rattle.arcs.specs.Arcs.{Arc, arcs, arcs_end}
use Rattle.arcs.proofs.Signed.{plain}
use Rattle.neighbours.specs.Formula.{touching, degree_term}
use Rattle.neighbours.specs.Inner.{numbered, count_start, degree_entries, Roomy}
use Rattle.neighbours.specs.declared.counts.Counts.{Counts}
use Rattle.neighbours.specs.declared.counts.Neighbours.{Neighbours}
use Rattle.neighbours.proofs.Asked.{word, Bounds, form, Numbers, start_of}
use Rattle.neighbours.proofs.CountBits.{bits_few}
use Rattle.neighbours.proofs.DegreeParts.{numbered_small}

-- the three parts
degree_row : (A N D M d : ℕ) (ks : List Arc) (m i : ℕ) (c : ℤ) (r : List ℤ) → coef (degree_entries N D M d ks m) i ≡ c
    → add_terms (degree_term A N D M d ks m ∷ []) i r
    ≡ add_terms (times (pos 2 *ℤ (pos A *ℤ c)) i (over ks (touching N D m)) ∷ []) i (add_terms (times (pos 2 *ℤ (pos A *ℤ c)) i (numbered d (count_start N D M d m)) ∷ []) i (add_terms (single (pos 0 -ℤ pos A *ℤ c *ℤ c) i ∷ []) i r))
degree_row A N D M d ks m i c r e =
    let q = pos 2 *ℤ (pos A *ℤ c) in
    let o = own (pos A) (pos 0) (pos 0) c c in
    square_row (pos A) (sum (degree_entries N D M d ks m)) i c e r
    ∙ add_two (single o i) (times q i (degree_entries N D M d ks m)) i r
    ∙ product_split q (bit i) (pos 0) (numbered d (count_start N D M d m)) (over ks (touching N D m)) i (add_terms (single o i ∷ []) i r)
    ∙ ap (λ z. add_terms (times q i (over ks (touching N D m)) ∷ []) i (add_terms (times q i (numbered d (count_start N D M d m)) ∷ []) i (add_terms (single z i ∷ []) i r)))
    (solve (var 0 ⊗ (con (pos 0) ⊗ var 1 ⊕ var 1 ⊗ con (pos 0) ⊖ var 1 ⊗ var 1)) (con (pos 0) ⊖ var 0 ⊗ var 1 ⊗ var 1) tt (pos A ∷ c ∷ []))

-- ---- the numbers, with A ≤ 20,000,000 and |c| ≤ 47

module _ (A : ℕ) (c : ℤ) (A-low : A ≤ 20000000) (c-low : nat_abs c ≤ 47) where
  factor_low : nat_abs (pos A *ℤ c) ≤ 940000000
  factor_low = omega (arith, nat_abs_*ℤ (pos A) c, mul-le-mul {n₂ = 20000000} {m₂ = 47} A-low c-low)

  twice_low : nat_abs (pos 2 *ℤ (pos A *ℤ c)) ≤ 2 ^ 32
  twice_low = omega (arith, nat_abs_*ℤ (pos 2) (pos A *ℤ c), factor_low)

  square_low : nat_abs (pos A *ℤ c *ℤ c) ≤ 2 ^ 36
  square_low = omega (arith, nat_abs_*ℤ (pos A *ℤ c) c, mul-le-mul {n₂ = 940000000} {m₂ = 47} factor_low c-low)

word_of : (c : ℤ) → nat_abs c ≤ 47 → word c ≡ c
word_of c h = to_z-of_z (fits_abs c (omega arith))

-- ---- own_of: A c, then that times c, then less that

module _ (A : ℕ) (c : ℤ) (asked : (A ≤ 20000000) × (nat_abs c ≤ 47)) where
  abbrev factor_word : ℤ
  factor_word = word (to_z w64 A *ℤ word c)

  square_is : factor_word *ℤ word c ≡ pos A *ℤ c *ℤ c
  square_is = rw (plain A (omega (arith, asked.0)), word_of c asked.1, to_z-of_z (fits_abs (pos A *ℤ c) (omega (arith, factor_low A c asked.0 asked.1)))) refl

  pub square_fits : SFits w64 (factor_word *ℤ word c)
  square_fits = rw square_is (fits_abs (pos A *ℤ c *ℤ c) (omega (arith, square_low A c asked.0 asked.1)))

  less_is : pos 0 -ℤ word (factor_word *ℤ word c) ≡ pos 0 -ℤ pos A *ℤ c *ℤ c
  less_is = ap (λ z. pos 0 -ℤ z) (to_z-of_z square_fits ∙ square_is)

  pub less_fits : SFits w64 (pos 0 -ℤ word (factor_word *ℤ word c))
  less_fits = rw less_is (fits_less (pos A *ℤ c *ℤ c) (omega (arith, square_low A c asked.0 asked.1)))

  pub own_word : word (pos 0 -ℤ word (factor_word *ℤ word c)) ≡ pos 0 -ℤ pos A *ℤ c *ℤ c
  own_word = to_z-of_z less_fits ∙ less_is

-- ---- add_degree: bit i itself gets `here`, q is the factor of the others, and the meter's neighbour-count bits begin at `first`

pub record Degree (n : Neighbours) (A i m : ℕ) (c : ℤ) (r : List ℤ) (here q : ℤ) (first : ℕ) : Type 0 where
  pub bounds : Bounds n A i m c r
  pub here_is : here ≡ pos 0 -ℤ pos A *ℤ c *ℤ c
  pub q-is : q ≡ pos 2 *ℤ (pos A *ℤ c)
  pub first_is : first ≡ count_start n.arcs.layout.meters n.arcs.layout.deepest (length n.arcs.links.now) n.d m

-- the calls give them
pub degree_of : (n : Neighbours) (k : Counts) → Numbers n k → (c : ℤ) {A i m : ℕ} {r : List ℤ} → Bounds n A i m c r → {here : ℤ} → here ≡ pos 0 -ℤ pos A *ℤ word c *ℤ word c
    → {q : ℤ} → q ≡ pos 2 *ℤ (pos A *ℤ word c) → {first : ℕ} → first ≡ count_start k.layout.meters k.layout.deepest k.links k.d m → Degree n A i m c r (word here) (word q) first
degree_of n k numbers c {A = A} {m = m} bounds here_is q-is first_is =
    let row = bounds.3 in
    let own_word = rw (word_of c bounds.2) at here_is in
    let twice_word = rw (word_of c bounds.2) at q-is in
    record {
      bounds = bounds;
      here_is = to_z-of_z (fits_abs _ (rw own_word (omega (arith, less_abs (pos A *ℤ c *ℤ c), square_low A c row.penalty bounds.2)))) ∙ own_word;
      q-is = to_z-of_z (fits_abs _ (rw twice_word (omega (arith, twice_low A c row.penalty bounds.2)))) ∙ twice_word;
      first_is = start_of n k numbers m first_is;
    }

module _ {n : Neighbours} {A i m : ℕ} {c : ℤ} {r : List ℤ} {here q : ℤ} {first : ℕ} (t : Degree n A i m c r here q first) where
  abbrev N : ℕ
  N = n.arcs.layout.meters

  abbrev D : ℕ
  D = n.arcs.layout.deepest

  abbrev ls : List Link
  ls = n.arcs.links.now

  here_low : nat_abs here ≤ 2 ^ 36
  here_low = rw t.here_is (omega (arith, less_abs (pos A *ℤ c *ℤ c), square_low A c t.bounds.3.penalty t.bounds.2))

  q_low : nat_abs q ≤ 2 ^ 32
  q_low = rw t.q-is (twice_low A c t.bounds.3.penalty t.bounds.2)

  start_inside : first + n.d ≤ i + length r
  start_inside = rw t.first_is (inside m t.bounds.0 t.bounds.1)
    where
      inside : (k : ℕ) → 1 ≤ k → k ≤ N → count_start N D (length ls) n.d k + n.d ≤ i + length r
      inside zero a b = absurd (omega arith)
      inside (suc k) a b = omega (arith, t.bounds.3.whole, part_within n.d k N b)

  short : i + length r ≤ 2 ^ 32
  short = omega (arith, t.bounds.3.whole, bits_few N D (length ls) n.d n.arcs.layout.meters_high n.arcs.layout.shallow n.arcs.few n.high)

  pub single_ready : (i < i + length r) × Room (2 ^ 61) (single here i ∷ []) r
  single_ready = (omega (arith, t.bounds.3.own), record { room = λ k. omega (arith, t.bounds.3.small k, single_norm here i, here_low) })

  module _ {s : List ℤ} (e : s ≡ add_terms (single here i ∷ []) i r) where
    first_length : length s ≡ length r
    first_length = ap length e ∙ add_length (single here i ∷ []) i r

    first_small : (k : ℕ) → nat_abs (get_or s k (pos 0)) ≤ 3 * 2 ^ 58 + 2 ^ 36
    first_small k = rw e (omega (arith, t.bounds.3.small k, added_abs (single here i ∷ []) i r k, single_norm here i, here_low))

    pub numbered_ready : (1 ≤ length s) × (n.d ≤ 47) × (first + n.d ≤ i + length s) × Roomy q i s
    numbered_ready = (
      omega (arith, first_length, t.bounds.3.own),
      n.high,
      omega (arith, first_length, start_inside),
      record { small = λ k. omega (arith, first_small k); factor = q_low; short = omega (arith, first_length, short) },
    )

    module _ {u : List ℤ} (f : u ≡ add_terms (times q i (numbered n.d first) ∷ []) i s) where
      second_length : length u ≡ length r
      second_length = ap length f ∙ add_length (times q i (numbered n.d first) ∷ []) i s ∙ first_length

      second_small : (k : ℕ) → nat_abs (get_or u k (pos 0)) ≤ 2 ^ 60
      second_small k = rw f (omega (arith, first_small k, added_abs (times q i (numbered n.d first) ∷ []) i s k, numbered_small q i n.d n.d first n.high (omega arith), q_low))

      pub touching_ready : {from : ℕ} → (from ≤ length ls) × (arcs_end N D from ≤ i) → (arcs_end N D (length ls) ≤ i + length u) × Roomy q i u × (from ≤ length ls) × (arcs_end N D from ≤ i)
      touching_ready p = (
        omega (arith, second_length, t.bounds.3.whole),
        record { small = second_small; factor = q_low; short = omega (arith, second_length, short) },
        p.0,
        p.1,
      )

      pub degree_done : form n i m ≡ c → {z : List ℤ} → z ≡ add_terms (times q i (over (arcs ls) (touching N D m)) ∷ []) i u
          → z ≡ add_terms (degree_term A N D (length ls) n.d (arcs ls) m ∷ []) i r
      degree_done h g =
          g ∙ ap (add_terms (times q i (over (arcs ls) (touching N D m)) ∷ []) i) (f ∙ ap (add_terms (times q i (numbered n.d first) ∷ []) i) e)
          ∙ rw (t.q-is, t.here_is, t.first_is) refl
          ∙ sym (degree_row A N D (length ls) n.d (arcs ls) m i c r h)
