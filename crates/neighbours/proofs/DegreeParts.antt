-- Rows of one meter's square: the numbered bits are added bit by bit, the arc bits link by link. The functions of src/degrees.rt cite these. Assumes nothing.
use Prim.Native.Nat.{ℕ, zero, suc, pred, ◌+◌, ◌-◌, ◌*◌, ◌^◌, ◌≤◌, ◌<◌}
use mathlib.Core.Path.{◌≡◌, refl, sym, ap, ap₂, ◌∙◌}
use mathlib.Core.Bool.{Bool, true, false, ◌||◌, cond}
use mathlib.Core.List.{List, [], ◌∷◌, ◌++◌, append_assoc}
use native.Mathlib.Omega.{arith}
use native.Mathlib.Numerals.{add-one}
use native.Mathlib.Nat.{add-zero, add_assoc, mul-one, mul-le-mul, mul-le-mul_left, mul-le-mul_right, add-mul}
use mir.Syntax.{w64}
use mir.Facts.{to_z-of_z}
use mir.Val.{to_z}
use lib.Dec.{eqb}
use lib.ListN.{length}
use lib.IntN.{ℤ, pos, negsuc, nat_abs, ◌+ℤ◌, ◌-ℤ◌, ◌*ℤ◌, *ℤ-zero}
use Rattle.links.specs.Links.{is_at, link_in}
use Rattle.links.specs.declared.Link.{Link}
use Rattle.qubo.specs.Formula.{Formula}
use Rattle.qubo.specs.Table.{only, coef}
use Rattle.qubo.specs.Norm.{entries_norm, formula_norm}
use Rattle.qubo.specs.Terms.{over, bit, bits, times, pair}
use Rattle.qubo.specs.Rows.{add_terms, run_bit, run_sum, RunBelow, Room}
use Rattle.qubo.specs.declared.Run.{Run}
use Rattle.qubo.proofs.Ints.{nat_abs_*ℤ}
use Rattle.qubo.proofs.Ring.{var, con, ◌⊕◌, ◌⊖◌, ◌⊗◌, solve}
use Rattle.qubo.proofs.Families.{sum_each, sum_each_eq, sum_each_split, coef_append, coef_bits, norm_append}
use Rattle.qubo.proofs.RowAction.{plus_none, add_none, add_append, add_length, added_abs}
use Rattle.qubo.proofs.RowTerms.{product_split, product_entry, product_scale, product_empty, coef_scaled, add_times, times_norm}
use Rattle.qubo.proofs.Runs.{run_lacks}
use Rattle.qubo.proofs.RowShapes.{bits_times_norm}
use Rattle.qubo.proofs.RowWalk.{Walked, walked_first, walked_room, walked_turn, walked_end}
use Rattle.qubo.proofs.Turns.{less_abs, fits_abs, fits_less}
use Rattle.arcs.specs.Arcs.{Arc, arcs, arc_bit, arcs_end}
use Rattle.arcs.proofs.Signed.{plain}
use Rattle.arcs.proofs.ArcLists.{arc_up, arc_back, arcs_left, arcs_start, arcs_turn, arcs_past}
use Rattle.neighbours.specs.Formula.{touching}
use Rattle.neighbours.specs.Inner.{numbered, link_run, link_part, Roomy}
use Rattle.neighbours.specs.declared.counts.Neighbours.{Neighbours}
use Rattle.neighbours.proofs.Asked.{word}
use Rattle.neighbours.proofs.CountValue.{numbered_norm}

-- ---- add_numbered: bit by bit

-- the norm of the first t of d ≤ 47 bits
pub numbered_small : (q : ℤ) (i t d start : ℕ) → d ≤ 47 → t ≤ d → formula_norm (times q i (numbered t start) ∷ []) ≤ nat_abs q * 1128
numbered_small q i t d start a b =
    let few : entries_norm (numbered t start) ≤ 1128 = omega (arith, numbered_norm t (λ j. start + pred j), mul-le-mul {n₂ = 47} {m₂ = 48} (let h : t ≤ 47 = omega arith in h) (let h : suc t ≤ 48 = omega arith in h)) in
    omega (arith, times_norm q i (numbered t start), mul-le-mul_left (nat_abs q) few)

-- the first t of d are added
abbrev pub Numbered : ℤ → ℕ → ℕ → ℕ → List ℤ → List ℤ → ℕ → Type 0
Numbered q i start d row₀ row t = (t ≤ d) × (row ≡ add_terms (times q i (numbered t start) ∷ []) i row₀)

module _ (start d : ℕ) {q : ℤ} {i : ℕ} {row₀ : List ℤ} (asked : (1 ≤ length row₀) × (d ≤ 47) × (start + d ≤ i + length row₀) × Roomy q i row₀) where
  as_given : word q ≡ q
  as_given = to_z-of_z (fits_abs q (omega (arith, asked.3.factor)))

  pub numbered_start : Numbered (word q) i start d row₀ row₀ 0
  numbered_start = (omega arith, sym (product_empty (word q) (bit i) i row₀))

  -- at number t + 1
  module _ {row : List ℤ} {t : ℕ} (walked : Numbered (word q) i start d row₀ row t) (h : t < d) where
    so_far_is : row ≡ add_terms (times q i (numbered t start) ∷ []) i row₀
    so_far_is = rw as_given at walked.1

    size : length row ≡ length row₀
    size = ap length so_far_is ∙ add_length (times q i (numbered t start) ∷ []) i row₀

    share : nat_abs (q *ℤ pos (t + 1)) ≤ 201863462912
    share = omega (arith, nat_abs_*ℤ q (pos (t + 1)), mul-le-mul {n₂ = 4294967296} {m₂ = 47} asked.3.factor (let g : t + 1 ≤ 47 = omega (arith, asked.1) in g))

    share_is : word (word q *ℤ to_z w64 (t + 1)) ≡ q *ℤ pos (t + 1)
    share_is = rw (as_given, plain (t + 1) (omega (arith, asked.1)), to_z-of_z (fits_abs (q *ℤ pos (t + 1)) (omega (arith, share)))) refl

    pub number_ready : (i < i + length row) × (start + t < i + length row) × Room (2 ^ 61) (pair (word (word q *ℤ to_z w64 (t + 1))) i (start + t) ∷ []) row
    number_ready = (
      omega (arith, size, asked.0),
      omega (arith, size, asked.2),
      rw (share_is, so_far_is) (record {
        room = λ k. omega (
          arith,
          asked.3.small k,
          asked.3.factor,
          added_abs (times q i (numbered t start) ∷ []) i row₀ k,
          numbered_small q i t d start asked.1 walked.0,
          times_norm (q *ℤ pos (t + 1)) i ((start + t, pos 1) ∷ []),
          share,
        );
      }),
    )

    -- a turn adds it
    pub numbered_turn : {next : List ℤ} → next ≡ add_terms (pair (word (word q *ℤ to_z w64 (t + 1))) i (start + t) ∷ []) i row → Numbered (word q) i start d row₀ next (t + 1)
    numbered_turn e = (omega arith, e ∙ rw (share_is, so_far_is, as_given, add-one t) one_more)
      where
        one_more : add_terms (pair (q *ℤ pos (suc t)) i (start + t) ∷ []) i (add_terms (times q i (numbered t start) ∷ []) i row₀) ≡ add_terms (times q i (numbered (suc t) start) ∷ []) i row₀
        one_more =
            sym (product_entry q (pos (suc t)) (bit i) (start + t) i (add_terms (times q i (numbered t start) ∷ []) i row₀))
            ∙ sym (product_split q (bit i) (pos 0) (numbered t start) ((start + t, pos (suc t)) ∷ []) i row₀)

-- ---- the two arcs of a link

module _ (N D m : ℕ) (ls : List Link) (k : ℕ) where
  abbrev u : ℕ
  u = (link_in ls k).u

  abbrev v : ℕ
  v = (link_in ls k).v

  -- what they take off the form of meter m
  abbrev both : List (ℕ × ℤ)
  both = touching N D m (arc_up ls k) ++ touching N D m (arc_back ls k)

  -- their bits, one after another
  run_halves : (j : ℕ) → coef (run_sum (link_run N D k)) j ≡ coef (bits (pos 1) D (arc_bit N D (arc_up ls k))) j +ℤ coef (bits (pos 1) D (arc_bit N D (arc_back ls k))) j
  run_halves j =
      coef_bits (pos 1) (2 * D) (run_bit (link_run N D k)) j
      ∙ ap (λ (c : ℕ). sum_each c f) (let e : 2 * D ≡ D + D = omega arith in e)
      ∙ sum_each_split D D f
      ∙ ap₂ ◌+ℤ◌
      (sum_each_eq D f (λ t. only (arc_bit N D (arc_up ls k) t) (pos 1) j) (λ t p q. ap (λ (s : ℕ). only s (pos 1) j) (first t)))
      (sum_each_eq D (λ t. f (D + t)) (λ t. only (arc_bit N D (arc_back ls k) t) (pos 1) j) (λ t p q. ap (λ (s : ℕ). only s (pos 1) j) (second t p)))
      ∙ sym (ap₂ ◌+ℤ◌ (coef_bits (pos 1) D (arc_bit N D (arc_up ls k)) j) (coef_bits (pos 1) D (arc_bit N D (arc_back ls k)) j))
    where
      f : ℕ → ℤ
      f t = only (run_bit (link_run N D k) t) (pos 1) j

      first : (t : ℕ) → run_bit (link_run N D k) t ≡ arc_bit N D (arc_up ls k) t
      first t = ap (λ (s : ℕ). N * suc D + 2 * k * D + s) (mul-one (pred t))

      second : (t : ℕ) → 1 ≤ t → run_bit (link_run N D k) (D + t) ≡ arc_bit N D (arc_back ls k) t
      second zero p = absurd (omega arith)
      second (suc t) p =
          let e : D + suc t ≡ suc (D + t) = omega arith in
          ap (λ (s : ℕ). N * suc D + 2 * k * D + pred s * 1) e ∙ omega (arith, add-mul (2 * k) 1 D)

  or_both : (s t : Bool) (es fs : List (ℕ × ℤ)) (j : ℕ) → coef (cond (s || t) es [] ++ cond (t || s) fs []) j ≡ coef (cond (s || t) (es ++ fs) []) j
  or_both true true es fs j = refl
  or_both true false es fs j = refl
  or_both false true es fs j = refl
  or_both false false es fs j = refl

  -- each of those bits has the coefficient -1 where the link has an end at m
  both_coef : (j : ℕ) → coef both j ≡ negsuc 0 *ℤ coef (cond (eqb u m || eqb v m) (run_sum (link_run N D k)) []) j
  both_coef j =
      or_both (eqb u m) (eqb v m) (bits (negsuc 0) D (arc_bit N D (arc_up ls k))) (bits (negsuc 0) D (arc_bit N D (arc_back ls k))) j
      ∙ go (eqb u m || eqb v m)
    where
      b₁ : ℕ → ℕ
      b₁ = arc_bit N D (arc_up ls k)

      b₂ : ℕ → ℕ
      b₂ = arc_bit N D (arc_back ls k)

      go : (t : Bool) → coef (cond t (bits (negsuc 0) D b₁ ++ bits (negsuc 0) D b₂) []) j ≡ negsuc 0 *ℤ coef (cond t (run_sum (link_run N D k)) []) j
      go true =
          coef_append (bits (negsuc 0) D b₁) (bits (negsuc 0) D b₂) j
          ∙ ap₂ ◌+ℤ◌ (coef_scaled (negsuc 0) D b₁ j) (coef_scaled (negsuc 0) D b₂ j)
          ∙ solve (con (negsuc 0) ⊗ var 0 ⊕ con (negsuc 0) ⊗ var 1) (con (negsuc 0) ⊗ (var 0 ⊕ var 1)) tt (coef (bits (pos 1) D b₁) j ∷ coef (bits (pos 1) D b₂) j ∷ [])
          ∙ ap (λ z. negsuc 0 *ℤ z) (sym (run_halves j))
      go false = refl

  -- so q times both is -q times the link's part
  both_added : (q : ℤ) (i : ℕ) (r : List ℤ) → add_terms (times q i both ∷ []) i r ≡ add_terms (link_part (link_in ls k) m (pos 0 -ℤ q) i (link_run N D k)) i r
  unfolding link_part is_at
  both_added q i r =
      product_scale q (negsuc 0) (bit i) both (cond (eqb u m || eqb v m) (run_sum (link_run N D k)) []) both_coef i r
      ∙ ap (λ z. add_terms (times z i (cond (eqb u m || eqb v m) (run_sum (link_run N D k)) []) ∷ []) i r) (solve (var 0 ⊗ con (negsuc 0)) (con (pos 0) ⊖ var 0) tt (q ∷ []))
      ∙ go (eqb u m || eqb v m)
    where
      go : (t : Bool) → add_terms (times (pos 0 -ℤ q) i (cond t (run_sum (link_run N D k)) []) ∷ []) i r ≡ add_terms (cond t (times (pos 0 -ℤ q) i (run_sum (link_run N D k)) ∷ []) []) i r
      go true = refl
      go false = product_empty (pos 0 -ℤ q) (bit i) i r ∙ sym (add_none i r)

-- ---- add_link: the link has an end at the meter, or none

module _ (l : Link) (m : ℕ) (q : ℤ) (i : ℕ) (run : Run) where
  pub part_yes : is_at m l ≡ true → link_part l m q i run ≡ times q i (run_sum run) ∷ []
  unfolding link_part
  part_yes e = rw e refl

  pub part_no : is_at m l ≡ false → link_part l m q i run ≡ []
  unfolding link_part
  part_no e = rw e refl

  -- a run below bit i: its pairs with bit i stand in the rows of its own bits
  part_under : ((t : ℕ) → t < run.count → run.start + t * run.step < i) → (r : List ℤ) → add_terms (link_part l m q i run) i r ≡ r
  unfolding link_part
  part_under h r = go (is_at m l)
    where
      go : (t : Bool) → add_terms (cond t (times q i (run_sum run) ∷ []) []) i r ≡ r
      go true = add_times q i (run_sum run) r ∙ plus_none r (λ k. q *ℤ coef (run_sum run) (i + k)) (λ k. ap (λ z. q *ℤ z) (run_lacks run (i + k) (λ t p e. omega (arith, h t p))) ∙ *ℤ-zero q)
      go false = add_none i r

-- ---- add_touching: link by link

-- the parts of n links from k on, with the factor q
parts : ℕ → ℕ → ℕ → List Link → ℤ → ℕ → ℕ → ℕ → Formula
parts N D m ls q i k zero = []
parts N D m ls q i k (suc n) = link_part (link_in ls k) m q i (link_run N D k) ++ parts N D m ls q i (k + 1) n

-- with -q they are what q times the arcs' bits adds
parts_added : (N D m : ℕ) (ls : List Link) (q : ℤ) (i n k : ℕ) → k + n ≡ length ls → (r : List ℤ)
    → add_terms (times q i (over (arcs_left ls k) (touching N D m)) ∷ []) i r ≡ add_terms (parts N D m ls (pos 0 -ℤ q) i k n) i r
unfolding parts
parts_added N D m ls q i zero k e r = rw (arcs_past ls k (omega arith)) (product_empty q (bit i) i r ∙ sym (add_none i r))
parts_added N D m ls q i (suc n) k e r =
    let first = link_part (link_in ls k) m (pos 0 -ℤ q) i (link_run N D k) in
    let rest = over (arcs_left ls (k + 1)) (touching N D m) in
    ap (λ (l : List Arc). add_terms (times q i (over l (touching N D m)) ∷ []) i r) (arcs_turn ls k (omega arith))
    ∙ ap (λ (es : List (ℕ × ℤ)). add_terms (times q i es ∷ []) i r) (sym (append_assoc (touching N D m (arc_up ls k)) (touching N D m (arc_back ls k)) rest))
    ∙ product_split q (bit i) (pos 0) (both N D m ls k) rest i r
    ∙ ap (add_terms (times q i rest ∷ []) i) (both_added N D m ls k q i r)
    ∙ parts_added N D m ls q i n (k + 1) (omega arith) (add_terms first i r)
    ∙ sym (add_append first (parts N D m ls (pos 0 -ℤ q) i (k + 1) n) i r)

-- their norm
part_norm : (l : Link) (m : ℕ) (q : ℤ) (i : ℕ) (run : Run) → formula_norm (link_part l m q i run) ≤ nat_abs q * run.count
unfolding link_part
part_norm l m q i run = go (is_at m l)
  where
    go : (t : Bool) → formula_norm (cond t (times q i (run_sum run) ∷ []) []) ≤ nat_abs q * run.count
    go true = omega (arith, bits_times_norm q i run.count (run_bit run))
    go false = omega arith

parts_norm : (N D m : ℕ) (ls : List Link) (q : ℤ) (i k n : ℕ) → formula_norm (parts N D m ls q i k n) ≤ n * (nat_abs q * (2 * D))
unfolding parts
parts_norm N D m ls q i k zero = omega arith
parts_norm N D m ls q i k (suc n) =
    omega (
      arith,
      norm_append (link_part (link_in ls k) m q i (link_run N D k)) (parts N D m ls q i (k + 1) n),
      part_norm (link_in ls k) m q i (link_run N D k),
      parts_norm N D m ls q i (k + 1) n,
    )

-- those of the links from k on
pub parts_left : ℕ → ℕ → ℕ → ℕ → List Link → ℤ → ℕ → Formula
parts_left N D m i ls q k = parts N D m ls q i k (length ls - k)

-- the bits of a link before n end at or before the first of link n
link_within : (D k n : ℕ) → k < n → 2 * k * D + 2 * D ≤ 2 * n * D
link_within D k n h = omega (arith, mul-le-mul_right D (let l : 2 * k + 2 ≤ 2 * n = omega arith in l), add-mul (2 * k) 2 D)

-- ---- add_touching: in turns

-- the links before k are added to the row, with the factor q
abbrev pub Touched : Neighbours → ℕ → ℕ → ℤ → List ℤ → List ℤ → ℕ → Type 0
Touched n m i q row₀ row k = Walked (2 ^ 61) (parts_left n.arcs.layout.meters n.arcs.layout.deepest m i n.arcs.links.now (pos 0 -ℤ q)) (length n.arcs.links.now) i row₀ row k

module _ (n : Neighbours) (m : ℕ) {from i : ℕ} {q : ℤ} {row₀ : List ℤ}
    (asked : (arcs_end n.arcs.layout.meters n.arcs.layout.deepest (length n.arcs.links.now) ≤ i + length row₀) × Roomy q i row₀ × (from ≤ length n.arcs.links.now) × (arcs_end n.arcs.layout.meters n.arcs.layout.deepest from ≤ i)) where
  abbrev N : ℕ
  N = n.arcs.layout.meters

  abbrev D : ℕ
  D = n.arcs.layout.deepest

  abbrev ls : List Link
  ls = n.arcs.links.now

  space : Roomy q i row₀
  space = asked.1

  same : word q ≡ q
  same = to_z-of_z (fits_abs q (omega (arith, space.factor)))

  less_is : word (pos 0 -ℤ word q) ≡ pos 0 -ℤ q
  less_is = rw (same, to_z-of_z (fits_less q (omega (arith, space.factor)))) refl

  abbrev part_at : ℕ → Formula
  part_at k = link_part (link_in ls k) m (pos 0 -ℤ q) i (link_run N D k)

  abbrev left : ℕ → Formula
  left k = parts_left N D m i ls (pos 0 -ℤ q) k

  left_next : (k : ℕ) → k < length ls → left k ≡ part_at k ++ left (k + 1)
  unfolding parts_left parts
  left_next k h = let e : length ls - k ≡ suc (length ls - (k + 1)) = omega arith in ap (λ (t : ℕ). parts N D m ls (pos 0 -ℤ q) i k t) e

  left_none : left (length ls) ≡ []
  unfolding parts_left parts
  left_none = let e : length ls - length ls ≡ 0 = omega arith in ap (λ (t : ℕ). parts N D m ls (pos 0 -ℤ q) i (length ls) t) e

  all_room : Room (2 ^ 61) (left 0) row₀
  unfolding parts_left
  all_room = record {
    room = λ k. omega (
      arith,
      space.small k,
      parts_norm N D m ls (pos 0 -ℤ q) i 0 (length ls - 0),
      less_abs q,
      mul-le-mul {n₂ = 256} {m₂ = 206158430208} (let h : length ls - 0 ≤ 256 = omega (arith, n.arcs.few) in h)
          (mul-le-mul {n₂ = 4294967296} {m₂ = 48} (let h : nat_abs (pos 0 -ℤ q) ≤ 4294967296 = omega (arith, less_abs q, space.factor) in h) (let h : 2 * D ≤ 48 = omega (arith, n.arcs.layout.shallow) in h)),
    );
  }

  -- the links before `from` add nothing: their bits are below bit i
  pub touched_start : Touched n m i (word q) row₀ row₀ (from + 0)
  touched_start =
      rw (same, add-zero from)
      (walked_first _ part_at left _ _ left_next left_none row₀ from asked.2
      (λ k l r. part_under (link_in ls k) m (pos 0 -ℤ q) i (link_run N D k) (λ t g. omega (arith, link_within D k from l, asked.3)) r) all_room)

  -- after t turns
  module _ {row : List ℤ} (t : ℕ) (walked : Touched n m i (word q) row₀ row (from + t)) where
    abbrev k : ℕ
    k = from + t

    so_far : Touched n m i q row₀ row k
    so_far = rw same at walked

    pub touched_end : k ≡ length ls → row ≡ add_terms (times q i (over (arcs ls) (touching N D m)) ∷ []) i row₀
    unfolding parts_left
    touched_end h =
        walked_end _ part_at left _ _ left_next left_none row₀ row k (omega (arith, h)) so_far
        ∙ sym (rw (arcs_start ls) at (parts_added N D m ls q i (length ls - 0) 0 (omega arith) row₀))

    -- l is link k
    module _ {j : ℕ} {l : Link} (turn : (j ≡ k) × (j < length ls) × (l ≡ link_in ls j)) where
      high : k < length ls
      high = omega (arith, turn.0, turn.1)

      part_is : link_part l m (word (pos 0 -ℤ word q)) i (link_run N D j) ≡ part_at k
      part_is = rw (less_is, turn.2, turn.0) refl

      -- its bits lie in the table, and there is room for its part
      pub touched_ready : (j ≤ 256) × RunBelow (link_run N D j) (i + length row) × Room (2 ^ 61) (link_part l m (word (pos 0 -ℤ word q)) i (link_run N D j)) row
      touched_ready =
          let g = link_within D k (length ls) high in (
            omega (arith, turn.1, n.arcs.few),
            rw turn.0 (record { apart = omega arith; inside = λ t b. omega (arith, so_far.size, asked.0); end = omega (arith, space.short, so_far.size) }),
            rw part_is (walked_room _ part_at left _ _ left_next left_none row₀ row k high so_far),
          )

      -- a turn adds it
      pub touched_turn : {next : List ℤ} → next ≡ add_terms (link_part l m (word (pos 0 -ℤ word q)) i (link_run N D j)) i row → Touched n m i (word q) row₀ next (from + (t + 1))
      touched_turn {next = next} e =
          rw (same, ← add_assoc from t 1) (walked_turn _ part_at left _ _ left_next left_none row₀ row k high so_far next (sym (e ∙ ap (λ (f : Formula). add_terms f i row) part_is)))
