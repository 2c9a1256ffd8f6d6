-- The code of a tree: it is an assignment, its bits, and that bits which agree with them are the code. Assumes nothing.
use Prim.Native.Nat.{ℕ, zero, suc, ◌+◌, ◌-◌, ◌*◌, ◌/◌, ◌%◌, ◌≤◌, ◌<◌}
use mathlib.Core.Path.{◌≡◌, sym, ap, ap₂, ◌∙◌}
use mathlib.Core.Bool.{true}
use mathlib.Core.List.{List, ◌++◌, Memᴰ}
use lib.ListN.{length, get_or, length-append, get_or-append}
use lib.Seq.{get_or-append-add, ext_get_or}
use native.Mathlib.Omega.{arith}
use native.Mathlib.Decide.{dec_lt}
use native.Mathlib.Nat.{mul-zero, suc-mul, mul-le-mul, le_refl, mod-lt, div-add-mod', div-lt_iff_lt-mul}
use Rattle.lists.specs.Sums.{same}
use Rattle.links.specs.declared.Link.{Link}
use Rattle.qubo.specs.Formula.{Bits, Assignment}
use Rattle.onehot.specs.Choices.{code}
use Rattle.onehot.proofs.Codes.{each_length, each_at, bits_append, code_length, code_small, code_at}
use Rattle.spanning.specs.Parents.{deepest, depth_of, neighbours}
use Rattle.arcs.specs.Arcs.{Arc, arcs, depth_at, arc_at}
use Rattle.neighbours.specs.Formula.{count_at}
use Rattle.tree.specs.Formula.{bit_count, TreeBits, bits_of}
use Rattle.tree.specs.Plans.{is_plan, bit_of_depth, depth_choices, arc_choice, arc_choices, count_choices, code_of}
use Rattle.tree.proofs.Arcs.{arc_place, arc_numbered}
use Rattle.tree.proofs.Filling.{arc_choices_length}
use Rattle.tree.proofs.Agree.{Agree, agree_trans, agree_sym}

-- ---- places in n parts of w bits each

-- bit j of part k
part_bit : (n w k j : ℕ) → k < n → j < w → k * w + j < n * w
part_bit n w k j h l = let z : suc k * w ≤ n * w = mul-le-mul h (le_refl w) in omega (arith, suc-mul k w)

-- each place is a bit of a part
part_place : (n w q : ℕ) → q < n * w → (q / w < n) × (q % w < w) × (q / w * w + q % w ≡ q)
part_place n zero q h = absurd (omega (arith, mul-zero n))
part_place n (suc w) q h = let one : 1 ≤ suc w = omega arith in ((div-lt_iff_lt-mul one).1 h, mod-lt q one, div-add-mod' q (suc w))

-- an entry behind n others
behind : (s t : List ℕ) (n q : ℕ) → length s ≡ n → get_or (s ++ t) (n + q) 0 ≡ get_or t q 0
behind s t n q e = rw (← e) (get_or-append-add s t q 0)

module _ (N d : ℕ) (ls : List Link) (p : List ℕ) where
  -- the bits of depths
  abbrev depths : List ℕ
  depths = code (suc (deepest N)) (depth_choices N p)

  -- those of arcs
  abbrev entries : List ℕ
  entries = code (deepest N) (arc_choices N ls p)

  -- those of neighbour counts
  abbrev counts : List ℕ
  counts = code d (count_choices N p)

  -- a bit for each meter and depth
  depths_length : length depths ≡ N * suc (deepest N)
  unfolding depth_choices
  depths_length = code_length (suc (deepest N)) (depth_choices N p) ∙ ap (λ (t : ℕ). t * suc (deepest N)) (each_length N (λ v. bit_of_depth (depth_of p N v)))

  -- a bit for each arc and depth from 1 on
  entries_length : length entries ≡ 2 * length ls * deepest N
  entries_length = code_length (deepest N) (arc_choices N ls p) ∙ ap (λ (t : ℕ). t * deepest N) (arc_choices_length N ls p)

  -- a bit for each meter and count
  counts_length : length counts ≡ N * d
  unfolding count_choices
  counts_length = code_length d (count_choices N p) ∙ ap (λ (t : ℕ). t * d) (each_length N (neighbours N p))

  -- those of depths and arcs together
  front_length : length (depths ++ entries) ≡ N * suc (deepest N) + 2 * length ls * deepest N
  front_length = length-append depths entries ∙ ap₂ ◌+◌ depths_length entries_length

  -- as many bits as there are
  pub code_size : length (code_of N d ls p) ≡ bit_count N (length ls) d
  unfolding code_of
  code_size = length-append (depths ++ entries) counts ∙ ap₂ ◌+◌ front_length counts_length

  -- each 0 or 1
  code_bit : Bits (code_of N d ls p)
  unfolding code_of
  code_bit = bits_append (depths ++ entries) counts (bits_append depths entries (code_small _ (depth_choices N p)) (code_small _ (arc_choices N ls p))) (code_small d (count_choices N p))

  -- ---- its bits

  -- meter v at depth i: whether that is its depth
  pub code_depth : (v i : ℕ) → 1 ≤ v → v ≤ N → i ≤ deepest N → depth_at (deepest N) (code_of N d ls p) v i ≡ same (bit_of_depth (depth_of p N v)) (suc i)
  unfolding code_of depth_at depth_choices
  code_depth zero i a b h = absurd (omega arith)
  code_depth (suc k) i a b h =
      let q : k * suc (deepest N) + i < N * suc (deepest N) = part_bit N (suc (deepest N)) k i b (omega arith) in
      get_or-append (depths ++ entries) counts 0 (k * suc (deepest N) + i) (omega (arith, front_length))
      ∙ get_or-append depths entries 0 (k * suc (deepest N) + i) (omega (arith, depths_length))
      ∙ code_at (suc (deepest N)) (depth_choices N p) k i (omega (arith, each_length N (λ v. bit_of_depth (depth_of p N v)))) (omega arith)
      ∙ ap (λ (t : ℕ). same t (suc i)) (each_at N (λ v. bit_of_depth (depth_of p N v)) k b)

  -- arc a at depth i: whether it leads from the parent of its child and that is the child's depth
  pub code_arc : (a : Arc) → Memᴰ a (arcs ls) → (i : ℕ) → 1 ≤ i → i ≤ deepest N → arc_at N (deepest N) (code_of N d ls p) a i ≡ same (arc_choice N p a) i
  unfolding code_of arc_at arc_choices
  code_arc a m zero l h = absurd (omega arith)
  code_arc a m (suc i) l h =
      let t = arc_place ls (arc_choice N p) a m in
      let q : a.number * deepest N + i < 2 * length ls * deepest N = part_bit (2 * length ls) (deepest N) a.number i t.0 h in
      let e : N * suc (deepest N) + a.number * deepest N + i ≡ N * suc (deepest N) + (a.number * deepest N + i) = omega arith in
      get_or-append (depths ++ entries) counts 0 (N * suc (deepest N) + a.number * deepest N + i) (omega (arith, front_length))
      ∙ ap (λ (n : ℕ). get_or (depths ++ entries) n 0) e
      ∙ behind depths entries (N * suc (deepest N)) (a.number * deepest N + i) depths_length
      ∙ code_at (deepest N) (arc_choices N ls p) a.number i (omega (arith, arc_choices_length N ls p, t.0)) h
      ∙ ap (λ (n : ℕ). same n (suc i)) t.1

  -- meter v with exactly j neighbours: whether it has as many
  pub code_count : (v j : ℕ) → 1 ≤ v → v ≤ N → 1 ≤ j → j ≤ d → count_at N (deepest N) (length ls) d (code_of N d ls p) v j ≡ same (neighbours N p v) j
  unfolding code_of count_at count_choices
  code_count zero j a b l h = absurd (omega arith)
  code_count (suc k) zero a b l h = absurd (omega arith)
  code_count (suc k) (suc j) a b l h =
      let e : N * suc (deepest N) + 2 * length ls * deepest N + k * d + j ≡ N * suc (deepest N) + 2 * length ls * deepest N + (k * d + j) = omega arith in
      ap (λ (n : ℕ). get_or (depths ++ entries ++ counts) n 0) e
      ∙ behind (depths ++ entries) counts (N * suc (deepest N) + 2 * length ls * deepest N) (k * d + j) front_length
      ∙ code_at d (count_choices N p) k j (omega (arith, each_length N (neighbours N p))) h
      ∙ ap (λ (t : ℕ). same t (suc j)) (each_at N (neighbours N p) k b)

-- a plan's code is an assignment
pub code_assignment : (N d : ℕ) (ls : List Link) (p : List ℕ) → is_plan N d ls p ≡ true → Assignment (bit_count N (length ls) d) (code_of N d ls p)
code_assignment N d ls p e = record { size = code_size N d ls p; bits = code_bit N d ls p }

-- ---- bits as functions of meters and arcs

-- those of the code of p
unfoldable pub code_bits : ℕ → List ℕ → TreeBits
code_bits N p = record {
  dep = λ v i. same (bit_of_depth (depth_of p N v)) (suc i);
  arc = λ a i. same (arc_choice N p a) i;
  cnt = λ v j. same (neighbours N p v) j;
}

module _ (N d : ℕ) (ls : List Link) where
  -- those of a list of bits
  abbrev pub list_bits : List ℕ → TreeBits
  list_bits x = bits_of N (deepest N) (length ls) d x

  -- the list that codes p has those of the code of p
  pub code_agrees : (p : List ℕ) → Agree N (deepest N) d (arcs ls) (list_bits (code_of N d ls p)) (code_bits N p)
  unfolding bits_of code_bits
  code_agrees p = record { dep = code_depth N d ls p; arc = code_arc N d ls p; cnt = code_count N d ls p }

  -- ---- two lists that agree are equal

  module _ (x y : List ℕ) (g : Agree N (deepest N) d (arcs ls) (list_bits x) (list_bits y)) where
    -- among the depths
    depths_equal : (q : ℕ) → q < N * suc (deepest N) → get_or x q 0 ≡ get_or y q 0
    unfolding bits_of depth_at
    depths_equal q h =
        let t = part_place N (suc (deepest N)) q h in
        rw (← t.2) (g.dep (suc (q / suc (deepest N))) (q % suc (deepest N)) (omega arith) t.0 (omega (arith, t.1)))

    -- among the arcs
    arcs_equal : (q : ℕ) → q < 2 * length ls * deepest N → get_or x (N * suc (deepest N) + q) 0 ≡ get_or y (N * suc (deepest N) + q) 0
    unfolding bits_of arc_at
    arcs_equal q h =
        let t = part_place (2 * length ls) (deepest N) q h in
        let a = arc_numbered ls (q / deepest N) t.0 in
        let e : N * suc (deepest N) + a.0.number * deepest N + q % deepest N ≡ N * suc (deepest N) + q = rw a.2 (omega (arith, t.2)) in
        rw (← e) (g.arc a.0 a.1 (suc (q % deepest N)) (omega arith) t.1)

    -- among the neighbour counts
    counts_equal : (q : ℕ) → q < N * d → get_or x (N * suc (deepest N) + 2 * length ls * deepest N + q) 0 ≡ get_or y (N * suc (deepest N) + 2 * length ls * deepest N + q) 0
    unfolding bits_of count_at
    counts_equal q h =
        let t = part_place N d q h in
        let e : N * suc (deepest N) + 2 * length ls * deepest N + q / d * d + q % d ≡ N * suc (deepest N) + 2 * length ls * deepest N + q = omega (arith, t.2) in
        rw (← e) (g.cnt (suc (q / d)) (suc (q % d)) (omega arith) t.0 (omega arith) t.1)

    -- each place is among the depths, among the arcs or among the counts
    place_equal : (q : ℕ) → q < bit_count N (length ls) d → get_or x q 0 ≡ get_or y q 0
    place_equal q h =
        elim (dec_lt q (N * suc (deepest N))) [
          | yes l ↦ depths_equal q l
          | no l ↦ elim (dec_lt q (N * suc (deepest N) + 2 * length ls * deepest N)) [
            | yes k ↦ let e : N * suc (deepest N) + (q - N * suc (deepest N)) ≡ q = omega arith in rw (← e) (arcs_equal (q - N * suc (deepest N)) (omega arith))
            | no k ↦
                let e : N * suc (deepest N) + 2 * length ls * deepest N + (q - (N * suc (deepest N) + 2 * length ls * deepest N)) ≡ q = omega arith in
                rw (← e) (counts_equal (q - (N * suc (deepest N) + 2 * length ls * deepest N)) (omega arith))
          ]
        ]

  -- an assignment with the bits of a code is that code
  pub agree_code : (x p : List ℕ) → length x ≡ bit_count N (length ls) d → Agree N (deepest N) d (arcs ls) (list_bits x) (code_bits N p) → x ≡ code_of N d ls p
  agree_code x p l g =
      ext_get_or 0 x (code_of N d ls p) (l ∙ sym (code_size N d ls p))
      (λ k h. place_equal x (code_of N d ls p) (agree_trans N (deepest N) d (arcs ls) _ _ _ g (agree_sym N (deepest N) d (arcs ls) _ _ (code_agrees p))) k (rw l at h))
