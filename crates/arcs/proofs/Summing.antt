-- Laws that the proofs of src/sums.rt cite: sums over depths, meters and arcs as the loops add them up. Assumes nothing.
use Prim.Native.Nat.{ℕ, zero, suc, pred, ◌+◌, ◌-◌, ◌*◌, ◌≤◌, ◌<◌}
use mathlib.Core.Path.{◌≡◌, refl, sym, ap, ap₂, ◌∙◌, subst}
use mathlib.Core.List.{List}
use lib.ListN.{length, get_or, take}
use lib.Seq.{get_or-take, length-take-le}
use native.Mathlib.Omega.{arith}
use native.Mathlib.Numerals.{add-one}
use native.Mathlib.Nat.{mul-le-mul, mul-add, zero-mul}
use Rattle.lists.specs.Sums.{sum_to, sum_of, gap, nth}
use Rattle.lists.proofs.Sums.{gap_small, sum_to_zero, sum_to_next, sum_to_eq, sum_to_none, nth_suc}
use Rattle.links.specs.Links.{link_in, weights}
use Rattle.links.specs.declared.Link.{Link}
use Rattle.links.proofs.Alike.{count_alike}
use Rattle.qubo.specs.Formula.{Bits}
use Rattle.onehot.specs.Choices.{bit_at, set_at, miss_squared, misses}
use Rattle.arcs.specs.Arcs.{Arc, arcs, depth_bit, depth_at, arc_at}
use Rattle.arcs.specs.Sums.{root_miss, depth_misses, end_misses, arc_cost}
use Rattle.arcs.specs.Inner.{link_set, Used}
use Rattle.arcs.proofs.ArcLists.{arc_up, arc_back}
use Rattle.arcs.proofs.LinkBits.{set_halves, none_set}
use Rattle.arcs.proofs.ArcSums.{ArcsSummed, summed_start, summed_turn, summed_end}
use Rattle.arcs.proofs.Endless.{cost_alike}
use Rattle.arcs.proofs.Slices.{slice, slice_length, slice_at, slice_nth, slice_bits, meter_within}

-- ---- a walk from 1 on: at v those before v are summed

pub step_up : (f : ℕ → ℕ) (v : ℕ) → 1 ≤ v → sum_to (pred (v + 1)) f ≡ sum_to (pred v) f + f v
unfolding sum_to
step_up f zero h = absurd (omega arith)
step_up f (suc k) h = rw (add-one (suc k)) refl

-- ---- root_count: the depth-0 bits of the meters before v

pub roots_before : ℕ → List ℕ → ℕ → ℕ
roots_before D x v = sum_to (pred v) (λ u. depth_at D x u 0)

pub roots_start : (D : ℕ) (x : List ℕ) → roots_before D x 1 ≡ 0
unfolding roots_before
roots_start D x = sum_to_zero _

pub roots_next : (D : ℕ) (x : List ℕ) (v p : ℕ) → 1 ≤ v → p ≡ depth_bit D v 0 → roots_before D x (v + 1) ≡ roots_before D x v + get_or x p 0
unfolding roots_before depth_at
roots_next D x v p h e = rw e (step_up (λ u. depth_at D x u 0) v h)

pub roots_end : (D : ℕ) (x : List ℕ) (v N sum : ℕ) → v ≡ N + 1 → sum ≡ roots_before D x v → sum ≡ sum_to N (λ u. depth_at D x u 0)
unfolding roots_before
roots_end D x v N sum e d = rw (e, add-one N) at d

-- the square of what it misses of 1
pub root_miss_is : (N D : ℕ) (x : List ℕ) (k r : ℕ) → k ≡ sum_to N (λ v. depth_at D x v 0) → r ≡ miss_squared k → r ≡ root_miss N (depth_at D x)
unfolding root_miss
root_miss_is N D x k r e d = rw e at d

-- ---- depth_misses: the bits of depths, cut off in front

module _ (N D : ℕ) (x : List ℕ) (fits : N * suc D ≤ length x) where
  pub front_length : N * suc D ≡ length (take (N * suc D) x)
  front_length = sym (length-take-le (N * suc D) x (omega arith))

  pub depth_misses_is : (r : ℕ) → r ≡ misses N (suc D) (bit_at (suc D) (take (N * suc D) x)) → r ≡ depth_misses N D (depth_at D x)
  unfolding misses set_at bit_at depth_misses depth_at
  depth_misses_is r e =
      e
      ∙ sum_to_eq N (λ v. miss_squared (sum_to (suc D) (λ i. get_or (take (N * suc D) x) (pred v * suc D + pred i) 0))) (λ v. miss_squared (sum_to (suc D) (λ i. get_or x (pred v * suc D + pred i) 0)))
      (λ v p q. ap miss_squared (sum_to_eq (suc D) (λ i. get_or (take (N * suc D) x) (pred v * suc D + pred i) 0) (λ i. get_or x (pred v * suc D + pred i) 0)
      (λ i a b. get_or-take (N * suc D) x (pred v * suc D + pred i) 0 (omega (arith, meter_within D v N p q)))))

-- ---- part_gaps: squared gaps of the depths 1, .., t - 1

pub gaps_before : List ℕ → List ℕ → ℕ → ℕ
gaps_before part counts t = sum_to (pred t) (λ j. gap (get_or part j 0) (get_or counts j 0) * gap (get_or part j 0) (get_or counts j 0))

pub gaps_start : (part counts : List ℕ) → gaps_before part counts 1 ≡ 0
unfolding gaps_before
gaps_start part counts = sum_to_zero _

pub gaps_next : (part counts : List ℕ) (t : ℕ) → 1 ≤ t → gaps_before part counts (t + 1) ≡ gaps_before part counts t + gap (get_or part t 0) (get_or counts t 0) * gap (get_or part t 0) (get_or counts t 0)
unfolding gaps_before sum_to
gaps_next part counts zero h = absurd (omega arith)
gaps_next part counts (suc k) h = rw (add-one (suc k)) refl

pub gaps_end : (part counts : List ℕ) (t n sum : ℕ) → t ≡ n → sum ≡ gaps_before part counts t
    → sum ≡ sum_to (pred n) (λ j. gap (get_or part j 0) (get_or counts j 0) * gap (get_or part j 0) (get_or counts j 0))
unfolding gaps_before
gaps_end part counts t n sum e d = rw e at d

-- (b - c)² for a bit b
bit_gap : (b c : ℕ) → b ≤ 1 → b + c * c ≡ gap b c * gap b c + 2 * b * c
unfolding gap
bit_gap zero c h = let g : gap 0 c ≡ c = omega arith in omega (arith, ap (λ (n : ℕ). n * n) g)
bit_gap (suc zero) zero h = refl
bit_gap (suc zero) (suc k) h = let g : gap 1 (suc k) ≡ k = omega arith in omega (arith, ap (λ (n : ℕ). n * n) g)
bit_gap (suc (suc b)) c h = absurd (omega arith)

-- as the loop reckons it
pub bit_gap_steps : (b c : ℕ) → b ≤ 1 → c ≤ 48 → (2 * b * c ≤ b + c * c) × (b + c * c - 2 * b * c ≡ gap b c * gap b c) × (gap b c * gap b c ≤ 2304)
bit_gap_steps b c h k = let e = bit_gap b c h in (omega (arith, e), omega (arith, e), gap_small b c 48 (omega arith) k)

-- the loop goes over both behind depth 0: at its step k it has what they are at depth k + 1
pub record GapTurn (part counts : List ℕ) (k b c : ℕ) : Type 0 where
  pub inside : k + 1 < length part
  pub enough : 2 * b * c ≤ b + c * c
  pub small : b + c * c - 2 * b * c ≤ 2304
  pub next : gaps_before part counts (k + 1 + 1) ≡ gaps_before part counts (k + 1) + (b + c * c - 2 * b * c)

module _ (part counts : List ℕ) (own : 1 ≤ length part) (size : length counts ≡ length part) where
  pub tails_length : (length (slice part 1 (length part)) + 1 ≡ length part) × (length (slice counts 1 (length counts)) + 1 ≡ length part)
  tails_length =
      (omega (arith, slice_length part 1 (length part) (length part - 1) (omega arith) (omega arith)), omega (arith, slice_length counts 1 (length counts) (length counts - 1) (omega arith) (omega arith)))

  pub tails_turn : Bits part → ((t : ℕ) → 1 ≤ t → t < length part → get_or counts t 0 ≤ 48) → (k b c : ℕ) → k < length (slice part 1 (length part)) → b ≡ get_or (slice part 1 (length part)) k 0 → c ≡ get_or (slice counts 1 (length counts)) k 0 → GapTurn part counts k b c
  tails_turn bits few k b c h e f =
      let in_part : k + 1 < length part = omega (arith, tails_length.0) in
      let next : 1 + k ≡ k + 1 = omega arith in
      let b_is : b ≡ get_or part (k + 1) 0 = e ∙ slice_at part 1 (length part) (length part - 1) (omega arith) (omega arith) k (omega arith) ∙ ap (λ (t : ℕ). get_or part t 0) next in
      let c_is : c ≡ get_or counts (k + 1) 0 = f ∙ slice_at counts 1 (length counts) (length counts - 1) (omega arith) (omega arith) k (omega arith) ∙ ap (λ (t : ℕ). get_or counts t 0) next in
      let steps = bit_gap_steps (get_or part (k + 1) 0) (get_or counts (k + 1) 0) (bits (k + 1)) (few (k + 1) (omega arith) in_part) in
      rw (b_is, c_is) record { inside = in_part; enough = steps.0; small = omega (arith, steps.1, steps.2); next = gaps_next part counts (k + 1) (omega arith) ∙ ap (λ (t : ℕ). gaps_before part counts (k + 1) + t) (sym steps.1) }

-- ---- part_misses: the depths up to i of an arc

pub misses_to : List ℕ → List ℕ → List ℕ → ℕ → ℕ
misses_to part above below i = sum_to i (λ j. nth part j * (2 - (nth above j + nth below j)))

pub misses_start : (part above below : List ℕ) → misses_to part above below 0 ≡ 0
unfolding misses_to
misses_start part above below = sum_to_zero _

pub misses_next : (part above below : List ℕ) (i : ℕ) → misses_to part above below (i + 1) ≡ misses_to part above below i + get_or part i 0 * (2 - (get_or above i 0 + get_or below i 0))
unfolding misses_to
misses_next part above below i = sum_to_next i _ ∙ rw (nth_suc part i, nth_suc above i, nth_suc below i) refl

pub misses_end : (part above below : List ℕ) (i n sum : ℕ) → i ≡ n → sum ≡ misses_to part above below i → sum ≡ sum_to n (λ j. nth part j * (2 - (nth above j + nth below j)))
unfolding misses_to
misses_end part above below i n sum e d = rw e at d

-- a bit times at most 2
pub miss_small : (b s : ℕ) → b ≤ 1 → b * (2 - s) ≤ 2
miss_small zero s h = omega arith
miss_small (suc zero) s h = omega arith
miss_small (suc (suc b)) s h = absurd (omega arith)

-- ---- meter_gaps: the meters before v

-- the squared gaps of meter v
pub meter_gaps : ℕ → List ℕ → List ℕ → ℕ → ℕ
meter_gaps D x counts v = sum_to D (λ i. gap (depth_at D x v i) (get_or counts (depth_bit D v i) 0) * gap (depth_at D x v i) (get_or counts (depth_bit D v i) 0))

pub meters_gaps : ℕ → List ℕ → List ℕ → ℕ → ℕ
meters_gaps D x counts v = sum_to (pred v) (meter_gaps D x counts)

pub meters_start : (D : ℕ) (x counts : List ℕ) → meters_gaps D x counts 1 ≡ 0
unfolding meters_gaps
meters_start D x counts = sum_to_zero _

pub meters_end : (D : ℕ) (x counts : List ℕ) (v N sum : ℕ) → v ≡ N + 1 → sum ≡ meters_gaps D x counts v
    → sum ≡ sum_to N (λ u. sum_to D (λ i. gap (depth_at D x u i) (get_or counts (depth_bit D u i) 0) * gap (depth_at D x u i) (get_or counts (depth_bit D u i) 0)))
unfolding meters_gaps meter_gaps
meters_end D x counts v N sum e d = rw (e, add-one N) at d

-- the parts of meter v
module _ (D v : ℕ) (x counts : List ℕ) (f e : ℕ) (low : 1 ≤ v) (first : f ≡ depth_bit D v 0) (end : e ≡ f + suc D) (fits : e ≤ length x) (room : e ≤ length counts) where
  bits_length : length (slice x f e) ≡ suc D
  bits_length = slice_length x f e (suc D) end fits

  counts_length : length (slice counts f e) ≡ suc D
  counts_length = slice_length counts f e (suc D) end room

  bits_at : (i : ℕ) → i ≤ D → get_or (slice x f e) i 0 ≡ depth_at D x v i
  unfolding depth_at
  bits_at i h = let g : f + i ≡ depth_bit D v i = omega arith in rw (slice_at x f e (suc D) end fits i (omega arith), g) refl

  counts_at : (i : ℕ) → i ≤ D → get_or (slice counts f e) i 0 ≡ get_or counts (depth_bit D v i) 0
  counts_at i h = let g : f + i ≡ depth_bit D v i = omega arith in rw (slice_at counts f e (suc D) end room i (omega arith), g) refl

  -- what part_gaps asks of them
  pub gaps_room : D ≤ 24 → Bits x → ((u i : ℕ) → 1 ≤ u → 1 ≤ i → i ≤ D → get_or counts (depth_bit D u i) 0 ≤ 48)
      → (1 ≤ length (slice x f e))
      × (length (slice x f e) ≤ 25)
      × (length (slice counts f e) ≡ length (slice x f e))
      × Bits (slice x f e)
      × ((t : ℕ) → 1 ≤ t → t < length (slice x f e) → get_or (slice counts f e) t 0 ≤ 48)
  gaps_room d b l = (
    omega (arith, bits_length),
    omega (arith, bits_length),
    counts_length ∙ sym bits_length,
    slice_bits x f e (suc D) end fits b,
    λ t p q. let h : t ≤ D = omega (arith, bits_length) in omega (arith, counts_at t h, l v t low p h),
  )

  -- their squared gaps are added
  pub meters_next : (r : ℕ) → r ≡ sum_to (pred (length (slice x f e))) (λ t. gap (get_or (slice x f e) t 0) (get_or (slice counts f e) t 0) * gap (get_or (slice x f e) t 0) (get_or (slice counts f e) t 0)) → meters_gaps D x counts (v + 1) ≡ meters_gaps D x counts v + r
  unfolding meters_gaps meter_gaps
  meters_next r is = step_up (meter_gaps D x counts) v low ∙ ap (λ (k : ℕ). meters_gaps D x counts v + k) (own ∙ sym is)
    where
      squared : ℕ → ℕ → ℕ
      squared a b = gap a b * gap a b

      d : pred (length (slice x f e)) ≡ D
      d = omega (arith, bits_length)

      own : meter_gaps D x counts v ≡ sum_to (pred (length (slice x f e))) (λ t. squared (get_or (slice x f e) t 0) (get_or (slice counts f e) t 0))
      own =
          sum_to_eq D (λ t. squared (depth_at D x v t) (get_or counts (depth_bit D v t) 0)) (λ t. squared (get_or (slice x f e) t 0) (get_or (slice counts f e) t 0))
          (λ t p q. ap₂ squared (sym (bits_at t q)) (sym (counts_at t q)))
          ∙ ap (λ (k : ℕ). sum_to k (λ t. squared (get_or (slice x f e) t 0) (get_or (slice counts f e) t 0))) (sym d)

-- ---- arc_misses: the parts of arc q from u to v

module _ (N D q u v : ℕ) (x : List ℕ) (a p b : ℕ) (start : a ≡ N * suc D + q * D) (above : p ≡ depth_bit D u 0) (below : b ≡ depth_bit D v 1) (u1 : 1 ≤ u) (uN : u ≤ N) (v1 : 1 ≤ v) (vN : v ≤ N) (fits : N * suc D + q * D + D ≤ length x) where
  pub above_fits : p + D ≤ length x
  above_fits = omega (arith, meter_within D u N u1 uN)

  pub below_fits : b + D ≤ length x
  below_fits = omega (arith, meter_within D v N v1 vN)

  own_fits : a + D ≤ length x
  own_fits = omega arith

  own_length : length (slice x a (a + D)) ≡ D
  own_length = slice_length x a (a + D) D refl own_fits

  pub arc_misses_is : (r : ℕ) → r ≡ sum_to (length (slice x a (a + D))) (λ i. nth (slice x a (a + D)) i * (2 - (nth (slice x p (p + D)) i + nth (slice x b (b + D)) i)))
      → r ≡ sum_to D (λ i. get_or x (N * suc D + q * D + pred i) 0 * (2 - (depth_at D x u (pred i) + depth_at D x v i)))
  unfolding depth_at
  arc_misses_is r e =
      e
      ∙ ap (λ (k : ℕ). sum_to k (λ i. nth (slice x a (a + D)) i * (2 - (nth (slice x p (p + D)) i + nth (slice x b (b + D)) i)))) own_length
      ∙ sum_to_eq D (λ i. nth (slice x a (a + D)) i * (2 - (nth (slice x p (p + D)) i + nth (slice x b (b + D)) i))) (λ i. get_or x (N * suc D + q * D + pred i) 0 * (2 - (depth_at D x u (pred i) + depth_at D x v i))) at
    where
      at : (i : ℕ) → 1 ≤ i → i ≤ D → nth (slice x a (a + D)) i * (2 - (nth (slice x p (p + D)) i + nth (slice x b (b + D)) i)) ≡ get_or x (N * suc D + q * D + pred i) 0 * (2 - (depth_at D x u (pred i) + depth_at D x v i))
      at i l h =
          let d : p + pred i ≡ depth_bit D u (pred i) = omega arith in
          let f : b + pred i ≡ depth_bit D v i = omega arith in
          rw (slice_nth x a (a + D) D refl own_fits i l h, slice_nth x p (p + D) D refl above_fits i l h, slice_nth x b (b + D) D refl below_fits i l h, start, d, f) refl

-- ---- end_misses and arc_cost: what one arc gives

pub misses_of : ℕ → ℕ → List ℕ → Arc → ℕ
misses_of N D x a = sum_to D (λ i. arc_at N D x a i * (2 - (depth_at D x a.parent (pred i) + depth_at D x a.child i)))

pub misses_sum : (N D : ℕ) (ks : List Arc) (x : List ℕ) → sum_of ks (misses_of N D x) ≡ end_misses D ks (depth_at D x) (arc_at N D x)
unfolding misses_of end_misses
misses_sum N D ks x = refl

pub cost_of : ℕ → ℕ → List ℕ → Arc → ℕ
cost_of N D x a = a.weight * sum_to D (arc_at N D x a)

pub cost_sum : (N D : ℕ) (ks : List Arc) (x : List ℕ) → sum_of ks (cost_of N D x) ≡ arc_cost D ks (arc_at N D x)
unfolding cost_of arc_cost
cost_sum N D ks x = refl

-- bits none of which is set miss nothing
unset_misses : (D : ℕ) (b m : ℕ → ℕ) → ((i : ℕ) → 1 ≤ i → i ≤ D → b i ≡ 0) → sum_to D (λ i. b i * (2 - m i)) ≡ 0
unset_misses D b m z = sum_to_none D (λ i. b i * (2 - m i)) (λ i p q. unset (b i) (2 - m i) (z i p q))
  where
    unset : (a c : ℕ) → a ≡ 0 → a * c ≡ 0
    unset a c z = rw z (zero-mul c)

-- what the two arcs of link k give
module _ (N D : ℕ) (x : List ℕ) (ls : List Link) (k : ℕ) where
  pub misses_link : (r : ℕ)
      → r ≡ sum_to D (λ i. get_or x (N * suc D + 2 * k * D + pred i) 0 * (2 - (depth_at D x (link_in ls k).u (pred i) + depth_at D x (link_in ls k).v i)))
      + sum_to D (λ i. get_or x (N * suc D + (2 * k + 1) * D + pred i) 0 * (2 - (depth_at D x (link_in ls k).v (pred i) + depth_at D x (link_in ls k).u i)))
      → r ≡ misses_of N D x (arc_up ls k) + misses_of N D x (arc_back ls k)
  unfolding misses_of arc_at
  misses_link r e = e

  -- where n bits of the two are set
  module _ (n : ℕ) (set : n ≡ link_set N D x k) where
    -- where none is, neither arc misses anything
    pub misses_none : n ≡ 0 → (u v : ℕ)
        → 0
        ≡ sum_to D (λ i. get_or x (N * suc D + 2 * k * D + pred i) 0 * (2 - (depth_at D x u (pred i) + depth_at D x v i)))
        + sum_to D (λ i. get_or x (N * suc D + (2 * k + 1) * D + pred i) 0 * (2 - (depth_at D x v (pred i) + depth_at D x u i)))
    misses_none z u v =
        let none = none_set N D x k (omega (arith, set)) in
        omega (
          arith,
          unset_misses D (λ i. get_or x (N * suc D + 2 * k * D + pred i) 0) (λ i. depth_at D x u (pred i) + depth_at D x v i) (λ i p q. (none i p q).0),
          unset_misses D (λ i. get_or x (N * suc D + (2 * k + 1) * D + pred i) 0) (λ i. depth_at D x v (pred i) + depth_at D x u i) (λ i p q. (none i p q).1),
        )

    pub cost_link : (link_in ls k).weight * n ≡ cost_of N D x (arc_up ls k) + cost_of N D x (arc_back ls k)
    unfolding cost_of
    cost_link = ap (λ (m : ℕ). (link_in ls k).weight * m) (set ∙ set_halves N D x ls k) ∙ mul-add ((link_in ls k).weight) (sum_to D (arc_at N D x (arc_up ls k))) (sum_to D (arc_at N D x (arc_back ls k)))

-- a weight is at most 65,535, and a link has at most 48 bits
pub cost_small : (w n : ℕ) → w ≤ 65535 → n ≤ 48 → w * n ≤ 3145680
cost_small w n h b = mul-le-mul {n₂ = 65535} {m₂ = 48} h b

-- ---- arc_cost: the first k links, whatever the bits are of which n are the counts

pub record CostTo (used : List ℕ) (ls : List Link) (k sum : ℕ) : Type 0 where
  pub so_far : (N D : ℕ) (x : List ℕ) → Used N D (length ls) x used → ArcsSummed ls (cost_of N D x) k sum

module _ (used : List ℕ) (ls : List Link) where
  pub cost_start : CostTo used ls 0 0
  cost_start = record { so_far = λ N D x u. summed_start ls (cost_of N D x) }

  pub cost_turn : (k sum : ℕ) → CostTo used ls k sum → k < length ls → CostTo used ls (k + 1) (sum + (link_in ls k).weight * get_or used k 0)
  cost_turn k sum c h = record { so_far = λ N D x u. summed_turn ls (cost_of N D x) k sum (c.so_far N D x u) ((link_in ls k).weight * get_or used k 0) h (cost_link N D x ls k (get_or used k 0) (u.each k h)) }

  pub cost_end : (k sum : ℕ) → CostTo used ls k sum → length ls ≤ k → (N D : ℕ) (x : List ℕ) → Used N D (length ls) x used → sum ≡ arc_cost D (arcs ls) (arc_at N D x)
  cost_end k sum c h N D x u = summed_end ls (cost_of N D x) k sum (c.so_far N D x u) h ∙ cost_sum N D (arcs ls) x

  -- and so for links with other ends
  pub cost_ends : (k sum : ℕ) → CostTo used ls k sum → length ls ≤ k → (N D : ℕ) (x : List ℕ) (ms : List Link) → weights ms ≡ weights ls → Used N D (length ms) x used → sum ≡ arc_cost D (arcs ms) (arc_at N D x)
  cost_ends k sum c h N D x ms e u = cost_end k sum c h N D x (subst (λ (n : ℕ). Used N D n x used) (count_alike ms ls e) u) ∙ sym (cost_alike ms ls e N D x)
