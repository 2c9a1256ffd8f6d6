-- Neighbours in an assignment: the arc bits at each meter are gathered link by link, the squared gaps added up meter by meter. The sums of src/counts.rt and src/degrees.rt cite these. Assumes nothing.
use Prim.Native.Nat.{ℕ, zero, suc, pred, ◌+◌, ◌-◌, ◌*◌, ◌^◌, ◌≤◌, ◌<◌}
use mathlib.Core.Path.{◌≡◌, refl, sym, ap, ◌∙◌, fun_ext}
use mathlib.Core.List.{List}
use native.Mathlib.Omega.{arith}
use native.Mathlib.Numerals.{add-one}
use native.Mathlib.Nat.{mul_comm, add-mul}
use lib.ListN.{length, get_or, set, drop, length-set, length-drop}
use lib.Seq.{get_or-drop, take_all}
use Rattle.lists.specs.Sums.{sum_to, same, gap, nth}
use Rattle.lists.proofs.Sums.{gap_small, sum_to_zero, sum_to_next, sum_to_eq, times_bit, same_le, same_one, nth_suc}
use Rattle.lists.proofs.Stores.{added_same}
use Rattle.links.specs.Links.{link_in}
use Rattle.links.specs.declared.Link.{Link}
use Rattle.links.specs.Survey.{EdgeOf, IsGraph}
use Rattle.links.proofs.Graph.{edge_at}
use Rattle.qubo.specs.Formula.{Bits, Assignment}
use Rattle.onehot.specs.Choices.{bit_at, misses}
use Rattle.onehot.proofs.Parts.{part_within}
use Rattle.arcs.specs.Arcs.{Arc, arcs, arcs_end, arc_at}
use Rattle.arcs.specs.Inner.{Used}
use Rattle.arcs.proofs.ArcLists.{arc_up, arc_back}
use Rattle.arcs.proofs.ArcSums.{ArcsSummed, summed_start, summed_turn, summed_end}
use Rattle.arcs.proofs.Slices.{slice, slice_length, slice_nth}
use Rattle.arcs.proofs.LinkBits.{set_halves}
use Rattle.arcs.proofs.Summing.{step_up}
use Rattle.neighbours.specs.Formula.{count_at, touches_of, degree_gaps}
use Rattle.neighbours.specs.Inner.{count_start, gaps_from}
use Rattle.neighbours.specs.declared.counts.Counts.{Counts}
use Rattle.neighbours.specs.declared.counts.Neighbours.{Neighbours}
use Rattle.neighbours.proofs.Asked.{Numbers, start_of}

-- ---- the neighbour-count bits by themselves, from b on

-- what is cut out from b to the end is what is left without the first b
tail_is : (x : List ℕ) (b : ℕ) → slice x b (length x) ≡ drop b x
tail_is x b = take_all (length x - b) (drop b x) (rw length-drop (omega arith))

module _ (N D M d b : ℕ) (is : b ≡ arcs_end N D M) (x : List ℕ) where
  count_at_is : (v j : ℕ) → bit_at d (slice x b (length x)) v j ≡ count_at N D M d x v j
  unfolding bit_at count_at
  count_at_is v j = rw (tail_is x b, get_or-drop) (ap (λ (k : ℕ). get_or x k 0) (let e : b + (pred v * d + pred j) ≡ arcs_end N D M + pred v * d + pred j = omega arith in e))

  counts_are : bit_at d (slice x b (length x)) ≡ count_at N D M d x
  counts_are = fun_ext (λ v. fun_ext (λ j. count_at_is v j))

  pub misses_are : (r : ℕ) → r ≡ misses N d (bit_at d (slice x b (length x))) → r ≡ misses N d (count_at N D M d x)
  misses_are r e = e ∙ ap (misses N d) counts_are

-- ---- gather_touches: after k links

-- what an arc gives to meter m
abbrev touch_of : ℕ → ℕ → List ℕ → ℕ → Arc → ℕ
touch_of N D x m a = (same a.parent m + same a.child m) * sum_to D (arc_at N D x a)

-- in place m stands what their arcs give to meter m, whatever the bits are of which `used` are the counts; `low` leaves room to add
pub record Gathered (used : List ℕ) (ls : List Link) (k : ℕ) (sums : List ℕ) : Type 0 where
  pub size : length sums ≡ 256
  pub inside : k ≤ length ls
  pub low : (m : ℕ) → get_or sums m 0 ≤ 48 * k
  pub so_far : (N D : ℕ) (x : List ℕ) → Used N D (length ls) x used → (m : ℕ) → ArcsSummed ls (touch_of N D x m) k (get_or sums m 0)

pub gather_start : (used : List ℕ) (ls : List Link) (sums : List ℕ) → length sums ≡ 256 → ((m : ℕ) → get_or sums m 0 ≡ 0) → Gathered used ls 0 sums
gather_start used ls sums e z = record { size = e; inside = omega arith; low = λ m. omega (arith, z m); so_far = λ N D x u m. rw (z m) (summed_start ls (touch_of N D x m)) }

-- both ends of a link get what its two arcs have
share : (a b s t w : ℕ) → w ≡ s + t → w * a + w * b ≡ (a + b) * s + (b + a) * t
share a b s t w e = rw e (omega (arith, add-mul s t a, add-mul s t b, add-mul a b s, add-mul b a t, mul_comm a s, mul_comm b s, mul_comm a t, mul_comm b t))

-- a meter is at most one of them
one_end : (u v m w : ℕ) → u < v → w ≤ 48 → w * same u m + w * same v m ≤ 48
one_end u v m w h l =
    let z : same u m + same v m ≤ 1 = once in
    omega (arith, times_bit w (same u m + same v m) z, mul_comm w (same u m), mul_comm w (same v m), mul_comm w (same u m + same v m), add-mul (same u m) (same v m) w)
  where
    once : same u m + same v m ≤ 1
    once = go (same u m) (same v m) (same_le u m) (same_le v m) (same_one u m) (same_one v m)
      where
        go : (a b : ℕ) → a ≤ 1 → b ≤ 1 → (1 ≤ a → u ≡ m) → (1 ≤ b → v ≡ m) → a + b ≤ 1
        go zero b p q e f = omega arith
        go (suc a) zero p q e f = omega arith
        go (suc a) (suc b) p q e f = absurd (omega (arith, e (omega arith), f (omega arith)))

module _ (N : ℕ) (used : List ℕ) (ls : List Link) (survey : IsGraph N ls) (small : (k : ℕ) → k < length ls → get_or used k 0 ≤ 48) (k : ℕ) (h : k < length ls) (s : List ℕ) (g : Gathered used ls k s) where
  abbrev w : ℕ
  w = get_or used k 0

  abbrev u : ℕ
  u = (link_in ls k).u

  abbrev v : ℕ
  v = (link_in ls k).v

  within : (m : ℕ) → m ≤ N → m < length s
  within m l = omega (arith, survey.few_meters, g.size)

  link : EdgeOf N (link_in ls k)
  link = edge_at N ls survey.each k h

  pub first_ready : ((link_in ls k).u < length s) × (get_or s (link_in ls k).u 0 < 4294967296) × (get_or used k 0 ≤ 48)
  first_ready = (within u (omega (arith, link.ordered, link.v_high)), omega (arith, g.low u, survey.few), small k h)

  module _ (t : List ℕ) (first : t ≡ set s (link_in ls k).u (get_or s (link_in ls k).u 0 + get_or used k 0)) where
    first_added : (m : ℕ) → get_or t m 0 ≡ get_or s m 0 + w * same u m
    first_added m = added_same s t u w first first_ready.0 m

    pub second_ready : ((link_in ls k).v < length t) × (get_or t (link_in ls k).v 0 < 4294967296) × (get_or used k 0 ≤ 48)
    second_ready = (
      rw (first, length-set) (within v link.v_high),
      omega (arith, first_added v, g.low v, survey.few, small k h, times_bit w (same u v) (same_le u v)),
      small k h,
    )

    pub gather_turn : (q : List ℕ) → q ≡ set t (link_in ls k).v (get_or t (link_in ls k).v 0 + get_or used k 0) → Gathered used ls (k + 1) q
    gather_turn q second = record {
      size = rw (second, length-set, first, length-set) g.size;
      inside = omega arith;
      low = λ m. omega (arith, both m, g.low m, one_end u v m w link.ordered (small k h));
      so_far = λ N D x c m. rw (both m) (summed_turn ls (touch_of N D x m) k (get_or s m 0) (g.so_far N D x c m) (w * same u m + w * same v m) h
          (share (same u m) (same v m) (sum_to D (arc_at N D x (arc_up ls k))) (sum_to D (arc_at N D x (arc_back ls k))) w (c.each k h ∙ set_halves N D x ls k)));
    }
      where
        both : (m : ℕ) → get_or q m 0 ≡ get_or s m 0 + (w * same u m + w * same v m)
        both m = omega (arith, first_added m, added_same t q v w second second_ready.0 m)

module _ (used : List ℕ) (ls : List Link) (k : ℕ) (s : List ℕ) (g : Gathered used ls k s) where
  pub gather_end : length ls ≤ k → (N D : ℕ) (x : List ℕ) → Used N D (length ls) x used → (m : ℕ) → get_or s m 0 ≡ touches_of D (arcs ls) (arc_at N D x) m
  unfolding touches_of
  gather_end h N D x u m = summed_end ls (touch_of N D x m) k (get_or s m 0) (g.so_far N D x u m) h

  pub gather_low : length ls ≤ 256 → (m : ℕ) → get_or s m 0 ≤ 12288
  gather_low few m = omega (arith, g.low m, g.inside)

-- ---- numbers_set: the sum of j over the first k bits set

pub numbers_to : List ℕ → ℕ → ℕ
numbers_to part k = sum_to k (λ j. j * nth part j)

pub numbers_start : (part : List ℕ) → numbers_to part 0 ≡ 0
unfolding numbers_to
numbers_start part = sum_to_zero _

pub numbers_next : (part : List ℕ) (k : ℕ) → numbers_to part (k + 1) ≡ numbers_to part k + (k + 1) * get_or part k 0
unfolding numbers_to
numbers_next part k = sum_to_next k (λ j. j * nth part j) ∙ rw (nth_suc part k, add-one k) refl

pub numbers_low : (part : List ℕ) (k : ℕ) → Bits part → k < 47 → (k + 1) * get_or part k 0 ≤ 47
numbers_low part k b h = omega (arith, times_bit (k + 1) (get_or part k 0) (b k))

pub numbers_end : (part : List ℕ) (k sum : ℕ) → k ≡ length part → sum ≡ numbers_to part k → sum ≡ sum_to (length part) (λ j. j * nth part j)
unfolding numbers_to
numbers_end part k sum e h = rw (← e) h

-- ---- gaps_of: meter by meter

module _ (n : Neighbours) (sums x : List ℕ) where
  -- the squared gap of meter v
  pub gap_at : ℕ → ℕ
  gap_at v =
      let counted = sum_to n.d (λ j. j * count_at n.arcs.layout.meters n.arcs.layout.deepest (length n.arcs.links.now) n.d x v j) in
      gap counted (get_or sums v 0) * gap counted (get_or sums v 0)

  -- those of the meters before v are added up, and v is one of them or the next number; each is at most 12288²
  pub record Gapped (v sum : ℕ) : Type 0 where
    pub low : sum + 150994944 ≤ 150994944 * v
    pub inside : v ≤ n.arcs.layout.meters + 1
    pub so_far : sum ≡ sum_to (pred v) gap_at

  pub gaps_start : Gapped 1 0
  gaps_start = record { low = omega arith; inside = omega arith; so_far = sym (sum_to_zero gap_at) }

meter_within : (d v N : ℕ) → 1 ≤ v → v ≤ N → pred v * d + d ≤ N * d
meter_within d zero N h k = absurd (omega arith)
meter_within d (suc m) N h k = part_within d m N k

module _ {n : Neighbours} {sums x : List ℕ} {v sum : ℕ} (g : Gapped n sums x v sum) where
  abbrev N : ℕ
  N = n.arcs.layout.meters

  abbrev D : ℕ
  D = n.arcs.layout.deepest

  abbrev M : ℕ
  M = length n.arcs.links.now

  pub gaps_end : N < v → (sum ≡ gaps_from N D M n.d sums x) × (sum ≤ 2 ^ 33)
  unfolding gap_at
  gaps_end h = (let e : v ≡ N + 1 = omega (arith, g.inside) in rw (e, add-one N) at g.so_far, omega (arith, g.low, g.inside, n.arcs.layout.meters_high))

  -- the bits of meter v, from s on
  module _ (asked : Assignment (arcs_end N D M + N * n.d) x × (N < length sums) × ((m : ℕ) → get_or sums m 0 ≤ 12288)) (k : Counts) (numbers : Numbers n k) (high : v ≤ N) {s : ℕ} (start : s ≡ count_start k.layout.meters k.layout.deepest k.links k.d v) where
    pub own_fits : s + n.d ≤ length x
    own_fits = rw (start_of n k numbers v start) (omega (arith, asked.0.size, meter_within n.d v N (omega (arith, g.low)) high))

    own_length : length (slice x s (s + n.d)) ≡ n.d
    own_length = slice_length x s (s + n.d) n.d refl own_fits

    own_counted : (c : ℕ) → c ≡ sum_to (length (slice x s (s + n.d))) (λ j. j * nth (slice x s (s + n.d)) j) → c ≡ sum_to n.d (λ j. j * count_at N D M n.d x v j)
    unfolding count_at
    own_counted c e =
        e ∙ rw own_length (sum_to_eq n.d _ (λ j. j * count_at N D M n.d x v j) (λ j p q. ap (λ (t : ℕ). j * t) (slice_nth x s (s + n.d) n.d refl own_fits j p q ∙ rw (start_of n k numbers v start) refl)))

    -- a turn adds its squared gap
    pub gaps_turn : {c : ℕ} → (c ≡ sum_to (length (slice x s (s + n.d))) (λ j. j * nth (slice x s (s + n.d)) j)) × (c ≤ 2209)
        → {r : ℕ} → r ≡ gap c (get_or sums v 0) * gap c (get_or sums v 0) → Gapped n sums x (v + 1) (sum + r)
    unfolding gap_at
    gaps_turn {c = c} e {r = r} f =
        let small = gap_small c (get_or sums v 0) 12288 (omega (arith, e.1)) (asked.2 v) in
        record {
          low = omega (arith, g.low, f, small);
          inside = omega (arith, high);
          so_far = ap (λ (t : ℕ). t + r) g.so_far ∙ rw (f, own_counted c e.0) (sym (step_up (gap_at n sums x) v (omega (arith, g.low))));
        }

-- ---- degree_gaps: what is gathered

pub gaps_are : (N D M d : ℕ) (x : List ℕ) (ks : List Arc) (touched : ℕ → ℕ) → ((m : ℕ) → touched m ≡ touches_of D ks (arc_at N D x) m) → (r : ℕ)
    → r ≡ sum_to N (λ v. gap (sum_to d (λ j. j * count_at N D M d x v j)) (touched v) * gap (sum_to d (λ j. j * count_at N D M d x v j)) (touched v))
    → r ≡ degree_gaps N D d ks (arc_at N D x) (count_at N D M d x)
unfolding degree_gaps
gaps_are N D M d x ks touched h r e =
    e ∙ sum_to_eq N _ _ (λ v p q. ap (λ (t : ℕ). gap (sum_to d (λ j. j * count_at N D M d x v j)) t * gap (sum_to d (λ j. j * count_at N D M d x v j)) t) (h v))
