-- Laws that the proofs of src/sums.rt cite: arcs counted into the places of their children, in one walk of the links. Assumes nothing.
use Prim.Native.Nat.{ℕ, zero, suc, pred, ◌+◌, ◌-◌, ◌*◌, ◌≤◌, ◌<◌}
use mathlib.Core.Path.{◌≡◌, refl, sym, ap, ◌∙◌}
use mathlib.Core.List.{List}
use lib.ListN.{length, get_or}
use native.Mathlib.Omega.{arith}
use native.Mathlib.Decide.{ℕ_discrete, dec_lt}
use native.Mathlib.Nat.{one-mul, zero-mul, mul-zero, add-zero}
use borrow.Rule.Slice.PartMut.{put_mid}
use Rattle.lists.specs.Sums.{sum_to, same, gap}
use Rattle.lists.proofs.Sums.{same_yes, same_no, same_le, sum_to_eq, sum_of_le, times_bit}
use Rattle.links.specs.Links.{link_in}
use Rattle.links.specs.declared.Link.{Link}
use Rattle.links.specs.Survey.{IsGraph}
use Rattle.links.proofs.Degree.{degree_few}
use Rattle.links.proofs.Graph.{edge_at}
use Rattle.qubo.specs.Formula.{Bits}
use Rattle.onehot.proofs.Parts.{part_within}
use Rattle.arcs.specs.Arcs.{Arc, arcs, depth_bit, arc_bit, arcs_end, depth_at, arc_at}
use Rattle.arcs.specs.Sums.{entries_of, entry_gaps}
use Rattle.arcs.specs.Inner.{link_set, LinkFits, LinkAdded}
use Rattle.arcs.proofs.Bound.{arcs_into}
use Rattle.arcs.proofs.ArcLists.{arc_up, arc_back}
use Rattle.arcs.proofs.LinkBits.{links_within, none_set}
use Rattle.arcs.proofs.ArcSums.{ArcsSummed, summed_start, summed_turn, summed_end}
use Rattle.arcs.proofs.Slices.{slice, slice_length, slice_at, slice_bits, put_length, put_before, put_inside, put_after, meter_within, depths_few, arc_within}

-- ---- add_bits: the bits of a part added to as many counts

-- those before i are added, the others are not
pub record BitsAdded (part s : List ℕ) (i : ℕ) (t : List ℕ) : Type 0 where
  pub size : length t ≡ length s
  pub done : (j : ℕ) → j < i → get_or t j 0 ≡ get_or s j 0 + get_or part j 0
  pub rest : (j : ℕ) → i ≤ j → get_or t j 0 ≡ get_or s j 0

-- ---- count_arc: the bits of arc q added in the places of its child c

-- at each meter and depth
abbrev pub EntryAdded : ℕ → ℕ → List ℕ → ℕ → ℕ → List ℕ → List ℕ → Type 0
EntryAdded N D x q c s t = (length t ≡ 1200) × ((v i : ℕ) → 1 ≤ v → 1 ≤ i → i ≤ D → get_or t (depth_bit D v i) 0 ≡ get_or s (depth_bit D v i) 0 + same c v * get_or x (N * suc D + q * D + pred i) 0)

-- places of different meters are apart
apart : (D v c i : ℕ) → 1 ≤ v → v < c → i ≤ D → depth_bit D v i < depth_bit D c 0
apart D zero c i a b h = absurd (omega arith)
apart D (suc v) zero i a b h = absurd (omega arith)
apart D (suc v) (suc c) i a b h = omega (arith, part_within (suc D) v c (omega arith))

module _ (N D q c : ℕ) (x s : List ℕ) (few : N ≤ 48) (deep : D ≤ 24) (low : 1 ≤ c) (high : c ≤ N) (fits : N * suc D + q * D + D ≤ length x) (size : length s ≡ 1200) (f a : ℕ) (first : f ≡ depth_bit D c 1) (start : a ≡ N * suc D + q * D) where
  inside : f + D ≤ length s
  inside = omega (arith, meter_within D c N low high, depths_few N D few deep)

  -- the arc's bits and its child's places from depth 1 on
  bits_length : length (slice x a (a + D)) ≡ D
  bits_length = slice_length x a (a + D) D refl (omega arith)

  places_length : length (slice s f (f + D)) ≡ D
  places_length = slice_length s f (f + D) D refl inside

  place : (j : ℕ) → j < D → get_or (slice s f (f + D)) j 0 ≡ get_or s (depth_bit D c (j + 1)) 0
  place j h = let d : f + j ≡ depth_bit D c (j + 1) = omega arith in rw (slice_at s f (f + D) D refl inside j h, d) refl

  -- what add_bits asks
  pub entry_room : Bits x → ((i : ℕ) → 1 ≤ i → i ≤ D → get_or s (depth_bit D c i) 0 < 255)
      → (length (slice x a (a + D)) ≡ length (slice s f (f + D))) × Bits (slice x a (a + D)) × ((i : ℕ) → i < length (slice s f (f + D)) → get_or (slice s f (f + D)) i 0 < 255)
  entry_room b l = (
    bits_length ∙ sym places_length,
    slice_bits x a (a + D) D refl (omega arith) b,
    λ i h. let k : i < D = omega (arith, places_length) in omega (arith, place i k, l (i + 1) (omega arith) (omega arith)),
  )

  -- what it leaves in the places, put back
  module _ (y : List ℕ) (added : (length y ≡ length (slice s f (f + D))) × ((i : ℕ) → i < length (slice s f (f + D)) → get_or y i 0 ≡ get_or (slice s f (f + D)) i 0 + get_or (slice x a (a + D)) i 0)) where
    y_length : length y ≡ D
    y_length = added.0 ∙ places_length

    own : (j : ℕ) → j < D → get_or (put_mid f (f + D - f) s y) (f + j) 0 ≡ get_or s (depth_bit D c (j + 1)) 0 + get_or x (a + j) 0
    own j h =
        omega (
          arith,
          put_inside s f (f + D) D refl inside y y_length j h,
          added.1 j (omega (arith, places_length)),
          place j h,
          slice_at x a (a + D) D refl (omega arith) j h,
        )

    -- at the child, and at another meter
    here : (i : ℕ) → 1 ≤ i → i ≤ D → get_or (put_mid f (f + D - f) s y) (depth_bit D c i) 0 ≡ get_or s (depth_bit D c i) 0 + get_or x (N * suc D + q * D + pred i) 0
    here zero p h = absurd (omega arith)
    here (suc j) p h =
        let d : depth_bit D c (suc j) ≡ f + j = omega arith in
        let e : depth_bit D c (suc j) ≡ depth_bit D c (j + 1) = omega arith in
        ap (λ (k : ℕ). get_or (put_mid f (f + D - f) s y) k 0) d ∙ own j h ∙ rw (← e, start) refl

    elsewhere : (v i : ℕ) → 1 ≤ v → i ≤ D → (c ≡ v → ⊥) → get_or (put_mid f (f + D - f) s y) (depth_bit D v i) 0 ≡ get_or s (depth_bit D v i) 0
    elsewhere v i p h e =
        elim (dec_lt v c) [
          | yes l ↦ put_before s f (f + D) D refl inside y y_length (depth_bit D v i) (omega (arith, apart D v c i p l h))
          | no l ↦ put_after s f (f + D) D refl inside y y_length (depth_bit D v i) (omega (arith, apart D c v D low (omega arith) (omega arith)))
        ]

    pub entry_added : EntryAdded N D x q c s (put_mid f (f + D - f) s y)
    entry_added = (
      put_length s f (f + D) D refl inside y y_length ∙ size,
      λ v i p h l. elim (ℕ_discrete c v) [
        | yes e ↦ rw (same_yes c v e, one-mul, ← e) (here i h l)
        | no e ↦ rw (same_no c v e, zero-mul, add-zero) (elsewhere v i p l e)
      ],
    )

-- ---- count_link: the two arcs of link k

-- what count_arc asks of arc q into c
abbrev pub EntryFits : ℕ → ℕ → List ℕ → ℕ → ℕ → List ℕ → Type 0
EntryFits N D x q c s = (q < 512) × (1 ≤ c) × (c ≤ N) × Bits x × (N * suc D + q * D + D ≤ length x) × (length s ≡ 1200) × ((t : ℕ) → 1 ≤ t → t ≤ D → get_or s (depth_bit D c t) 0 < 255)

module _ (N D : ℕ) (x : List ℕ) (k : ℕ) (l : Link) (s : List ℕ) (f : LinkFits N D x k l s) where
  u_high : l.u ≤ N
  u_high = omega (arith, f.link.ordered, f.link.v_high)

  -- where none of their bits is set, there is nothing to add
  pub none_added : (n : ℕ) → n ≡ link_set N D x k → n ≡ 0 → LinkAdded N D x k l s s
  none_added n e z = record {
    size = f.size;
    each = λ w t a p h. let none = none_set N D x k (omega (arith, e)) t p h in rw (none.0, none.1, mul-zero, mul-zero) (omega arith);
  }

  module _ (t : List ℕ) (up : EntryAdded N D x (2 * k) l.v s t) where
    -- and the arc back
    pub back_room : EntryFits N D x (2 * k + 1) l.u t
    back_room = (
      omega (arith, f.few),
      f.link.u_low,
      u_high,
      f.bits,
      omega (arith, arc_within N D (k + 1) (2 * k + 1) (omega arith), f.inside),
      up.0,
      λ i p q. omega (
        arith,
        f.small l.u i f.link.u_low p q,
        up.1 l.u i f.link.u_low p q,
        times_bit (same l.v l.u) (get_or x (N * suc D + 2 * k * D + pred i) 0) (f.bits (N * suc D + 2 * k * D + pred i)),
        same_le l.v l.u,
      ),
    )

    pub both_added : (r : List ℕ) → EntryAdded N D x (2 * k + 1) l.u t r → LinkAdded N D x k l s r
    both_added r back = record { size = back.0; each = λ w i a p h. omega (arith, up.1 w i a p h, back.1 w i a p h) }

-- ---- gather_entries: the arcs of the first k links

-- what arc a adds for meter v at depth i
pub enters : ℕ → ℕ → List ℕ → ℕ → ℕ → Arc → ℕ
enters N D x v i a = same a.child v * arc_at N D x a i

-- in each place stands how many of them lead there
pub record EnteredTo (N D : ℕ) (x : List ℕ) (ls : List Link) (k : ℕ) (counts : List ℕ) : Type 0 where
  pub size : length counts ≡ 1200
  pub so_far : (v i : ℕ) → 1 ≤ v → 1 ≤ i → i ≤ D → ArcsSummed ls (enters N D x v i) k (get_or counts (depth_bit D v i) 0)

module _ (N D : ℕ) (x : List ℕ) (ls : List Link) where
  pub entered_start : (s : List ℕ) → length s ≡ 1200 → ((i : ℕ) → get_or s i 0 ≡ 0) → EnteredTo N D x ls 0 s
  entered_start s e z = record {
    size = e;
    so_far = λ v i a p h. rw (z (depth_bit D v i)) (summed_start ls (enters N D x v i));
  }

  pub entered_turn : (k : ℕ) → k < length ls → (s : List ℕ) → EnteredTo N D x ls k s → (r : List ℕ) → LinkAdded N D x k (link_in ls k) s r → EnteredTo N D x ls (k + 1) r
  unfolding enters arc_at
  entered_turn k h s g r added = record {
    size = added.size;
    so_far = λ v i a p l. rw (added.each v i a p l) (summed_turn ls (enters N D x v i) k (get_or s (depth_bit D v i) 0) (g.so_far v i a p l) (enters N D x v i (arc_up ls k) + enters N D x v i (arc_back ls k)) h refl);
  }

  pub entered_end : (k : ℕ) (s : List ℕ) → EnteredTo N D x ls k s → length ls ≤ k → (v i : ℕ) → 1 ≤ v → 1 ≤ i → i ≤ D → get_or s (depth_bit D v i) 0 ≡ entries_of (arcs ls) (arc_at N D x) v i
  unfolding enters entries_of
  entered_end k s g h v i a p l = summed_end ls (enters N D x v i) k (get_or s (depth_bit D v i) 0) (g.so_far v i a p l) h

-- at most 47 arcs lead into a meter
pub entries_few : (N D : ℕ) (ls : List Link) (x : List ℕ) → IsGraph N ls → Bits x → (v i : ℕ) → entries_of (arcs ls) (arc_at N D x) v i ≤ 47
unfolding entries_of arc_at
entries_few N D ls x s b v i =
    omega (
      arith,
      sum_of_le (arcs ls) (λ a. same a.child v * arc_at N D x a i) (λ a. same a.child v) (λ a. times_bit (same a.child v) (arc_at N D x a i) (b (arc_bit N D a i))),
      arcs_into N ls v s,
      degree_few N ls v s,
    )

-- so at most 47 of them are counted at any time
entered_few : (N D : ℕ) (x : List ℕ) (ls : List Link) → IsGraph N ls → Bits x → (k : ℕ) (s : List ℕ) → EnteredTo N D x ls k s → (v i : ℕ) → 1 ≤ v → 1 ≤ i → i ≤ D → get_or s (depth_bit D v i) 0 ≤ 47
unfolding enters entries_of
entered_few N D x ls y b k s g v i a p l = omega (arith, (g.so_far v i a p l).whole, entries_few N D ls x y b v i)

-- what count_link asks
pub entered_room : (N D : ℕ) (x : List ℕ) (ls : List Link) → IsGraph N ls → Bits x → arcs_end N D (length ls) ≤ length x → (k : ℕ) → k < length ls → (s : List ℕ) → EnteredTo N D x ls k s → LinkFits N D x k (link_in ls k) s
entered_room N D x ls y b fits k h s g = record {
  few = omega (arith, y.few);
  link = edge_at N ls y.each k h;
  bits = b;
  inside = links_within N D (length ls) k (length x) h fits;
  size = g.size;
  small = entered_few N D x ls y b k s g;
}

-- ---- entry_gaps: counts that are the arcs into each meter at each depth

-- counts at which a place holds the arcs into it
module _ (N D : ℕ) (ls : List Link) (x counts : List ℕ) (are : (v i : ℕ) → 1 ≤ v → 1 ≤ i → i ≤ D → get_or counts (depth_bit D v i) 0 ≡ entries_of (arcs ls) (arc_at N D x) v i) where
  pub counts_small : IsGraph N ls → Bits x → (v i : ℕ) → 1 ≤ v → 1 ≤ i → i ≤ D → get_or counts (depth_bit D v i) 0 ≤ 48
  counts_small s b v i a p l = omega (arith, are v i a p l, entries_few N D ls x s b v i)

  pub entry_gaps_is : (r : ℕ) → r ≡ sum_to N (λ v. sum_to D (λ i. gap (depth_at D x v i) (get_or counts (depth_bit D v i) 0) * gap (depth_at D x v i) (get_or counts (depth_bit D v i) 0)))
      → r ≡ entry_gaps N D (arcs ls) (depth_at D x) (arc_at N D x)
  unfolding entry_gaps
  entry_gaps_is r e =
      e
      ∙ sum_to_eq N (λ v. sum_to D (λ i. squared v i (get_or counts (depth_bit D v i) 0))) (λ v. sum_to D (λ i. squared v i (entries_of (arcs ls) (arc_at N D x) v i)))
      (λ v a b. sum_to_eq D (λ i. squared v i (get_or counts (depth_bit D v i) 0)) (λ i. squared v i (entries_of (arcs ls) (arc_at N D x) v i)) (λ i p q. ap (squared v i) (are v i a p q)))
    where
      squared : ℕ → ℕ → ℕ → ℕ
      squared v i n = gap (depth_at D x v i) n * gap (depth_at D x v i) n
