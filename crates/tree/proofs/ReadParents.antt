-- The parents read off the arcs of an assignment, arc by arc: at each meter what is read so far and what is left make up the whole. Assumes nothing.
use Prim.Native.Nat.{ℕ, zero, suc, pred, ◌+◌, ◌-◌, ◌*◌, ◌≤◌, ◌<◌}
use mathlib.Core.Path.{◌≡◌, refl, sym, ap, ◌∙◌}
use mathlib.Core.List.{List, [], ◌∷◌, Memᴰ}
use lib.ListN.{length, get_or, set, length-set, get_or-eq_default}
use lib.Seq.{ext_get_or}
use native.Mathlib.Omega.{arith}
use native.Mathlib.Decide.{ℕ_discrete, dec_lt}
use native.Mathlib.Nat.{mul-le-mul, mul-le-mul_left, mul-le-mul_right, add-le-add, add-mul, suc-mul, zero-mul, one-mul}
use Rattle.lists.specs.Sums.{sum_to, sum_of, same, nth}
use Rattle.lists.proofs.Sums.{same_yes, same_no, sum_of_times, nth_index, nth_suc}
use Rattle.lists.proofs.Stores.{added_here, added_elsewhere, added_same}
use Rattle.links.specs.Links.{link_in}
use Rattle.links.specs.declared.Link.{Link}
use Rattle.links.specs.Survey.{IsGraph}
use Rattle.qubo.specs.Formula.{Bits}
use Rattle.onehot.proofs.Codes.{each_length, each_at}
use Rattle.onehot.proofs.Parts.{one_less}
use Rattle.arcs.specs.Arcs.{Arc, arcs, arc_at}
use Rattle.arcs.proofs.ArcLists.{ArcOf, arc_of, arc_up, arc_back, arcs_left, arcs_start, arcs_turn, arcs_past, up_among, back_among}
use Rattle.arcs.specs.Inner.{link_set}
use Rattle.arcs.proofs.Slices.{slice, slice_sum}
use Rattle.arcs.proofs.LinkBits.{set_parts}
use Rattle.tree.specs.Decoding.{parent_read, candidate_to}
use Rattle.tree.specs.Inner.{set_from, added, Readable}

-- ---- read_arc: the bits of an arc

-- as many as are set in their part
pub cut_set : (x : List ℕ) (k D : ℕ) → k + D ≤ length x → sum_to (length (slice x k (k + D))) (nth (slice x k (k + D))) ≡ set_from x k D
unfolding set_from
cut_set x k D h = slice_sum x k (k + D) D refl h

-- an arc gives its parent once or not
pub one_parent : (r n u : ℕ) → r ≡ n → n ≤ 1 → u ≤ 48 → r * u ≤ 48
one_parent r n u e h b = mul-le-mul {n₂ = 1} {m₂ = 48} (omega arith) b

pub parent_once : (x : List ℕ) (k D r u : ℕ) → k + D ≤ length x → set_from x k D ≤ 1 → u ≤ 48 → r ≡ sum_to (length (slice x k (k + D))) (nth (slice x k (k + D))) → r * u ≤ 48
parent_once x k D r u h n b e = one_parent r _ u (e ∙ cut_set x k D h) n b

-- added to the entry of meter v
module _ (p : List ℕ) (v n : ℕ) (low : 1 ≤ v) where
  pub entry_added : (r u : ℕ) → r ≡ n → set p (v - 1) (get_or p (v - 1) 0 + r * u) ≡ added v (n * u) p
  unfolding added
  entry_added r u e = rw (e, ← nth_index p v low, less v low) refl
    where
      less : (w : ℕ) → 1 ≤ w → w - 1 ≡ pred w
      less zero h = absurd (omega arith)
      less (suc j) h = one_less j

-- ---- one entry more added up

module _ (p q : List ℕ) (c n : ℕ) (low : 1 ≤ c) (high : c ≤ length p) (e : q ≡ added c n p) where
  -- as a store counts entries, from 0
  is_set : q ≡ set p (c - 1) (get_or p (c - 1) 0 + n)
  unfolding added
  is_set = e ∙ go c low
    where
      go : (w : ℕ) → 1 ≤ w → set p (pred w) (nth p w + n) ≡ set p (w - 1) (get_or p (w - 1) 0 + n)
      go zero h = absurd (omega arith)
      go (suc j) h = rw (one_less j, nth_suc p j) refl

  added_size : length q ≡ length p
  added_size = rw (is_set, length-set) refl

  nth_here : nth q c ≡ nth p c + n
  nth_here = rw (nth_index q c low, nth_index p c low) (added_here p q (c - 1) n is_set (omega arith) (c - 1) refl)

  nth_else : (v : ℕ) → 1 ≤ v → (c ≡ v → ⊥) → nth q v ≡ nth p v
  nth_else v h d = rw (nth_index q v h, nth_index p v h) (added_elsewhere p q (c - 1) n is_set (v - 1) (omega arith))

-- ---- read_link: the bits of two arcs, one behind the other

-- nothing added
added_none : (p : List ℕ) (v : ℕ) → 1 ≤ v → v ≤ length p → p ≡ added v 0 p
added_none p v l h =
    ext_get_or 0 p (added v 0 p) (sym (added_size p (added v 0 p) v 0 l h refl))
    (λ j b. sym (rw (added_same p (added v 0 p) (v - 1) 0 (is_set p (added v 0 p) v 0 l h refl) (omega arith) j, zero-mul) (omega arith)))

-- where no bit of both is set, nothing is added
pub link_none : (x p : List ℕ) (k D u v : ℕ) → 1 ≤ u → u < v → v ≤ length p → set_from x k D + set_from x (k + D) D ≡ 0 → p ≡ added u (set_from x (k + D) D * v) (added v (set_from x k D * u) p)
link_none x p k D u v l o h z =
    let a : set_from x k D ≡ 0 = omega arith in
    let b : set_from x (k + D) D ≡ 0 = omega arith in
    rw (a, b, zero-mul v, zero-mul u) (added_none p u l (omega arith) ∙ ap (added u 0) (added_none p v (omega arith) h))

-- ---- read_parents

-- what arc a gives at meter v
pub gives : ℕ → ℕ → List ℕ → ℕ → Arc → ℕ
gives N D x v a = same a.child v * sum_to D (arc_at N D x a) * a.parent

module _ (N D : ℕ) (x : List ℕ) (a : Arc) where
  -- at its child its parent, once for each bit set
  gives_own : gives N D x a.child a ≡ sum_to D (arc_at N D x a) * a.parent
  unfolding gives
  gives_own = rw (same_yes a.child a.child refl, one-mul) refl

  -- elsewhere nothing
  gives_none : (v : ℕ) → (a.child ≡ v → ⊥) → gives N D x v a ≡ 0
  unfolding gives
  gives_none v n = rw (same_no a.child v n, zero-mul, zero-mul) refl

-- the arcs `left` are still to be read into the parents p
pub record ReadTo (N D : ℕ) (ls : List Link) (x : List ℕ) (left : List Arc) (p : List ℕ) : Type 0 where
  pub size : length p ≡ N
  pub among : (f : Arc → ℕ) → sum_of left f ≤ sum_of (arcs ls) f
  pub whole : (v : ℕ) → 1 ≤ v → v ≤ N → nth p v + sum_of left (gives N D x v) ≡ sum_of (arcs ls) (gives N D x v)

-- sums over a list, member by member
sums_le : {A : Type 0} (ks : List A) (f g : A → ℕ) → ((a : A) → Memᴰ a ks → f a ≤ g a) → sum_of ks f ≤ sum_of ks g
unfolding sum_of
sums_le [] f g h = omega arith
sums_le (a ∷ ks) f g h = add-le-add (h a (Memᴰ.head refl)) (sums_le ks f g (λ b m. h b (Memᴰ.tail m)))

module _ (N D : ℕ) (ls : List Link) (x : List ℕ) (graph : IsGraph N ls) (deep : D ≤ 24) (r : Readable N D ls x) where
  -- no more than one parent is read at a meter
  read_few : (v : ℕ) → 1 ≤ v → v ≤ N → sum_of (arcs ls) (gives N D x v) ≤ 48
  unfolding gives
  read_few v l h =
      omega (
        arith,
        sums_le (arcs ls) (gives N D x v) (λ a. 48 * (same a.child v * sum_to D (arc_at N D x a))) (λ a m. le (same a.child v * sum_to D (arc_at N D x a)) a.parent (omega (arith, (arc_of N ls graph a m).parent_high, graph.few_meters))),
        sum_of_times (arcs ls) 48 (λ a. same a.child v * sum_to D (arc_at N D x a)),
        r.once v l h,
      )
    where
      le : (m u : ℕ) → u ≤ 48 → m * u ≤ 48 * m
      le m u b = omega (arith, mul-le-mul_left m b)

  -- at first nothing is read
  pub read_start : (p : List ℕ) → length p ≡ N → ((k : ℕ) → get_or p k 0 ≡ 0) → ReadTo N D ls x (arcs_left ls 0) p
  read_start p s z = record { size = s; among = λ f. rw (arcs_start ls) (omega arith); whole = λ v l h. rw (nth_index p v l, z (v - 1), arcs_start ls) (omega arith) }

  -- no entry is above 48
  pub entries_small : (left : List Arc) (p : List ℕ) → ReadTo N D ls x left p → (k : ℕ) → get_or p k 0 ≤ 48
  entries_small left p i k =
      elim (dec_lt k N) [
        | yes h ↦ omega (arith, nth_suc p k, i.whole (suc k) (omega arith) h, read_few (suc k) (omega arith) h)
        | no h ↦ let e : get_or p k 0 ≡ 0 = get_or-eq_default p 0 (omega (arith, i.size)) in omega arith
      ]

  -- an arc whose bits start at index k
  module _ (a : Arc) (left : List Arc) (p : List ℕ) (i : ReadTo N D ls x (a ∷ left) p) (o : ArcOf N a) (k : ℕ) (at : k ≡ N * suc D + a.number * D) where
    -- the bits from k on are those of arc a
    own_set : set_from x k D ≡ sum_to D (arc_at N D x a)
    unfolding set_from arc_at
    own_set = rw at refl

    -- what read_arc asks of the bits
    arc_asks : a.number < 2 * length ls → Bits x × (D ≤ 24) × (k + D ≤ length x) × (set_from x k D ≤ 1)
    unfolding sum_of
    arc_asks h = (
      r.bits,
      deep,
      omega (arith, r.room, mul-le-mul_right D h, suc-mul a.number D),
      omega (arith, own_set, once, i.among (λ b. same b.child a.child * sum_to D (arc_at N D x b)), r.once a.child o.child_low o.child_high),
    )
      where
        once : same a.child a.child * sum_to D (arc_at N D x a) ≡ sum_to D (arc_at N D x a)
        once = rw (same_yes a.child a.child refl, one-mul) refl

    -- reading it leaves the other arcs
    arc_turn : (q : List ℕ) → q ≡ added a.child (set_from x k D * a.parent) p → ReadTo N D ls x left q
    unfolding sum_of
    arc_turn q e = record { size = added_size p q a.child _ o.child_low fits e ∙ i.size; among = λ f. omega (arith, i.among f); whole = whole }
      where
        fits : a.child ≤ length p
        fits = omega (arith, o.child_high, i.size)

        own : set_from x k D * a.parent ≡ gives N D x a.child a
        own = ap (λ t. t * a.parent) own_set ∙ sym (gives_own N D x a)

        whole : (v : ℕ) → 1 ≤ v → v ≤ N → nth q v + sum_of left (gives N D x v) ≡ sum_of (arcs ls) (gives N D x v)
        whole v l h =
            elim (ℕ_discrete a.child v) [
              | yes d ↦ rw (← d) (omega (arith, nth_here p q a.child (set_from x k D * a.parent) o.child_low fits e, own, i.whole a.child o.child_low o.child_high))
              | no d ↦ omega (arith, nth_else p q a.child (set_from x k D * a.parent) o.child_low fits e v l d, gives_none N D x a v d, i.whole v l h)
            ]

  -- in the end the parents are read
  pub read_end : (k : ℕ) (p : List ℕ) → length ls ≤ k → ReadTo N D ls x (arcs_left ls k) p → p ≡ candidate_to D N (ls) x
  unfolding candidate_to parent_read gives sum_of
  read_end k p h i = ext_get_or 0 p (candidate_to D N (ls) x) (i.size ∙ sym (each_length N _)) entry
    where
      left : (v : ℕ) → sum_of (arcs_left ls k) (gives N D x v) ≡ 0
      left v = ap (λ (l : List Arc). sum_of l (gives N D x v)) (arcs_past ls k h)

      entry : (j : ℕ) → j < length p → get_or p j 0 ≡ get_or (candidate_to D N (ls) x) j 0
      entry j b = sym (each_at N (parent_read D (arcs ls) (arc_at N D x)) j (omega (arith, i.size)) ∙ sym (i.whole (suc j) (omega arith) (omega (arith, i.size))) ∙ omega (arith, left (suc j), nth_suc p j))

  -- the two arcs of link k: u to v, then v to u
  module _ (k : ℕ) (h : k < length ls) where
    up_of : ArcOf N (arc_up ls k)
    up_of = arc_of N ls graph (arc_up ls k) (up_among ls k (2 * k) h refl)

    back_of : ArcOf N (arc_back ls k)
    back_of = arc_of N ls graph (arc_back ls k) (back_among ls k (2 * k + 1) h refl)

    -- where their bits start
    first_start : N * suc D + 2 * k * D ≡ N * suc D + (arc_up ls k).number * D
    first_start = refl

    second_at : N * suc D + 2 * k * D + D ≡ N * suc D + (arc_back ls k).number * D
    second_at = omega (arith, add-mul (2 * k) 1 D)

    -- how many of them are set
    pub link_count : (n : ℕ) → n ≡ link_set N D x k → n ≡ set_from x (N * suc D + 2 * k * D) D + set_from x (N * suc D + 2 * k * D + D) D
    unfolding set_from
    link_count n e = e ∙ set_parts N D x k ∙ rw second_at refl

    module _ (p : List ℕ) (i : ReadTo N D ls x (arcs_left ls k) p) where
      both_left : ReadTo N D ls x (arc_up ls k ∷ arc_back ls k ∷ arcs_left ls (k + 1)) p
      both_left = rw (arcs_turn ls k h) at i

      -- the first read, the second is left
      first_read : List ℕ
      first_read = added ((link_in ls k).v) (set_from x (N * suc D + 2 * k * D) D * (link_in ls k).u) p

      second_left : ReadTo N D ls x (arc_back ls k ∷ arcs_left ls (k + 1)) first_read
      unfolding first_read
      second_left = arc_turn (arc_up ls k) _ p both_left up_of (N * suc D + 2 * k * D) first_start first_read refl

      -- what read_link asks of the bits and of the plan
      pub link_asks : Bits x × (D ≤ 24) × (N * suc D + 2 * k * D + D + D ≤ length x) × (set_from x (N * suc D + 2 * k * D) D ≤ 1) × (set_from x (N * suc D + 2 * k * D + D) D ≤ 1)
      link_asks =
          let a = arc_asks (arc_up ls k) _ p both_left up_of (N * suc D + 2 * k * D) first_start (omega arith) in
          let b = arc_asks (arc_back ls k) _ first_read second_left back_of (N * suc D + 2 * k * D + D) second_at (omega arith) in
          (r.bits, deep, b.2, a.3, b.3)

      pub link_small : (j : ℕ) → get_or (added ((link_in ls k).v) (set_from x (N * suc D + 2 * k * D) D * (link_in ls k).u) p) j 0 ≤ 48
      unfolding first_read
      link_small = entries_small _ first_read second_left

      -- reading both leaves those of the links behind k
      pub link_turn : (q : List ℕ) → q ≡ added ((link_in ls k).u) (set_from x (N * suc D + 2 * k * D + D) D * (link_in ls k).v) (added ((link_in ls k).v) (set_from x (N * suc D + 2 * k * D) D * (link_in ls k).u) p) → ReadTo N D ls x (arcs_left ls (k + 1)) q
      unfolding first_read
      link_turn = arc_turn (arc_back ls k) _ first_read second_left back_of (N * suc D + 2 * k * D + D) second_at
