-- The bits of a link's two arcs, counted once for all sums: link_set, count_used, and what follows where none is set. Assumes nothing.
use Prim.Native.Nat.{ℕ, suc, pred, ◌+◌, ◌*◌, ◌≤◌, ◌<◌}
use mathlib.Core.Path.{◌≡◌, refl, ap, ◌∙◌}
use mathlib.Core.List.{List}
use lib.ListN.{length, get_or, replicate, length-replicate}
use native.Mathlib.Omega.{arith}
use native.Mathlib.Decide.{dec_lt}
use native.Mathlib.Nat.{mul-le-mul_right}
use Rattle.lists.specs.Sums.{sum_to, nth}
use Rattle.lists.proofs.Sums.{sum_to_eq, sum_to_term, sum_to_split, sum_to_bits}
use Rattle.lists.proofs.Stores.{zero_entries}
use Rattle.links.specs.declared.Link.{Link}
use Rattle.qubo.specs.Formula.{Bits}
use Rattle.arcs.specs.Arcs.{arcs_end, arc_at}
use Rattle.arcs.specs.Inner.{link_set, Used}
use Rattle.arcs.proofs.ArcLists.{arc_up, arc_back}
use Rattle.arcs.proofs.Slices.{slice, slice_sum, link_within}

-- ---- link_set: those of link k

pub link_set_is : (N D k : ℕ) (x : List ℕ) (s e : ℕ) → s ≡ N * suc D + 2 * k * D → e ≡ s + 2 * D → arcs_end N D (k + 1) ≤ length x → (r : ℕ) → r ≡ sum_to (length (slice x s e)) (nth (slice x s e)) → r ≡ link_set N D x k
unfolding link_set
link_set_is N D k x s e start end fits r h = h ∙ slice_sum x s e (2 * D) end (omega (arith, link_within N D (k + 1) k (omega arith))) ∙ ap (λ (j : ℕ). sum_to (2 * D) (λ t. get_or x (j + pred t) 0)) start

-- the bits of each of M links lie among those of all
pub links_within : (N D M k L : ℕ) → k < M → arcs_end N D M ≤ L → arcs_end N D (k + 1) ≤ L
links_within N D M k L h g = omega (arith, mul-le-mul_right D (let e : 2 * (k + 1) ≤ 2 * M = omega arith in e))

-- at most 24 at each arc
pub link_set_low : (N D k : ℕ) (x : List ℕ) → D ≤ 24 → Bits x → link_set N D x k ≤ 48
unfolding link_set
link_set_low N D k x h b = omega (arith, sum_to_bits (2 * D) (λ t. get_or x (N * suc D + 2 * k * D + pred t) 0) (λ t. b _))

-- one after another: first those of the arc up, then those of the arc back
pub set_parts : (N D : ℕ) (x : List ℕ) (k : ℕ) → link_set N D x k ≡ sum_to D (λ i. get_or x (N * suc D + 2 * k * D + pred i) 0) + sum_to D (λ i. get_or x (N * suc D + (2 * k + 1) * D + pred i) 0)
unfolding link_set
set_parts N D x k =
    ap (λ (n : ℕ). sum_to n (λ i. get_or x (N * suc D + 2 * k * D + pred i) 0)) (let e : 2 * D ≡ D + D = omega arith in e)
    ∙ sum_to_split D D (λ i. get_or x (N * suc D + 2 * k * D + pred i) 0)
    ∙ ap (λ (n : ℕ). sum_to D (λ i. get_or x (N * suc D + 2 * k * D + pred i) 0) + n) (sum_to_eq D (λ i. get_or x (N * suc D + 2 * k * D + pred (D + i)) 0) (λ i. get_or x (N * suc D + (2 * k + 1) * D + pred i) 0) behind)
  where
    behind : (i : ℕ) → 1 ≤ i → i ≤ D → get_or x (N * suc D + 2 * k * D + pred (D + i)) 0 ≡ get_or x (N * suc D + (2 * k + 1) * D + pred i) 0
    behind i p q = let e : N * suc D + 2 * k * D + pred (D + i) ≡ N * suc D + (2 * k + 1) * D + pred i = omega arith in rw e refl

-- arc by arc
pub set_halves : (N D : ℕ) (x : List ℕ) (ls : List Link) (k : ℕ) → link_set N D x k ≡ sum_to D (arc_at N D x (arc_up ls k)) + sum_to D (arc_at N D x (arc_back ls k))
unfolding arc_at
set_halves N D x ls k = set_parts N D x k

-- where none is set, no bit of either arc is
pub none_set : (N D : ℕ) (x : List ℕ) (k : ℕ) → link_set N D x k ≡ 0 → (i : ℕ) → 1 ≤ i → i ≤ D → (get_or x (N * suc D + 2 * k * D + pred i) 0 ≡ 0) × (get_or x (N * suc D + (2 * k + 1) * D + pred i) 0 ≡ 0)
none_set N D x k z i p q =
    let h = set_parts N D x k in (
      omega (arith, h, sum_to_term D (λ j. get_or x (N * suc D + 2 * k * D + pred j) 0) i p q),
      omega (arith, h, sum_to_term D (λ j. get_or x (N * suc D + (2 * k + 1) * D + pred j) 0) i p q),
    )

-- ---- count_used: the first k links are counted

pub record CountedTo (N D : ℕ) (x : List ℕ) (k : ℕ) (used : List ℕ) : Type 0 where
  pub size : length used ≡ 256
  pub done : (j : ℕ) → j < k → get_or used j 0 ≡ link_set N D x j
  pub rest : (j : ℕ) → k ≤ j → get_or used j 0 ≡ 0

-- n places with a in each, where a is 0
zero_places : (n a m : ℕ) → a ≡ 0 → get_or (replicate n a) m 0 ≡ 0
zero_places n a m z = rw z (zero_entries n m)

-- it starts with 0 in every place
pub counted_start : (N D : ℕ) (x : List ℕ) (a : ℕ) → a ≡ 0 → CountedTo N D x 0 (replicate 256 a)
counted_start N D x a z = record { size = length-replicate 256 a; done = λ j h. absurd (omega arith); rest = λ j h. zero_places 256 a j z }

-- no count is above 48
pub used_low : (N D M : ℕ) (x used : List ℕ) → D ≤ 24 → Bits x → Used N D M x used → (k : ℕ) → k < M → get_or used k 0 ≤ 48
used_low N D M x used d b u k h = omega (arith, u.each k h, link_set_low N D k x d b)

-- in any place, where those behind the last link are 0
pub used_low_all : (N D M : ℕ) (x used : List ℕ) → D ≤ 24 → Bits x → Used N D M x used → ((k : ℕ) → M ≤ k → get_or used k 0 ≡ 0) → (k : ℕ) → get_or used k 0 ≤ 48
used_low_all N D M x used d b u z k =
    elim (dec_lt k M) [
      | yes h ↦ used_low N D M x used d b u k h
      | no h ↦ let e : get_or used k 0 ≡ 0 = z k (omega arith) in omega arith
    ]
