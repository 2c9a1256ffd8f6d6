-- Bits that agree at every meter, arc, depth and count have the same sums, the same cost and the same candidate. Assumes nothing.
use Prim.Native.Nat.{ℕ, zero, suc, pred, ◌+◌, ◌-◌, ◌*◌, ◌≤◌}
use mathlib.Core.Path.{◌≡◌, refl, sym, ap, ap₂, ◌∙◌}
use mathlib.Core.List.{List, [], ◌∷◌, ◌++◌, Memᴰ}
use native.Mathlib.Omega.{arith}
use Rattle.lists.specs.Sums.{sum_to, same, gap}
use Rattle.lists.proofs.Sums.{sum_to_eq}
use Rattle.lists.proofs.Members.{sum_of_eq}
use Rattle.qubo.specs.Terms.{each}
use Rattle.onehot.specs.Choices.{set_at, miss_squared, misses}
use Rattle.arcs.specs.Arcs.{Arc}
use Rattle.arcs.specs.Sums.{root_miss, depth_misses, entries_of, entry_gaps, end_misses, arc_cost}
use Rattle.arcs.proofs.ArcLists.{ArcOf}
use Rattle.neighbours.specs.Formula.{touches_of, degree_gaps}
use Rattle.tree.specs.Formula.{TreeBits, broken}
use Rattle.tree.specs.Decoding.{parent_read}

-- equal bits at meters 1..N, depths 0..D, arcs of ks at depths 1..D, and counts 1..d
pub record Agree (N D d : ℕ) (ks : List Arc) (b c : TreeBits) : Type 0 where
  pub dep : (v i : ℕ) → 1 ≤ v → v ≤ N → i ≤ D → b.dep v i ≡ c.dep v i
  pub arc : (a : Arc) → Memᴰ a ks → (i : ℕ) → 1 ≤ i → i ≤ D → b.arc a i ≡ c.arc a i
  pub cnt : (v j : ℕ) → 1 ≤ v → v ≤ N → 1 ≤ j → j ≤ d → b.cnt v j ≡ c.cnt v j

-- what agrees with c agrees with what c agrees with
pub agree_trans : (N D d : ℕ) (ks : List Arc) (b c e : TreeBits) → Agree N D d ks b c → Agree N D d ks c e → Agree N D d ks b e
agree_trans N D d ks b c e g h = record {
  dep = λ v i p q l. g.dep v i p q l ∙ h.dep v i p q l;
  arc = λ a m i p q. g.arc a m i p q ∙ h.arc a m i p q;
  cnt = λ v j p q r s. g.cnt v j p q r s ∙ h.cnt v j p q r s;
}

-- agreement holds either way round
pub agree_sym : (N D d : ℕ) (ks : List Arc) (b c : TreeBits) → Agree N D d ks b c → Agree N D d ks c b
agree_sym N D d ks b c g = record {
  dep = λ v i p q l. sym (g.dep v i p q l);
  arc = λ a m i p q. sym (g.arc a m i p q);
  cnt = λ v j p q r s. sym (g.cnt v j p q r s);
}

-- lists with equal entries are equal
each_eq : (n : ℕ) (f g : ℕ → ℕ) → ((i : ℕ) → 1 ≤ i → i ≤ n → f i ≡ g i) → each n f ≡ each n g
each_eq zero f g h = refl
each_eq (suc k) f g h = ap₂ (λ (s : List ℕ) (x : ℕ). s ++ (x ∷ [])) (each_eq k f g (λ i a b. h i a (omega arith))) (h (suc k) (omega arith) (omega arith))

module _ (N D d : ℕ) (ks : List Arc) (b c : TreeBits) (g : Agree N D d ks b c) where
  -- the bits of an arc
  pub arc_total : (a : Arc) → Memᴰ a ks → sum_to D (b.arc a) ≡ sum_to D (c.arc a)
  arc_total a m = sum_to_eq D (b.arc a) (c.arc a) (λ i p q. g.arc a m i p q)

  -- the arcs into a meter at a depth
  entries_eq : (v i : ℕ) → 1 ≤ i → i ≤ D → entries_of ks b.arc v i ≡ entries_of ks c.arc v i
  unfolding entries_of
  entries_eq v i p q = sum_of_eq ks _ _ (λ a m. ap (λ (x : ℕ). same a.child v * x) (g.arc a m i p q))

  -- the arc bits in or out of a meter
  pub touches_eq : (v : ℕ) → touches_of D ks b.arc v ≡ touches_of D ks c.arc v
  unfolding touches_of
  touches_eq v = sum_of_eq ks _ _ (λ a m. ap (λ (x : ℕ). (same a.parent v + same a.child v) * x) (arc_total a m))

  -- what the arcs cost
  pub cost_eq : arc_cost D ks b.arc ≡ arc_cost D ks c.arc
  unfolding arc_cost
  cost_eq = sum_of_eq ks _ _ (λ a m. ap (λ (x : ℕ). a.weight * x) (arc_total a m))

  -- the parents read off
  pub parents_eq : each N (parent_read D ks b.arc) ≡ each N (parent_read D ks c.arc)
  unfolding parent_read
  parents_eq = each_eq N _ _ (λ v p q. sum_of_eq ks _ _ (λ a m. ap (λ (x : ℕ). same a.child v * x * a.parent) (arc_total a m)))

  -- ---- the six sums

  -- depth-0 bits
  roots_eq : root_miss N b.dep ≡ root_miss N c.dep
  unfolding root_miss
  roots_eq = ap miss_squared (sum_to_eq N _ _ (λ v p q. g.dep v 0 p q (omega arith)))

  -- depth bits of each meter
  depths_eq : depth_misses N D b.dep ≡ depth_misses N D c.dep
  unfolding depth_misses misses set_at
  depths_eq = sum_to_eq N _ _ (λ v p q. ap miss_squared (sum_to_eq (suc D) _ _ (λ i r s. g.dep v (pred i) p q (omega arith))))

  -- depth bits and arcs into each meter
  gaps_eq : entry_gaps N D ks b.dep b.arc ≡ entry_gaps N D ks c.dep c.arc
  unfolding entry_gaps
  gaps_eq = sum_to_eq N _ _ (λ v p q. sum_to_eq D _ _ (λ i r s. ap₂ (λ (x y : ℕ). gap x y * gap x y) (g.dep v i p q s) (entries_eq v i r s)))

  -- neighbour-count bits of each meter
  counts_eq : misses N d b.cnt ≡ misses N d c.cnt
  unfolding misses set_at
  counts_eq = sum_to_eq N _ _ (λ v p q. ap miss_squared (sum_to_eq d _ _ (λ j r s. g.cnt v j p q r s)))

  -- neighbour counts and arc bits at each meter
  degrees_eq : degree_gaps N D d ks b.arc b.cnt ≡ degree_gaps N D d ks c.arc c.cnt
  unfolding degree_gaps
  degrees_eq = sum_to_eq N _ _ (λ v p q. ap₂ (λ (x y : ℕ). gap x y * gap x y) (sum_to_eq d _ _ (λ j r s. ap (λ (x : ℕ). j * x) (g.cnt v j p q r s))) (touches_eq v))

  -- arcs and their ends, which are meters
  ends_eq : ((a : Arc) → Memᴰ a ks → ArcOf N a) → end_misses D ks b.dep b.arc ≡ end_misses D ks c.dep c.arc
  unfolding end_misses
  ends_eq of = sum_of_eq ks _ _ (λ a m. sum_to_eq D _ _ (λ i r s. let e = of a m in
      ap₂ (λ (x y : ℕ). x * (2 - y)) (g.arc a m i r s)
      (ap₂ ◌+◌ (g.dep a.parent (pred i) e.parent_low e.parent_high (omega arith)) (g.dep a.child i e.child_low e.child_high s))))

  -- so the whole
  pub broken_eq : ((a : Arc) → Memᴰ a ks → ArcOf N a) → broken N D d ks b ≡ broken N D d ks c
  unfolding broken
  broken_eq of = omega (arith, roots_eq, depths_eq, gaps_eq, counts_eq, degrees_eq, ends_eq of)
