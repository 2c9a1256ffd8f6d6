-- Where the sum that A multiplies is 0: each meter is at one depth, and at depth 1 or more just one arc into it is set, from a meter one depth higher up. Assumes nothing.
use Prim.Native.Nat.{ℕ, suc, pred, ◌+◌, ◌-◌, ◌*◌, ◌≤◌}
use mathlib.Core.Path.{◌≡◌, refl, sym, ap, ◌∙◌}
use mathlib.Core.Logic.{◌⊎◌, inl, inr}
use mathlib.Core.List.{List, Memᴰ}
use native.Mathlib.Omega.{arith}
use native.Mathlib.Decide.{ℕ_discrete}
use native.Mathlib.Nat.{zero-mul, mul_comm, one-le-mul}
use Rattle.lists.specs.Sums.{sum_to, sum_of, same}
use Rattle.lists.proofs.Sums.{same_yes, same_no, same_le, same_one, gap_squared_zero, sum_to_eq, sum_to_none, sum_to_times, sum_to_same, sum_to_term, sum_to_zero_at, sum_to_hot, same_iff, same_none, times_factors, same_both, sum_to_at, sum_to_some}
use Rattle.lists.proofs.Members.{sum_of_eq, sum_of_none, sum_of_term, sum_of_zero, sum_of_some, sum_of_hot, sum_of_swap}
use Rattle.links.specs.declared.Link.{Link}
use Rattle.links.specs.Survey.{IsSurvey}
use Rattle.links.proofs.Graph.{graph_of}
use Rattle.onehot.specs.Choices.{set_at, misses}
use Rattle.onehot.proofs.Codes.{miss_one, misses_hot}
use Rattle.arcs.specs.Arcs.{Arc, arcs}
use Rattle.arcs.specs.Sums.{root_miss, depth_misses, entries_of, entry_gaps, end_misses}
use Rattle.arcs.proofs.ArcLists.{arc_of}
use Rattle.neighbours.specs.Formula.{touches_of, degree_gaps}
use Rattle.tree.specs.Formula.{TreeBits, broken}
use Rattle.tree.specs.Decoding.{parent_read}
use Rattle.tree.proofs.Arcs.{arcs_leading}

-- ---- what a sum of 0 says

-- of bits in the six sums' order: equalities in place of squares
pub record Unbroken (N D d : ℕ) (ks : List Arc) (b : TreeBits) : Type 0 where
  pub root : sum_to N (λ v. b.dep v 0) ≡ 1
  pub depth : (v : ℕ) → 1 ≤ v → v ≤ N → sum_to (suc D) (λ i. b.dep v (pred i)) ≡ 1
  pub entry : (v i : ℕ) → 1 ≤ v → v ≤ N → 1 ≤ i → i ≤ D → b.dep v i ≡ entries_of ks b.arc v i
  pub count : (v : ℕ) → 1 ≤ v → v ≤ N → sum_to d (b.cnt v) ≡ 1
  pub degree : (v : ℕ) → 1 ≤ v → v ≤ N → sum_to d (λ j. j * b.cnt v j) ≡ touches_of D ks b.arc v
  pub ends : (a : Arc) → Memᴰ a ks → (i : ℕ) → 1 ≤ i → i ≤ D → b.arc a i * (2 - (b.dep a.parent (pred i) + b.dep a.child i)) ≡ 0

-- each of the six sums is 0, and so is each of their terms
pub unbroken : (N D d : ℕ) (ks : List Arc) (b : TreeBits) → broken N D d ks b ≡ 0 → Unbroken N D d ks b
unfolding broken root_miss depth_misses entry_gaps degree_gaps end_misses set_at
unbroken N D d ks b z = record {
  root = miss_one _ (let y : root_miss N b.dep ≡ 0 = omega arith in y);
  depth = (misses_hot N (suc D) (λ v i. b.dep v (pred i))).0 (let y : depth_misses N D b.dep ≡ 0 = omega arith in y);
  entry = λ v i p q r s. gap_squared_zero _ _ (sum_to_zero_at D _ (sum_to_zero_at N _ (let y : entry_gaps N D ks b.dep b.arc ≡ 0 = omega arith in y) v p q) i r s);
  count = (misses_hot N d b.cnt).0 (let y : misses N d b.cnt ≡ 0 = omega arith in y);
  degree = λ v p q. gap_squared_zero _ _ (sum_to_zero_at N _ (let y : degree_gaps N D d ks b.arc b.cnt ≡ 0 = omega arith in y) v p q);
  ends = λ a m i r s. sum_to_zero_at D _ (sum_of_zero ks _ (let y : end_misses D ks b.dep b.arc ≡ 0 = omega arith in y) a m) i r s;
}

-- ---- depths

-- the depth that the depth bits give
unfoldable pub depth_read : ℕ → TreeBits → ℕ → ℕ
depth_read D b v = sum_to D (λ i. i * b.dep v i)

module _ (N D d : ℕ) (ls : List Link) (s : IsSurvey N ls) (b : TreeBits) (c : Unbroken N D d (arcs ls) b) where
  -- just one depth bit of a meter is set
  one_depth : (v : ℕ) → 1 ≤ v → v ≤ N → (h : ℕ) × (h ≤ D) × ((i : ℕ) → i ≤ D → b.dep v i ≡ same h i)
  one_depth v p q =
      let s = sum_to_some (suc D) (λ i. b.dep v (pred i)) (omega (arith, c.depth v p q)) in (
        pred s.0,
        omega (arith, s.1, s.2),
        λ i l.
            sum_to_hot (suc D) (λ i. b.dep v (pred i)) s.0 (suc i) s.1 s.2 (omega arith) (omega arith) (c.depth v p q) s.3
            ∙ same_iff s.0 (suc i) (pred s.0) i (λ e. omega arith) (λ e. omega (arith, s.1)),
      )

  -- that bit gives the depth
  depth_read_off : (v h : ℕ) → h ≤ D → ((i : ℕ) → i ≤ D → b.dep v i ≡ same h i) → depth_read D b v ≡ h
  unfolding depth_read
  depth_read_off v h l f =
      sum_to_eq D _ (λ i. same h i * i) (λ i p q. mul_comm i (b.dep v i) ∙ ap (λ (x : ℕ). x * i) (f i q))
      ∙ elim (ℕ_discrete h 0) [
        | yes e ↦ sum_to_none D _ (λ i p q. same_none h i i (λ z. omega arith)) ∙ sym e
        | no e ↦ sum_to_at D h (λ i. i) (omega arith) l
      ]

  -- it is at most D
  pub depth_le : (v : ℕ) → 1 ≤ v → v ≤ N → depth_read D b v ≤ D
  depth_le v p q = let t = one_depth v p q in omega (arith, depth_read_off v t.0 t.1 t.2, t.1)

  -- the depth bits are those of that depth
  pub depth_is : (v i : ℕ) → 1 ≤ v → v ≤ N → i ≤ D → b.dep v i ≡ same (depth_read D b v) i
  depth_is v i p q l = let t = one_depth v p q in t.2 i l ∙ ap (λ (h : ℕ). same h i) (sym (depth_read_off v t.0 t.1 t.2))

  -- ---- arcs

  -- all arc bits set into a meter: one where it is at depth 1 or more
  pub entries_sum : (v : ℕ) → 1 ≤ v → v ≤ N → sum_of (arcs ls) (λ a. same a.child v * sum_to D (b.arc a)) ≡ sum_to D (same (depth_read D b v))
  unfolding entries_of
  entries_sum v p q =
      sum_of_eq (arcs ls) _ (λ k. sum_to D (λ i. same k.child v * b.arc k i)) (λ k i. sym (sum_to_times D (same k.child v) (b.arc k)))
      ∙ sum_of_swap (arcs ls) D (λ k i. same k.child v * b.arc k i)
      ∙ sum_to_eq D _ (same (depth_read D b v)) (λ i r s. sym (c.entry v i p q r s) ∙ depth_is v i p q s)

  -- an arc that is set at depth i
  module _ (a : Arc) (m : Memᴰ a (arcs ls)) (i : ℕ) (i1 : 1 ≤ i) (iD : i ≤ D) (on : 1 ≤ b.arc a i) where
    -- its child is at depth i, its parent one higher up
    pub both_ends : (depth_read D b a.child ≡ i) × (suc (depth_read D b a.parent) ≡ i)
    both_ends =
        let e = arc_of N ls (graph_of N ls s) a m in
        let x = depth_is a.parent (pred i) e.parent_low e.parent_high (omega arith) in
        let y = depth_is a.child i e.child_low e.child_high iD in
        let z : 2 - (b.dep a.parent (pred i) + b.dep a.child i) ≡ 0 = other (b.arc a i) _ on (c.ends a m i i1 iD) in
        let r : depth_read D b a.parent ≡ pred i = same_one _ _ (omega (arith, same_le (depth_read D b a.parent) (pred i), same_le (depth_read D b a.child) i)) in
        (same_one _ _ (omega (arith, same_le (depth_read D b a.parent) (pred i), same_le (depth_read D b a.child) i)), omega arith)
      where
        other : (x y : ℕ) → 1 ≤ x → x * y ≡ 0 → y ≡ 0
        other x y h z = elim (ℕ_discrete y 0) [ yes q ↦ q | no q ↦ absurd (let k : 1 ≤ y = omega arith in let l : 1 ≤ x * y = one-le-mul h k in let w : ⊥ = omega arith in w) ]

    -- it is the only one into its child, so its parent is the one read
    pub the_parent : parent_read D (arcs ls) b.arc a.child ≡ a.parent
    unfolding parent_read
    the_parent =
        let e = arc_of N ls (graph_of N ls s) a m in
        let x : 1 ≤ same a.child a.child = omega (arith, same_yes a.child a.child refl) in
        let y : 1 ≤ sum_to D (b.arc a) = omega (arith, sum_to_term D (b.arc a) i i1 iD) in
        sum_of_hot (arcs ls) (λ k. same k.child a.child * sum_to D (b.arc k)) (λ k. k.parent) a m (one-le-mul x y)
        (entries_sum a.child e.child_low e.child_high ∙ sum_to_same D (depth_read D b a.child) (omega (arith, both_ends.0)) (omega (arith, both_ends.0)))

  -- at a depth of 1 or more an arc is set
  pub arc_in : (v : ℕ) → 1 ≤ v → v ≤ N → 1 ≤ depth_read D b v → (a : Arc) × Memᴰ a (arcs ls) × (a.child ≡ v) × (1 ≤ b.arc a (depth_read D b v))
  unfolding entries_of
  arc_in v p q h =
      let l = depth_le v p q in
      let s = sum_of_some (arcs ls) (λ a. same a.child v * b.arc a (depth_read D b v))
      (omega (arith, c.entry v (depth_read D b v) p q h l, depth_is v (depth_read D b v) p q l, same_yes (depth_read D b v) (depth_read D b v) refl)) in
      let t = times_factors _ _ s.2 in
      (s.0, s.1, same_one _ _ t.0, t.1)

  -- at depth 0 no parent is read
  no_arc : (v : ℕ) → 1 ≤ v → v ≤ N → depth_read D b v ≡ 0 → parent_read D (arcs ls) b.arc v ≡ 0
  unfolding parent_read
  no_arc v p q e =
      let z : sum_of (arcs ls) (λ a. same a.child v * sum_to D (b.arc a)) ≡ 0 = entries_sum v p q ∙ sum_to_none D _ (λ i r s. same_no (depth_read D b v) i (λ y. omega arith)) in
      sum_of_none (arcs ls) _ (λ a m. ap (λ (x : ℕ). x * a.parent) (sum_of_zero (arcs ls) _ z a m) ∙ zero-mul a.parent)

  -- a meter is at depth 0 and has no parent, or has one that is one depth higher up and from which an arc leads to it
  abbrev pub Placed : ℕ → Type 0
  Placed v = ((parent_read D (arcs ls) b.arc v ≡ 0) × (depth_read D b v ≡ 0))
      ⊎ ((1 ≤ parent_read D (arcs ls) b.arc v) × (parent_read D (arcs ls) b.arc v ≤ N) × (depth_read D b v ≡ suc (depth_read D b (parent_read D (arcs ls) b.arc v))) × (1 ≤ arcs_leading (arcs ls) (parent_read D (arcs ls) b.arc v) v))

  -- one of the two holds
  pub placed : (v : ℕ) → 1 ≤ v → v ≤ N → Placed v
  unfolding arcs_leading
  placed v p q =
      elim (ℕ_discrete (depth_read D b v) 0) [
        | yes e ↦ inl (no_arc v p q e, e)
        | no e ↦ inr (found (omega arith) (arc_in v p q (omega arith)))
      ]
    where
      found : 1 ≤ depth_read D b v → (a : Arc) × Memᴰ a (arcs ls) × (a.child ≡ v) × (1 ≤ b.arc a (depth_read D b v))
          → (1 ≤ parent_read D (arcs ls) b.arc v) × (parent_read D (arcs ls) b.arc v ≤ N) × (depth_read D b v ≡ suc (depth_read D b (parent_read D (arcs ls) b.arc v))) × (1 ≤ arcs_leading (arcs ls) (parent_read D (arcs ls) b.arc v) v)
      found n (a, m, e, on) =
          let f = arc_of N ls (graph_of N ls s) a m in
          let l = depth_le v p q in
          let k : parent_read D (arcs ls) b.arc v ≡ a.parent = ap (parent_read D (arcs ls) b.arc) (sym e) ∙ the_parent a m (depth_read D b v) n l on in
          let r = both_ends a m (depth_read D b v) n l on in (
            omega (arith, f.parent_low),
            omega (arith, f.parent_high),
            sym r.1 ∙ ap (λ (x : ℕ). suc (depth_read D b x)) (sym k),
            omega (arith, sum_of_term (arcs ls) (λ a. same a.child v * same a.parent (parent_read D (arcs ls) b.arc v)) a m, same_both a.child v a.parent (parent_read D (arcs ls) b.arc v) e (sym k)),
          )
