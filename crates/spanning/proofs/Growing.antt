-- Links over which each meter can be reached from meter 1 hold a tree with root 1: it grows by one meter at a time along the way to each. Assumes nothing.
use Prim.Native.Nat.{ℕ, zero, suc, ◌≤◌}
use mathlib.Core.Bool.{true}
use mathlib.Core.Path.{◌≡◌, refl, sym, ap, ◌∙◌, subst}
use mathlib.Core.Logic.{◌⊎◌, inl, inr, ◌≢◌, ⊎_elim}
use mathlib.Core.List.{List}
use lib.ListN.{length, replicate, length-replicate}
use native.Mathlib.Decide.{ℕ_discrete, dec_le}
use native.Mathlib.Omega.{arith}
use Rattle.lists.specs.Tests.{all}
use Rattle.lists.specs.Sums.{nth}
use Rattle.lists.proofs.Sums.{nth_zero}
use Rattle.lists.proofs.Stores.{zero_entries}
use Rattle.links.specs.Links.{link_ok}
use Rattle.links.specs.declared.Link.{Link}
use Rattle.spanning.specs.Spanning.{Linked, Reach, stay, go}
use Rattle.spanning.proofs.Shape.{linked_flip}
use Rattle.spanning.proofs.Depths.{linked_in}
use Rattle.spanning.proofs.Chains.{up, up_more, ends_within}
use Rattle.spanning.proofs.Rooted.{with_parent, with_length, with_same, with_other, Rooted}

-- ---- a tree that grows

-- meter v is in the tree with root 1
abbrev In : List ℕ → ℕ → Type 0
In p v = (v ≡ 1) ⊎ (nth p v ≢ 0)

-- which can be decided
in? : (p : List ℕ) (v : ℕ) → Dec (In p v)
in? p v = pick (ℕ_discrete v 1) (ℕ_discrete (nth p v) 0)
  where
    pick : Dec (v ≡ 1) → Dec (nth p v ≡ 0) → Dec (In p v)
    pick (yes a) b = yes (inl a)
    pick (no a) (yes b) = no (λ h. ⊎_elim a (λ m. m b) h)
    pick (no a) (no b) = yes (inr b)

-- a tree over links of T on some of N meters; those outside it have no parent
record Grown (N : ℕ) (T : List Link) (p : List ℕ) : Type 0 where
  len : length p ≡ N
  at_one : nth p 1 ≡ 0
  height : ℕ
  low : (v : ℕ) → up (nth p) height v ≡ 0
  linked : (v : ℕ) → nth p v ≢ 0 → Linked v (nth p v) T
  inner : (v : ℕ) → nth p v ≢ 0 → In p (nth p v)

-- no meter has a parent yet
nth_none : (N v : ℕ) → nth (replicate N 0) v ≡ 0
unfolding nth
nth_none N zero = refl
nth_none N (suc i) = zero_entries N i

-- meter 1 alone
alone : (N : ℕ) (T : List Link) → Grown N T (replicate N 0)
unfolding up
alone N T = record {
  len = length-replicate N 0;
  at_one = nth_none N 1;
  height = 1;
  low = λ v. nth_none N v;
  linked = λ v m. absurd (m (nth_none N v));
  inner = λ v m. absurd (m (nth_none N v));
}

-- ---- one meter more: x, which is not in the tree, beneath y, which is

module _ (N : ℕ) (T : List Link) (p : List ℕ) (s : Grown N T p) (x y : ℕ) (x1 : 1 ≤ x) (xN : x ≤ N) (out : In p x → ⊥) (iy : In p y) (k : Linked y x T) where
  -- the parents then
  abbrev q : List ℕ
  q = with_parent p x y

  -- x has the parent y, the others have theirs
  qx : nth q x ≡ y
  qx = with_same p x y x1 (rw s.len xN)

  rest : (v : ℕ) → v ≢ x → nth q v ≡ nth p v
  rest v m = with_other p x y v m

  -- before, x had no parent, and no children
  px : nth p x ≡ 0
  px = elim (ℕ_discrete (nth p x) 0) [ yes e ↦ e | no m ↦ absurd (out (inr m)) ]

  y≢x : y ≢ x
  y≢x e = out (subst (In p) e iy)

  no_child : (v : ℕ) → nth p v ≢ x
  no_child v e = out (subst (In p) e (s.inner v (λ z. omega arith)))

  -- what was in the tree still is
  stays : (v : ℕ) → In p v → In q v
  stays v (inl e) = inl e
  stays v (inr m) = inr (λ z. m (sym (rest v (λ e. m (ap (nth p) e ∙ px))) ∙ z))

  -- the ancestors of the others stay
  up_rest : (h v : ℕ) → v ≢ x → up (nth q) h v ≡ up (nth p) h v
  unfolding up
  up_rest zero v m = refl
  up_rest (suc h) v m = rw (rest v m) (up_rest h (nth p v) (no_child v))

  -- the chain of x ends too
  up_x : up (nth q) (suc s.height) x ≡ 0
  unfolding up
  up_x = rw qx (up_rest s.height y y≢x ∙ s.low y)

  -- x is in it now
  x_in : In q x
  x_in = inr (λ z. ⊎_elim (λ (e : y ≡ 1). omega (arith, qx, z)) (λ m. m (ap (nth p) (sym qx ∙ z) ∙ nth_zero p)) iy)

  -- it is a tree again
  grow : Grown N T q
  grow = record {
    len = with_length p x y ∙ s.len;
    at_one = rest 1 (λ e. out (inl (sym e))) ∙ s.at_one;
    height = suc s.height;
    low = λ v. lower v (ℕ_discrete v x);
    linked = λ v m. link v m (ℕ_discrete v x);
    inner = λ v m. inside v m (ℕ_discrete v x);
  }
    where
      lower : (v : ℕ) → Dec (v ≡ x) → up (nth q) (suc s.height) v ≡ 0
      lower v (yes e) = rw e up_x
      lower v (no m) = up_rest (suc s.height) v m ∙ up_more (nth p) (nth_zero p) s.height (suc s.height) v (omega arith) (s.low v)

      link : (v : ℕ) → nth q v ≢ 0 → Dec (v ≡ x) → Linked v (nth q v) T
      link v m (yes e) = rw (e, qx) (linked_flip k)
      link v m (no d) = rw (rest v d) (s.linked v (λ z. m (rest v d ∙ z)))

      inside : (v : ℕ) → nth q v ≢ 0 → Dec (v ≡ x) → In q (nth q v)
      inside v m (yes e) = rw (e, qx) (stays y iy)
      inside v m (no d) = rw (rest v d) (stays (nth p v) (s.inner v (λ z. m (rest v d ∙ z))))

-- ---- all meters that can be reached

-- a tree that has grown from p
record Next (N : ℕ) (T : List Link) (p : List ℕ) : Type 0 where
  now : List ℕ
  grown : Grown N T now
  keeps : (v : ℕ) → In p v → In now v

module _ (N : ℕ) (T : List Link) (o : all (link_ok N) T ≡ true) where
  -- the meters on the way to x are brought in
  bring : (p : List ℕ) → Grown N T p → {x : ℕ} → Reach T 1 x → (m : Next N T p) × In m.now x
  bring p s stay = (record { now = p; grown = s; keeps = λ v h. h }, inl refl)
  bring p s (go {b = b} {c = c} r k) = pick (bring p s r)
    where
      c1 : 1 ≤ c
      c1 = (linked_in N T o k).2

      c_n : c ≤ N
      c_n = (linked_in N T o k).3

      pick : (m : Next N T p) × In m.now b → (m : Next N T p) × In m.now c
      pick (m, i) = add (in? m.now c)
        where
          add : Dec (In m.now c) → (m : Next N T p) × In m.now c
          add (yes h) = (m, h)
          add (no h) = (
            record {
              now = q N T m.now m.grown c b c1 c_n h i k;
              grown = grow N T m.now m.grown c b c1 c_n h i k;
              keeps = λ v g. stays N T m.now m.grown c b c1 c_n h i k v (m.keeps v g);
            },
            x_in N T m.now m.grown c b c1 c_n h i k,
          )

  -- the meters up to k are in
  bring_all : ((x : ℕ) → 1 ≤ x → x ≤ N → Reach T 1 x) → (k : ℕ) → k ≤ N → (p : List ℕ) × Grown N T p × ((v : ℕ) → 1 ≤ v → v ≤ k → In p v)
  bring_all r zero h = (replicate N 0, alone N T, λ v a b. absurd (omega arith))
  bring_all r (suc k) h =
      let c = bring_all r k (omega arith) in
      let m = bring c.0 c.1 (r (suc k) (omega arith) h) in
      (m.0.now, m.0.grown, λ v a b. last c.0 m.0 c.2 m.1 v a b (dec_le v k))
    where
      last : (p : List ℕ) (m : Next N T p) → ((v : ℕ) → 1 ≤ v → v ≤ k → In p v) → In m.now (suc k) → (v : ℕ) → 1 ≤ v → v ≤ suc k → Dec (v ≤ k) → In m.now v
      last p m old i v a b (yes d) = m.keeps v (old v a d)
      last p m old i v a b (no d) = let e : suc k ≡ v = omega arith in subst (In m.now) e i

  -- a tree over T that has them all
  pub tree_over : 1 ≤ N → ((x : ℕ) → 1 ≤ x → x ≤ N → Reach T 1 x) → (p : List ℕ) × Rooted N T p
  tree_over N1 r = let c = bring_all r N (omega arith) in (c.0, whole c.0 c.1 c.2)
    where
      whole : (p : List ℕ) → Grown N T p → ((v : ℕ) → 1 ≤ v → v ≤ N → In p v) → Rooted N T p
      whole p s i = record {
        len = s.len;
        root = 1;
        root_in = omega arith;
        no_parent = s.at_one;
        others = λ v a b m. other v m (i v a b);
        ends = λ v b. ends_within (nth p) N (nth_zero p) (λ u _. small u (ℕ_discrete (nth p u) 0)) s.height v b (s.low v);
      }
        where
          other : (v : ℕ) → v ≢ 1 → In p v → (1 ≤ nth p v) × (nth p v ≤ N) × Linked v (nth p v) T
          other v m (inl e) = absurd (m e)
          other v m (inr d) = let k = s.linked v d in ((linked_in N T o k).2, (linked_in N T o k).3, k)

          small : (v : ℕ) → Dec (nth p v ≡ 0) → nth p v ≤ N
          small v (yes e) = omega arith
          small v (no d) = (linked_in N T o (s.linked v d)).3
