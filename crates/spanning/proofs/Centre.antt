-- Every rooted tree on N meters has, over the same links, a root with no depth over N/2: while there is a greater depth the root moves one step towards the meter that has it. Assumes nothing.
use Prim.Native.Nat.{ℕ, zero, suc, ◌+◌, ◌≤◌, ◌<◌, ◌/◌}
use mathlib.Core.Path.{◌≡◌, sym, ap, ◌∙◌}
use mathlib.Core.Logic.{◌⊎◌, inl, inr, ◌≢◌}
use mathlib.Core.List.{List}
use native.Mathlib.Decide.{dec_le, ℕ_discrete}
use native.Mathlib.Omega.{arith}
use Rattle.lists.specs.Sums.{nth}
use Rattle.lists.proofs.Sums.{nth_zero}
use Rattle.links.specs.declared.Link.{Link}
use Rattle.spanning.specs.Spanning.{Linked}
use Rattle.spanning.proofs.Ranges.{all_or_not}
use Rattle.spanning.proofs.Shape.{linked_flip}
use Rattle.spanning.proofs.Chains.{up, up_zero, up_last, up_more, up_le, last_of, ends_within, two_chains}
use Rattle.spanning.proofs.Rooted.{with_parent, with_length, with_same, with_other, Below, Rooted, parent_le, is_root}

-- ---- chains when the root moves

-- g is f with the root moved from r to its child c
module _ (f g : ℕ → ℕ) (c r : ℕ) (zf : f 0 ≡ 0) (zg : g 0 ≡ 0) (cn : c ≢ 0) (rn : r ≢ 0) (fr : f r ≡ 0)
    (gc : g c ≡ 0) (gr : g r ≡ c) (rest : (v : ℕ) → v ≢ c → v ≢ r → g v ≡ f v) where
  -- a chain that comes to c ends there
  beneath : (j v : ℕ) → up f j v ≡ c → up g (suc j) v ≡ 0
  unfolding up
  beneath zero v e = rw (e, gc)
  beneath (suc j) v e = go (λ u. beneath j u) (ℕ_discrete v c) (ℕ_discrete v r)
    where
      go : ((u : ℕ) → up f j u ≡ c → up g j (g u) ≡ 0) → Dec (v ≡ c) → Dec (v ≡ r) → up g j (g (g v)) ≡ 0
      go ih (yes q) d = rw (q, gc, zg) (up_zero g zg j)
      go ih (no a) (yes q) = absurd (cn (sym e ∙ ap (up f j) (ap f q ∙ fr) ∙ up_zero f zf j))
      go ih (no a) (no b) = rw (rest v a b) (ih (f v) e)

  -- any other comes to r and goes on to c
  beside : (d v : ℕ) → ((j : ℕ) → up f j v ≢ c) → up f d v ≡ r → up g (suc (suc d)) v ≡ 0
  unfolding up
  beside zero v n e = rw (e, gr, gc)
  beside (suc d) v n e = go (λ u. beside d u) (ℕ_discrete v r)
    where
      go : ((u : ℕ) → ((j : ℕ) → up f j u ≢ c) → up f d u ≡ r → up g d (g (g u)) ≡ 0) → Dec (v ≡ r) → up g d (g (g (g v))) ≡ 0
      go ih (yes q) = absurd (rn (sym e ∙ ap (up f d) (ap f q ∙ fr) ∙ up_zero f zf d))
      go ih (no b) = rw (rest v (n 0) b) (ih (f v) (λ j. n (suc j)) e)

-- a chain that ends comes to c, or never does
meets : (f : ℕ → ℕ) → f 0 ≡ 0 → (c : ℕ) → c ≢ 0 → (k v : ℕ) → up f k v ≡ 0 → ((j : ℕ) × (up f j v ≡ c)) ⊎ ((j : ℕ) → up f j v ≢ c)
unfolding up
meets f z c n zero v e = inr (λ j q. n (sym q ∙ ap (up f j) e ∙ up_zero f z j))
meets f z c n (suc k) v e = go (meets f z c n k (f v) e) (ℕ_discrete v c)
  where
    never : v ≢ c → ((j : ℕ) → up f j (f v) ≢ c) → (j : ℕ) → up f j v ≢ c
    never a h zero = a
    never a h (suc j) = h j

    go : ((j : ℕ) × (up f j (f v) ≡ c)) ⊎ ((j : ℕ) → up f j (f v) ≢ c) → Dec (v ≡ c) → ((j : ℕ) × (up f j v ≡ c)) ⊎ ((j : ℕ) → up f j v ≢ c)
    go h (yes q) = inl (0, q)
    go (inl t) (no a) = inl (suc t.0, t.1)
    go (inr h) (no a) = inr (never a h)

-- ---- one step: no depth is over h + 1, which is more than half of N, and meter w has it

module _ (N h : ℕ) (T : List Link) (p : List ℕ) (t : Rooted N T p) (b : Below N p (suc (suc h))) (big : N < suc h + suc h)
    (w : ℕ) (hw : w ≤ N) (deep : up (nth p) (suc h) w ≢ 0) where
  -- the root's child on the way to w
  abbrev c : ℕ
  c = up (nth p) h w

  -- the root
  abbrev r : ℕ
  r = up (nth p) (suc h) w

  -- the root moved to c
  abbrev q : List ℕ
  q = with_parent (with_parent p c 0) r c

  -- the root is c's parent, and has none
  pc : nth p c ≡ r
  pc = sym (up_last (nth p) h w)

  pr : nth p r ≡ 0
  pr = sym (up_last (nth p) (suc h) w) ∙ b w hw

  -- both are meters, and different
  c≤ : c ≤ N
  c≤ = up_le (nth p) N (parent_le t) h w hw

  r≤ : r ≤ N
  r≤ = up_le (nth p) N (parent_le t) (suc h) w hw

  c≢0 : c ≢ 0
  c≢0 e = deep (up_last (nth p) h w ∙ ap (nth p) e ∙ nth_zero p)

  c≢r : c ≢ r
  c≢r e = deep (sym pc ∙ ap (nth p) e ∙ pr)

  -- the parents after the move
  qr : nth q r ≡ c
  qr = with_same (with_parent p c 0) r c (omega (arith, deep)) (rw (with_length, t.len) r≤)

  qc : nth q c ≡ 0
  qc = with_other (with_parent p c 0) r c c c≢r ∙ with_same p c 0 (omega (arith, c≢0)) (rw t.len c≤)

  rest : (v : ℕ) → v ≢ c → v ≢ r → nth q v ≡ nth p v
  rest v a d = with_other (with_parent p c 0) r c v d ∙ with_other p c 0 v a

  -- the only meter without a parent
  is_r : (v : ℕ) → v ≢ 0 → v ≤ N → nth p v ≡ 0 → v ≡ r
  is_r v a l e = is_root t v a l e ∙ sym (is_root t r deep r≤ pr)

  -- no depth is over h
  lower : Below N q (suc h)
  lower v l = go (meets (nth p) (nth_zero p) c c≢0 (suc (suc h)) v (b v l)) (ℕ_discrete v 0)
    where
      go : ((j : ℕ) × (up (nth p) j v ≡ c)) ⊎ ((j : ℕ) → up (nth p) j v ≢ c) → Dec (v ≡ 0) → up (nth q) (suc h) v ≡ 0
      go (inl m) d = close (dec_le m.0 h)
        where
          close : Dec (m.0 ≤ h) → up (nth q) (suc h) v ≡ 0
          close (yes k) = up_more (nth q) (nth_zero q) (suc m.0) (suc h) v (omega arith)
              (beneath (nth p) (nth q) c r (nth_zero p) (nth_zero q) c≢0 deep pr qc qr rest m.0 v m.1)
          close (no k) = absurd (deep (sym pc ∙ ap (nth p) (sym m.1) ∙ sym (up_last (nth p) m.0 v) ∙ up_more (nth p) (nth_zero p) (suc (suc h)) (suc m.0) v (omega arith) (b v l)))
      go (inr m) (yes e) = rw e (up_zero (nth q) (nth_zero q) (suc h))
      go (inr m) (no a) =
          let s = last_of (nth p) (suc (suc h)) v (b v l) a in
          let few : h + s.0 + 2 ≤ N = two_chains (nth p) N (nth_zero p) (parent_le t) w h v s.0 hw l (deep, b w hw) s.1 m in
          let at-r : up (nth p) s.0 v ≡ r = is_r (up (nth p) s.0 v) s.1.0 (up_le (nth p) N (parent_le t) s.0 v l) (sym (up_last (nth p) s.0 v) ∙ s.1.1) in
          up_more (nth q) (nth_zero q) (suc (suc s.0)) (suc h) v (omega arith)
          (beside (nth p) (nth q) c r (nth_zero p) (nth_zero q) c≢0 deep pr qc qr rest s.0 v m at-r)

  -- it is a tree over the same links
  moved : Rooted N T q
  moved = record {
    len = with_length (with_parent p c 0) r c ∙ with_length p c 0 ∙ t.len;
    root = c;
    root_in = (omega (arith, c≢0), c≤);
    no_parent = qc;
    others = λ v a l d. other v a l d (ℕ_discrete v r);
    ends = λ v l. ends_within (nth q) N (nth_zero q) (λ u k. le u k (ℕ_discrete u c) (ℕ_discrete u r)) (suc h) v l (lower v l);
  }
    where
      root_is : r ≡ t.root
      root_is = is_root t r deep r≤ pr

      to_c : Linked r c T
      to_c = linked_flip (rw pc at (t.others c (omega (arith, c≢0)) c≤ (λ e. c≢r (e ∙ sym root_is))).2)

      le : (v : ℕ) → v ≤ N → Dec (v ≡ c) → Dec (v ≡ r) → nth q v ≤ N
      le v l (yes e) d = rw (e, qc) (omega arith)
      le v l (no a) (yes e) = rw (e, qr) c≤
      le v l (no a) (no d) = rw (rest v a d) (parent_le t v l)

      other : (v : ℕ) → 1 ≤ v → v ≤ N → v ≢ c → Dec (v ≡ r) → (1 ≤ nth q v) × (nth q v ≤ N) × Linked v (nth q v) T
      other v a l d (yes e) = rw (e, qr) (omega (arith, c≢0), c≤, to_c)
      other v a l d (no m) = rw (rest v d m) (t.others v a l (λ e. m (e ∙ sym root_is)))

-- ---- as many steps as it takes

-- a greatest depth that is more than half of N becomes less
step : (N h : ℕ) (T : List Link) (p : List ℕ) → Rooted N T p → Below N p (suc (suc h)) → N < suc h + suc h → (q : List ℕ) × Rooted N T q × Below N q (suc h)
step N h T p t b big = go (all_or_not (λ v. up (nth p) (suc h) v ≡ 0) (λ v. ℕ_discrete (up (nth p) (suc h) v) 0) N)
  where
    go : Below N p (suc h) ⊎ ((v : ℕ) × (v ≤ N) × (up (nth p) (suc h) v ≢ 0)) → (q : List ℕ) × Rooted N T q × Below N q (suc h)
    go (inl a) = (p, t, a)
    go (inr (w, hw, deep)) = (q N h T p t b big w hw deep, moved N h T p t b big w hw deep, lower N h T p t b big w hw deep)

-- the same bound, written otherwise
below_eq : (N : ℕ) (p : List ℕ) (h k : ℕ) → h ≡ k → Below N p h → Below N p k
below_eq N p h k e b = rw e at b

-- k times
steps : (N k : ℕ) (T : List Link) (p : List ℕ) → Rooted N T p → Below N p (suc (N / 2) + k) → (q : List ℕ) × Rooted N T q × Below N q (suc (N / 2))
steps N zero T p t b = (p, t, below_eq N p _ _ (omega arith) b)
steps N (suc k) T p t b =
    let s = step N (N / 2 + k) T p t (below_eq N p _ _ (omega arith) b) (omega arith) in
    steps N k T s.0 s.1 (below_eq N s.0 _ _ (omega arith) s.2)

-- over the links of a rooted tree there is one with no depth over N/2
pub centre : (N : ℕ) (T : List Link) (p : List ℕ) → Rooted N T p → (q : List ℕ) × Rooted N T q × Below N q (suc (N / 2))
centre N T p t = steps N N T p t (λ v l. up_more (nth p) (nth_zero p) N (suc (N / 2) + N) v (omega arith) (t.ends v l))
