-- Chains as lists of record numbers: `Linked s k L` says that the walk from record k meets just the records of L and then ends. Such a chain names no record twice, and so 256 named
-- records in two chains with no record in both are each in one of them once. Assumes nothing.
use Prim.Native.Nat.{ℕ, zero, suc, ◌+◌, ◌≤◌, ◌<◌}
use mathlib.Core.Bool.{Bool, true, cond}
use mathlib.Core.Path.{◌≡◌, refl, sym, ap, ◌∙◌, subst}
use mathlib.Core.List.{List, [], ◌∷◌, ◌++◌}
use lib.ListN.{length}
use lib.Dec.{leb, eqb}
use borrow.Author.Tests.{eq-eqb, ne_eqb, eqb-true, leb-true}
use native.Mathlib.Omega.{arith}
use native.Mathlib.Nat.{not-suc-le-zero}
use Rattle.lists.specs.Tests.{all, from}
use Rattle.lists.proofs.Tests.{and_left, and_right, and_both, Equal, equal, other, equal?, length_from}
use Rattle.site.specs.Layout.{RECORDS, next}
use Rattle.site.specs.Image.{chain, named, times}

-- ---- numbers that name a record

-- a number that names a record is at least 1
pub named_low : (k : ℕ) → named k ≡ true → 1 ≤ k
unfolding named
named_low k e = leb-true 1 k (and_left (leb 1 k) _ e)

-- and at most 256
pub named_high : (k : ℕ) → named k ≡ true → k ≤ RECORDS
unfolding named
named_high k e = leb-true k RECORDS (and_right (leb 1 k) _ e)

-- ---- chains

-- from record k on there are just the records of the list, and then the end
abbrev pub Linked : List ℕ → ℕ → List ℕ → Type 0
Linked s k [] = k ≡ 0
Linked s k (x ∷ L) = (k ≡ x) × (named x ≡ true) × Linked s (next s x) L

module _ (s : List ℕ) where
  chain_zero : (f : ℕ) → 0 < f → chain s f 0 ≡ []
  unfolding chain
  chain_zero zero h = absurd (not-suc-le-zero h)
  chain_zero (suc f) h = refl

  chain_cons : (f k : ℕ) → 1 ≤ k → chain s (suc f) k ≡ k ∷ chain s f (next s k)
  unfolding chain
  chain_cons f zero h = absurd (not-suc-le-zero h)
  chain_cons f (suc j) h = refl

  -- a chain that ends is what the walk with enough fuel gives
  pub linked_chain : (L : List ℕ) (f k : ℕ) → Linked s k L → length L < f → chain s f k ≡ L
  linked_chain [] f k h l = ap (chain s f) h ∙ chain_zero f l
  linked_chain (x ∷ L) zero k h l = absurd (not-suc-le-zero l)
  linked_chain (x ∷ L) (suc f) k h l =
      ap (chain s (suc f)) h.0 ∙ chain_cons f x (named_low x h.1) ∙ ap (λ (t : List ℕ). x ∷ t) (linked_chain L f (next s x) h.2 (omega arith))

  -- a walk of records that stops before its fuel does is a chain that ends
  pub chain_linked : (f k : ℕ) → all named (chain s f k) ≡ true → length (chain s f k) < f → Linked s k (chain s f k)
  unfolding chain all
  chain_linked zero k e l = absurd (not-suc-le-zero l)
  chain_linked (suc f) zero e l = refl
  chain_linked (suc f) (suc j) e l = (refl, and_left (named (suc j)) _ e, chain_linked f (next s (suc j)) (and_right (named (suc j)) _ e) (omega arith))

  -- a chain has records only
  pub linked_named : (L : List ℕ) (k : ℕ) → Linked s k L → all named L ≡ true
  unfolding all
  linked_named [] k h = refl
  linked_named (x ∷ L) k h = and_both (named x) _ h.1 (linked_named L (next s x) h.2)

  -- where a chain begins, a record or 0
  pub linked_head : (L : List ℕ) (k : ℕ) → Linked s k L → k ≤ RECORDS
  linked_head [] k h = omega (arith, h)
  linked_head (x ∷ L) k h = let n = named_high x h.1 in omega (arith, h.0)

  -- two chains from one record are equally long
  linked_length : (L M : List ℕ) (k : ℕ) → Linked s k L → Linked s k M → length L ≡ length M
  linked_length [] [] k h g = refl
  linked_length [] (y ∷ M) k h g = let l = named_low y g.1 in omega arith
  linked_length (x ∷ L) [] k h g = let l = named_low x h.1 in omega arith
  linked_length (x ∷ L) (y ∷ M) k h g =
      ap suc (linked_length L M (next s x) h.2 (subst (λ (z : ℕ). Linked s (next s z) M) (sym g.0 ∙ h.0) g.2))

-- ---- how often a number stands in a list

-- in a list with one number more
pub times_cons : (k x : ℕ) (L : List ℕ) → times k (x ∷ L) ≡ cond (eqb x k) 1 0 + times k L
unfolding times
times_cons k x L = refl

-- which is the number sought
pub times_here : (x : ℕ) (L : List ℕ) → times x (x ∷ L) ≡ 1 + times x L
times_here x L = times_cons x x L ∙ rw (eq-eqb x x refl)

-- or another
pub times_there : (k x : ℕ) (L : List ℕ) → (x ≡ k → ⊥) → times k (x ∷ L) ≡ times k L
times_there k x L n = times_cons k x L ∙ rw (ne_eqb x k n) (omega arith)

-- in two lists, one behind the other
pub times_append : (k : ℕ) (L M : List ℕ) → times k (L ++ M) ≡ times k L + times k M
unfolding times
times_append k [] M = omega arith
times_append k (x ∷ L) M = rw (times_append k L M) (omega arith)

-- a number that does not stand in a list is not its first
pub not_head : (y x : ℕ) (L : List ℕ) → times y (x ∷ L) ≡ 0 → x ≡ y → ⊥
not_head y x L h e = omega (arith, h, subst (λ (z : ℕ). times z (x ∷ L) ≡ 1 + times z L) e (times_here x L))

-- and does not stand in its rest
pub not_tail : (y x : ℕ) (L : List ℕ) → times y (x ∷ L) ≡ 0 → times y L ≡ 0
not_tail y x L h = omega (arith, h, times_cons y x L)

-- what cannot stand in a list stands there 0 times
pub none_of : (y : ℕ) (L : List ℕ) → (1 ≤ times y L → ⊥) → times y L ≡ 0
none_of y L h = omega arith

-- what holds of all of a list holds of each of its numbers
pub all_at : (p : ℕ → Bool) (L : List ℕ) (y : ℕ) → all p L ≡ true → 1 ≤ times y L → p y ≡ true
unfolding all times
all_at p [] y e h = absurd (not-suc-le-zero h)
all_at p (x ∷ L) y e h = go (equal? x y) (all_at p L y (and_right (p x) _ e))
  where
    go : Equal x y → (1 ≤ times y L → p y ≡ true) → p y ≡ true
    go (equal q) r = subst (λ (z : ℕ). p z ≡ true) q (and_left (p x) _ e)
    go (other n) r = r (rw (times_there y x L n) at h)

-- no record has the number 0
pub no_zero : (M : List ℕ) → all named M ≡ true → times 0 M ≡ 0
no_zero M n = none_of 0 M (λ h. let l = named_low 0 (all_at named M 0 n h) in omega arith)

-- ---- a chain names no record twice: from one record on there is one chain, and it ends
module _ (s : List ℕ) where
  -- the rest of a chain from one of its records on
  suffix : (L : List ℕ) (k y : ℕ) → Linked s k L → 1 ≤ times y L → (M : List ℕ) × Linked s y M × (length M ≤ length L)
  unfolding times
  suffix [] k y h g = absurd (not-suc-le-zero g)
  suffix (x ∷ L) k y h g = go (equal? x y) (suffix L (next s x) y h.2)
    where
      go : Equal x y → (1 ≤ times y L → (M : List ℕ) × Linked s y M × (length M ≤ length L)) → (M : List ℕ) × Linked s y M × (length M ≤ suc (length L))
      go (equal q) r = (x ∷ L, (sym q, h.1, h.2), omega arith)
      go (other n) r = let t = r (rw (times_there y x L n) at g) in (t.0, t.1, omega (arith, t.2))

  -- a chain's first record does not stand in its rest
  pub head_once : (k x : ℕ) (L : List ℕ) → Linked s k (x ∷ L) → times x L ≡ 0
  head_once k x L h = none_of x L back
    where
      back : 1 ≤ times x L → ⊥
      back g =
          let t = suffix L (next s x) x h.2 g in
          let e = linked_length s (x ∷ L) t.0 x (refl, h.1, h.2) t.1 in
          omega (arith, t.2)

  -- no record stands in a chain twice
  pub linked_once : (L : List ℕ) (k y : ℕ) → Linked s k L → times y L ≤ 1
  unfolding times
  linked_once [] k y h = omega arith
  linked_once (x ∷ L) k y h = go (equal? x y) (linked_once L (next s x) y h.2)
    where
      go : Equal x y → times y L ≤ 1 → times y (x ∷ L) ≤ 1
      go (equal q) r = subst (λ (z : ℕ). times z (x ∷ L) ≤ 1) q (omega (arith, times_here x L, head_once k x L h))
      go (other n) r = omega (arith, times_there y x L n)

-- ---- counting: in 256 places at most once each, 256 in all, is once each

-- how often the numbers ks stand in a list, in all
total : List ℕ → List ℕ → ℕ
total [] M = 0
total (k ∷ ks) M = times k M + total ks M

same_sym : (x k : ℕ) → cond {A = ℕ} (eqb x k) 1 0 ≡ cond (eqb k x) 1 0
same_sym x k = go (equal? x k)
  where
    go : Equal x k → cond {A = ℕ} (eqb x k) 1 0 ≡ cond (eqb k x) 1 0
    go (equal q) = rw (eq-eqb x k q, eq-eqb k x (sym q))
    go (other n) = rw (ne_eqb x k n, ne_eqb k x (λ e. n (sym e)))

total_cons : (ks M : List ℕ) (x : ℕ) → total ks (x ∷ M) ≡ times x ks + total ks M
unfolding total times
total_cons [] M x = refl
total_cons (k ∷ ks) M x = omega (arith, total_cons ks M x, same_sym x k)

total_nil : (ks : List ℕ) → total ks [] ≡ 0
unfolding total times
total_nil [] = refl
total_nil (k ∷ ks) = omega (arith, total_nil ks)

times_out : (n a x : ℕ) → x < a → times x (from a n) ≡ 0
unfolding from times
times_out zero a x h = refl
times_out (suc n) a x h = times_there x a (from (suc a) n) (λ e. omega arith) ∙ times_out n (suc a) x (omega arith)

times_in : (n a x : ℕ) → a ≤ x → x < a + n → times x (from a n) ≡ 1
unfolding from
times_in zero a x h l = absurd (omega arith)
times_in (suc n) a x h l = go (equal? a x) (λ g. times_in n (suc a) x g (omega arith))
  where
    go : Equal a x → (suc a ≤ x → times x (from (suc a) n) ≡ 1) → times x (a ∷ from (suc a) n) ≡ 1
    go (equal q) r = subst (λ (z : ℕ). times x (z ∷ from (suc a) n) ≡ 1) (sym q) (times_here x (from (suc a) n) ∙ rw (times_out n (suc a) x (omega arith)))
    go (other e) r = times_there x a (from (suc a) n) e ∙ r (omega arith)

-- each of 256 numbers stands in the list of all
pub times_all : (x : ℕ) → named x ≡ true → times x (from 1 RECORDS) ≡ 1
times_all x n =
    let l = named_low x n in
    let h = named_high x n in
    times_in RECORDS 1 x l (omega arith)

total_named : (M : List ℕ) → all named M ≡ true → total (from 1 RECORDS) M ≡ length M
unfolding all
total_named [] e = total_nil (from 1 RECORDS)
total_named (x ∷ M) e =
    omega (arith, total_cons (from 1 RECORDS) M x, times_all x (and_left (named x) _ e), total_named M (and_right (named x) _ e))

once : (ks M : List ℕ) → all (λ k. eqb (times k M) 1) ks ≡ true → total ks M ≡ length ks
unfolding all total
once [] M e = refl
once (k ∷ ks) M e =
    let a = eqb-true (times k M) 1 (and_left (eqb (times k M) 1) _ e) in
    let b = once ks M (and_right (eqb (times k M) 1) _ e) in
    omega arith

total_le : (ks M : List ℕ) → ((k : ℕ) → times k M ≤ 1) → total ks M ≤ length ks
unfolding total
total_le [] M h = omega arith
total_le (k ∷ ks) M h = omega (arith, h k, total_le ks M h)

each_once : (ks M : List ℕ) → ((k : ℕ) → times k M ≤ 1) → total ks M ≡ length ks → all (λ k. eqb (times k M) 1) ks ≡ true
unfolding all total
each_once [] M h e = refl
each_once (k ∷ ks) M h e =
    and_both (eqb (times k M) 1) _
    (eq-eqb (times k M) 1 (omega (arith, h k, total_le ks M h)))
    (each_once ks M h (omega (arith, h k, total_le ks M h)))

-- a list of records that has each of them once has 256
pub exact_length : (M : List ℕ) → all named M ≡ true → all (λ k. eqb (times k M) 1) (from 1 RECORDS) ≡ true → length M ≡ RECORDS
exact_length M n e = sym (total_named M n) ∙ once (from 1 RECORDS) M e ∙ length_from 1 RECORDS

-- a list of 256 records that has none of them twice has each of them once
pub length_exact : (M : List ℕ) → all named M ≡ true → ((k : ℕ) → times k M ≤ 1) → length M ≡ RECORDS → all (λ k. eqb (times k M) 1) (from 1 RECORDS) ≡ true
length_exact M n h e = each_once (from 1 RECORDS) M h (total_named M n ∙ e ∙ sym (length_from 1 RECORDS))
