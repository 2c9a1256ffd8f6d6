-- At most 47 links at one meter. Assumes nothing.
use Prim.Native.Nat.{ℕ, zero, suc, ◌+◌, ◌≤◌, ◌<◌}
use mathlib.Core.Bool.{Bool, true, false, ◌&&◌, ◌||◌, cond, true≢false}
use mathlib.Core.Path.{◌≡◌, refl, sym, ◌∙◌}
use mathlib.Core.List.{List, [], ◌∷◌}
use lib.Dec.{leb, eqb}
use borrow.Author.Tests.{lt-ltb, le-ltb, le-leb, ne_eqb, eqb-true, leb-true}
use native.Mathlib.Omega.{arith}
use Rattle.lists.specs.Tests.{all, from}
use Rattle.links.specs.Links.{edge_ok, has_ends, is_at, times_of, degree, low, high}
use Rattle.links.specs.declared.Link.{Link}
use Rattle.links.specs.Survey.{EdgeOf, IsGraph}
use Rattle.lists.proofs.Tests.{Equal, equal, other, equal?, and_left, and_right, all_head, all_tail}
use Rattle.links.proofs.Altered.{ends_yes, ends_no, ascending_once}
use Rattle.links.proofs.Graph.{edge_of}

module _ (m : ℕ) where
  -- the link joins m and x
  joins : ℕ → Link → Bool
  joins x l = has_ends (low m x) (high m x) l

  -- how many of the meters xs a link joins with m
  mates : List ℕ → Link → ℕ
  mates [] l = 0
  mates (x ∷ xs) l = cond (joins x l) 1 0 + mates xs l

  -- how many links join m and a meter of xs
  total : List ℕ → List Link → ℕ
  total [] ls = 0
  total (x ∷ xs) ls = times_of (low m x) (high m x) ls + total xs ls

  total_cons : (xs : List ℕ) (l : Link) (ls : List Link) → total xs (l ∷ ls) ≡ mates xs l + total xs ls
  unfolding total mates joins times_of
  total_cons [] l ls = refl
  total_cons (x ∷ xs) l ls = omega (arith, total_cons xs l ls)

  -- a link at m joins m and a meter from 1 to N
  mates_one : (n a x : ℕ) (l : Link) → a ≤ x → x < a + n → joins x l ≡ true → 1 ≤ mates (from a n) l
  unfolding from mates
  mates_one zero a x l h k e = omega arith
  mates_one (suc n) a x l h k e = go (equal? a x) (λ g. mates_one n (suc a) x l g (omega arith) e)
    where
      go : Equal a x → (suc a ≤ x → 1 ≤ mates (from (suc a) n) l) → 1 ≤ cond (joins a l) 1 0 + mates (from (suc a) n) l
      go (equal q) f = rw (q, e) (omega arith)
      go (other q) f = omega (arith, f (omega arith))

  joins_u : (x : ℕ) (l : Link) → l.u ≡ m → l.v ≡ x → m < x → joins x l ≡ true
  unfolding joins low high
  joins_u x l e f h = rw (lt-ltb m x h) (ends_yes m x l e f)

  joins_v : (x : ℕ) (l : Link) → l.u ≡ x → l.v ≡ m → x < m → joins x l ≡ true
  unfolding joins low high
  joins_v x l e f h = rw (le-ltb m x (omega arith)) (ends_yes x m l e f)

  mates_at : (N : ℕ) (l : Link) → EdgeOf N l → cond (is_at m l) 1 0 ≤ mates (from 1 N) l
  unfolding is_at
  mates_at N l h = go (eqb l.u m) (eqb l.v m) (eqb-true l.u m) (eqb-true l.v m)
    where
      go : (s t : Bool) → (s ≡ true → l.u ≡ m) → (t ≡ true → l.v ≡ m) → cond (s || t) 1 0 ≤ mates (from 1 N) l
      go true t e f = let q = e refl in mates_one N 1 l.v l (omega arith) (omega arith) (joins_u l.v l q refl (omega arith))
      go false true e f = let q = f refl in mates_one N 1 l.u l (omega arith) (omega arith) (joins_v l.u l refl q (omega arith))
      go false false e f = omega arith

  degree_total : (N : ℕ) (ls : List Link) → all (edge_ok N) ls ≡ true → degree m ls ≤ total (from 1 N) ls
  unfolding degree
  degree_total N [] e = omega arith
  degree_total N (l ∷ ls) e =
      omega (arith, mates_at N l (edge_of N l (all_head (edge_ok N) l ls e)), degree_total N ls (all_tail (edge_ok N) l ls e), total_cons (from 1 N) l ls)

  -- no link joins m and m
  times_self : (N : ℕ) (ls : List Link) → all (edge_ok N) ls ≡ true → times_of (low m m) (high m m) ls ≡ 0
  unfolding low high times_of
  times_self N [] e = refl
  times_self N (l ∷ ls) e =
      let h = edge_of N l (all_head (edge_ok N) l ls e) in
      rw (ends_no (low m m) (high m m) l (λ i j. omega arith), times_self N ls (all_tail (edge_ok N) l ls e))

  -- each meter is joined with m at most once, and m itself is not
  total_le : (ls : List Link) → ((a b : ℕ) → times_of a b ls ≤ 1) → (n a : ℕ) → total (from a n) ls ≤ n
  unfolding from total
  total_le ls h zero a = omega arith
  total_le ls h (suc n) a = omega (arith, h (low m a) (high m a), total_le ls h n (suc a))

  total_less : (ls : List Link) → ((a b : ℕ) → times_of a b ls ≤ 1) → times_of (low m m) (high m m) ls ≡ 0 → (n a : ℕ) → a ≤ m → m < a + n → suc (total (from a n) ls) ≤ n
  unfolding from total
  total_less ls h z zero a l k = omega arith
  total_less ls h z (suc n) a l k = go (equal? a m) (λ g. total_less ls h z n (suc a) g (omega arith))
    where
      go : Equal a m → (suc a ≤ m → suc (total (from (suc a) n) ls) ≤ n) → suc (times_of (low m a) (high m a) ls + total (from (suc a) n) ls) ≤ suc n
      go (equal q) f = rw (q, z) (omega (arith, total_le ls h n (suc m)))
      go (other q) f = omega (arith, h (low m a) (high m a), f (omega arith))

-- a meter has fewer links than there are meters
pub degree_bound : (N : ℕ) (ls : List Link) (m : ℕ) → IsGraph N ls → 1 ≤ m → m ≤ N → suc (degree m ls) ≤ N
degree_bound N ls m s l h = omega (arith, degree_total m N ls s.each, total_less m ls (λ a b. ascending_once ls a b s.rises) (times_self m N ls s.each) N 1 l (omega arith))

-- what is no meter has no link
pub degree_out : (N : ℕ) (ls : List Link) (m : ℕ) → all (edge_ok N) ls ≡ true → (1 ≤ m → m ≤ N → ⊥) → degree m ls ≡ 0
unfolding degree is_at
degree_out N [] m e n = refl
degree_out N (l ∷ ls) m e n =
    let h = edge_of N l (all_head (edge_ok N) l ls e) in
    rw (ne_eqb l.u m (λ q. n (omega arith) (omega arith)), ne_eqb l.v m (λ q. n (omega arith) (omega arith)), degree_out N ls m (all_tail (edge_ok N) l ls e) n)

-- a meter has at most 47 links
pub degree_few : (N : ℕ) (ls : List Link) (m : ℕ) → IsGraph N ls → degree m ls ≤ 47
degree_few N ls m s = go (leb 1 m && leb m N) refl
  where
    go : (t : Bool) → (leb 1 m && leb m N) ≡ t → degree m ls ≤ 47
    go true e = omega (arith, degree_bound N ls m s (leb-true 1 m (and_left (leb 1 m) _ e)) (leb-true m N (and_right (leb 1 m) _ e)))
    go false e = omega (arith, degree_out N ls m s.each (λ l h. true≢false (sym (rw (le-leb 1 m l, le-leb m N h)) ∙ e)))
