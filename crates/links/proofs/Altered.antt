-- Lists of links with a link put in or taken out. Assumes nothing.
use Prim.Native.Nat.{ℕ, suc, ◌+◌, ◌≤◌}
use mathlib.Core.Bool.{Bool, true, false, ◌&&◌, ◌||◌, not, cond, and-false, or-true, true≢false, false≢true}
use mathlib.Core.Path.{◌≡◌, refl, sym, ap, ◌∙◌, subst, subst₂}
use mathlib.Core.List.{List, [], ◌∷◌, Memᴰ}
use lib.ListN.{length}
use lib.Dec.{eqb}
use borrow.Author.Tests.{le-leb, lt-ltb, eq-eqb, leb-true, ltb-true, eqb-true}
use native.Mathlib.Omega.{arith}
use Rattle.lists.specs.Tests.{every, all, any}
use Rattle.lists.specs.Sums.{sum_of}
use Rattle.links.specs.Links.{link_ok, has_ends, before, ascending_from, ascending, present, weight_of, times_of, insert, delete}
use Rattle.links.specs.declared.Link.{Link}
use Rattle.links.specs.Survey.{LinkOf}
use Rattle.lists.proofs.Tests.{and_left, and_right, and_both, or_left, or_right, every_at, all_head, all_tail, all_cons, all_member, same_test}
use Rattle.links.proofs.Order.{Before, less, before_yes, before_true, before_trans, before_irrefl, before_else}

-- ---- one link

-- the test of a link gives the facts
pub link_of : (N : ℕ) (l : Link) → link_ok N l ≡ true → LinkOf N l
unfolding link_ok
link_of N l e = record {
  u_low = leb-true 1 l.u (every_at _ 0 e);
  ordered = ltb-true l.u l.v (every_at _ 1 e);
  v_high = leb-true l.v N (every_at _ 2 e);
  weight_low = leb-true 1 l.weight (every_at _ 3 e);
  weight_high = leb-true l.weight 65535 (every_at _ 4 e);
}

-- the facts of a link give the test
pub link_tested : (N : ℕ) (l : Link) → LinkOf N l → link_ok N l ≡ true
unfolding link_ok every
link_tested N l h = rw (le-leb 1 l.u h.u_low, lt-ltb l.u l.v h.ordered, le-leb l.v N h.v_high, le-leb 1 l.weight h.weight_low, le-leb l.weight 65535 h.weight_high)

-- the test of all links gives the facts of each
pub member_link : (N : ℕ) (ls : List Link) → all (link_ok N) ls ≡ true → (l : Link) → Memᴰ l ls → LinkOf N l
member_link N ls o l i = link_of N l (all_member (link_ok N) ls o l i)

-- a link that has the ends a and b ends at a
pub ends_at_u : (a b : ℕ) (l : Link) → has_ends a b l ≡ true → l.u ≡ a
unfolding has_ends
ends_at_u a b l e = eqb-true l.u a (and_left (eqb l.u a) _ e)

-- a link that has the ends a and b ends at b
pub ends_at_v : (a b : ℕ) (l : Link) → has_ends a b l ≡ true → l.v ≡ b
unfolding has_ends
ends_at_v a b l e = eqb-true l.v b (and_right (eqb l.u a) _ e)

-- the ends of a link give the test
pub ends_yes : (a b : ℕ) (l : Link) → l.u ≡ a → l.v ≡ b → has_ends a b l ≡ true
unfolding has_ends
ends_yes a b l e f = rw (eq-eqb l.u a e, eq-eqb l.v b f)

-- where the test fails the ends are others
pub ends_not : (a b : ℕ) (l : Link) → has_ends a b l ≡ false → l.u ≡ a → l.v ≡ b → ⊥
ends_not a b l n e f = true≢false (sym (ends_yes a b l e f) ∙ n)

-- where the ends are others the test fails
pub ends_no : (a b : ℕ) (l : Link) → (l.u ≡ a → l.v ≡ b → ⊥) → has_ends a b l ≡ false
ends_no a b l n = go (has_ends a b l) refl
  where
    go : (t : Bool) → has_ends a b l ≡ t → t ≡ false
    go true q = absurd (n (ends_at_u a b l q) (ends_at_v a b l q))
    go false q = refl

-- ---- each link, and how many

-- what holds of a link and of a list holds of the list with the link put in
pub insert_all : (p : Link → Bool) (l : Link) (ls : List Link) → p l ≡ true → all p ls ≡ true → all p (insert l ls) ≡ true
unfolding insert
insert_all p l [] h e = all_cons p l [] h e
insert_all p l (x ∷ xs) h e = go (before x.u x.v l.u l.v) (insert_all p l xs h (all_tail p x xs e))
  where
    go : (t : Bool) → all p (insert l xs) ≡ true → all p (cond t (x ∷ insert l xs) (l ∷ x ∷ xs)) ≡ true
    go true f = all_cons p x (insert l xs) (all_head p x xs e) f
    go false f = all_cons p l (x ∷ xs) h e

-- what holds of a list holds of it with a link taken out
pub delete_all : (p : Link → Bool) (a b : ℕ) (ls : List Link) → all p ls ≡ true → all p (delete a b ls) ≡ true
unfolding delete
delete_all p a b [] e = e
delete_all p a b (x ∷ xs) e = go (has_ends a b x) (delete_all p a b xs (all_tail p x xs e))
  where
    go : (t : Bool) → all p (delete a b xs) ≡ true → all p (cond t xs (x ∷ delete a b xs)) ≡ true
    go true f = all_tail p x xs e
    go false f = all_cons p x (delete a b xs) (all_head p x xs e) f

-- a link put in makes a list one longer
pub insert_length : (l : Link) (ls : List Link) → length (insert l ls) ≡ suc (length ls)
unfolding insert
insert_length l [] = refl
insert_length l (x ∷ xs) = go (before x.u x.v l.u l.v) (insert_length l xs)
  where
    go : (t : Bool) → length (insert l xs) ≡ suc (length xs) → length (cond t (x ∷ insert l xs) (l ∷ x ∷ xs)) ≡ suc (suc (length xs))
    go true f = ap suc f
    go false f = refl

-- a link that is there, taken out, makes a list one shorter
pub delete_length : (a b : ℕ) (ls : List Link) → present a b ls ≡ true → suc (length (delete a b ls)) ≡ length ls
unfolding delete present any
delete_length a b [] e = absurd (false≢true e)
delete_length a b (x ∷ xs) e = go (has_ends a b x) e (delete_length a b xs)
  where
    go : (t : Bool) → (t || present a b xs) ≡ true → (present a b xs ≡ true → suc (length (delete a b xs)) ≡ length xs) → suc (length (cond t xs (x ∷ delete a b xs))) ≡ suc (length xs)
    go true q f = refl
    go false q f = ap suc (f q)

-- ---- the order

-- the head and the tail of a list that rises
rises_head : (a b : ℕ) (x : Link) (xs : List Link) → ascending_from a b (x ∷ xs) ≡ true → Before a b x.u x.v
unfolding ascending_from
rises_head a b x xs e = before_true a b x.u x.v (and_left (before a b x.u x.v) _ e)

rises_tail : (a b : ℕ) (x : Link) (xs : List Link) → ascending_from a b (x ∷ xs) ≡ true → ascending_from x.u x.v xs ≡ true
unfolding ascending_from
rises_tail a b x xs e = and_right (before a b x.u x.v) _ e

rises_cons : (a b : ℕ) (x : Link) (xs : List Link) → Before a b x.u x.v → ascending_from x.u x.v xs ≡ true → ascending_from a b (x ∷ xs) ≡ true
unfolding ascending_from
rises_cons a b x xs h e = and_both (before a b x.u x.v) _ (before_yes a b x.u x.v h) e

-- a list that rises from some ends on rises
pub rises_ascends : (a b : ℕ) (ls : List Link) → ascending_from a b ls ≡ true → ascending ls ≡ true
unfolding ascending
rises_ascends a b [] e = refl
rises_ascends a b (x ∷ xs) e = rises_tail a b x xs e

-- a list that rises from (c, d) on rises from what stands before them
pub rises_sooner : (a b c d : ℕ) (ls : List Link) → Before a b c d → ascending_from c d ls ≡ true → ascending_from a b ls ≡ true
unfolding ascending_from
rises_sooner a b c d [] h e = refl
rises_sooner a b c d (x ∷ xs) h e = rises_cons a b x xs (before_trans h (rises_head c d x xs e)) (rises_tail c d x xs e)

-- links whose ends are not 0 rise from (0, 0) on if they rise
pub ascending_from_zero : (N : ℕ) (ls : List Link) → all (link_ok N) ls ≡ true → ascending_from 0 0 ls ≡ ascending ls
unfolding ascending_from ascending
ascending_from_zero N [] e = refl
ascending_from_zero N (x ∷ xs) e =
    let h = link_of N x (all_head (link_ok N) x xs e) in
    rw (before_yes 0 0 x.u x.v (less h.u_low))

-- a link that is not there, put in after (a, b)
rises_insert : (l : Link) (ls : List Link) (a b : ℕ) → Before a b l.u l.v → ascending_from a b ls ≡ true → present l.u l.v ls ≡ false → ascending_from a b (insert l ls) ≡ true
unfolding insert present any ascending_from
rises_insert l [] a b h e n = rises_cons a b l [] h e
rises_insert l (x ∷ xs) a b h e n = go (before x.u x.v l.u l.v) refl (λ k. rises_insert l xs x.u x.v k (rises_tail a b x xs e) (or_right (has_ends l.u l.v x) _ n))
  where
    go : (t : Bool) → before x.u x.v l.u l.v ≡ t → (Before x.u x.v l.u l.v → ascending_from x.u x.v (insert l xs) ≡ true) → ascending_from a b (cond t (x ∷ insert l xs) (l ∷ x ∷ xs)) ≡ true
    go true q f = rises_cons a b x (insert l xs) (rises_head a b x xs e) (f (before_true x.u x.v l.u l.v q))
    go false q f =
        let k = before_else x.u x.v l.u l.v q (ends_not l.u l.v x (or_left (has_ends l.u l.v x) _ n)) in
        rises_cons a b l (x ∷ xs) h (rises_cons l.u l.v x xs k (rises_tail a b x xs e))

-- a link that is not there, put in, leaves a list rising
pub insert_ascends : (l : Link) (ls : List Link) → ascending ls ≡ true → present l.u l.v ls ≡ false → ascending (insert l ls) ≡ true
unfolding ascending ascending_from insert present any
insert_ascends l [] e n = e
insert_ascends l (x ∷ xs) e n = go (before x.u x.v l.u l.v) refl
  where
    go : (t : Bool) → before x.u x.v l.u l.v ≡ t → ascending (cond t (x ∷ insert l xs) (l ∷ x ∷ xs)) ≡ true
    go true q = rises_insert l xs x.u x.v (before_true x.u x.v l.u l.v q) e (or_right (has_ends l.u l.v x) _ n)
    go false q = rises_cons l.u l.v x xs (before_else x.u x.v l.u l.v q (ends_not l.u l.v x (or_left (has_ends l.u l.v x) _ n))) e

rises_delete : (c d : ℕ) (ls : List Link) (a b : ℕ) → ascending_from a b ls ≡ true → ascending_from a b (delete c d ls) ≡ true
unfolding delete
rises_delete c d [] a b e = e
rises_delete c d (x ∷ xs) a b e = go (has_ends c d x) (rises_delete c d xs x.u x.v (rises_tail a b x xs e))
  where
    go : (t : Bool) → ascending_from x.u x.v (delete c d xs) ≡ true → ascending_from a b (cond t xs (x ∷ delete c d xs)) ≡ true
    go true f = rises_sooner a b x.u x.v xs (rises_head a b x xs e) (rises_tail a b x xs e)
    go false f = rises_cons a b x (delete c d xs) (rises_head a b x xs e) f

-- a link taken out leaves a list rising
pub delete_ascends : (a b : ℕ) (ls : List Link) → ascending ls ≡ true → ascending (delete a b ls) ≡ true
unfolding ascending delete
delete_ascends a b [] e = e
delete_ascends a b (x ∷ xs) e = go (has_ends a b x)
  where
    go : (t : Bool) → ascending (cond t xs (x ∷ delete a b xs)) ≡ true
    go true = rises_ascends x.u x.v xs e
    go false = rises_delete a b xs x.u x.v e

-- ---- at most one link with the same ends

-- the ends that a list rises from are not there
pub rises_none : (a b : ℕ) (ls : List Link) → ascending_from a b ls ≡ true → present a b ls ≡ false
unfolding present any
rises_none a b [] e = refl
rises_none a b (x ∷ xs) e =
    let h = rises_head a b x xs e in
    rw (ends_no a b x (λ i j. before_irrefl h (sym i) (sym j))) (rises_none a b xs (rises_sooner a b x.u x.v xs h (rises_tail a b x xs e)))

-- ends that are there come after those that the list rises from
rises_present : (a b c d : ℕ) (ls : List Link) → ascending_from a b ls ≡ true → present c d ls ≡ true → Before a b c d
unfolding present any
rises_present a b c d [] e h = absurd (false≢true h)
rises_present a b c d (x ∷ xs) e h = go (has_ends c d x) refl h (rises_present x.u x.v c d xs (rises_tail a b x xs e))
  where
    go : (t : Bool) → has_ends c d x ≡ t → (t || present c d xs) ≡ true → (present c d xs ≡ true → Before x.u x.v c d) → Before a b c d
    go true q r f = subst₂ (λ (y z : ℕ). Before a b y z) (ends_at_u c d x q) (ends_at_v c d x q) (rises_head a b x xs e)
    go false q r f = before_trans (rises_head a b x xs e) (f r)

-- the ends of a rising list's head are not there once more
head_only : (a b : ℕ) (x : Link) (xs : List Link) → ascending (x ∷ xs) ≡ true → has_ends a b x ≡ true → present a b xs ≡ false
unfolding ascending
head_only a b x xs e q = subst₂ (λ (y z : ℕ). present y z xs ≡ false) (ends_at_u a b x q) (ends_at_v a b x q) (rises_none x.u x.v xs e)

ascending_tail : (x : Link) (xs : List Link) → ascending (x ∷ xs) ≡ true → ascending xs ≡ true
unfolding ascending
ascending_tail x xs e = rises_ascends x.u x.v xs e

-- ends that are not there: no times, no weight
absent_times : (a b : ℕ) (ls : List Link) → present a b ls ≡ false → times_of a b ls ≡ 0
unfolding present any times_of
absent_times a b [] n = refl
absent_times a b (x ∷ xs) n = rw (or_left (has_ends a b x) _ n, absent_times a b xs (or_right (has_ends a b x) _ n))

absent_weight : (a b : ℕ) (ls : List Link) → present a b ls ≡ false → weight_of a b ls ≡ 0
unfolding present any weight_of
absent_weight a b [] n = refl
absent_weight a b (x ∷ xs) n = rw (or_left (has_ends a b x) _ n) (absent_weight a b xs (or_right (has_ends a b x) _ n))

-- in a rising list no two links have the same ends
pub ascending_once : (ls : List Link) (a b : ℕ) → ascending ls ≡ true → times_of a b ls ≤ 1
unfolding times_of
ascending_once [] a b e = omega arith
ascending_once (x ∷ xs) a b e = go (has_ends a b x) refl (ascending_once xs a b (ascending_tail x xs e))
  where
    go : (t : Bool) → has_ends a b x ≡ t → times_of a b xs ≤ 1 → cond t 1 0 + times_of a b xs ≤ 1
    go true q f = omega (arith, absent_times a b xs (head_only a b x xs e q))
    go false q f = omega arith

-- the links with these ends, as a sum
pub times_sum : (a b : ℕ) (ls : List Link) → times_of a b ls ≡ sum_of ls (λ l. cond (has_ends a b l) 1 0)
unfolding times_of sum_of
times_sum a b [] = refl
times_sum a b (l ∷ ls) = ap (λ (t : ℕ). cond (has_ends a b l) 1 0 + t) (times_sum a b ls)

-- no link has its higher end first
pub times_falling : (N : ℕ) (ls : List Link) → all (link_ok N) ls ≡ true → (a b : ℕ) → b ≤ a → times_of a b ls ≡ 0
unfolding times_of
times_falling N [] o a b h = refl
times_falling N (l ∷ ls) o a b h =
    let f = link_of N l (all_head (link_ok N) l ls o) in
    rw (ends_no a b l (λ p q. omega (arith, f.ordered))) (omega (arith, times_falling N ls (all_tail (link_ok N) l ls o) a b h))

-- ---- what a list altered holds

-- two pairs of ends of one link are the same
ends_same : (a b c d : ℕ) (x : Link) → has_ends c d x ≡ true → has_ends a b x ≡ (eqb a c && eqb b d)
ends_same a b c d x q =
    let i = ends_at_u c d x q in
    let j = ends_at_v c d x q in
    same_test (has_ends a b x) (eqb a c && eqb b d)
    (λ e. and_both (eqb a c) (eqb b d) (eq-eqb a c (sym (ends_at_u a b x e) ∙ i)) (eq-eqb b d (sym (ends_at_v a b x e) ∙ j)))
    (λ e. ends_yes a b x (i ∙ sym (eqb-true a c (and_left (eqb a c) _ e))) (j ∙ sym (eqb-true b d (and_right (eqb a c) _ e))))

-- a link that has one pair of ends and not the other tells them apart
ends_apart : (a b c d : ℕ) (x : Link) → has_ends c d x ≡ false → has_ends a b x ≡ true → (eqb a c && eqb b d) ≡ false
ends_apart a b c d x n q = go (eqb a c && eqb b d) refl
  where
    go : (t : Bool) → (eqb a c && eqb b d) ≡ t → t ≡ false
    go true e = absurd (ends_not c d x n (ends_at_u a b x q ∙ eqb-true a c (and_left (eqb a c) _ e)) (ends_at_v a b x q ∙ eqb-true b d (and_right (eqb a c) _ e)))
    go false e = refl

-- the ends of a link that is not there are its own alone
ends_alone : (l x : Link) (a b : ℕ) → has_ends l.u l.v x ≡ false → has_ends a b x ≡ true → has_ends a b l ≡ false
ends_alone l x a b n q = ends_no a b l (λ i j. ends_not l.u l.v x n (ends_at_u a b x q ∙ sym i) (ends_at_v a b x q ∙ sym j))

-- a link put in has its weight, and every other link the weight it had
pub insert_weight : (l : Link) (ls : List Link) (a b : ℕ) → present l.u l.v ls ≡ false → weight_of a b (insert l ls) ≡ cond (has_ends a b l) l.weight (weight_of a b ls)
unfolding insert present any weight_of
insert_weight l [] a b n = refl
insert_weight l (x ∷ xs) a b n = go (before x.u x.v l.u l.v) (has_ends a b x) refl (insert_weight l xs a b (or_right (has_ends l.u l.v x) _ n))
  where
    go : (t h : Bool) → has_ends a b x ≡ h → weight_of a b (insert l xs) ≡ cond (has_ends a b l) l.weight (weight_of a b xs) → weight_of a b (cond t (x ∷ insert l xs) (l ∷ x ∷ xs)) ≡ cond (has_ends a b l) l.weight (weight_of a b (x ∷ xs))
    go true true q f = rw (q, ends_alone l x a b (or_left (has_ends l.u l.v x) _ n) q)
    go true false q f = rw q f
    go false h q f = refl

-- a link taken out has no weight, and every other link the weight it had
pub delete_weight : (c d : ℕ) (ls : List Link) (a b : ℕ) → ascending ls ≡ true → weight_of a b (delete c d ls) ≡ cond (eqb a c && eqb b d) 0 (weight_of a b ls)
unfolding delete weight_of
delete_weight c d [] a b e = go (eqb a c && eqb b d)
  where
    go : (t : Bool) → ◌≡◌ {A = ℕ} 0 (cond t 0 0)
    go true = refl
    go false = refl
delete_weight c d (x ∷ xs) a b e = go (has_ends c d x) refl (has_ends a b x) refl (delete_weight c d xs a b (ascending_tail x xs e))
  where
    go : (t : Bool) → has_ends c d x ≡ t → (h : Bool) → has_ends a b x ≡ h → weight_of a b (delete c d xs) ≡ cond (eqb a c && eqb b d) 0 (weight_of a b xs) → weight_of a b (cond t xs (x ∷ delete c d xs)) ≡ cond (eqb a c && eqb b d) 0 (cond h x.weight (weight_of a b xs))
    go true p true q f = rw (sym (ends_same a b c d x p) ∙ q) (absent_weight a b xs (head_only a b x xs e q))
    go true p false q f = rw (sym (ends_same a b c d x p) ∙ q)
    go false p true q f = rw (q, ends_apart a b c d x p q)
    go false p false q f = rw q f

-- a link put in is there, and every other link that was
pub insert_present : (l : Link) (ls : List Link) (a b : ℕ) → present a b (insert l ls) ≡ (has_ends a b l || present a b ls)
unfolding insert present any
insert_present l [] a b = refl
insert_present l (x ∷ xs) a b = go (before x.u x.v l.u l.v) (has_ends a b x) refl (insert_present l xs a b)
  where
    go : (t h : Bool) → has_ends a b x ≡ h → present a b (insert l xs) ≡ (has_ends a b l || present a b xs) → present a b (cond t (x ∷ insert l xs) (l ∷ x ∷ xs)) ≡ (has_ends a b l || present a b (x ∷ xs))
    go true true q f = rw q (sym (or-true (has_ends a b l)))
    go true false q f = rw q f
    go false h q f = refl

-- a link taken out is not there, and every other link that was
pub delete_present : (c d : ℕ) (ls : List Link) (a b : ℕ) → ascending ls ≡ true → present a b (delete c d ls) ≡ (not (eqb a c && eqb b d) && present a b ls)
unfolding delete present any
delete_present c d [] a b e = sym (and-false (not (eqb a c && eqb b d)))
delete_present c d (x ∷ xs) a b e = go (has_ends c d x) refl (has_ends a b x) refl (delete_present c d xs a b (ascending_tail x xs e))
  where
    go : (t : Bool) → has_ends c d x ≡ t → (h : Bool) → has_ends a b x ≡ h → present a b (delete c d xs) ≡ (not (eqb a c && eqb b d) && present a b xs) → present a b (cond t xs (x ∷ delete c d xs)) ≡ (not (eqb a c && eqb b d) && (h || present a b xs))
    go true p true q f = rw (sym (ends_same a b c d x p) ∙ q) (head_only a b x xs e q)
    go true p false q f = rw (sym (ends_same a b c d x p) ∙ q)
    go false p true q f = rw (q, ends_apart a b c d x p q)
    go false p false q f = rw q f

-- ---- one alteration after the other

-- a link that stands before a whole list is put in at its front
insert_front : (l : Link) (ls : List Link) → ascending_from l.u l.v ls ≡ true → insert l ls ≡ l ∷ ls
unfolding insert
insert_front l [] e = refl
insert_front l (x ∷ xs) e = go (before x.u x.v l.u l.v) refl
  where
    go : (t : Bool) → before x.u x.v l.u l.v ≡ t → cond t (x ∷ insert l xs) (l ∷ x ∷ xs) ≡ l ∷ x ∷ xs
    go true q = absurd (before_irrefl (before_trans (rises_head l.u l.v x xs e) (before_true x.u x.v l.u l.v q)) refl refl)
    go false q = refl

link_equal : (x l : Link) → x.u ≡ l.u → x.v ≡ l.v → x.weight ≡ l.weight → x ≡ l
link_equal x l e f g = λ i. record { u = e i; v = f i; weight = g i }

-- add after remove of the same link gives the same links
pub insert_delete : (l : Link) (ls : List Link) → ascending ls ≡ true → present l.u l.v ls ≡ true → weight_of l.u l.v ls ≡ l.weight → insert l (delete l.u l.v ls) ≡ ls
unfolding ascending insert delete present any weight_of
insert_delete l [] e h w = absurd (false≢true h)
insert_delete l (x ∷ xs) e h w = go (has_ends l.u l.v x) refl h w (insert_delete l xs (ascending_tail x xs e))
  where
    go : (t : Bool) → has_ends l.u l.v x ≡ t → (t || present l.u l.v xs) ≡ true → cond t x.weight (weight_of l.u l.v xs) ≡ l.weight → (present l.u l.v xs ≡ true → weight_of l.u l.v xs ≡ l.weight → insert l (delete l.u l.v xs) ≡ xs) → insert l (cond t xs (x ∷ delete l.u l.v xs)) ≡ x ∷ xs
    go true q r k f = subst (λ (y : Link). insert y xs ≡ x ∷ xs) (link_equal x l (ends_at_u l.u l.v x q) (ends_at_v l.u l.v x q) k) (insert_front x xs e)
    go false q r k f = rw (before_yes x.u x.v l.u l.v (rises_present x.u x.v l.u l.v xs e r)) (ap (λ (ys : List Link). x ∷ ys) (f r k))

-- remove after add of a link that was not there gives the same links
pub delete_insert : (l : Link) (ls : List Link) → present l.u l.v ls ≡ false → delete l.u l.v (insert l ls) ≡ ls
unfolding insert delete present any
delete_insert l [] n = rw (ends_yes l.u l.v l refl refl)
delete_insert l (x ∷ xs) n = go (before x.u x.v l.u l.v) (delete_insert l xs (or_right (has_ends l.u l.v x) _ n))
  where
    go : (t : Bool) → delete l.u l.v (insert l xs) ≡ xs → delete l.u l.v (cond t (x ∷ insert l xs) (l ∷ x ∷ xs)) ≡ x ∷ xs
    go true f = rw (or_left (has_ends l.u l.v x) _ n) (ap (λ (ys : List Link). x ∷ ys) f)
    go false f = rw (ends_yes l.u l.v l refl refl)

-- a link that is there has a weight of 1 to 65,535
pub weight_within : (N a b : ℕ) (ls : List Link) → all (link_ok N) ls ≡ true → present a b ls ≡ true → (1 ≤ weight_of a b ls) × (weight_of a b ls ≤ 65535)
unfolding present any weight_of
weight_within N a b [] e p = absurd (false≢true p)
weight_within N a b (l ∷ ls) e p = go (has_ends a b l) p (weight_within N a b ls (all_tail (link_ok N) l ls e))
  where
    go : (t : Bool) → (t || any (has_ends a b) ls) ≡ true → (any (has_ends a b) ls ≡ true → (1 ≤ weight_of a b ls) × (weight_of a b ls ≤ 65535)) → (1 ≤ cond t l.weight (weight_of a b ls)) × (cond t l.weight (weight_of a b ls) ≤ 65535)
    go true q r = let k = link_of N l (all_head (link_ok N) l ls e) in (k.weight_low, k.weight_high)
    go false q r = r q
