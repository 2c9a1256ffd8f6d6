-- Laws that the proofs of src/plans.rt cite: each test of a plan, and all of them together. Assumes nothing.
use Prim.Native.Nat.{ℕ, zero, suc, ◌+◌, ◌-◌, ◌≤◌, ◌<◌}
use mathlib.Core.Path.{◌≡◌, refl, sym, ap, ap₂, ◌∙◌, fun_ext}
use mathlib.Core.Bool.{Bool, true, false, ◌&&◌, cond}
use mathlib.Core.List.{List, [], ◌∷◌}
use lib.ListN.{length, get_or}
use lib.Dec.{eqb, leb}
use mir.Val.{bool_byte}
use native.Mathlib.Omega.{arith}
use native.Mathlib.Numerals.{add-one}
use borrow.Author.Tests.{eq-eqb, ne_eqb, le-leb, lt-leb, leb-true}
use Rattle.lists.specs.Tests.{every, all, from}
use Rattle.lists.specs.Sums.{sum_to, sum_of, same, nth}
use Rattle.lists.proofs.Tests.{and_right, and_both, and_true, same_test, all_head, all_tail, all_cons, all_from, from_all}
use Rattle.lists.proofs.Sums.{same_le, differ_yes, differ_no}
use Rattle.links.specs.Links.{total}
use Rattle.links.specs.declared.Link.{Link}
use Rattle.links.specs.Survey.{IsGraph}
use Rattle.lists.proofs.Walks.{Summed, summed_end}
use Rattle.qubo.specs.Terms.{each}
use Rattle.onehot.specs.Choices.{are_choices}
use Rattle.onehot.proofs.Codes.{each_length, each_at}
use Rattle.onehot.proofs.Counts.{count_le}
use Rattle.spanning.specs.Parents.{deepest, depth_of, at_most, parent_linked, roots_of, is_rooted, neighbours, is_used}
use Rattle.std.specs.Prelude.{Option, Some, None}
use Rattle.std.specs.List.{list_all, range_with_len}
use Rattle.spanning.proofs.Counting.{used_sum}
use Rattle.spanning.proofs.Recursion.{depth_below}
use Rattle.std.specs.Option.{MatchOption}
use Rattle.tree.specs.Plans.{bit_of_depth, depth_choices, few_neighbours, is_plan, tree_weight}
use Rattle.tree.specs.Inner.{Counted}
use Rattle.tree.proofs.ParentLinks.{joining, all_linked}

-- ---- parent_links

-- a test as a number
byte_same : (r : Bool) (a b : ℕ) → r ≡ eqb a b → bool_byte r ≡ same a b
unfolding same
byte_same r a b e = rw e (one (eqb a b))
  where
    one : (t : Bool) → bool_byte t ≡ cond t 1 0
    one true = refl
    one false = refl

pub joined_link : (p : List ℕ) (l : Link) (up down : Bool) → up ≡ eqb (nth p l.u) l.v → down ≡ eqb (nth p l.v) l.u → bool_byte up + bool_byte down ≡ joining p l
unfolding joining
joined_link p l up down e f = ap₂ ◌+◌ (byte_same up (nth p l.u) l.v e) (byte_same down (nth p l.v) l.u f)

-- each end of a link is the other's parent or not
pub joining_le : (p : List ℕ) (l : Link) → joining p l ≤ 2
unfolding joining
joining_le p l = omega (arith, same_le (nth p l.u) l.v, same_le (nth p l.v) l.u)

-- in the end all are counted
pub joined_end : (p : List ℕ) (ls : List Link) (k count : ℕ) → Summed (joining p) ls k count → length ls ≤ k → count ≡ sum_of ls (λ l. same (nth p l.u) l.v + same (nth p l.v) l.u)
unfolding joining
joined_end p ls k count s h = summed_end (joining p) ls k count s h

-- ---- tree_weight

-- one of the two tests of a link settles it
pub used_first : (p : List ℕ) (l : Link) (r : Bool) → r ≡ eqb (nth p l.u) l.v → r ≡ true → r ≡ is_used p l
unfolding is_used
used_first p l r e z = let t : eqb (nth p l.u) l.v ≡ true = sym e ∙ z in rw (t, z) refl

pub used_second : (p : List ℕ) (l : Link) (r s : Bool) → r ≡ eqb (nth p l.u) l.v → r ≡ false → s ≡ eqb (nth p l.v) l.u → s ≡ is_used p l
unfolding is_used
used_second p l r s e z f = let t : eqb (nth p l.u) l.v ≡ false = sym e ∙ z in rw t f

-- the weight of a link where one end is the other's parent, else 0
unfoldable pub used_weight : List ℕ → Link → ℕ
used_weight p l = cond (is_used p l) l.weight 0

pub weight_none : (p : List ℕ) (l : Link) (r : Bool) → r ≡ is_used p l → r ≡ false → 0 ≡ used_weight p l
unfolding used_weight
weight_none p l r e z = let f : is_used p l ≡ false = sym e ∙ z in rw f refl

pub weight_some : (p : List ℕ) (l : Link) (r : Bool) → r ≡ is_used p l → r ≡ true → l.weight ≡ used_weight p l
unfolding used_weight
weight_some p l r e z = let t : is_used p l ≡ true = sym e ∙ z in rw t refl

-- in the end all links are weighed
pub weighed_end : (p : List ℕ) (ls : List Link) (k sum : ℕ) → Summed (used_weight p) ls k sum → length ls ≤ k → sum ≡ tree_weight ls p
unfolding tree_weight total used_weight
weighed_end p ls k sum s h = summed_end (used_weight p) ls k sum s h ∙ sym (used_sum p (λ l. l.weight) ls)

-- ---- depth_bit, and whether no depth exceeds D

-- a depth's bit is one more than the depth
pub bit_at : (o : Option ℕ) (h : ℕ) → o ≡ Some h → h + 1 ≡ bit_of_depth o
bit_at o h e = add-one h ∙ sym (ap bit_of_depth e)

-- a depth mapped to its bit, where Q is what is known of that of a depth
pub depth_mapped : {Q : ℕ → Type 0} (p : List ℕ) (N v r : ℕ) (o : Option ℕ) → o ≡ depth_of p N v → MatchOption o (r ≡ 0) Q → ((h : ℕ) → Q h → r ≡ h + 1) → (r ≡ bit_of_depth (depth_of p N v)) × (r ≤ N)
depth_mapped p N v r None e m f = (m ∙ ap bit_of_depth e, omega (arith, m))
depth_mapped p N v r (Some h) e m f = (f h m ∙ bit_at (depth_of p N v) h (sym e), omega (arith, f h m, depth_below p N v h (sym e)))

-- a depth is at most D just where its bit is one of 1..D+1
depth_test : (D : ℕ) (o : Option ℕ) → (leb 1 (bit_of_depth o) && leb (bit_of_depth o) (suc D)) ≡ at_most D o
unfolding at_most
depth_test D (Some h) =
    same_test (leb 1 (suc h) && leb (suc h) (suc D)) (leb h D)
    (λ e. le-leb h D (omega (arith, leb-true (suc h) (suc D) (and_right (leb 1 (suc h)) _ e))))
    (λ e. and_both (leb 1 (suc h)) _ (le-leb 1 (suc h) (omega arith)) (le-leb (suc h) (suc D) (omega (arith, leb-true h D e))))
depth_test D None = rw (lt-leb 1 0 (omega arith)) refl

-- a test of every entry of a list, by index
module _ (g : ℕ → Bool) where
  all_index : (xs : List ℕ) → all g xs ≡ true → (k : ℕ) → k < length xs → g (get_or xs k 0) ≡ true
  all_index [] e k h = absurd (omega arith)
  all_index (x ∷ xs) e zero h = all_head g x xs e
  all_index (x ∷ xs) e (suc k) h = all_index xs (all_tail g x xs e) k (omega arith)

  index_all : (xs : List ℕ) → ((k : ℕ) → k < length xs → g (get_or xs k 0) ≡ true) → all g xs ≡ true
  unfolding all
  index_all [] h = refl
  index_all (x ∷ xs) h = all_cons g x xs (h 0 (omega arith)) (index_all xs (λ k l. h (suc k) (omega arith)))

  all_each : (f : ℕ → ℕ) (N : ℕ) → all g (each N f) ≡ all (λ v. g (f v)) (from 1 N)
  all_each f N =
      same_test (all g (each N f)) (all (λ v. g (f v)) (from 1 N)) (λ e. from_all (λ v. g (f v)) 1 N (there e))
      (λ e. index_all (each N f) (λ k h. let l : k < N = omega (arith, each_length N f) in rw (each_at N f k l) (all_from (λ v. g (f v)) 1 N (suc k) e (omega arith) (omega arith))))
    where
      there : all g (each N f) ≡ true → (v : ℕ) → 1 ≤ v → v < 1 + N → g (f v) ≡ true
      there e zero a b = absurd (omega arith)
      there e (suc k) a b = let l : k < N = omega arith in rw (each_at N f k l) at (all_index (each N f) e k (omega (arith, each_length N f)))

-- the bits of all depths are choices among 1..D+1 just where no depth exceeds D and none is missing
pub depths_tested : (N D : ℕ) (p : List ℕ) → are_choices N (suc D) (depth_choices N p) ≡ all (λ v. at_most D (depth_of p N v)) (from 1 N)
unfolding are_choices depth_choices
depths_tested N D p =
    rw (eq-eqb (length (each N (λ v. bit_of_depth (depth_of p N v)))) N (each_length N (λ v. bit_of_depth (depth_of p N v))))
    (all_each (λ c. leb 1 c && leb c (suc D)) (λ v. bit_of_depth (depth_of p N v)) N ∙ ap (λ (t : ℕ → Bool). all t (from 1 N)) (fun_ext (λ v. depth_test D (depth_of p N v))))

-- as the code makes the test, where w is 01's D
pub depths_allowed : (N w : ℕ) (p q : List ℕ) (r : Bool) → w ≡ deepest N → q ≡ depth_choices N p → r ≡ are_choices N (w + 1) q → r ≡ all (λ v. at_most (deepest N) (depth_of p N v)) (from 1 N)
depths_allowed N w p q r e d t = t ∙ rw (e, d, add-one) (depths_tested N (deepest N) p)

-- ---- neighbours_at and within_limit

module _ (p counts : List ℕ) (k : Counted p counts) where
  -- no meter has more children than there are meters
  pub children_few : (v : ℕ) → get_or counts v 0 ≤ 48
  children_few v = omega (arith, k.each v, count_le (length p) p v, k.few)

  -- a root has its children as neighbours
  pub neighbours_root : (v : ℕ) → nth p v ≡ 0 → (get_or counts v 0 ≡ neighbours (length p) p v) × (get_or counts v 0 ≤ 49)
  unfolding neighbours
  neighbours_root v e = (omega (arith, k.each v, differ_no (nth p v) 0 e), omega (arith, children_few v))

  -- any other meter has its parent too
  pub neighbours_more : (v : ℕ) → (nth p v ≡ 0 → ⊥) → (get_or counts v 0 + 1 ≡ neighbours (length p) p v) × (get_or counts v 0 + 1 ≤ 49)
  unfolding neighbours
  neighbours_more v n = (omega (arith, k.each v, differ_yes (nth p v) 0 n), omega (arith, children_few v))

-- a test of the meters behind a, n of them, each found from the meter before it
tested_from : (g : ℕ → Bool) (a n : ℕ) → list_all (λ k. g (k + 1)) (range_with_len a n) ≡ all g (from (suc a) n)
unfolding all from
tested_from g a zero = refl
tested_from g a (suc n) = rw add-one (ap (λ t. g (suc a) && t) (tested_from g (suc a) n))

pub limit_tested : (N d : ℕ) (p : List ℕ) (t : Bool) → t ≡ list_all (λ k. leb (neighbours N p (k + 1)) d) (range_with_len 0 N) → t ≡ few_neighbours N d p
unfolding few_neighbours
limit_tested N d p t e = e ∙ tested_from (λ v. leb (neighbours N p v) d) 0 N

-- ---- is_plan: the tests in turn

-- a test that is not true is false
pub refuted : (t : Bool) → (t ≡ true → ⊥) → t ≡ false
refuted true h = absurd (h refl)
refuted false h = refl

-- nothing holds together with what is false
and_false : (t : Bool) → (t && false) ≡ false
and_false true = refl
and_false false = refl

-- where there is a root, there is a meter
pub root_some : (N : ℕ) (p : List ℕ) → roots_of N p ≡ 1 → 1 ≤ N
unfolding roots_of
root_some N p e = omega (arith, count_le N p 0)

-- the roots are those meters whose parent is 0
module _ (N : ℕ) (p : List ℕ) (roots : ℕ) (size : length p ≡ N) (are : roots ≡ sum_to (length p) (λ v. same (nth p v) 0)) where
  roots_are : roots_of N p ≡ roots
  unfolding roots_of
  roots_are = rw (← size) (sym are)

  pub one_root : roots ≡ 1 → roots_of N p ≡ 1
  one_root e = roots_are ∙ e

  pub roots_other : (roots ≡ 1 → ⊥) → roots_of N p ≡ 1 → ⊥
  roots_other n e = n (sym roots_are ∙ e)

module _ (N d : ℕ) (ls : List Link) (p : List ℕ) where
  -- not as many parents as meters
  pub plan_size : (length p ≡ N → ⊥) → is_plan N d ls p ≡ false
  unfolding is_plan is_rooted every
  plan_size h = rw (ne_eqb (length p) N h) refl

  module _ (size : length p ≡ N) where
    -- none or several roots
    pub plan_root : (roots_of N p ≡ 1 → ⊥) → is_plan N d ls p ≡ false
    unfolding is_plan is_rooted every
    plan_root h = rw (eq-eqb (length p) N size, ne_eqb (roots_of N p) 1 h) refl

    -- a meter with too many neighbours
    pub plan_crowded : few_neighbours (length p) d p ≡ false → is_plan N d ls p ≡ false
    unfolding is_plan
    plan_crowded f = let g : few_neighbours N d p ≡ false = rw (← size) f in rw (g, and_false) refl

    module _ (root : roots_of N p ≡ 1) (s : IsGraph N ls) (joined : ℕ) (are : joined ≡ sum_of ls (λ l. same (nth p l.u) l.v + same (nth p l.v) l.u)) where
      -- a parent that is no linked neighbour
      pub plan_unlinked : (joined ≡ N - 1 → ⊥) → is_plan N d ls p ≡ false
      unfolding is_plan is_rooted every joining
      plan_unlinked h =
          let e : all (parent_linked p ls) (from 1 N) ≡ false = refuted _ (λ t. h (omega (arith, (all_linked p N ls s).0 t))) in
          rw (eq-eqb (length p) N size, eq-eqb (roots_of N p) 1 root, e) refl

      module _ (linked : joined ≡ N - 1) where
        -- all parents are linked
        links_yes : all (parent_linked p ls) (from 1 N) ≡ true
        unfolding joining
        links_yes = (all_linked p N ls s).1 (omega (arith, root_some N p root))

        -- so the depths decide whether it is rooted
        rooted_is : is_rooted N (deepest N) ls p ≡ all (λ v. at_most (deepest N) (depth_of p N v)) (from 1 N)
        unfolding is_rooted every
        rooted_is = rw (eq-eqb (length p) N size, eq-eqb (roots_of N p) 1 root, links_yes, and_true) refl

        -- and with no meter that has too many neighbours, whether it is a plan
        pub plan_is : few_neighbours (length p) d p ≡ true → (r : Bool) → r ≡ all (λ v. at_most (deepest N) (depth_of p N v)) (from 1 N) → is_plan N d ls p ≡ r
        unfolding is_plan
        plan_is f r e = let g : few_neighbours N d p ≡ true = rw (← size) f in rw (rooted_is, g, and_true) (sym e)
