-- The norms of the terms of depths and arcs: at most 48 meters, 256 links, weights of 65,535 and depths to 24. Assumes nothing.
use Prim.Native.Nat.{ℕ, suc, ◌+◌, ◌*◌, ◌≤◌, ◌<◌}
use mathlib.Core.Path.{◌≡◌, refl, ap, ◌∙◌}
use mathlib.Core.Bool.{Bool, true, false, ◌||◌, cond}
use mathlib.Core.List.{List, [], ◌∷◌, Memᴰ}
use lib.Dec.{eqb}
use lib.ListN.{length}
use lib.IntN.{ℤ, pos, negsuc}
use native.Mathlib.Omega.{arith}
use native.Mathlib.Nat.{le_trans, mul-le-mul, mul-le-mul_left, mul-le-mul_right}
use borrow.Author.Tests.{eqb-true}
use Rattle.lists.specs.Sums.{sum_of, same}
use Rattle.lists.proofs.Sums.{sum_of_times}
use Rattle.lists.proofs.Members.{sum_of_eq}
use Rattle.links.specs.Links.{is_at, degree}
use Rattle.links.specs.declared.Link.{Link}
use Rattle.links.specs.Survey.{IsSurvey, EdgeOf, IsGraph}
use Rattle.links.proofs.Degree.{degree_few}
use Rattle.links.proofs.Graph.{edge_in}
use Rattle.qubo.specs.Formula.{Formula, product}
use Rattle.qubo.specs.Norm.{entries_norm, term_norm, formula_norm}
use Rattle.qubo.specs.Terms.{each, over, bit, single}
use Rattle.qubo.proofs.Families.{norm_append, norm_each, norm_each_of, entries_norm_append}
use Rattle.qubo.proofs.RowShapes.{one_hot_norm}
use Rattle.onehot.specs.Choices.{one_hots}
use Rattle.onehot.proofs.Penalty.{one_hots_norm}
use Rattle.arcs.specs.Arcs.{Arc, arcs, depth_bit, arc_bit}
use Rattle.arcs.specs.Formula.{root_term, depth_terms, entering, entry_term, entry_terms, ends_missing, end_terms, weight_terms}
use Rattle.arcs.proofs.ArcLists.{arcs_length, sum_arcs, arc_weight}

-- ---- depths

-- squares rise
pub square_le : (a b : ℕ) → a ≤ b → a * a ≤ b * b
square_le a b h = mul-le-mul h h

pub root_norm : (A N D : ℕ) → N ≤ 48 → formula_norm (root_term A N D ∷ []) ≤ A * 2401
root_norm A N D h = omega (arith, one_hot_norm (pos A) N (λ v. depth_bit D v 0), mul-le-mul_left A (square_le (1 + N) 49 (omega arith)))

pub depths_norm : (A N D : ℕ) → N ≤ 48 → D ≤ 24 → formula_norm (depth_terms A N D) ≤ A * 32448
unfolding depth_terms one_hots
depths_norm A N D h d = omega (arith, one_hots_norm A N (suc D), mul-le-mul {n₂ = 48} {m₂ = A * 676} h (mul-le-mul_left A (square_le (1 + suc D) 26 (omega arith))))

-- ---- sums over the arcs of links

degree_sum : (m : ℕ) (ls : List Link) → sum_of ls (λ l. cond (is_at m l) 1 0) ≡ degree m ls
unfolding sum_of degree
degree_sum m [] = refl
degree_sum m (l ∷ ls) = omega (arith, degree_sum m ls)

-- as many arcs lead into a meter as there are links at it
pub arcs_into : (N : ℕ) (ls : List Link) (m : ℕ) → IsGraph N ls → sum_of (arcs ls) (λ a. same a.child m) ≡ degree m ls
unfolding same is_at
arcs_into N ls m s = sum_arcs ls (λ a. same a.child m) (λ l. same l.v m + same l.u m) (λ k l i. refl) ∙ sum_of_eq ls (λ l. same l.v m + same l.u m) (λ l. cond (is_at m l) 1 0) (λ l i. one l (edge_in N ls s.each l i)) ∙ degree_sum m ls
  where
    go : (l : Link) → l.u < l.v → (s t : Bool) → (s ≡ true → l.u ≡ m) → (t ≡ true → l.v ≡ m) → cond t 1 0 + cond s 1 0 ≡ cond (s || t) 1 0
    go l o true true e f = let p = e refl in let q = f refl in let z : ⊥ = omega arith in absurd z
    go l o true false e f = refl
    go l o false true e f = refl
    go l o false false e f = refl

    one : (l : Link) → EdgeOf N l → same l.v m + same l.u m ≡ cond (is_at m l) 1 0
    one l o = go l o.ordered (eqb l.u m) (eqb l.v m) (eqb-true l.u m) (eqb-true l.v m)

-- and twice as many have it as parent or child
pub arcs_touching : (N : ℕ) (ls : List Link) (m : ℕ) → IsGraph N ls → sum_of (arcs ls) (λ a. cond (eqb a.parent m || eqb a.child m) 1 0) ≡ 2 * degree m ls
unfolding is_at
arcs_touching N ls m s =
    sum_arcs ls (λ a. cond (eqb a.parent m || eqb a.child m) 1 0) (λ l. cond (eqb l.u m || eqb l.v m) 1 0 + cond (eqb l.v m || eqb l.u m) 1 0) (λ k l i. refl)
    ∙ sum_of_eq ls (λ l. cond (eqb l.u m || eqb l.v m) 1 0 + cond (eqb l.v m || eqb l.u m) 1 0) (λ l. 2 * cond (is_at m l) 1 0) (λ l i. go (eqb l.u m) (eqb l.v m))
    ∙ sum_of_times ls 2 (λ l. cond (is_at m l) 1 0)
    ∙ ap (λ t. 2 * t) (degree_sum m ls)
  where
    go : (s t : Bool) → cond (s || t) 1 0 + cond (t || s) 1 0 ≡ 2 * cond (s || t) 1 0
    go true true = refl
    go true false = refl
    go false true = refl
    go false false = refl

-- ---- arcs

-- the norm of entries of a list's elements that pass a test
pub tested_norm : {B : Type 0} (ks : List B) (test : B → Bool) (es : B → List (ℕ × ℤ)) (n : ℕ) → ((a : B) → entries_norm (es a) ≡ n)
    → entries_norm (over ks (λ a. cond (test a) (es a) [])) ≡ sum_of ks (λ a. cond (test a) 1 0) * n
unfolding sum_of
tested_norm [] test es n h = omega arith
tested_norm (a ∷ ks) test es n h = omega (arith, entries_norm_append (cond (test a) (es a) []) (over ks (λ b. cond (test b) (es b) [])), one (test a), tested_norm ks test es n h)
  where
    one : (t : Bool) → entries_norm (cond t (es a) []) ≡ cond t 1 0 * n
    one true = omega (arith, h a)
    one false = omega arith

-- the form of meter v and depth i: its bit, and at most 47 arcs
entry_norm : (A N D : ℕ) (ls : List Link) → IsGraph N ls → (v i : ℕ) → term_norm (entry_term A N D (arcs ls) v i) ≤ A * 2304
unfolding same
entry_norm A N D ls s v i =
    mul-le-mul_left A (square_le (0 + (1 + entries_norm (over (arcs ls) (entering N D v i)))) 48
    (omega (arith, tested_norm (arcs ls) (λ a. eqb a.child v) (λ a. (arc_bit N D a i, negsuc 0) ∷ []) 1 (λ a. refl), arcs_into N ls v s, degree_few N ls v s)))

pub entry_terms_small : (A N D : ℕ) (ls : List Link) → IsGraph N ls → D ≤ 24 → formula_norm (entry_terms A N D (arcs ls)) ≤ A * 2654208
unfolding entry_terms
entry_terms_small A N D ls s d =
    le_trans (norm_each_of (D * (A * 2304)) N (λ v. each D (entry_term A N D (arcs ls) v)) (λ v p q. norm_each (A * 2304) D (entry_term A N D (arcs ls) v) (λ i a b. entry_norm A N D ls s v i)))
    (omega (arith, mul-le-mul {n₂ = 48} {m₂ = 24 * (A * 2304)} s.few_meters (mul-le-mul_right (A * 2304) d)))

-- the norm of the terms of arcs, where that of each arc is at most b
arcs_norm : (G : Arc → Formula) (b : ℕ) (ls : List Link) → length ls ≤ 256 → ((a : Arc) → Memᴰ a (arcs ls) → formula_norm (G a) ≤ b) → formula_norm (over (arcs ls) G) ≤ 512 * b
arcs_norm G b ls few h =
    le_trans (norm_members (arcs ls) h) (let m : length (arcs ls) ≤ 512 = omega (arith, arcs_length ls) in mul-le-mul_right b m)
  where
    norm_members : (ks : List Arc) → ((a : Arc) → Memᴰ a ks → formula_norm (G a) ≤ b) → formula_norm (over ks G) ≤ length ks * b
    norm_members [] h = omega arith
    norm_members (a ∷ ks) h = omega (arith, norm_append (G a) (over ks G), h a (Memᴰ.head refl), norm_members ks (λ c m. h c (Memᴰ.tail m)))

pub ends_norm : (A N D : ℕ) (ls : List Link) → IsGraph N ls → D ≤ 24 → formula_norm (end_terms A N D (arcs ls)) ≤ A * 49152
unfolding end_terms
ends_norm A N D ls s d =
    le_trans
    (arcs_norm (λ a. each D (λ i. product (pos A) (bit (arc_bit N D a i)) (ends_missing D a i))) (D * (A * 4)) ls s.few (λ a m. norm_each (A * 4) D (λ i. product (pos A) (bit (arc_bit N D a i)) (ends_missing D a i)) (λ i p q. omega arith)))
    (omega (arith, mul-le-mul_left 512 (mul-le-mul_right (A * 4) d)))

pub weights_norm : (N D : ℕ) (ls : List Link) → IsSurvey N ls → D ≤ 24 → formula_norm (weight_terms N D (arcs ls)) ≤ 805294080
unfolding weight_terms
weights_norm N D ls s d =
    le_trans
    (arcs_norm (λ a. each D (λ i. single (pos a.weight) (arc_bit N D a i))) (D * 65535) ls s.few (λ a m. norm_each 65535 D (λ i. single (pos a.weight) (arc_bit N D a i)) (λ i p q. omega (arith, arc_weight N ls s a m))))
    (omega arith)
