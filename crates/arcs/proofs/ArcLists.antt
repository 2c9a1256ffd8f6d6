-- The arcs of a list of links: two for each link, with the link's ends and weight, and each with a number of its own; what a loop over the links has left. Assumes nothing.
use Prim.Native.Nat.{ℕ, zero, suc, ◌+◌, ◌*◌, ◌≤◌, ◌<◌}
use mathlib.Core.Path.{◌≡◌, refl, sym, ap, ap₂, ◌∙◌}
use mathlib.Core.List.Memᴰ
use mathlib.Core.List.{List, [], ◌∷◌, Memᴰ}
use mathlib.Core.Logic.{⊎_elim}
use native.Mathlib.Omega.{arith}
use native.Mathlib.Numerals.{add-one}
use lib.ListN.{length, drop, drop_of_length-le}
use lib.Seq.{drop-cons}
use lib.IntN.{ℤ, pos, ◌+ℤ◌, +ℤ_idl, +ℤ_idr}
use Rattle.lists.specs.Sums.{sum_of}
use Rattle.links.specs.Links.{nothing, link_in}
use Rattle.links.specs.declared.Link.{Link}
use Rattle.links.specs.Survey.{IsSurvey, EdgeOf, IsGraph}
use Rattle.links.proofs.Altered.{member_link}
use Rattle.links.proofs.Graph.{edge_in}
use Rattle.qubo.proofs.Families.{sum_over}
use Rattle.arcs.specs.Arcs.{Arc, arcs_from, arcs}

-- the arc of a link from u to v, and the one back, with their numbers
abbrev pub there : ℕ → Link → Arc
there k l = record { number = k; parent = l.u; child = l.v; weight = l.weight }

abbrev pub back : ℕ → Link → Arc
back k l = record { number = k; parent = l.v; child = l.u; weight = l.weight }

-- two for each link
length_from : (k : ℕ) (ls : List Link) → length (arcs_from k ls) ≡ 2 * length ls
unfolding arcs_from
length_from k [] = refl
length_from k (l ∷ ls) = omega (arith, length_from (suc (suc k)) ls)

pub arcs_length : (ls : List Link) → length (arcs ls) ≡ 2 * length ls
unfolding arcs
arcs_length ls = length_from 0 ls

-- what the two of each link give adds up link by link
sum_by_link : (k : ℕ) (ls : List Link) (f : Arc → ℕ) (g : Link → ℕ) → ((j : ℕ) (l : Link) → Memᴰ l ls → f (there j l) + f (back (suc j) l) ≡ g l) → sum_of (arcs_from k ls) f ≡ sum_of ls g
unfolding sum_of arcs_from
sum_by_link k [] f g h = refl
sum_by_link k (l ∷ ls) f g h = omega (arith, h k l (Memᴰ.head refl), sum_by_link (suc (suc k)) ls f g (λ j m i. h j m (Memᴰ.tail i)))

pub sum_arcs : (ls : List Link) (f : Arc → ℕ) (g : Link → ℕ) → ((j : ℕ) (l : Link) → Memᴰ l ls → f (there j l) + f (back (suc j) l) ≡ g l) → sum_of (arcs ls) f ≡ sum_of ls g
unfolding arcs
sum_arcs ls f g h = sum_by_link 0 ls f g h

-- numbers from k on
arcs_low : (k : ℕ) (ls : List Link) (a : Arc) → Memᴰ a (arcs_from k ls) → k ≤ a.number
unfolding arcs_from
arcs_low k [] a m = absurd (Memᴰ.not-nil m)
arcs_low k (l ∷ ls) a m =
    ⊎_elim (λ e. omega (arith, ap (λ (b : Arc). b.number) e))
    (λ n. ⊎_elim (λ e. omega (arith, ap (λ (b : Arc). b.number) e)) (λ p. omega (arith, arcs_low (suc (suc k)) ls a p)) (Memᴰ.cases_cons n))
    (Memᴰ.cases_cons m)

-- and as many as there are arcs
arcs_high : (k : ℕ) (ls : List Link) (a : Arc) → Memᴰ a (arcs_from k ls) → a.number < k + 2 * length ls
unfolding arcs_from
arcs_high k [] a m = absurd (Memᴰ.not-nil m)
arcs_high k (l ∷ ls) a m =
    ⊎_elim (λ e. omega (arith, ap (λ (b : Arc). b.number) e))
    (λ n. ⊎_elim (λ e. omega (arith, ap (λ (b : Arc). b.number) e)) (λ p. omega (arith, arcs_high (suc (suc k)) ls a p)) (Memᴰ.cases_cons n))
    (Memᴰ.cases_cons m)

pub arc_high : (ls : List Link) (a : Arc) → Memᴰ a (arcs ls) → a.number < 2 * length ls
unfolding arcs
arc_high ls a m = omega (arith, arcs_high 0 ls a m)

-- ---- an arc of links of N meters: it leads from one of them to another

pub record ArcOf (N : ℕ) (a : Arc) : Type 0 where
  pub parent_low : 1 ≤ a.parent
  pub parent_high : a.parent ≤ N
  pub child_low : 1 ≤ a.child
  pub child_high : a.child ≤ N
  pub apart : a.parent ≡ a.child → ⊥

there_of : (N k : ℕ) (l : Link) → EdgeOf N l → ArcOf N (there k l)
there_of N k l o = record { parent_low = o.u_low; parent_high = omega (arith, o.ordered, o.v_high); child_low = omega (arith, o.u_low, o.ordered); child_high = o.v_high; apart = λ e. omega (arith, o.ordered) }

back_of : (N k : ℕ) (l : Link) → EdgeOf N l → ArcOf N (back k l)
back_of N k l o = record { parent_low = omega (arith, o.u_low, o.ordered); parent_high = o.v_high; child_low = o.u_low; child_high = omega (arith, o.ordered, o.v_high); apart = λ e. omega (arith, o.ordered) }

-- what holds of the two arcs of every link holds of each arc
each_from : (P : Arc → Type 0) (k : ℕ) (ls : List Link) → ((j : ℕ) (l : Link) → Memᴰ l ls → P (there j l) × P (back j l)) → (a : Arc) → Memᴰ a (arcs_from k ls) → P a
unfolding arcs_from
each_from P k [] h a m = absurd (Memᴰ.not-nil m)
each_from P k (l ∷ ls) h a m =
    ⊎_elim (λ e. rw e (h k l (Memᴰ.head refl)).0)
    (λ n. ⊎_elim (λ e. rw e (h (suc k) l (Memᴰ.head refl)).1) (λ p. each_from P (suc (suc k)) ls (λ j x i. h j x (Memᴰ.tail i)) a p) (Memᴰ.cases_cons n))
    (Memᴰ.cases_cons m)

-- each arc of a graph's links is one
pub arc_of : (N : ℕ) (ls : List Link) → IsGraph N ls → (a : Arc) → Memᴰ a (arcs ls) → ArcOf N a
unfolding arcs
arc_of N ls s = each_from (ArcOf N) 0 ls (λ k l i. let o = edge_in N ls s.each l i in (there_of N k l o, back_of N k l o))

-- and the weight of each of a survey's is a link's
pub arc_weight : (N : ℕ) (ls : List Link) → IsSurvey N ls → (a : Arc) → Memᴰ a (arcs ls) → a.weight ≤ 65535
unfolding arcs
arc_weight N ls s = each_from (λ a. a.weight ≤ 65535) 0 ls (λ k l i. let o = member_link N ls s.each l i in (o.weight_high, o.weight_high))

-- ---- sums over the arcs in which at most one has a part

pub sum_over_none : {A : Type 0} (xs : List A) (f : A → ℤ) → ((x : A) → Memᴰ x xs → f x ≡ pos 0) → sum_over xs f ≡ pos 0
sum_over_none [] f h = refl
sum_over_none (x ∷ xs) f h = ap₂ ◌+ℤ◌ (h x (Memᴰ.head refl)) (sum_over_none xs f (λ y m. h y (Memᴰ.tail m)))

-- of the arcs, f is 0 but at the number of a
pub sum_over_arc : (f : Arc → ℤ) (a : Arc) (k : ℕ) (ls : List Link) → Memᴰ a (arcs_from k ls) → ((b : Arc) → Memᴰ b (arcs_from k ls) → (b.number ≡ a.number → ⊥) → f b ≡ pos 0) → sum_over (arcs_from k ls) f ≡ f a
unfolding arcs_from
sum_over_arc f a k [] m h = absurd (Memᴰ.not-nil m)
sum_over_arc f a k (l ∷ ls) m h =
    ⊎_elim
    (λ e. ap₂ (λ y z. y +ℤ z) (ap f (sym e)) (ap₂ ◌+ℤ◌ (h (back (suc k) l) (Memᴰ.tail (Memᴰ.head refl)) (λ d. omega (arith, ap (λ (b : Arc). b.number) e))) (rest (omega (arith, ap (λ (b : Arc). b.number) e)))) ∙ +ℤ_idr (f a))
    (λ n. ⊎_elim
    (λ e. ap₂ (λ y z. y +ℤ z) (h (there k l) (Memᴰ.head refl) (λ d. omega (arith, ap (λ (b : Arc). b.number) e))) (ap₂ ◌+ℤ◌ (ap f (sym e)) (rest (omega (arith, ap (λ (b : Arc). b.number) e)))) ∙ +ℤ_idl (f a +ℤ pos 0) ∙ +ℤ_idr (f a))
    (λ p. let g = arcs_low (suc (suc k)) ls a p in
    ap₂ (λ y z. y +ℤ z) (h (there k l) (Memᴰ.head refl) (λ d. omega arith)) (ap₂ ◌+ℤ◌ (h (back (suc k) l) (Memᴰ.tail (Memᴰ.head refl)) (λ d. omega arith)) (sum_over_arc f a (suc (suc k)) ls p (λ b q. h b (Memᴰ.tail (Memᴰ.tail q)))))
    ∙ +ℤ_idl (pos 0 +ℤ f a) ∙ +ℤ_idl (f a))
    (Memᴰ.cases_cons n))
    (Memᴰ.cases_cons m)
  where
    -- where a is one of the first two
    rest : a.number < suc (suc k) → sum_over (arcs_from (suc (suc k)) ls) f ≡ pos 0
    rest g = sum_over_none (arcs_from (suc (suc k)) ls) f (λ b q. h b (Memᴰ.tail (Memᴰ.tail q)) (λ d. omega (arith, arcs_low (suc (suc k)) ls b q)))

-- ---- link by link

module _ (ls : List Link) (k : ℕ) where
  -- the arcs of the link at index k: from its lower end to its higher one
  abbrev pub arc_up : Arc
  arc_up = there (2 * k) (link_in ls k)

  -- and back
  abbrev pub arc_back : Arc
  arc_back = back (2 * k + 1) (link_in ls k)

  -- those of the links from index k on
  pub arcs_left : List Arc
  arcs_left = arcs_from (2 * k) (drop k ls)

module _ (ls : List Link) where
  -- at first all are left
  pub arcs_start : arcs_left ls 0 ≡ arcs ls
  unfolding arcs_left arcs
  arcs_start = refl

  -- a turn takes off the two of the link at k
  pub arcs_turn : (k : ℕ) → k < length ls → arcs_left ls k ≡ arc_up ls k ∷ arc_back ls k ∷ arcs_left ls (k + 1)
  unfolding arcs_left arcs_from
  arcs_turn k h = ap (arcs_from (2 * k)) (drop-cons ls k nothing h) ∙ rw (add-one (2 * k), add-one k, ← d) refl
    where
      d : suc (suc (2 * k)) ≡ 2 * suc k
      d = omega arith

  -- in the end none is left
  pub arcs_past : (k : ℕ) → length ls ≤ k → arcs_left ls k ≡ []
  unfolding arcs_left arcs_from
  arcs_past k h = ap (arcs_from (2 * k)) (drop_of_length-le ls h)

  -- those left are among all
  left_among : (k : ℕ) → k ≤ length ls → (a : Arc) → Memᴰ a (arcs_left ls k) → Memᴰ a (arcs ls)
  left_among zero h a m = rw arcs_start at m
  left_among (suc k) h a m = left_among k (omega arith) a (rw (arcs_turn k h, add-one k) (Memᴰ.tail (Memᴰ.tail m)))

  -- so are the two of the link at k: the even number is that up
  pub up_among : (k m : ℕ) → k < length ls → m ≡ 2 * k → Memᴰ (there m (link_in ls k)) (arcs ls)
  up_among k m h e = rw e (left_among k (omega arith) (arc_up ls k) (rw (arcs_turn k h) (Memᴰ.head refl)))

  -- the odd one that back
  pub back_among : (k m : ℕ) → k < length ls → m ≡ 2 * k + 1 → Memᴰ (back m (link_in ls k)) (arcs ls)
  back_among k m h e = rw e (left_among k (omega arith) (arc_back ls k) (rw (arcs_turn k h) (Memᴰ.tail (Memᴰ.head refl))))
