-- Formulas that add the same to row i: part by part, over lists and over 1..n, and families taken apart. Of terms over a list of arcs at most one may hold bit i. Assumes nothing.
use Prim.Native.Nat.{ℕ, zero, suc}
use mathlib.Core.Path.{◌≡◌, refl, sym, ap, ◌∙◌, fun_ext}
use mathlib.Core.List.{List, [], ◌∷◌, ◌++◌, Memᴰ}
use lib.IntN.{ℤ}
use Rattle.links.specs.declared.Link.{Link}
use Rattle.qubo.specs.Formula.{Formula}
use Rattle.qubo.specs.Table.{cell}
use Rattle.qubo.specs.Terms.{each_of, over}
use Rattle.qubo.specs.Rows.{add_terms}
use Rattle.qubo.proofs.Families.{sum_over, sum_over_over}
use Rattle.qubo.proofs.RowAction.{term_cell, cell_sum, plus_eq, add_none, add_append, add_swap, Absent}
use Rattle.arcs.specs.Arcs.{Arc, arcs}
use Rattle.arcs.proofs.ArcLists.{sum_over_arc}

-- f and g add the same to row i, whatever the row
abbrev pub Alike : Formula → Formula → ℕ → Type 0
Alike f g i = (r : List ℤ) → add_terms f i r ≡ add_terms g i r

pub alike_append : (f f' g g' : Formula) (i : ℕ) → Alike f f' i → Alike g g' i → Alike (f ++ g) (f' ++ g') i
alike_append f f' g g' i a b r = add_append f g i r ∙ b (add_terms f i r) ∙ ap (add_terms g' i) (a r) ∙ sym (add_append f' g' i r)

pub alike_over : {A : Type 0} (xs : List A) (G H : A → Formula) (i : ℕ) → ((x : A) → Memᴰ x xs → Alike (G x) (H x) i) → Alike (over xs G) (over xs H) i
alike_over [] G H i h r = refl
alike_over (x ∷ xs) G H i h r = alike_append (G x) (H x) (over xs G) (over xs H) i (h x (Memᴰ.head refl)) (alike_over xs G H i (λ y m. h y (Memᴰ.tail m))) r

pub alike_each : (n : ℕ) (G H : ℕ → Formula) (i : ℕ) → ((t : ℕ) → Alike (G t) (H t) i) → Alike (each_of n G) (each_of n H) i
alike_each zero G H i h r = refl
alike_each (suc n) G H i h r = alike_append (each_of n G) (each_of n H) (G (suc n)) (H (suc n)) i (alike_each n G H i h) (h (suc n)) r

-- over a list of which no part adds anything
pub over_nothing : {A : Type 0} (xs : List A) (G : A → Formula) (i : ℕ) → ((x : A) → Memᴰ x xs → (r : List ℤ) → add_terms (G x) i r ≡ r) → (r : List ℤ) → add_terms (over xs G) i r ≡ r
over_nothing [] G i h r = add_none i r
over_nothing (x ∷ xs) G i h r = add_append (G x) (over xs G) i r ∙ over_nothing xs G i (λ y m. h y (Memᴰ.tail m)) (add_terms (G x) i r) ∙ h x (Memᴰ.head refl) r

-- ---- a family whose parts are each two is two families

-- two and two, either way round
apart : (f g k l : Formula) (i : ℕ) → Alike ((f ++ g) ++ (k ++ l)) ((f ++ k) ++ (g ++ l)) i
apart f g k l i r =
    add_append (f ++ g) (k ++ l) i r
    ∙ add_append k l i (add_terms (f ++ g) i r)
    ∙ ap (λ (s : List ℤ). add_terms l i (add_terms k i s)) (add_append f g i r)
    ∙ ap (add_terms l i) (sym (add_append g k i (add_terms f i r)) ∙ add_swap g k i (add_terms f i r) ∙ add_append k g i (add_terms f i r))
    ∙ ap (λ (s : List ℤ). add_terms l i (add_terms g i s)) (sym (add_append f k i r))
    ∙ sym (add_append g l i (add_terms (f ++ k) i r))
    ∙ sym (add_append (f ++ k) (g ++ l) i r)

pub over_split : {A : Type 0} (xs : List A) (G H : A → Formula) (i : ℕ) → Alike (over xs (λ x. G x ++ H x)) (over xs G ++ over xs H) i
over_split [] G H i r = refl
over_split (x ∷ xs) G H i r =
    alike_append (G x ++ H x) (G x ++ H x) (over xs (λ y. G y ++ H y)) (over xs G ++ over xs H) i (λ s. refl) (over_split xs G H i) r
    ∙ apart (G x) (H x) (over xs G) (over xs H) i r

pub each_split : (n : ℕ) (G H : ℕ → Formula) (i : ℕ) → Alike (each_of n (λ t. G t ++ H t)) (each_of n G ++ each_of n H) i
each_split zero G H i r = refl
each_split (suc n) G H i r =
    alike_append (each_of n (λ t. G t ++ H t)) (each_of n G ++ each_of n H) (G (suc n) ++ H (suc n)) (G (suc n) ++ H (suc n)) i (each_split n G H i) (λ s. refl) r
    ∙ apart (each_of n G) (each_of n H) (G (suc n)) (H (suc n)) i r

-- ---- one arc

cell_over : {A : Type 0} (xs : List A) (G : A → Formula) (i k : ℕ) → cell (over xs G) i k ≡ sum_over xs (λ x. cell (G x) i k)
cell_over xs G i k = cell_sum (over xs G) i k ∙ sum_over_over xs G (λ t. term_cell t i k) ∙ ap (sum_over xs) (fun_ext (λ x. sym (cell_sum (G x) i k)))

-- of the arcs, a alone has bit i
pub arc_only : (ls : List Link) (G : Arc → Formula) (a : Arc) (i : ℕ) → Memᴰ a (arcs ls) → ((b : Arc) → Memᴰ b (arcs ls) → (b.number ≡ a.number → ⊥) → Absent (G b) i) → Alike (over (arcs ls) G) (G a) i
unfolding add_terms arcs
arc_only ls G a i m h r = plus_eq r (cell (over (arcs ls) G) i) (cell (G a) i) (λ k. cell_over (arcs ls) G i k ∙ sum_over_arc (λ b. cell (G b) i k) a 0 ls m (λ b n ne. h b n ne k))
