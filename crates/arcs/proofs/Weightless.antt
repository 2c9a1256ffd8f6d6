-- The arcs of links with the same ends: what does not look at weights, as terms and sums of depths and arcs do not, is the same of both. Assumes nothing.
use Prim.Native.Nat.{ℕ, suc, ◌+◌, ◌*◌}
use mathlib.Core.Path.{◌≡◌, refl, sym, ap, ap₂, ◌∙◌, fun_ext}
use mathlib.Core.List.{List, [], ◌∷◌, ◌++◌, map}
use lib.IntN.{ℤ, pos}
use Rattle.lists.specs.Sums.{sum_to, sum_of, gap}
use Rattle.links.specs.declared.Link.{Link}
use Rattle.links.proofs.Alike.{bare, SameEnds}
use Rattle.qubo.specs.Formula.{square}
use Rattle.qubo.specs.Terms.{each_of, each, over, sum}
use Rattle.arcs.specs.Arcs.{Arc, arcs_from, arcs, depth_bit, depth_at, arc_at}
use Rattle.arcs.specs.Formula.{entering, entry_terms, end_terms}
use Rattle.arcs.specs.Sums.{entries_of, entry_gaps, end_misses}
use Rattle.arcs.proofs.ArcLists.{there, back}

-- the arc with the weight 0
abbrev pub bare_arc : Arc → Arc
bare_arc a = record { number = a.number; parent = a.parent; child = a.child; weight = 0 }

-- f does not look at an arc's weight
abbrev pub Weightless : {B : Type 0} → (Arc → B) → Type 0
Weightless f = (a : Arc) → f (bare_arc a) ≡ f a

-- ---- what such a function gives of the arcs

bare_from : (k : ℕ) (ls : List Link) → arcs_from k (map bare ls) ≡ map bare_arc (arcs_from k ls)
unfolding arcs_from
bare_from k [] = refl
bare_from k (l ∷ ls) = ap (λ (t : List Arc). bare_arc (there k l) ∷ bare_arc (back (suc k) l) ∷ t) (bare_from (suc (suc k)) ls)

over_bare : {B : Type 0} (G : Arc → List B) → Weightless G → (ks : List Arc) → over (map bare_arc ks) G ≡ over ks G
over_bare G h [] = refl
over_bare G h (a ∷ ks) = ap₂ ◌++◌ (h a) (over_bare G h ks)

sum_bare : (f : Arc → ℕ) → Weightless f → (ks : List Arc) → sum_of (map bare_arc ks) f ≡ sum_of ks f
unfolding sum_of
sum_bare f h [] = refl
sum_bare f h (a ∷ ks) = ap₂ ◌+◌ (h a) (sum_bare f h ks)

map_bare : {B : Type 0} (f : Arc → B) → Weightless f → (ks : List Arc) → map f (map bare_arc ks) ≡ map f ks
map_bare f h [] = refl
map_bare f h (a ∷ ks) = ap₂ ◌∷◌ (h a) (map_bare f h ks)

module _ {ls ms : List Link} (s : SameEnds ls ms) where
  arcs_alike : map bare_arc (arcs ls) ≡ map bare_arc (arcs ms)
  unfolding arcs
  arcs_alike = sym (bare_from 0 ls) ∙ ap (arcs_from 0) s.ends ∙ bare_from 0 ms

  -- the lists that it gives, joined
  pub over_alike : {B : Type 0} (G : Arc → List B) → Weightless G → over (arcs ls) G ≡ over (arcs ms) G
  over_alike G h = sym (over_bare G h (arcs ls)) ∙ ap (λ (ks : List Arc). over ks G) arcs_alike ∙ over_bare G h (arcs ms)

  -- the numbers that it gives, added up
  pub sum_alike : (f : Arc → ℕ) → Weightless f → sum_of (arcs ls) f ≡ sum_of (arcs ms) f
  sum_alike f h = sym (sum_bare f h (arcs ls)) ∙ ap (λ (ks : List Arc). sum_of ks f) arcs_alike ∙ sum_bare f h (arcs ms)

  -- what it gives, one after another
  pub map_alike : {B : Type 0} (f : Arc → B) → Weightless f → map f (arcs ls) ≡ map f (arcs ms)
  map_alike f h = sym (map_bare f h (arcs ls)) ∙ ap (map f) arcs_alike ∙ map_bare f h (arcs ms)

  -- ---- the two families of terms, and their sums in an assignment

  -- the terms of depth bits and the arcs into a meter
  pub entries_alike : (A N D : ℕ) → entry_terms A N D (arcs ls) ≡ entry_terms A N D (arcs ms)
  unfolding entry_terms
  entries_alike A N D =
      ap (λ (G : ℕ → ℕ → List (ℕ × ℤ)). each_of N (λ v. each D (λ i. square (pos A) (sum ((depth_bit D v i, pos 1) ∷ G v i)))))
      (fun_ext (λ v. fun_ext (λ i. over_alike (entering N D v i) (λ a. refl))))

  -- those of arc bits and the depths of their ends
  pub ends_alike : (A N D : ℕ) → end_terms A N D (arcs ls) ≡ end_terms A N D (arcs ms)
  unfolding end_terms
  ends_alike A N D = over_alike _ (λ a. refl)

  -- the sum of the first
  pub entry_gaps_alike : (N D : ℕ) (dep : ℕ → ℕ → ℕ) (x : List ℕ) → entry_gaps N D (arcs ls) dep (arc_at N D x) ≡ entry_gaps N D (arcs ms) dep (arc_at N D x)
  unfolding entry_gaps entries_of arc_at
  entry_gaps_alike N D dep x =
      ap (λ (into : ℕ → ℕ → ℕ). sum_to N (λ v. sum_to D (λ i. gap (dep v i) (into v i) * gap (dep v i) (into v i))))
      (fun_ext (λ v. fun_ext (λ i. sum_alike _ (λ a. refl))))

  -- and of the second
  pub end_misses_alike : (N D : ℕ) (x : List ℕ) → end_misses D (arcs ls) (depth_at D x) (arc_at N D x) ≡ end_misses D (arcs ms) (depth_at D x) (arc_at N D x)
  unfolding end_misses arc_at
  end_misses_alike N D x = sum_alike _ (λ a. refl)
