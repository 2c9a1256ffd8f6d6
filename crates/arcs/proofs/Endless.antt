-- The arcs of links with the same weights: what looks at no end, as the weight of arc bits set does not, is the same of both. Assumes nothing.
use Prim.Native.Nat.{ℕ, suc, ◌+◌}
use mathlib.Core.Path.{◌≡◌, refl, sym, ap, ◌∙◌}
use mathlib.Core.List.{List, [], ◌∷◌, map}
use Rattle.lists.specs.Sums.{sum_of}
use Rattle.links.specs.Links.{weights}
use Rattle.links.specs.declared.Link.{Link}
use Rattle.arcs.specs.Arcs.{Arc, arcs_from, arcs, arc_at}
use Rattle.arcs.specs.Sums.{arc_cost}
use Rattle.arcs.proofs.ArcLists.{there, back}

-- the link of a weight with the ends 0
abbrev endless : ℕ → Link
endless w = record { u = 0; v = 0; weight = w }

-- the arc with the ends 0
abbrev endless_arc : Arc → Arc
endless_arc a = record { number = a.number; parent = 0; child = 0; weight = a.weight }

-- ---- what a function that looks at no end gives of the arcs

endless_from : (k : ℕ) (ls : List Link) → arcs_from k (map endless (weights ls)) ≡ map endless_arc (arcs_from k ls)
unfolding arcs_from weights
endless_from k [] = refl
endless_from k (l ∷ ls) = ap (λ (t : List Arc). endless_arc (there k l) ∷ endless_arc (back (suc k) l) ∷ t) (endless_from (suc (suc k)) ls)

sum_endless : (f : Arc → ℕ) → ((a : Arc) → f (endless_arc a) ≡ f a) → (ks : List Arc) → sum_of (map endless_arc ks) f ≡ sum_of ks f
unfolding sum_of
sum_endless f h [] = refl
sum_endless f h (a ∷ ks) = ap (λ (n : ℕ). n + sum_of (map endless_arc ks) f) (h a) ∙ ap (λ (n : ℕ). f a + n) (sum_endless f h ks)

module _ (ls ms : List Link) (e : weights ls ≡ weights ms) where
  arcs_alike : map endless_arc (arcs ls) ≡ map endless_arc (arcs ms)
  unfolding arcs
  arcs_alike = sym (endless_from 0 ls) ∙ ap (λ (ws : List ℕ). arcs_from 0 (map endless ws)) e ∙ endless_from 0 ms

  sum_alike : (f : Arc → ℕ) → ((a : Arc) → f (endless_arc a) ≡ f a) → sum_of (arcs ls) f ≡ sum_of (arcs ms) f
  sum_alike f h = sym (sum_endless f h (arcs ls)) ∙ ap (λ (ks : List Arc). sum_of ks f) arcs_alike ∙ sum_endless f h (arcs ms)

  -- the weight of every arc bit set
  pub cost_alike : (N D : ℕ) (x : List ℕ) → arc_cost D (arcs ls) (arc_at N D x) ≡ arc_cost D (arcs ms) (arc_at N D x)
  unfolding arc_cost arc_at
  cost_alike N D x = sum_alike _ (λ a. refl)
