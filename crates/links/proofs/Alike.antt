-- Links that have the same ends, whatever their weights are, and links that have the same weights, whatever their ends are. Assumes nothing.
use Rattle.std.proofs.Common.{ℕ, ◌+◌, Bool, ◌||◌, List, [], ◌∷◌, ◌≡◌, refl, sym, ap, ◌∙◌, map, length}
use Rattle.std.proofs.lemmas.List.{length-map}
use Rattle.lists.specs.Tests.{any}
use Rattle.lists.specs.Sums.{sum_of}
use Rattle.links.specs.Links.{has_ends, present, weights, total}
use Rattle.links.specs.declared.Link.{Link}

-- ---- the same ends

-- the link with the weight 0
abbrev pub bare : Link → Link
bare l = record { u = l.u; v = l.v; weight = 0 }

-- links with the same ends in the same order: but for their weights the two lists are one
pub record SameEnds (ls ms : List Link) : Type 0 where
  pub ends : map bare ls ≡ map bare ms

-- weights have no part in whether there is a link with the ends a and b
present_bare : (a b : ℕ) (ls : List Link) → present a b (map bare ls) ≡ present a b ls
unfolding present any has_ends
present_bare a b [] = refl
present_bare a b (l ∷ ls) = ap (λ (t : Bool). has_ends a b l || t) (present_bare a b ls)

-- so of both lists it is the same
pub present_alike : {ls ms : List Link} → SameEnds ls ms → (a b : ℕ) → present a b ls ≡ present a b ms
present_alike {ls = ls} {ms = ms} s a b = sym (present_bare a b ls) ∙ ap (present a b) s.ends ∙ present_bare a b ms

-- ---- the same weights

-- there are as many
pub count_alike : (ls ms : List Link) → weights ls ≡ weights ms → length ls ≡ length ms
unfolding weights
count_alike ls ms e = sym (length-map ls (λ l. l.weight)) ∙ ap length e ∙ length-map ms (λ l. l.weight)

-- the sum of all weights is that of the list of them
pub total_weights : (ls : List Link) → sum_of (weights ls) (λ w. w) ≡ total ls
unfolding weights total sum_of
total_weights [] = refl
total_weights (l ∷ ls) = ap (λ (t : ℕ). l.weight + t) (total_weights ls)

-- so ends have no part in it
pub total_alike : (ls ms : List Link) → weights ls ≡ weights ms → total ls ≡ total ms
total_alike ls ms e = sym (total_weights ls) ∙ ap (λ (ws : List ℕ). sum_of ws (λ w. w)) e ∙ total_weights ms
