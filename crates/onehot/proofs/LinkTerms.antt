-- Terms of links, whatever the terms G of one link are: what a loop over the links has left to add, and their norm. Assumes nothing.
use Prim.Native.Nat.{ℕ, ◌+◌, ◌*◌, ◌≤◌, ◌<◌}
use mathlib.Core.Path.{◌≡◌, refl, ap, ◌∙◌}
use mathlib.Core.Bool.{true}
use mathlib.Core.List.{List, [], ◌∷◌, ◌++◌}
use lib.ListN.{length, get_or, drop}
use lib.Seq.{drop-cons, drop-length}
use native.Mathlib.Omega.{arith}
use native.Mathlib.Numerals.{add-one}
use Rattle.lists.specs.Tests.{all}
use Rattle.lists.proofs.Tests.{all_head, all_tail}
use Rattle.links.specs.Links.{link_ok}
use Rattle.links.specs.declared.Link.{Link}
use Rattle.links.specs.Survey.{LinkOf}
use Rattle.links.proofs.Altered.{link_of}
use Rattle.qubo.specs.Formula.{Formula}
use Rattle.qubo.specs.Norm.{formula_norm}
use Rattle.qubo.specs.Terms.{over}
use Rattle.qubo.proofs.Families.{norm_append}

module _ {A : Type 0} (G : A → Formula) (xs : List A) where
  -- the terms of the entries from index k on
  pub left : ℕ → Formula
  left k = over (drop k xs) G

  -- at first all
  pub left_all : left 0 ≡ over xs G
  unfolding left
  left_all = refl

  -- the entry at k, and the rest; d is what is read past the end
  pub left_next : (d : A) (k : ℕ) → k < length xs → left k ≡ G (get_or xs k d) ++ left (k + 1)
  unfolding left
  left_next d k h = ap (λ (ys : List A). over ys G) (drop-cons xs k d h) ∙ rw add-one refl

  -- in the end none
  pub left_none : left (length xs) ≡ []
  unfolding left
  left_none = ap (λ (ys : List A). over ys G) (drop-length xs)

-- the norm of all, where that of each link is at most b
pub links_norm : (G : Link → Formula) (N b : ℕ) → ((l : Link) → LinkOf N l → formula_norm (G l) ≤ b) → (ls : List Link) → all (link_ok N) ls ≡ true → formula_norm (over ls G) ≤ length ls * b
links_norm G N b h [] o = omega arith
links_norm G N b h (l ∷ ls) o =
    omega (arith, norm_append (G l) (over ls G), h l (link_of N l (all_head (link_ok N) l ls o)), links_norm G N b h ls (all_tail (link_ok N) l ls o))
