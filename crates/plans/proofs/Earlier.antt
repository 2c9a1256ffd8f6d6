-- Tests that come first: where none of them applies the later ones decide, and where one does its number is given. Assumes nothing.
use Prim.Native.Nat.{ℕ, ◌≤◌}
use mathlib.Core.Bool.{Bool, true, false, not}
use mathlib.Core.Path.{◌≡◌, refl, sym}
use mathlib.Core.List.{List, [], ◌∷◌, ◌++◌}
use native.Mathlib.Omega.{arith}
use Rattle.site.specs.Image.{valid}
use Rattle.site.specs.Refusal.{refusal}
use Rattle.site.specs.Edits.{check_refusal}
use Rattle.plans.specs.declared.Ask.{Ask}
use Rattle.plans.specs.Kinds.{Site}
use Rattle.plans.specs.Refusals.{ask_tests, count_tests, kind_tests, site_in, image_tests}

-- ---- the number given

-- no test has the number 0
abbrev pub Numbered : List (ℕ × Bool) → Type 0
Numbered [] = Unit {0}
Numbered (x ∷ xs) = (1 ≤ x.0) × Numbered xs

-- whatever comes after them, two lists of tests refuse alike
abbrev pub Alike : List (ℕ × Bool) → List (ℕ × Bool) → Type 0
Alike e f = (t : List (ℕ × Bool)) → refusal (e ++ t) ≡ refusal (f ++ t)

-- whatever comes after them, the tests refuse by r
pub record Stops (e : List (ℕ × Bool)) (r : ℕ) : Type 0 where
  pub refused : r ≡ 0 → ⊥
  pub by : (t : List (ℕ × Bool)) → refusal (e ++ t) ≡ r

-- nothing comes after them
pub alone : (e : List (ℕ × Bool)) → refusal (e ++ []) ≡ refusal e
unfolding refusal
alone [] = refl
alone ((k, true) ∷ e) = refl
alone ((k, false) ∷ e) = alone e

-- where none applies they are as if they were not there
pub alike_none : (e : List (ℕ × Bool)) → Numbered e → refusal e ≡ 0 → Alike e []
unfolding refusal
alike_none [] n z t = refl
alike_none ((k, true) ∷ e) n z t = let y : ⊥ = omega (arith, n.0, z) in absurd y
alike_none ((k, false) ∷ e) n z t = alike_none e n.1 z t

some_first : (e : List (ℕ × Bool)) (r : ℕ) → refusal e ≡ r → (r ≡ 0 → ⊥) → (t : List (ℕ × Bool)) → refusal (e ++ t) ≡ r
unfolding refusal
some_first [] r q n t = absurd (n (sym q))
some_first ((k, true) ∷ e) r q n t = q
some_first ((k, false) ∷ e) r q n t = some_first e r q n t

-- where one applies the first of them decides
pub stops_some : (e : List (ℕ × Bool)) (r : ℕ) → refusal e ≡ r → (r ≡ 0 → ⊥) → Stops e r
stops_some e r q n = record { refused = n; by = some_first e r q n }

-- where the number is 0, none of the first ones applies
pub none_first : (e t : List (ℕ × Bool)) → Numbered e → refusal (e ++ t) ≡ 0 → refusal e ≡ 0
unfolding refusal
none_first [] t n z = refl
none_first ((k, true) ∷ e) t n z = let y : ⊥ = omega (arith, n.0, z) in absurd y
none_first ((k, false) ∷ e) t n z = none_first e t n.1 z

-- ---- the tests of what is asked, of a kind, and of an image

pub ask_numbered : (N : ℕ) (a : Ask) → Numbered (ask_tests N a)
unfolding ask_tests
ask_numbered N a = (omega arith, (omega arith, tt))

pub kind_numbered : (s : Site) (a : Ask) → Numbered (kind_tests s a)
unfolding kind_tests ask_tests count_tests
kind_numbered s a = (omega arith, (omega arith, (omega arith, tt)))

pub image_numbered : (s : List ℕ) (a : Ask) → Numbered (image_tests s a)
unfolding image_tests
image_numbered s a = (omega arith, kind_numbered (site_in s) a)

-- of a valid image the kind decides
pub image_alike : (s : List ℕ) (a : Ask) → valid s ≡ true → Alike (image_tests s a) (kind_tests (site_in s) a)
unfolding image_tests refusal
image_alike s a e t = rw e refl

-- of another nothing does: the number is that of check
pub image_stops : (s : List ℕ) (a : Ask) (r : ℕ) → r ≡ check_refusal s → (r ≡ 0 → ⊥) → Stops (image_tests s a) r
unfolding image_tests check_refusal refusal
image_stops s a r q n = record { refused = n; by = λ t. go (valid s) (kind_tests (site_in s) a ++ t) q }
  where
    go : (v : Bool) (xs : List (ℕ × Bool)) → r ≡ refusal ((1, not v) ∷ []) → refusal ((1, not v) ∷ xs) ≡ r
    go true xs q = absurd (n q)
    go false xs q = sym q
