-- The load of a meter, the sum of link weights at it: what a link adds, that none is great, and what it is for A to be above all. Assumes nothing.
use Prim.Native.Nat.{ℕ, ◌≤◌, ◌<◌}
use mathlib.Core.Path.{◌≡◌, refl}
use mathlib.Core.Bool.{cond}
use mathlib.Core.List.{List}
use native.Mathlib.Omega.{arith}
use native.Mathlib.Decide.{ℕ_discrete}
use borrow.Author.Tests.{eq-eqb, ne_eqb}
use Rattle.lists.specs.Sums.{sum_of}
use Rattle.links.specs.Links.{is_at}
use Rattle.links.specs.declared.Link.{Link}
use Rattle.links.specs.Survey.{IsSurvey}
use Rattle.links.proofs.Walk.{sum_bounded}
use Rattle.channels.specs.Formula.{load}

-- ---- what one link adds

-- to the sum of meter m
pub load_of : ℕ → Link → ℕ
load_of m l = cond (is_at m l) l.weight 0

-- at its first end, its second, and elsewhere
module _ (l : Link) where
  pub load_u : (m : ℕ) → l.u ≡ m → load_of m l ≡ l.weight
  unfolding load_of is_at
  load_u m e = rw (eq-eqb l.u m e) refl

  pub load_v : (m : ℕ) → (l.u ≡ m → ⊥) → l.v ≡ m → load_of m l ≡ l.weight
  unfolding load_of is_at
  load_v m n e = rw (ne_eqb l.u m n, eq-eqb l.v m e) refl

  pub load_none : (m : ℕ) → (l.u ≡ m → ⊥) → (l.v ≡ m → ⊥) → load_of m l ≡ 0
  unfolding load_of is_at
  load_none m n e = rw (ne_eqb l.u m n, ne_eqb l.v m e) refl

  load_most : (m : ℕ) → load_of m l ≤ l.weight
  load_most m =
      elim (ℕ_discrete l.u m) [
        | yes e ↦ omega (arith, load_u m e)
        | no e ↦ elim (ℕ_discrete l.v m) [ yes d ↦ omega (arith, load_v m e d) | no d ↦ omega (arith, load_none m e d) ]
      ]

-- ---- the sum of a meter

pub load_sum : (ls : List Link) (m : ℕ) → sum_of ls (load_of m) ≡ load ls m
unfolding load load_of
load_sum ls m = refl

-- at most 256 links of at most 65,535
pub load_small : (N : ℕ) (ls : List Link) → IsSurvey N ls → (m : ℕ) → load ls m ≤ 16776960
load_small N ls s m = omega (arith, load_sum ls m, s.few, sum_bounded N ls s.each (load_of m) 65535 (λ l o. omega (arith, load_most l m, o.weight_high)))

-- A is above every meter's load
abbrev pub Heavy : ℕ → ℕ → List Link → Type 0
Heavy A N ls = (m : ℕ) → 1 ≤ m → m ≤ N → load ls m < A
