-- The norm of the energy of kind 1: at most 256 links, 16 channels and weights of 65,535, and the penalty. Assumes nothing.
use Prim.Native.Nat.{ℕ, ◌*◌, ◌^◌, ◌≤◌, ◌<◌}
use mathlib.Core.List.{List}
use lib.IntN.{pos}
use native.Mathlib.Omega.{arith}
use native.Mathlib.Nat.{le_trans, mul-le-mul}
use Rattle.links.specs.declared.Link.{Link}
use Rattle.links.specs.Survey.{LinkOf, IsSurvey}
use Rattle.qubo.specs.Norm.{formula_norm}
use Rattle.qubo.specs.Terms.{pair}
use Rattle.qubo.proofs.Families.{norm_append, norm_each}
use Rattle.onehot.specs.Choices.{bit_number, one_hots}
use Rattle.onehot.proofs.Penalty.{one_hots_small}
use Rattle.onehot.proofs.LinkTerms.{links_norm}
use Rattle.channels.specs.Formula.{link_clashes, clash_terms, formula}

-- of the clashes
pub clash_norm : (N n : ℕ) (ls : List Link) → IsSurvey N ls → n ≤ 16 → formula_norm (clash_terms n ls) ≤ 268431360
unfolding clash_terms
clash_norm N n ls s h = le_trans (links_norm (link_clashes n) N (n * 65535) one ls s.each) (mul-le-mul {n₂ = 256} {m₂ = 1048560} s.few (omega arith))
  where
    one : (l : Link) → LinkOf N l → formula_norm (link_clashes n l) ≤ n * 65535
    one l o = norm_each 65535 n (λ i. pair (pos l.weight) (bit_number n l.u i) (bit_number n l.v i)) (λ k p q. omega (arith, o.weight_high))

-- of the whole
pub formula_small : (A N n : ℕ) (ls : List Link) → IsSurvey N ls → n ≤ 16 → A ≤ 2 ^ 32 → formula_norm (formula A N n ls) < 2 ^ 54
unfolding formula
formula_small A N n ls s b c = omega (arith, norm_append (one_hots A N n) (clash_terms n ls), one_hots_small A N n s.meters_high b c, clash_norm N n ls s b)
