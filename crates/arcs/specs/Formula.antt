-- The terms of depths and arcs in the energy of trees, in document 01's order and words, for any D and any list of arcs. 02's kind 4 has them too. Assumes nothing.
use Rattle.std.specs.Prelude.{ℕ, suc, pred, cond, List, [], ◌∷◌, eqb, ℤ, pos, negsuc}
use Rattle.qubo.specs.Formula.{Linear, Term, square, product, Formula}
use Rattle.qubo.specs.Terms.{each_of, each, over, sum, bit, single, one_hot}
use Rattle.arcs.specs.Arcs.{Arc, depth_bit, arc_bit}

-- A times "(1 - number of depth-0 bits)²"
abbrev pub root_term : ℕ → ℕ → ℕ → Term
root_term A N D = one_hot (pos A) N (λ v. depth_bit D v 0)

-- A times "per meter (1 - its depth bits)²"
unfoldable pub depth_terms : ℕ → ℕ → ℕ → Formula
depth_terms A N D = each N (λ v. one_hot (pos A) (suc D) (λ i. depth_bit D v (pred i)))

-- less "depth-i arcs into" meter v: an arc a, if it leads there
abbrev pub entering : ℕ → ℕ → ℕ → ℕ → Arc → List (ℕ × ℤ)
entering N D v i a = cond (eqb a.child v) ((arc_bit N D a i, negsuc 0) ∷ []) []

-- A times "(its depth-i bit - depth-i arcs into it)²" of meter v
abbrev pub entry_term : ℕ → ℕ → ℕ → List Arc → ℕ → ℕ → Term
entry_term A N D ks v i = square (pos A) (sum ((depth_bit D v i, pos 1) ∷ over ks (entering N D v i)))

-- "per meter and depth i ≥ 1"
unfoldable pub entry_terms : ℕ → ℕ → ℕ → List Arc → Formula
entry_terms A N D ks = each_of N (λ v. each D (entry_term A N D ks v))

-- "2 - [u at i-1] - [v at i]" of an arc from u to v
abbrev pub ends_missing : ℕ → Arc → ℕ → Linear
ends_missing D a i = record { constant = pos 2; entries = (depth_bit D a.parent (pred i), negsuc 0) ∷ (depth_bit D a.child i, negsuc 0) ∷ [] }

-- A times "per arc from u to v at depth i, its bit times (2 - [u at i-1] - [v at i])"
unfoldable pub end_terms : ℕ → ℕ → ℕ → List Arc → Formula
end_terms A N D ks = over ks (λ a. each D (λ i. product (pos A) (bit (arc_bit N D a i)) (ends_missing D a i)))

-- "the weight of every arc bit set"
unfoldable pub weight_terms : ℕ → ℕ → List Arc → Formula
weight_terms N D ks = over ks (λ a. each D (λ i. single (pos a.weight) (arc_bit N D a i)))
