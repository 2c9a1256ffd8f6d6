-- The norm of the energy of kind 2: at most 48 meters, 256 links, 16 groups and weights of 65,535, and the penalty. Assumes nothing.
use Prim.Native.Nat.{ℕ, pred, ◌+◌, ◌*◌, ◌^◌, ◌≤◌, ◌<◌}
use mathlib.Core.List.{List, ◌++◌}
use lib.IntN.{pos}
use native.Mathlib.Omega.{arith}
use native.Mathlib.Nat.{le_trans, mul-le-mul, mul-le-mul_right}
use Rattle.links.specs.declared.Link.{Link}
use Rattle.links.specs.Survey.{LinkOf, IsSurvey}
use Rattle.qubo.specs.Norm.{formula_norm}
use Rattle.qubo.specs.Terms.{each, unequal}
use Rattle.qubo.proofs.Families.{norm_append, norm_each, norm_each_of}
use Rattle.qubo.proofs.RowShapes.{difference_norm, unequal_norm}
use Rattle.onehot.specs.Choices.{bit_number, one_hots}
use Rattle.onehot.proofs.Penalty.{one_hots_small}
use Rattle.onehot.proofs.LinkTerms.{links_norm}
use Rattle.groups.specs.Formula.{size_difference, size_terms, link_cuts, cut_terms, formula}

-- of the size differences
sizes_norm : (A N m : ℕ) → formula_norm (size_terms A N m) ≤ m * (m * (A * ((N + N) * (N + N))))
unfolding size_terms
sizes_norm A N m =
    norm_each_of (m * (A * ((N + N) * (N + N)))) m (λ h. each (pred h) (size_difference A N m h))
    (λ h p q. le_trans
    (norm_each (A * ((N + N) * (N + N))) (pred h) (size_difference A N m h) (λ g a b. omega (arith, difference_norm (pos A) N (λ v. bit_number m v g) N (λ v. bit_number m v h))))
    (mul-le-mul_right (A * ((N + N) * (N + N))) (let l : pred h ≤ m = omega arith in l)))

pub sizes_small : (A N m : ℕ) → N ≤ 48 → m ≤ 16 → A ≤ 2 ^ 32 → formula_norm (size_terms A N m) ≤ 10133099161583616
sizes_small A N m a b c =
    le_trans (sizes_norm A N m)
    (mul-le-mul {n₂ = 16} {m₂ = 633318697598976} b (mul-le-mul {n₂ = 16} {m₂ = 39582418599936} b
    (mul-le-mul {n₂ = 4294967296} {m₂ = 9216} c (mul-le-mul {n₂ = 96} {m₂ = 96} (omega arith) (omega arith)))))

-- of what is cut
pub cuts_small : (N m : ℕ) (ls : List Link) → IsSurvey N ls → m ≤ 16 → formula_norm (cut_terms m ls) ≤ 1073725440
unfolding cut_terms
cuts_small N m ls s h = le_trans (links_norm (link_cuts m) N (m * 262140) one ls s.each) (mul-le-mul {n₂ = 256} {m₂ = 4194240} s.few (omega arith))
  where
    one : (l : Link) → LinkOf N l → formula_norm (link_cuts m l) ≤ m * 262140
    one l o =
        norm_each 262140 m (λ g. unequal (pos l.weight) (bit_number m l.u g) (bit_number m l.v g))
        (λ g p q. omega (arith, o.weight_high, unequal_norm (pos l.weight) (bit_number m l.u g) (bit_number m l.v g)))

-- of the whole
pub formula_small : (A N m : ℕ) (ls : List Link) → IsSurvey N ls → m ≤ 16 → A ≤ 2 ^ 32 → formula_norm (formula A N m ls) < 2 ^ 54
unfolding formula
formula_small A N m ls s h a =
    omega (
      arith,
      norm_append (one_hots A N m ++ size_terms A N m) (cut_terms m ls),
      norm_append (one_hots A N m) (size_terms A N m),
      one_hots_small A N m s.meters_high h a,
      sizes_small A N m s.meters_high h a,
      cuts_small N m ls s h,
    )
