-- The words in which formulas are written: families of terms, and the terms that occur.
-- Assumes nothing.
use Rattle.std.specs.Prelude.{List, [], ◌∷◌, ◌++◌, ℕ, zero, suc, ℤ, pos, negsuc}
use Rattle.qubo.specs.Formula.{Linear, Term, square, product}

-- ---- families
-- the lists G 1, .., G n, one after another
abbrev pub each_of : {A : Type 0} → ℕ → (ℕ → List A) → List A
each_of zero G = []
each_of (suc n) G = each_of n G ++ G (suc n)

-- F 1, .., F n
abbrev pub each : {A : Type 0} → ℕ → (ℕ → A) → List A
each n F = each_of n (λ k. F k ∷ [])

-- for each x of a list in turn, the list G x
abbrev pub over : {A B : Type 0} → List A → (A → List B) → List B
over [] G = []
over (x ∷ xs) G = G x ++ over xs G

-- ---- linear forms
-- a sum of entries, with no constant
abbrev pub sum : List (ℕ × ℤ) → Linear
sum es = record { constant = pos 0; entries = es }

-- bit j
abbrev pub bit : ℕ → Linear
bit j = sum ((j, pos 1) ∷ [])

-- the number 1
abbrev pub one : Linear
one = record { constant = pos 1; entries = [] }

-- each of the bits b 1, .., b n, with the coefficient q
abbrev pub bits : ℤ → ℕ → (ℕ → ℕ) → List (ℕ × ℤ)
bits q n b = each n (λ k. (b k, q))

-- 1 less how many of the bits b 1, .., b n are set
abbrev pub one_less : ℕ → (ℕ → ℕ) → Linear
one_less n b = record { constant = pos 1; entries = bits (negsuc 0) n b }

-- how many of b 1, .., b n are set, less how many of c 1, .., c m
abbrev pub difference : ℕ → (ℕ → ℕ) → ℕ → (ℕ → ℕ) → Linear
difference n b m c = sum (bits (pos 1) n b ++ bits (negsuc 0) m c)

-- ---- terms
-- q times bit p
abbrev pub single : ℤ → ℕ → Term
single q p = product q (bit p) one

-- q times bit p times a sum
abbrev pub times : ℤ → ℕ → List (ℕ × ℤ) → Term
times q p es = product q (bit p) (sum es)

-- q times bit p times bit r
abbrev pub pair : ℤ → ℕ → ℕ → Term
pair q p r = product q (bit p) (bit r)

-- q if exactly one of bit p and bit r is set: q times (bit p - bit r)², which is 1 just there
abbrev pub unequal : ℤ → ℕ → ℕ → Term
unequal q p r = square q (sum ((p, pos 1) ∷ (r, negsuc 0) ∷ []))

-- one-hot: a times (1 - bits set)², which for a > 0 is least where exactly one of b 1, .., b n is set
abbrev pub one_hot : ℤ → ℕ → (ℕ → ℕ) → Term
one_hot a n b = square a (one_less n b)

-- a times (difference)², which for a > 0 is least where as many of b 1, .., b n are set as of c 1, .., c m
abbrev pub squared_difference : ℤ → ℕ → (ℕ → ℕ) → ℕ → (ℕ → ℕ) → Term
squared_difference a n b m c = square a (difference n b m c)
