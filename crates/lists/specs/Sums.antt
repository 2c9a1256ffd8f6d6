-- Sums of whole numbers from 0, over 1..n and over lists, and what is picked from 1..n. Assumes nothing.
use Rattle.std.specs.Prelude.{ℕ, zero, suc, ◌+◌, ◌-◌, max, cond, List, [], ◌∷◌, get_or, eqb, ltb}

-- f 1 + .. + f n
unfoldable pub sum_to : ℕ → (ℕ → ℕ) → ℕ
sum_to zero f = 0
sum_to (suc k) f = sum_to k f + f (suc k)

-- f x, added up over the x of a list
unfoldable pub sum_of : {A : Type 0} → List A → (A → ℕ) → ℕ
sum_of [] f = 0
sum_of (x ∷ xs) f = f x + sum_of xs f

-- the greatest of f 1, .., f n, and 0 where there are none
unfoldable pub greatest : ℕ → (ℕ → ℕ) → ℕ
greatest zero f = 0
greatest (suc k) f = max (greatest k f) (f (suc k))

-- the number of 1..n at which f is least, ties to the lowest number; 1 where there are none
unfoldable pub least_at : ℕ → (ℕ → ℕ) → ℕ
least_at zero f = 1
least_at (suc k) f = cond (ltb (f (suc k)) (f (least_at k f))) (suc k) (least_at k f)

-- the lowest number of 1..n at which f is not 0, and 0 where there is none
unfoldable pub lowest : ℕ → (ℕ → ℕ) → ℕ
lowest zero f = 0
lowest (suc k) f = cond (eqb (lowest k f) 0) (cond (eqb (f (suc k)) 0) 0 (suc k)) (lowest k f)

-- 1 where a and b are equal, else 0
unfoldable pub same : ℕ → ℕ → ℕ
same a b = cond (eqb a b) 1 0

-- 1 where a and b are different, else 0
unfoldable pub differ : ℕ → ℕ → ℕ
differ a b = cond (eqb a b) 0 1

-- the difference of a and b, whichever is greater: subtraction stops at 0, so one of the two differences is 0
unfoldable pub gap : ℕ → ℕ → ℕ
gap a b = (a - b) + (b - a)

-- entry k of a list, counted from 1; 0 where there is none
unfoldable pub nth : List ℕ → ℕ → ℕ
nth l zero = 0
nth l (suc k) = get_or l k 0
