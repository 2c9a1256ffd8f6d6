-- The words of demand 3: least energy, and plans, which are lists with a test, a code and a weight. Each kind puts in its own. Assumes nothing.
use Rattle.std.specs.Prelude.{◌≡◌, Bool, true, List, ℕ, ◌≤◌, ◌≤ℤ◌}
use Rattle.qubo.specs.Formula.{Formula, Assignment, value}

-- no assignment of n bits has less energy than x
abbrev pub LeastEnergy : Formula → ℕ → List ℕ → Type 0
LeastEnergy f n x = (y : List ℕ) → Assignment n y → value f x ≤ℤ value f y

-- "An assignment codes a plan when it is that plan's code"
pub record CodesPlan (is_plan : List ℕ → Bool) (code_of : List ℕ → List ℕ) (x : List ℕ) : Type 0 where
  pub plan : List ℕ
  pub ok : is_plan plan ≡ true
  pub codes : x ≡ code_of plan

-- p is a plan, and no plan has less weight
pub record LeastPlan (is_plan : List ℕ → Bool) (weight : List ℕ → ℕ) (p : List ℕ) : Type 0 where
  pub ok : is_plan p ≡ true
  pub least : (q : List ℕ) → is_plan q ≡ true → weight p ≤ weight q

-- x is the code of a plan of least weight
pub record CodesLeast (is_plan : List ℕ → Bool) (weight : List ℕ → ℕ) (code_of : List ℕ → List ℕ) (x : List ℕ) : Type 0 where
  pub plan : List ℕ
  pub best : LeastPlan is_plan weight plan
  pub codes : x ≡ code_of plan
