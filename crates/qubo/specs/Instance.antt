-- What a table is made for, gathered: the number of bits, the penalty A and the energy as a formula, and the plans with their test, weight, code and decoding. Each kind gives its own. Assumes nothing.
use Rattle.std.specs.Prelude.{Bool, List, ℕ, ℤ}
use Rattle.qubo.specs.Formula.{Formula, value}
use Rattle.qubo.specs.Table.{Table, table_of}
use Rattle.qubo.specs.Best as best

pub record Instance : Type 0 where
  -- the number of bits of an assignment, and of bytes of a plan
  pub bits : ℕ
  pub plan_bytes : ℕ
  -- A
  pub penalty : ℕ
  -- the energy
  pub formula : Formula
  -- the bytes are a plan; its weight; its code
  pub is_plan : List ℕ → Bool
  pub weight : List ℕ → ℕ
  pub code_of : List ℕ → List ℕ
  -- bits decode to a plan; to this one; how many of its bytes are then repaired
  pub decodes : List ℕ → Bool
  pub decoded : List ℕ → List ℕ
  pub repaired : List ℕ → ℕ

-- ---- its table, and the words of demand 3

-- the table
abbrev pub table_is : Instance → Table
table_is I = table_of I.formula I.bits

-- the energy of an assignment
abbrev pub energy_of : Instance → List ℕ → ℤ
energy_of I x = value I.formula x

-- no assignment has less energy than x
abbrev pub LeastEnergy : Instance → List ℕ → Type 0
LeastEnergy I x = best.LeastEnergy I.formula I.bits x

-- "An assignment codes a plan when it is that plan's code"
abbrev pub CodesPlan : Instance → List ℕ → Type 0
CodesPlan I x = best.CodesPlan I.is_plan I.code_of x

-- p is a plan of least weight
abbrev pub LeastPlan : Instance → List ℕ → Type 0
LeastPlan I p = best.LeastPlan I.is_plan I.weight p

-- x is the code of a plan of least weight
abbrev pub CodesLeast : Instance → List ℕ → Type 0
CodesLeast I x = best.CodesLeast I.is_plan I.weight I.code_of x
