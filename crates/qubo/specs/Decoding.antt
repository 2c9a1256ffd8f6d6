-- What a row, coding and decoding leave and answer, of any kind: each kind puts in its own instance. Assumes nothing.
use Rattle.std.specs.Prelude.{ℕ, ◌-◌, Bool, ◌&&◌, cond, List, ◌++◌, drop, ℤ, Option, Some, None}
use Rattle.lists.specs.Tests.{alike}
use Rattle.qubo.specs.Table.{row_of}
use Rattle.qubo.specs.Instance.{Instance}
use Rattle.qubo.specs.declared.problem.Decoded.{Decoded}

-- row i in front of a slice, the rest of it unaltered
abbrev pub row_filled : Instance → ℕ → List ℤ → List ℤ
row_filled I i out = row_of I.formula I.bits i ++ drop (I.bits - i) out

-- "An assignment codes a plan when it is that plan's code": the candidate, which is what the bits would code, is a plan, and its code is the bits
unfoldable pub codes_plan : (List ℕ → Bool) → (List ℕ → List ℕ) → (List ℕ → List ℕ) → List ℕ → Bool
codes_plan is_plan code_of candidate x = is_plan (candidate x) && alike (code_of (candidate x)) x

-- what is in the lent bits, which held x, once q is coded: its code, and what they held where q is no plan
unfoldable pub code_after : Instance → List ℕ → List ℕ → List ℕ
code_after I q x = cond (I.is_plan q) (I.code_of q) x

-- the answer of decoding: a plan's weight and how many meters were repaired, or that the bits code none
unfoldable pub answer_of : Instance → List ℕ → Option Decoded
answer_of I x = cond (I.decodes x) (Some (record { weight = I.weight (I.decoded x); repaired = I.repaired x })) None

-- what is then in the lent plan, which held q: "Nothing lent is altered" where there is no plan
unfoldable pub plan_after : Instance → List ℕ → List ℕ → List ℕ
plan_after I x q = cond (I.decodes x) (I.decoded x) q
