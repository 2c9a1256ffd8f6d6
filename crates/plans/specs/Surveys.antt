-- "Surveys worked through": those that document 01 marks P, in one table, and behind them one of our own for 02. proofs/Worked.antt shows each line. Assumes nothing.
use Rattle.std.specs.Prelude.{ℕ, ◌≡◌, true, length, ℤ, pos, negsuc, ◌≤ℤ◌}
use mathlib.Core.List.{List, [], ◌∷◌, Memᴰ}
use Rattle.links.specs.declared.Link.{Link}
use Rattle.qubo.specs.Formula.{Assignment}
use Rattle.qubo.specs.Table.{constant_of, pair_of, row_of}
use Rattle.qubo.specs.Instance.{Instance, energy_of, LeastEnergy}
use Rattle.site.specs.Refusal.{refusal}
use Rattle.plans.specs.declared.Ask.{Ask}
use Rattle.plans.specs.Kinds.{Site}
use Rattle.plans.specs.Refusals.{code_tests}

-- what a line may say
pub data Line : Type 0 where
  bits : ℕ → Line
  A : ℕ → Line
  constant : ℤ → Line
  row : ℕ → List ℤ → Line
  pair : ℕ → ℕ → ℤ → Line
  energy : List ℕ → ℕ → Line
  plan : List ℕ → Line
  plan_of : List ℕ → ℕ → Line
  just : List (List ℕ) → Line
  no_plan_12 : List ℕ → Line
  repairs : List ℕ → List ℕ → ℕ → ℕ → Line
  least : List ℕ → ℕ → Line
  nothing_below : Line
  no_plan : Line

-- what it means, of an instance
abbrev pub Means : Instance → Line → Type 0
-- there are b bits
Means I (bits b) = I.bits ≡ b
-- A is a
Means I (A a) = I.penalty ≡ a
-- the constant is c
Means I (constant c) = constant_of I.formula ≡ c
-- row i is r
Means I (row i r) = row_of I.formula I.bits i ≡ r
-- the number of the pair (i, j) is z
Means I (pair i j z) = pair_of I.formula i j ≡ z
-- the bits x have energy e
Means I (energy x e) = energy_of I x ≡ pos e
-- q is a plan
Means I (plan q) = I.is_plan q ≡ true
-- q is a plan of weight w, and its code has energy w
Means I (plan_of q w) = (I.is_plan q ≡ true) × (I.weight q ≡ w) × (energy_of I (I.code_of q) ≡ pos w)
-- there are no plans but those in qs
Means I (just qs) = (q : List ℕ) → I.is_plan q ≡ true → Memᴰ q qs
-- q is none, and coding it gives 12
Means I (no_plan_12 q) = (x : List ℕ) → length x ≡ I.bits → refusal (code_tests I q x) ≡ 12
-- the bits x are repaired to q, of weight w, with m meters repaired
Means I (repairs x q w m) = (I.decoded x ≡ q) × (I.weight q ≡ w) × (I.repaired x ≡ m)
-- w is the least energy of all assignments, and q is a plan of that weight
Means I (least q w) = (I.is_plan q ≡ true) × (I.weight q ≡ w) × ((x : List ℕ) × Assignment I.bits x × LeastEnergy I x × (energy_of I x ≡ pos w))
-- no assignment has energy below A
Means I nothing_below = (x : List ℕ) → Assignment I.bits x → pos I.penalty ≤ℤ energy_of I x
-- there is no plan
Means I no_plan = (q : List ℕ) → I.is_plan q ≡ true → ⊥

-- ---- the table

-- a site, what is asked of it, and what 01 says of the two
pub record Worked : Type 0 where
  pub site : Site
  pub ask : Ask
  pub lines : List Line

-- kind k with the parameter p and the margin m
abbrev pub asks_raised : ℕ → ℕ → ℕ → Ask
asks_raised k p m = record { kind = k; parameter = p; margin = m }

-- "The listed cases are those of margin 0" (02, S-7)
abbrev pub asks : ℕ → ℕ → Ask
asks k p = asks_raised k p 0

-- the link between u and v of weight w
abbrev pub link : ℕ → ℕ → ℕ → Link
link u v w = record { u = u; v = v; weight = w }

-- "links 1-2, 1-3, 1-4, 4-5 of weight 1 and 3-5 of 60,000"
abbrev pub five : List Link
five = link 1 2 1 ∷ link 1 3 1 ∷ link 1 4 1 ∷ link 3 5 60000 ∷ link 4 5 1 ∷ []

-- "Those marked P, of the definitions", in 01's order
unfoldable pub table : List Worked
table =
    -- the listing; "bits 1001 have energy 0, all-zero bits 8"
    record {
      site = record { meters = 2; links = link 1 2 3 ∷ [] };
      ask = asks 1 2;
      lines =
          bits 4
          ∷ constant (pos 8)
          ∷ row 0 (negsuc 3 ∷ pos 8 ∷ pos 3 ∷ pos 0 ∷ [])
          ∷ row 1 (negsuc 3 ∷ pos 0 ∷ pos 3 ∷ [])
          ∷ row 2 (negsuc 3 ∷ pos 8 ∷ [])
          ∷ row 3 (negsuc 3 ∷ [])
          ∷ energy (1 ∷ 0 ∷ 0 ∷ 1 ∷ []) 0
          ∷ energy (0 ∷ 0 ∷ 0 ∷ 0 ∷ []) 8
          ∷ [];
    }
    -- "two meters, weight 3, m = 2: constant 14, pair (0,3) is -14, pair (0,2) is 8, pair (0,1) is 0. Bits 1001: 6, below A = 7. Bits 1010: 28."
    ∷ record {
      site = record { meters = 2; links = link 1 2 3 ∷ [] };
      ask = asks 2 2;
      lines =
          constant (pos 14)
          ∷ pair 0 3 (negsuc 13)
          ∷ pair 0 2 (pos 8)
          ∷ pair 0 1 (pos 0)
          ∷ energy (1 ∷ 0 ∷ 0 ∷ 1 ∷ []) 6
          ∷ A 7
          ∷ energy (1 ∷ 0 ∷ 1 ∷ 0 ∷ []) 28
          ∷ [];
    }
    -- "two meters, weight 5, d = 1: 8 bits, A = 6, both plans 5, all-zero bits 30"
    ∷ record {
      site = record { meters = 2; links = link 1 2 5 ∷ [] };
      ask = asks 3 1;
      lines =
          bits 8
          ∷ A 6
          ∷ plan_of (0 ∷ 1 ∷ []) 5
          ∷ plan_of (2 ∷ 0 ∷ []) 5
          ∷ just ((0 ∷ 1 ∷ []) ∷ (2 ∷ 0 ∷ []) ∷ [])
          ∷ energy (0 ∷ 0 ∷ 0 ∷ 0 ∷ 0 ∷ 0 ∷ 0 ∷ 0 ∷ []) 30
          ∷ [];
    }
    -- "all ten links on five meters, weight 1, n = 2, A = 5. Meters 1, 3 on channel 1, 2, 4 on 2, 5 on none: energy 7; mended to channel 1, weight 4, one meter"
    ∷ record {
      site = record { meters = 5; links = link 1 2 1 ∷ link 1 3 1 ∷ link 1 4 1 ∷ link 1 5 1 ∷ link 2 3 1 ∷ link 2 4 1 ∷ link 2 5 1 ∷ link 3 4 1 ∷ link 3 5 1 ∷ link 4 5 1 ∷ [] };
      ask = asks 1 2;
      lines =
          A 5
          ∷ energy (1 ∷ 0 ∷ 0 ∷ 1 ∷ 1 ∷ 0 ∷ 0 ∷ 1 ∷ 0 ∷ 0 ∷ []) 7
          ∷ repairs (1 ∷ 0 ∷ 0 ∷ 1 ∷ 1 ∷ 0 ∷ 0 ∷ 1 ∷ 0 ∷ 0 ∷ []) (1 ∷ 2 ∷ 1 ∷ 2 ∷ 1 ∷ []) 4 1
          ∷ [];
    }
    -- "d = 2 gives least 60,003"
    ∷ record { site = record { meters = 5; links = five }; ask = asks 3 2; lines = least (3 ∷ 1 ∷ 0 ∷ 5 ∷ 3 ∷ []) 60003 ∷ [] }
    -- "Letting several neighbour-count bits be set breaks the limit": the lighter tree, with the bits of one and of two neighbours set at meter 1, costs A more than its weight
    ∷ record {
      site = record { meters = 5; links = five };
      ask = asks 3 2;
      lines =
          A 60005
          ∷ energy
          (1 ∷ 0 ∷ 0 ∷ 0 ∷ 1 ∷ 0 ∷ 0 ∷ 1 ∷ 0 ∷ 0 ∷ 1 ∷ 0 ∷ 0 ∷ 0 ∷ 1
          ∷ 1 ∷ 0 ∷ 0 ∷ 0 ∷ 1 ∷ 0 ∷ 0 ∷ 0 ∷ 1 ∷ 0 ∷ 0 ∷ 0 ∷ 0 ∷ 0 ∷ 0 ∷ 0 ∷ 0 ∷ 1 ∷ 0 ∷ 0
          ∷ 1 ∷ 1 ∷ 1 ∷ 0 ∷ 1 ∷ 0 ∷ 0 ∷ 1 ∷ 1 ∷ 0 ∷ [])
          60009
          ∷ [];
    }
    -- "d = 3 gives 4"
    ∷ record { site = record { meters = 5; links = five }; ask = asks 3 3; lines = least (0 ∷ 1 ∷ 1 ∷ 1 ∷ 4 ∷ []) 4 ∷ [] }
    -- "star of three leaves, weight 1, d = 2: nothing below A = 4"
    ∷ record { site = record { meters = 4; links = link 1 2 1 ∷ link 1 3 1 ∷ link 1 4 1 ∷ [] }; ask = asks 3 2; lines = A 4 ∷ nothing_below ∷ [] }
    -- "path 1-2-3-4, d = 2: root 2 is a plan, root 1 gives 12"
    ∷ record {
      site = record { meters = 4; links = link 1 2 1 ∷ link 2 3 1 ∷ link 3 4 1 ∷ [] };
      ask = asks 3 2;
      lines = plan (2 ∷ 0 ∷ 2 ∷ 3 ∷ []) ∷ no_plan_12 (0 ∷ 1 ∷ 2 ∷ 3 ∷ []) ∷ [];
    }
    -- "three meters, m = 2: no plan"
    ∷ record { site = record { meters = 3; links = [] }; ask = asks 2 2; lines = no_plan ∷ [] }
    -- the two meters in two groups of the second entry, with margin 5: A and all that it multiplies rise, and the plan's energy does not
    ∷ record {
      site = record { meters = 2; links = link 1 2 3 ∷ [] };
      ask = asks_raised 2 2 5;
      lines = A 12 ∷ constant (pos 24) ∷ energy (1 ∷ 0 ∷ 0 ∷ 1 ∷ []) 6 ∷ energy (1 ∷ 0 ∷ 1 ∷ 0 ∷ []) 48 ∷ [];
    }
    ∷ []
