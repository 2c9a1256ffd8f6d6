-- What the functions of src/degrees.rt are asked and what they are told of one meter's square, each as one word over the struct Neighbours. Assumes nothing.
use Prim.Native.Nat.{ℕ, ◌*◌, ◌^◌, ◌≤◌}
use mathlib.Core.Path.{◌≡◌, refl, ◌∙◌}
use mathlib.Core.List.{List}
use lib.ListN.{length}
use lib.IntN.{ℤ, nat_abs}
use mir.Syntax.{w64}
use mir.Val.{of_z, to_z}
use Rattle.qubo.specs.Table.{coef}
use Rattle.arcs.specs.Arcs.{arcs, arcs_end}
use Rattle.neighbours.specs.Inner.{count_start, degree_entries, TableRow}
use Rattle.neighbours.specs.declared.counts.Counts.{Counts}
use Rattle.neighbours.specs.declared.counts.Neighbours.{Neighbours}

-- a number as a word of 64 bits
abbrev pub word : ℤ → ℤ
word q = to_z w64 (of_z w64 q)

-- row i of their table
abbrev pub RowOf : ℕ → Neighbours → ℕ → ℕ → List ℤ → Type 0
RowOf limit n A i r = TableRow limit n.arcs.layout.meters n.arcs.layout.deepest (length n.arcs.links.now) n.d A i r

-- what is asked of meter m and of the coefficient c
abbrev pub Bounds : Neighbours → ℕ → ℕ → ℕ → ℤ → List ℤ → Type 0
Bounds n A i m c r = (1 ≤ m) × (m ≤ n.arcs.layout.meters) × (nat_abs c ≤ 47) × RowOf (3 * 2 ^ 58) n A i r

-- the coefficient of bit i in the form of meter m
abbrev pub form : Neighbours → ℕ → ℕ → ℤ
form n i m = coef (degree_entries n.arcs.layout.meters n.arcs.layout.deepest (length n.arcs.links.now) n.d (arcs n.arcs.links.now) m) i

-- all that add_degree asks
abbrev pub Asked : Neighbours → ℕ → ℕ → ℕ → ℕ → ℤ → List ℤ → Type 0
Asked n A i from m c r = record { bounds : Bounds n A i m c r; from_in_bounds : (from ≤ length n.arcs.links.now) × (arcs_end n.arcs.layout.meters n.arcs.layout.deepest from ≤ i); i_value : form n i m ≡ c }

-- what is promised of their numbers alone
abbrev pub Numbers : Neighbours → Counts → Type 0
Numbers n k = record { layout : k.layout ≡ n.arcs.layout; links : k.links ≡ length n.arcs.links.now; d : k.d ≡ n.d }

-- where a meter's bits start by these numbers is where they start
pub start_of : (n : Neighbours) (k : Counts) → Numbers n k → (m : ℕ) {s : ℕ} → s ≡ count_start k.layout.meters k.layout.deepest k.links k.d m
    → s ≡ count_start n.arcs.layout.meters n.arcs.layout.deepest (length n.arcs.links.now) n.d m
start_of n k e m h = h ∙ rw (e.layout, e.links, e.d) refl
