-- Only contracts between functions cite this: a reader of the public promises may skip it. What the inner functions hand to one another: the problem that is posed, and the tests that the code makes first. No public call asks anything. Assumes nothing.
use Rattle.std.specs.Prelude.{ℕ, ◌^◌, Bool, not, ◌&&◌, List, [], ◌∷◌, eqb, length}
use Rattle.links.specs.declared.survey.Survey.{Survey}
use Rattle.qubo.specs.Instance.{Instance}
use Rattle.channels.specs.Instance as channels
use Rattle.groups.specs.Instance as groups
use Rattle.tree.specs.Instance as tree
use Rattle.plans.specs.declared.Kind.{Kind}
use Rattle.plans.specs.declared.Kind.TheVariants.{Channels, Groups, Tree}
use Rattle.plans.specs.declared.problem.Posed.{Posed}
use Rattle.plans.specs.declared.problem.Posed.TheVariants as posed
use Rattle.plans.specs.Kinds.{Site}
use Rattle.plans.specs.Refusals.{are_bits}

-- ---- the problem

-- the site of a survey
abbrev pub surveyed : Survey → Site
surveyed s = record { meters = s.meters; links = s.links.now }

-- the instance of a problem: that of its kind
abbrev pub instance_for : Posed → Instance
instance_for (posed.Channels c) = channels.instance c.penalty c.survey.meters c.n c.survey.links.now
instance_for (posed.Groups g) = groups.instance g.penalty g.survey.meters g.m g.survey.links.now
instance_for (posed.Tree t) = tree.instance t.penalty t.survey.meters t.d t.survey.links.now

-- the greatest A that the struct of a kind takes (only proofs cite it)
unfoldable pub most_penalty : Kind → ℕ
most_penalty (Channels n) = 2 ^ 32
most_penalty (Groups m) = 2 ^ 32
most_penalty (Tree d) = 20000000

-- ---- coding

-- the first test, where the bit count is b, plans have n bytes, and a plan of k bytes and l bits are lent: 9
unfoldable pub code_lengths : ℕ → ℕ → ℕ → ℕ → List (ℕ × Bool)
code_lengths b n k l = (9, not (eqb k n && eqb l b)) ∷ []

-- ---- decoding

-- the first tests, where the bits x and a plan of k bytes are lent: 9, 11
unfoldable pub decode_bytes : ℕ → ℕ → List ℕ → ℕ → List (ℕ × Bool)
decode_bytes b n x k = (9, not (eqb (length x) b && eqb k n)) ∷ (11, not (are_bits x)) ∷ []
