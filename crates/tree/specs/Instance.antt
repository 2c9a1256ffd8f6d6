-- Kind 3, tree, gathered: what its table is made for. Assumes nothing.
use Rattle.std.specs.Prelude.{ℕ, List, length}
use Rattle.links.specs.declared.Link.{Link}
use Rattle.qubo.specs.Instance.{Instance}
use Rattle.qubo.specs.Decoding.{codes_plan}
use Rattle.tree.specs.Formula.{bit_count, formula}
use Rattle.tree.specs.Plans.{is_plan, code_of, tree_weight}
use Rattle.tree.specs.Decoding.{candidate}

-- a tree of N meters with the links ls and at most d neighbours, for any A: bits decode where they code a plan, and "Groups and trees are never mended: the number is 0"
abbrev pub instance : ℕ → ℕ → ℕ → List Link → Instance
instance A N d ls = record {
  bits = bit_count N (length ls) d;
  plan_bytes = N;
  penalty = A;
  formula = formula A N d ls;
  is_plan = is_plan N d ls;
  weight = tree_weight ls;
  code_of = code_of N d ls;
  decodes = codes_plan (is_plan N d ls) (code_of N d ls) (candidate N ls);
  decoded = candidate N ls;
  repaired = λ x. 0;
}
