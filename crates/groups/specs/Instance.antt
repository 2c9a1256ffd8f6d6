-- Kind 2, groups, gathered: what its table is made for. Assumes nothing.
use Rattle.std.specs.Prelude.{ℕ, List}
use Rattle.links.specs.declared.Link.{Link}
use Rattle.qubo.specs.Instance.{Instance}
use Rattle.qubo.specs.Decoding.{codes_plan}
use Rattle.onehot.specs.Choices.{candidate}
use Rattle.groups.specs.Formula.{bit_count, formula}
use Rattle.groups.specs.Plans.{is_plan, code_of, cut_weight}

-- m groups of N meters with the links ls, for any A: bits decode where they code a plan, and "Groups and trees are never mended: the number is 0"
abbrev pub instance : ℕ → ℕ → ℕ → List Link → Instance
instance A N m ls = record {
  bits = bit_count N m;
  plan_bytes = N;
  penalty = A;
  formula = formula A N m ls;
  is_plan = is_plan N m;
  weight = cut_weight ls;
  code_of = code_of m;
  decodes = codes_plan (is_plan N m) (code_of m) (candidate N m);
  decoded = candidate N m;
  repaired = λ x. 0;
}
