-- Kind 1, channels, gathered: what its table is made for. Assumes nothing.
use Rattle.std.specs.Prelude.{ℕ, true, List}
use Rattle.links.specs.declared.Link.{Link}
use Rattle.qubo.specs.Instance.{Instance}
use Rattle.channels.specs.Formula.{bit_count, formula}
use Rattle.channels.specs.Plans.{is_plan, code_of, clash_weight}
use Rattle.channels.specs.Repair as repair

-- n channels for N meters with the links ls, for any A; all bits decode to a plan
abbrev pub instance : ℕ → ℕ → ℕ → List Link → Instance
instance A N n ls = record {
  bits = bit_count N n;
  plan_bytes = N;
  penalty = A;
  formula = formula A N n ls;
  is_plan = is_plan N n;
  weight = clash_weight ls;
  code_of = code_of n;
  decodes = λ x. true;
  decoded = repair.decoded N n ls;
  repaired = repair.repaired N n;
}
