-- What the public calls give, and all lent bytes that they leave, of the bytes s of an image and what is asked, whatever these are. Begin, add and remove are those of crate `site`. Assumes nothing.
use Rattle.std.specs.Prelude.{ℕ, List, [], ◌++◌, length, drop, ℤ}
use Rattle.std.specs.Borrow.{Lends, MutBor, Fml, Array, i64}
use Rattle.qubo.specs.Table.{constant_of, row_of}
use Rattle.qubo.specs.Instance.{Instance, energy_of}
use Rattle.site.specs.Refusal.{refusal, unless_refused}
use Rattle.plans.specs.declared.Ask.{Ask}
use Rattle.qubo.specs.Decoding.{row_filled}
use Rattle.qubo.specs.declared.problem.Decoded.{Decoded}
use Rattle.plans.specs.Kinds.{instance_of}
use Rattle.plans.specs.Refusals.{site_in, image_tests, row_tests, energy_tests, code_tests, decode_tests}
use Rattle.plans.specs.Answers.{Answer, answer}

-- the instance
abbrev pub instance_in : List ℕ → Ask → Instance
instance_in s a = instance_of (site_in s) a

-- ---- bit count, penalty and constant

-- refused by 1, 7, 18, 8: the refusal's number
unfoldable pub accept_number_in : List ℕ → Ask → ℕ
accept_number_in s a = refusal (image_tests s a)

-- the bit count, or the refusal
unfoldable pub bits_answer_in : List ℕ → Ask → Answer ℕ
bits_answer_in s a = answer (accept_number_in s a) (instance_in s a).bits

-- A, or the refusal
unfoldable pub penalty_answer_in : List ℕ → Ask → Answer ℕ
penalty_answer_in s a = answer (accept_number_in s a) (instance_in s a).penalty

-- the constant, or the refusal
unfoldable pub constant_answer_in : List ℕ → Ask → Answer ℤ
constant_answer_in s a = answer (accept_number_in s a) (constant_of (instance_in s a).formula)

-- ---- row i in a slice with that much room

-- refused by 1, 7, 18, 8, 10, 9: the refusal's number
unfoldable pub row_number_in : List ℕ → Ask → ℕ → ℕ → ℕ
row_number_in s a i room = refusal (image_tests s a ++ row_tests (instance_in s a).bits i room)

-- "The row comes back as the front part of the lent slice, exactly bits - i numbers", "An empty part is given only on refusal"
unfoldable pub row_part_in : List ℕ → Ask → ℕ → ℕ → List ℤ
row_part_in s a i room = unless_refused (row_number_in s a i room) (row_of (instance_in s a).formula (instance_in s a).bits i) []

-- the lent slice afterwards: row i in front of it, "the rest of the slice is unaltered"
unfoldable pub row_after_in : List ℕ → Ask → ℕ → List ℤ → List ℤ
row_after_in s a i out = unless_refused (row_number_in s a i (length out)) (row_filled (instance_in s a) i out) out

-- the lent slice when the loan of the part ends: what the part then holds, and behind it what lay there before
abbrev pub row_rest_in : List ℕ → Ask → ℕ → MutBor (List ℤ) → MutBor (List ℤ) → Fml
row_rest_in s a i out part = Lends (Array i64 0) (Array i64 0) out part (λ w. w ++ drop (length (row_part_in s a i (length out.now))) out.now)

-- ---- the energy of the bits x

-- refused by 1, 7, 18, 8, 9, 11: the refusal's number
unfoldable pub energy_number_in : List ℕ → Ask → List ℕ → ℕ
energy_number_in s a x = refusal (image_tests s a ++ energy_tests (instance_in s a).bits x)

-- the energy, or the refusal
unfoldable pub energy_answer_in : List ℕ → Ask → List ℕ → Answer ℤ
energy_answer_in s a x = answer (energy_number_in s a x) (energy_of (instance_in s a) x)

-- ---- the plan q coded into the lent bits x

-- refused by 1, 7, 18, 8, 9, 12: the refusal's number
unfoldable pub code_number_in : List ℕ → Ask → List ℕ → List ℕ → ℕ
code_number_in s a q x = refusal (image_tests s a ++ code_tests (instance_in s a) q x)

-- the lent bits afterwards
unfoldable pub code_after_in : List ℕ → Ask → List ℕ → List ℕ → List ℕ
code_after_in s a q x = unless_refused (code_number_in s a q x) ((instance_in s a).code_of q) x

-- ---- the bits x decoded into the lent plan q

-- refused by 1, 7, 18, 8, 9, 11, 12: the refusal's number
unfoldable pub decode_number_in : List ℕ → Ask → List ℕ → List ℕ → ℕ
decode_number_in s a x q = refusal (image_tests s a ++ decode_tests (instance_in s a) x q)

-- the weight of the plan and the number repaired, or the refusal
unfoldable pub decode_answer_in : List ℕ → Ask → List ℕ → List ℕ → Answer Decoded
decode_answer_in s a x q = answer (decode_number_in s a x q) (record { weight = (instance_in s a).weight ((instance_in s a).decoded x); repaired = (instance_in s a).repaired x })

-- the lent plan afterwards
unfoldable pub decode_after_in : List ℕ → Ask → List ℕ → List ℕ → List ℕ
decode_after_in s a x q = unless_refused (decode_number_in s a x q) ((instance_in s a).decoded x) q
