-- Kind 1, channels: plans, their codes and their weight. Assumes nothing.
use Rattle.std.specs.Prelude.{ℕ, ◌*◌, Bool, List}
use Rattle.lists.specs.Sums.{sum_of, same, nth}
use Rattle.links.specs.declared.Link.{Link}
use Rattle.onehot.specs.Choices.{are_choices, code}

-- "A plan is N bytes. Channels: 1..n each."
unfoldable pub is_plan : ℕ → ℕ → List ℕ → Bool
is_plan N n p = are_choices N n p

-- "The code of a plan for channels or groups sets each meter's bit for its channel or group and no others"
unfoldable pub code_of : ℕ → List ℕ → List ℕ
code_of n p = code n p

-- "its clash weight (links with both ends on one channel)"
unfoldable pub clash_weight : List Link → List ℕ → ℕ
clash_weight ls p = sum_of ls (λ l. l.weight * same (nth p l.u) (nth p l.v))
