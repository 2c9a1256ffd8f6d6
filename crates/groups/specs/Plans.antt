-- Kind 2, groups: plans, their codes and their weight. Assumes nothing.
use Rattle.std.specs.Prelude.{ℕ, ◌*◌, Bool, ◌&&◌, List}
use Rattle.lists.specs.Sums.{sum_to, sum_of, same, differ, nth}
use Rattle.links.specs.declared.Link.{Link}
use Rattle.onehot.specs.Choices.{are_choices, code}
use Rattle.groups.specs.Sizes.{equally_large}

-- the size of group g in a plan of N meters
unfoldable pub members_of : ℕ → List ℕ → ℕ → ℕ
members_of N p g = sum_to N (λ v. same (nth p v) g)

-- "A plan is N bytes", "Groups: 1..m each, all groups equally large (an equal split)"
unfoldable pub is_plan : ℕ → ℕ → List ℕ → Bool
is_plan N m p = are_choices N m p && equally_large m (members_of N p)

-- "The code of a plan for channels or groups sets each meter's bit for its channel or group and no others"
unfoldable pub code_of : ℕ → List ℕ → List ℕ
code_of m p = code m p

-- "its cut weight (each cut link once)": a link is cut where its ends are in different groups
unfoldable pub cut_weight : List Link → List ℕ → ℕ
cut_weight ls p = sum_of ls (λ l. l.weight * differ (nth p l.u) (nth p l.v))
