-- A walk over a survey's links, link by link: the facts of each link, and sums over the links. Loops of the kinds cite these. Assumes nothing.
use Rattle.std.proofs.Common.{ℕ, zero, suc, ◌*◌, ◌≤◌, ◌<◌, ◌≡◌, true, List, [], ◌∷◌, length, arith}
use Rattle.lists.specs.Tests.{all}
use Rattle.lists.specs.Sums.{sum_of}
use Rattle.lists.proofs.Members.{sum_of_eq, sum_of_bound}
use Rattle.lists.proofs.Tests.{all_head, all_tail}
use Rattle.links.specs.Links.{link_ok, link_in}
use Rattle.links.specs.Survey.{LinkOf, IsSurvey}
use Rattle.links.specs.declared.Link.{Link}
use Rattle.links.specs.declared.survey.Survey.{Survey}
use Rattle.links.proofs.Altered.{link_of, member_link}

-- what the type of surveys says, as a record
pub is_survey : (s : Survey) → IsSurvey s.meters s.links.now
is_survey s = record { meters_low = s.meters_low; meters_high = s.meters_high; few = s.few; each = s.each; rises = s.rises }

-- the facts of the link at an index
pub link_at : (N : ℕ) (ls : List Link) → all (link_ok N) ls ≡ true → (k : ℕ) → k < length ls → LinkOf N (link_in ls k)
link_at N [] e k h = absurd (omega arith)
link_at N (l ∷ ls) e zero h = link_of N l (all_head (link_ok N) l ls e)
link_at N (l ∷ ls) e (suc k) h = link_at N ls (all_tail (link_ok N) l ls e) k (omega arith)

-- ---- sums over a survey's links

-- equal for links of N meters
pub sum_equal : (N : ℕ) (ls : List Link) → all (link_ok N) ls ≡ true → (f g : Link → ℕ) → ((l : Link) → LinkOf N l → f l ≡ g l) → sum_of ls f ≡ sum_of ls g
sum_equal N ls o f g h = sum_of_eq ls f g (λ l i. h l (member_link N ls o l i))

-- each summand is at most b
pub sum_bounded : (N : ℕ) (ls : List Link) → all (link_ok N) ls ≡ true → (f : Link → ℕ) (b : ℕ) → ((l : Link) → LinkOf N l → f l ≤ b) → sum_of ls f ≤ length ls * b
sum_bounded N ls o f b h = sum_of_bound ls f b (λ l i. h l (member_link N ls o l i))
