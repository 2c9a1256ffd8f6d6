-- A survey's links as a graph: the facts of their ends, whatever their weights are. Assumes nothing.
use Rattle.std.proofs.Common.{ℕ, zero, suc, ◌<◌, ◌≡◌, true, List, [], ◌∷◌, length, arith, refl, le-leb, lt-ltb, leb-true, ltb-true}
use mathlib.Core.List.{Memᴰ}
use Rattle.lists.specs.Tests.{every, all}
use Rattle.lists.proofs.Tests.{every_at, all_head, all_tail, all_cons, all_member}
use Rattle.links.specs.Links.{link_ok, edge_ok, link_in}
use Rattle.links.specs.Survey.{LinkOf, IsSurvey, EdgeOf, IsGraph}
use Rattle.links.specs.declared.Link.{Link}
use Rattle.links.proofs.Altered.{link_of}

-- the test of a link's ends gives their facts
pub edge_of : (N : ℕ) (l : Link) → edge_ok N l ≡ true → EdgeOf N l
unfolding edge_ok
edge_of N l e = record { u_low = leb-true 1 l.u (every_at _ 0 e); ordered = ltb-true l.u l.v (every_at _ 1 e); v_high = leb-true l.v N (every_at _ 2 e) }

-- the facts of a link are those of its ends too
pub edge_of_link : (N : ℕ) (l : Link) → LinkOf N l → EdgeOf N l
edge_of_link N l o = record { u_low = o.u_low; ordered = o.ordered; v_high = o.v_high }

-- the facts of the ends of the link at an index
pub edge_at : (N : ℕ) (ls : List Link) → all (edge_ok N) ls ≡ true → (k : ℕ) → k < length ls → EdgeOf N (link_in ls k)
edge_at N [] e k h = absurd (omega arith)
edge_at N (l ∷ ls) e zero h = edge_of N l (all_head (edge_ok N) l ls e)
edge_at N (l ∷ ls) e (suc k) h = edge_at N ls (all_tail (edge_ok N) l ls e) k (omega arith)

-- those of the ends of any link among them
pub edge_in : (N : ℕ) (ls : List Link) → all (edge_ok N) ls ≡ true → (l : Link) → Memᴰ l ls → EdgeOf N l
edge_in N ls e l i = edge_of N l (all_member (edge_ok N) ls e l i)

-- links that are as they should be have such ends
pub edges : (N : ℕ) (ls : List Link) → all (link_ok N) ls ≡ true → all (edge_ok N) ls ≡ true
unfolding edge_ok all every
edges N [] e = refl
edges N (l ∷ ls) e =
    let o = link_of N l (all_head (link_ok N) l ls e) in
    all_cons (edge_ok N) l ls (rw (le-leb 1 l.u o.u_low, lt-ltb l.u l.v o.ordered, le-leb l.v N o.v_high) refl) (edges N ls (all_tail (link_ok N) l ls e))

-- a survey is one
pub graph_of : (N : ℕ) (ls : List Link) → IsSurvey N ls → IsGraph N ls
graph_of N ls s = record { few_meters = s.meters_high; few = s.few; each = edges N ls s.each; rises = s.rises }
