-- The lower ends of a survey's links rise, so where those below a meter end is found by halving. Assumes nothing.
use Rattle.std.proofs.Common.{ℕ, zero, suc, ◌≤◌, ◌<◌, ◌≡◌, Bool, true, List, [], ◌∷◌, length, get_or, take, drop, arith, refl, subst}
use Rattle.std.specs.List.Sorted.{IsNonDecreasingBy}
use Rattle.std.proofs.lemmas.List.{get_or_default}
use Rattle.lists.specs.Tests.{all}
use Rattle.lists.proofs.Tests.{and_left, and_right, and_both}
use Rattle.links.specs.Links.{before, ascending_from, ascending, link_in}
use Rattle.links.specs.declared.Link.{Link}
use Rattle.links.proofs.Order.{Before, less, tied, before_true}
use Rattle.links.proofs.Altered.{rises_ascends}

-- ---- the lower ends rise

before_low : {a b c d : ℕ} → Before a b c d → a ≤ c
before_low (less h) = omega arith
before_low (tied e h) = omega arith

-- links that rise from (a, b) on have lower ends of at least a
from_low : (a b : ℕ) (ls : List Link) → ascending_from a b ls ≡ true → (k : ℕ) → k < length ls → a ≤ (link_in ls k).u
unfolding ascending_from
from_low a b [] e k h = absurd (omega arith)
from_low a b (l ∷ ls) e zero h = before_low (before_true a b l.u l.v (and_left (before a b l.u l.v) _ e))
from_low a b (l ∷ ls) e (suc k) h = omega (arith, from_low l.u l.v ls (and_right (before a b l.u l.v) _ e) k (omega arith), before_low (before_true a b l.u l.v (and_left (before a b l.u l.v) _ e)))

pub lower_ends_rise : (ls : List Link) → ascending ls ≡ true → IsNonDecreasingBy (λ l. l.u) ls
unfolding ascending
lower_ends_rise [] e i j d p q = absurd (omega arith)
lower_ends_rise (l ∷ ls) e zero zero d p q = omega arith
lower_ends_rise (l ∷ ls) e zero (suc j) d p q = subst (λ (x : Link). l.u ≤ x.u) (get_or_default ls j _ d (omega arith)) (from_low l.u l.v ls e j (omega arith))
lower_ends_rise (l ∷ ls) e (suc i) zero d p q = absurd (omega arith)
lower_ends_rise (l ∷ ls) e (suc i) (suc j) d p q = lower_ends_rise ls (rises_ascends l.u l.v ls e) i j d (omega arith) (omega arith)

-- ---- tests of a front and of the rest, from those of each entry

pub all_front : (p : Link → Bool) (ls : List Link) (i : ℕ) → ((k : ℕ) (d : Link) → k < i → k < length ls → p (get_or ls k d) ≡ true) → all p (take i ls) ≡ true
unfolding all
all_front p ls zero h = refl
all_front p [] (suc i) h = refl
all_front p (l ∷ ls) (suc i) h = and_both (p l) _ (h 0 l (omega arith) (omega arith)) (all_front p ls i (λ k d a b. h (suc k) d (omega arith) (omega arith)))

pub all_rest : (p : Link → Bool) (ls : List Link) (i : ℕ) → ((k : ℕ) (d : Link) → i ≤ k → k < length ls → p (get_or ls k d) ≡ true) → all p (drop i ls) ≡ true
unfolding all
all_rest p [] zero h = refl
all_rest p [] (suc i) h = refl
all_rest p (l ∷ ls) zero h = and_both (p l) _ (h 0 l (omega arith) (omega arith)) (all_rest p ls zero (λ k d a b. h (suc k) d (omega arith) (omega arith)))
all_rest p (l ∷ ls) (suc i) h = all_rest p ls i (λ k d a b. h (suc k) d (omega arith) (omega arith))
