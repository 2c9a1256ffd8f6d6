-- Laws that the proofs of src/repairing.rt cite: what each meter bears and what a meter hears of it, gathered link by link, and the channel on which it hears least. Assumes nothing.
use Prim.Native.Nat.{ℕ, ◌+◌, ◌-◌, ◌*◌, ◌≤◌, ◌<◌}
use mathlib.Core.Path.{◌≡◌, refl, sym, ap, ◌∙◌, subst}
use mathlib.Core.Bool.{true}
use mathlib.Core.List.{List, [], ◌∷◌, ◌++◌}
use lib.Dec.{leb}
use lib.ListN.{length, get_or, set, drop, length-set}
use lib.Seq.{drop-cons, drop-length}
use native.Mathlib.Omega.{arith}
use borrow.Author.Tests.{leb-true}
use native.Mathlib.Numerals.{add-one}
use native.Mathlib.Nat.{mul-le-mul_right, mul-zero, zero-mul, one-mul, zero-add, add-zero}
use Rattle.lists.specs.Tests.{all}
use Rattle.lists.specs.Sums.{sum_of, least_at, same, nth}
use Rattle.lists.proofs.Tests.{equal, other, equal?, all_head, all_tail}
use Rattle.lists.proofs.Sums.{same_yes, same_no, same_le, nth_index, times_bit, least_at_eq, least_at_one, least_at_new, least_at_old}
use Rattle.lists.proofs.Stores.{added_same}
use Rattle.lists.proofs.Walks.{sum_past}
use Rattle.links.specs.Links.{link_ok, nothing, link_in}
use Rattle.links.specs.declared.Link.{Link}
use Rattle.links.specs.Survey.{LinkOf}
use Rattle.links.proofs.Altered.{link_of}
use Rattle.qubo.specs.Formula.{Assignment}
use Rattle.onehot.proofs.Parts.{part_of}
use Rattle.onehot.proofs.Turns.{cut_length, cut_at}
use Rattle.channels.specs.Repair.{bears, heard, quietest}
use Rattle.channels.proofs.Halves.{Halves, upward, upward_yes, upward_no, lower_at, upward_second, parts_few, TurnAt}
use Rattle.channels.proofs.Repaired.{bears_low, bears_high}

-- ---- add_borne: w added for each channel that meter m bears

-- at the channels 1..n, and no place gains more than w
abbrev pub BorneAdded : ℕ → List ℕ → List ℕ → ℕ → ℕ → List ℕ → List ℕ → Type 0
BorneAdded n x p m w s t = (length t ≡ 256) × ((i : ℕ) → 1 ≤ i → i ≤ n → get_or t i 0 ≡ get_or s i 0 + w * bears n x p m i) × ((i : ℕ) → get_or t i 0 ≤ get_or s i 0 + w)

-- the part of a meter is in the bits
pub meter_fits : (N n m : ℕ) (x : List ℕ) → Assignment (N * n) x → m ≤ N → m * n ≤ length x
meter_fits N n m x a h = rw a.size (mul-le-mul_right n h)

module _ (n : ℕ) (x p : List ℕ) (m w : ℕ) (s t : List ℕ) (size : length s ≡ 256) (m1 : 1 ≤ m) where
  -- a meter whose channel is in the plan
  pub borne_low : m ≤ length p → get_or p (m - 1) 0 < 256 → t ≡ set s (get_or p (m - 1) 0) (get_or s (get_or p (m - 1) 0) 0 + w) → BorneAdded n x p m w s t
  borne_low h l e = (
    rw (e, length-set) size,
    λ i a b. rw (bears_low n x p m i h, nth_index p m m1) (at i),
    λ i. omega (arith, at i, times_bit w (same (get_or p (m - 1) 0) i) (same_le (get_or p (m - 1) 0) i)),
  )
    where
      at : (i : ℕ) → get_or t i 0 ≡ get_or s i 0 + w * same (get_or p (m - 1) 0) i
      at = added_same s t (get_or p (m - 1) 0) w e (omega arith)

  -- a later one, by its part of the bits
  pub borne_high : length p < m → m * n ≤ length x → length t ≡ length s → ((i : ℕ) → 1 ≤ i → i ≤ length (part_of n (m - 1) x) → get_or t i 0 ≡ get_or s i 0 + w * nth (part_of n (m - 1) x) i) → ((i : ℕ) → get_or t i 0 ≤ get_or s i 0 + w) → BorneAdded n x p m w s t
  borne_high h fits e at most = (
    omega arith,
    λ i a b. rw (bears_high n x p m i h, ← cut_at n m x m1 fits i a b) (at i a (omega (arith, cut_length n m x m1 fits))),
    most,
  )

-- ---- quietest_at: what meter m hears on each channel, link by link

-- what a link adds on channel i, where b says what a meter bears
pub hears : (ℕ → ℕ → ℕ) → ℕ → ℕ → Link → ℕ
hears b m i l = l.weight * (same l.u m * b l.v i + same l.v m * b l.u i)

-- of a link from m up, of one from m down, and of one of other meters
module _ (b : ℕ → ℕ → ℕ) (m i : ℕ) (l : Link) where
  hears_up : l.u < l.v → l.u ≡ m → l.weight * b l.v i ≡ hears b m i l
  unfolding hears
  hears_up o e = rw (same_yes l.u m e, same_no l.v m (λ d. omega arith), one-mul, zero-mul, add-zero) refl

  hears_down : (l.u ≡ m → ⊥) → l.v ≡ m → l.weight * b l.u i ≡ hears b m i l
  unfolding hears
  hears_down e d = rw (same_no l.u m e, same_yes l.v m d, one-mul, zero-mul, zero-add) refl

  hears_none : (l.u ≡ m → ⊥) → (l.v ≡ m → ⊥) → 0 ≡ hears b m i l
  unfolding hears
  hears_none e d = rw (same_no l.u m e, same_no l.v m d, zero-mul (b l.v i), zero-mul (b l.u i), mul-zero) refl

-- the links of `rest` whose lower end is above m are not heard
hears_upward : (N : ℕ) (b : ℕ → ℕ → ℕ) (m i : ℕ) (rest : List Link) → all (link_ok N) rest ≡ true → all (λ l. leb m l.u) rest ≡ true → sum_of (upward m rest) (hears b m i) ≡ sum_of rest (hears b m i)
unfolding upward sum_of
hears_upward N b m i [] o e = refl
hears_upward N b m i (l ∷ rest) o e =
    let low : m ≤ l.u = leb-true m l.u (all_head (λ x. leb m x.u) l rest e) in
    let more = hears_upward N b m i rest (all_tail (link_ok N) l rest o) (all_tail (λ x. leb m x.u) l rest e) in
    elim (equal? l.u m) [
      | equal d ↦ rw (upward_yes m l rest d) (ap (λ t. hears b m i l + t) more)
      | other d ↦ rw (upward_no m l rest d) (omega (arith, more, hears_none b m i l d (λ q. omega (arith, low, (link_of N l (all_head (link_ok N) l rest o)).ordered))))
    ]

-- a sum whose last part is another list with the same sum
sum_last : (f : Link → ℕ) (xs ys zs : List Link) → sum_of ys f ≡ sum_of zs f → sum_of (xs ++ ys) f ≡ sum_of (xs ++ zs) f
unfolding sum_of
sum_last f [] ys zs h = h
sum_last f (x ∷ xs) ys zs h = ap (λ t. f x + t) (sum_last f xs ys zs h)

-- in place i stands what m hears on channel i of the links but those of `rest`, and no place holds much while some are left
pub record HeardBut (n : ℕ) (x p : List ℕ) (ls : List Link) (m : ℕ) (rest : List Link) (sums : List ℕ) : Type 0 where
  pub size : length sums ≡ 256
  pub small : (i : ℕ) → get_or sums i 0 + 65535 * length rest ≤ 16776960
  pub so_far : (i : ℕ) → 1 ≤ i → i ≤ n → get_or sums i 0 + sum_of rest (hears (bears n x p) m i) ≡ sum_of ls (hears (bears n x p) m i)

-- a turn: the link l, which is the first of the rest
module _ (N n : ℕ) (x p : List ℕ) (ls : List Link) (m : ℕ) (l : Link) (o : LinkOf N l) (rest : List Link) (s : List ℕ) (g : HeardBut n x p ls m (l ∷ rest) s) where
  module _ (t : List ℕ) where
    -- for an end whose channels are what m hears of the link
    added : (e : ℕ) → BorneAdded n x p e l.weight s t → ((i : ℕ) → l.weight * bears n x p e i ≡ hears (bears n x p) m i l) → HeardBut n x p ls m rest t
    unfolding sum_of
    added e b d = record {
      size = b.0;
      small = λ i. omega (arith, b.2 i, g.small i, o.weight_high);
      so_far = λ i y z. omega (arith, b.1 i y z, g.so_far i y z, d i);
    }

    -- a link from m up, one from m down, and one of other meters
    heard_up : l.u ≡ m → BorneAdded n x p l.v l.weight s t → HeardBut n x p ls m rest t
    heard_up e b = added l.v b (λ i. hears_up (bears n x p) m i l o.ordered e)

    heard_down : (l.u ≡ m → ⊥) → l.v ≡ m → BorneAdded n x p l.u l.weight s t → HeardBut n x p ls m rest t
    heard_down e d b = added l.u b (λ i. hears_down (bears n x p) m i l e d)

  heard_none : (l.u ≡ m → ⊥) → (l.v ≡ m → ⊥) → HeardBut n x p ls m rest s
  unfolding sum_of
  heard_none e d = record {
    size = g.size;
    small = λ i. omega (arith, g.small i);
    so_far = λ i a b. omega (arith, g.so_far i a b, hears_none (bears n x p) m i l e d);
  }

-- ---- its two loops

-- the links of lower neighbours before k are done
abbrev pub HeardLower : ℕ → List ℕ → List ℕ → List Link → ℕ → List Link → ℕ → List ℕ → Type 0
HeardLower n x p ls m lower k s = HeardBut n x p ls m (drop k lower ++ upward m ls) s

-- and all of these, and those of higher neighbours before k
abbrev pub HeardUpper : ℕ → List ℕ → List ℕ → List Link → ℕ → ℕ → List ℕ → Type 0
HeardUpper n x p ls m k s = HeardBut n x p ls m (drop k (upward m ls)) s

module _ (N n : ℕ) (x p : List ℕ) (m : ℕ) (ls lower upper : List Link) (parts : Halves N m ls lower upper) where
  heard_all : (i : ℕ) → sum_of (lower ++ upward m ls) (hears (bears n x p) m i) ≡ sum_of ls (hears (bears n x p) m i)
  heard_all i =
      let f = hears (bears n x p) m i in
      sum_last f lower (upward m ls) upper (ap (λ (r : List Link). sum_of r f) (upward_second N m ls lower upper parts) ∙ hears_upward N (bears n x p) m i upper parts.upper_ok parts.upper_ends)
      ∙ ap (λ (r : List Link). sum_of r f) parts.whole

  pub lower_start : (s : List ℕ) → length s ≡ 256 → ((i : ℕ) → get_or s i 0 ≡ 0) → HeardLower n x p ls m lower 0 s
  lower_start s e z = record {
    size = e;
    small = λ i. omega (arith, z i, parts_few N m ls lower upper parts);
    so_far = λ i a b. omega (arith, z i, heard_all i);
  }

  module _ (k : ℕ) (s : List ℕ) (g : HeardLower n x p ls m lower k s) where
    -- all of them are done
    pub lower_end : k ≡ length lower → HeardUpper n x p ls m 0 s
    lower_end e = subst (λ (r : List Link). HeardBut n x p ls m r s) (ap (λ (j : ℕ). drop j lower ++ upward m ls) e ∙ ap (λ (r : List Link). r ++ upward m ls) (drop-length lower)) g

    module _ (h : k < length lower) where
      lower_open : HeardBut n x p ls m (link_in lower k ∷ (drop (k + 1) lower ++ upward m ls)) s
      lower_open = subst (λ (r : List Link). HeardBut n x p ls m r s) (ap (λ (r : List Link). r ++ upward m ls) (drop-cons lower k nothing h) ∙ rw add-one refl) g

      link : LinkOf N (link_in lower k)
      link = (lower_at N m ls lower upper parts k h).0

      other_end : (link_in lower k).u ≡ m → ⊥
      other_end e = omega (arith, (lower_at N m ls lower upper parts k h).1)

      pub lower_meter : (1 ≤ (link_in lower k).u) × ((link_in lower k).u ≤ N)
      lower_meter = (link.u_low, omega (arith, link.ordered, link.v_high))

      pub lower_turn : (t : List ℕ) → (link_in lower k).v ≡ m → BorneAdded n x p (link_in lower k).u (link_in lower k).weight s t → HeardLower n x p ls m lower (k + 1) t
      lower_turn t = heard_down N n x p ls m (link_in lower k) link (drop (k + 1) lower ++ upward m ls) s lower_open t other_end

      pub lower_skip : ((link_in lower k).v ≡ m → ⊥) → HeardLower n x p ls m lower (k + 1) s
      lower_skip = heard_none N n x p ls m (link_in lower k) link (drop (k + 1) lower ++ upward m ls) s lower_open other_end

module _ (n : ℕ) (x p : List ℕ) (m : ℕ) (ls : List Link) (k : ℕ) (s : List ℕ) (g : HeardUpper n x p ls m k s) where
  -- a turn, at the link l
  pub upper_turn : (N : ℕ) (l : Link) → TurnAt N m ls k l → (t : List ℕ) → BorneAdded n x p l.v l.weight s t → HeardUpper n x p ls m (k + 1) t
  upper_turn N l a t =
      heard_up N n x p ls m l a.link (drop (k + 1) (upward m ls)) s (rw (← a.here) (subst (λ (r : List Link). HeardBut n x p ls m r s) (drop-cons (upward m ls) k nothing a.inside ∙ rw add-one refl) g)) t a.low

  pub upper_end : k ≡ length (upward m ls) → (i : ℕ) → 1 ≤ i → i ≤ n → get_or s i 0 ≡ heard ls (bears n x p) m i
  unfolding heard hears
  upper_end e i a b = omega (arith, g.so_far i a b, sum_past (hears (bears n x p) m i) (upward m ls) k e)

-- ---- least_sum: the place of 1..i whose sum is least

pub least_of : List ℕ → ℕ → ℕ
least_of sums i = least_at i (λ j. get_or sums j 0)

module _ (sums : List ℕ) where
  pub least_start : 1 ≡ least_of sums 1
  unfolding least_of
  least_start = sym (least_at_one (λ j. get_or sums j 0))

  -- the sum at the next place is less, or it is not; and at the end
  module _ (best next : ℕ) (low : 1 ≤ next) (e : best ≡ least_of sums (next - 1)) where
    here : next - 1 + 1 ≡ next
    here = omega arith

    more : next + 1 - 1 ≡ next
    more = omega arith

    pub least_new : get_or sums next 0 < get_or sums best 0 → next ≡ least_of sums (next + 1 - 1)
    unfolding least_of
    least_new h = rw more (rw here at (least_at_new (λ j. get_or sums j 0) (next - 1) best e (rw here h)))

    pub least_old : get_or sums best 0 ≤ get_or sums next 0 → best ≡ least_of sums (next + 1 - 1)
    unfolding least_of
    least_old h = rw more (rw here at (least_at_old (λ j. get_or sums j 0) (next - 1) best e (rw here h)))

  pub least_end : (best i n : ℕ) → best ≡ least_of sums i → i ≡ n → best ≡ least_at n (λ j. get_or sums j 0)
  unfolding least_of
  least_end best i n e d = rw (← d) e

-- ---- and the channel with the least of the sums

pub quietest_is : (n : ℕ) (ls : List Link) (x p : List ℕ) (m : ℕ) (sum : ℕ → ℕ) (r : ℕ) → 1 ≤ n → ((i : ℕ) → 1 ≤ i → i ≤ n → sum i ≡ heard ls (bears n x p) m i) → r ≡ least_at n sum → r ≡ quietest n ls x p m
unfolding quietest
quietest_is n ls x p m sum r h e d = d ∙ least_at_eq n sum (heard ls (bears n x p) m) (λ i a b. e i a (omega arith))
