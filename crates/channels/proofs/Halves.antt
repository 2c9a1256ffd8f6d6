-- The links whose lower end is below a meter and the others, of which those from that meter up stand first: what a loop over either may rely on. Assumes nothing.
use Prim.Native.Nat.{ℕ, zero, suc, ◌≤◌, ◌<◌}
use mathlib.Core.Path.{◌≡◌, refl, sym, ap, ◌∙◌, subst}
use mathlib.Core.Bool.{Bool, true, false, not}
use mathlib.Core.List.{List, [], ◌∷◌, ◌++◌}
use lib.Dec.{eqb, leb, ltb}
use lib.ListN.{length, get_or, take, length-append}
use native.Mathlib.Numerals.{one-add}
use native.Mathlib.Omega.{arith}
use borrow.Author.Tests.{eq-eqb, ne_eqb, leb-true, ltb-true}
use denote.Param.Members.{Mut}
use denote.Ref.{Bor}
use Rattle.std.specs.Prelude.{Option, Some}
use Rattle.std.specs.Iterator.{Yields}
use Rattle.std.specs.List.{filter, prefix_len}
use Rattle.std.specs.Fn.{CalledAt}
use Rattle.std.specs.Iterator.Adapters.{take_while_source, take_while_callee, take_while_done, take_while_steps}
use Rattle.std.specs.Slice.Iter.{iter_rest}
use Rattle.std.proofs.iter.Yields.{fronts}
use Rattle.std.proofs.lemmas.Iterator.{YieldsList, YieldsList-from_slice}
use Rattle.std.proofs.lemmas.Iterator.Consumers.{YieldsList-at, YieldsList-turn}
use Rattle.std.proofs.lemmas.Iterator.Search.{YieldsList-from_take_while}
use Rattle.std.proofs.lemmas.List.{get_or_default}
use Rattle.std.proofs.lemmas.List.Elements.{filter-append}
use Rattle.std.proofs.lemmas.List.Filters.{length-filter_both}
use Rattle.lists.specs.Tests.{all}
use Rattle.lists.proofs.Tests.{equal, other, equal?, all_head, all_tail, all_cons}
use Rattle.links.specs.Links.{link_ok, ascending, nothing, link_in}
use Rattle.links.specs.declared.Link.{Link}
use Rattle.links.specs.declared.survey.Survey.{Survey}
use Rattle.links.specs.Survey.{LinkOf}
use Rattle.links.proofs.Altered.{link_of, rises_ascends}
use Rattle.links.proofs.Halving.{lower_ends_rise}
use Rattle.links.proofs.Walk.{link_at}

-- ---- tests of a list in two parts

module _ {A : Type 0} (p : A → Bool) where
  all_first : (xs ys : List A) → all p (xs ++ ys) ≡ true → all p xs ≡ true
  unfolding all
  all_first [] ys h = refl
  all_first (x ∷ xs) ys h = all_cons p x xs (all_head p x (xs ++ ys) h) (all_first xs ys (all_tail p x (xs ++ ys) h))

  all_second : (xs ys : List A) → all p (xs ++ ys) ≡ true → all p ys ≡ true
  all_second [] ys h = h
  all_second (x ∷ xs) ys h = all_second xs ys (all_tail p x (xs ++ ys) h)

  all_at : (xs : List A) (d : A) → all p xs ≡ true → (k : ℕ) → k < length xs → p (get_or xs k d) ≡ true
  all_at [] d e k h = absurd (omega arith)
  all_at (x ∷ xs) d e zero h = all_head p x xs e
  all_at (x ∷ xs) d e (suc k) h = all_at xs d (all_tail p x xs e) k (omega arith)

rises_second : (xs ys : List Link) → ascending (xs ++ ys) ≡ true → ascending ys ≡ true
unfolding ascending
rises_second [] ys h = h
rises_second (x ∷ xs) ys h = rises_second xs ys (rises_ascends x.u x.v (xs ++ ys) h)

-- what holds of the first link and of the others holds of each
at_head : (P : Link → Type 0) (l : Link) (ls : List Link) → P l → ((k : ℕ) → k < length ls → P (link_in ls k)) → (k : ℕ) → k < length (l ∷ ls) → P (link_in (l ∷ ls) k)
at_head P l ls p q zero h = p
at_head P l ls p q (suc k) h = q k (omega arith)

-- ---- the links from meter m up

-- those whose lower end it is
unfoldable pub upward : ℕ → List Link → List Link
upward m ls = filter (λ l. eqb l.u m) ls

module _ (m : ℕ) where
  pub upward_yes : (l : Link) (ls : List Link) → l.u ≡ m → upward m (l ∷ ls) ≡ l ∷ upward m ls
  unfolding upward
  upward_yes l ls e = rw (eq-eqb l.u m e) refl

  pub upward_no : (l : Link) (ls : List Link) → (l.u ≡ m → ⊥) → upward m (l ∷ ls) ≡ upward m ls
  unfolding upward
  upward_no l ls n = rw (ne_eqb l.u m n) refl

  pub upward_few : (ls : List Link) → length (upward m ls) ≤ length ls
  unfolding upward
  upward_few ls = omega (arith, length-filter_both (λ l. eqb l.u m) (λ l. not (eqb l.u m)) (λ l. refl) ls)

  -- each is a link of the survey, and from m up
  pub upward_at : (N : ℕ) (ls : List Link) → all (link_ok N) ls ≡ true → (k : ℕ) → k < length (upward m ls) → LinkOf N (link_in (upward m ls) k) × ((link_in (upward m ls) k).u ≡ m)
  unfolding upward
  upward_at N [] o k h = absurd (omega arith)
  upward_at N (l ∷ ls) o k h =
      elim (equal? l.u m) [
        | equal e ↦ rw (upward_yes l ls e) (at_head (λ x. LinkOf N x × (x.u ≡ m)) l (upward m ls) (link_of N l (all_head (link_ok N) l ls o), e) (upward_at N ls (all_tail (link_ok N) l ls o)) k (rw (upward_yes l ls e) at h))
        | other n ↦ rw (upward_no l ls n) (upward_at N ls (all_tail (link_ok N) l ls o) k (rw (upward_no l ls n) at h))
      ]

  -- where no lower end is m there are none
  upward_none : (ls : List Link) → ((k : ℕ) → k < length ls → (link_in ls k).u ≡ m → ⊥) → upward m ls ≡ []
  unfolding upward
  upward_none [] n = refl
  upward_none (l ∷ ls) n = upward_no l ls (n 0 (omega arith)) ∙ upward_none ls (λ k h. n (suc k) (omega arith))

  -- where all are from m or a higher meter up, they stand first
  upward_first : (ls : List Link) → all (λ l. leb m l.u) ls ≡ true → ascending ls ≡ true → take (prefix_len (λ l. eqb l.u m) ls) ls ≡ upward m ls
  unfolding upward ascending
  upward_first [] a r = refl
  upward_first (l ∷ ls) a r =
      elim (equal? l.u m) [
        | equal e ↦ rw (eq-eqb l.u m e, one-add) (ap (λ (xs : List Link). l ∷ xs) (upward_first ls (all_tail (λ x. leb m x.u) l ls a) (rises_ascends l.u l.v ls r)))
        | other n ↦
            rw (ne_eqb l.u m n)
            (sym (upward_none ls (λ k h e. n (omega (arith, leb-true m l.u (all_head (λ x. leb m x.u) l ls a), lower_ends_rise (l ∷ ls) r 0 (suc k) nothing (omega arith) (omega arith))))))
      ]

-- the link of a turn of a loop over them, where k turns are done
pub record TurnAt (N m : ℕ) (ls : List Link) (k : ℕ) (l : Link) : Type 0 where
  pub inside : k < length (upward m ls)
  pub here : link_in (upward m ls) k ≡ l
  pub link : LinkOf N l
  pub low : l.u ≡ m

-- which the iterator's next step gives
pub turn_at : {S : Type 0} {steps : S → Option (Bor Link) → S → Type 0} {s t u : S} {r : Option (Bor Link)} {x : Bor Link} (N m : ℕ) (ls : List Link) (xs : List (Bor Link))
    → all (link_ok N) ls ≡ true → YieldsList steps (λ y. y.now) s (upward m ls) → Yields steps s xs t → r ≡ Some x → steps t r u → TurnAt N m ls (length xs) x.now
turn_at {x = x} N m ls xs o road yielded is step =
    let e = YieldsList-turn road _ _ yielded _ _ _ is step in
    let q : link_in (upward m ls) (length xs) ≡ x.now = get_or_default (upward m ls) (length xs) nothing x.now e.0 ∙ sym e.1 in
    let f = upward_at m N ls o (length xs) e.0 in
    record { inside = e.0; here = q; link = subst (LinkOf N) q f.0; low = ap (λ (l : Link). l.u) (sym q) ∙ f.1 }

-- ---- the two parts of a survey's links

pub record Halves (N m : ℕ) (ls lower upper : List Link) : Type 0 where
  pub whole : lower ++ upper ≡ ls
  pub few : length ls ≤ 256
  pub lower_ok : all (link_ok N) lower ≡ true
  pub upper_ok : all (link_ok N) upper ≡ true
  pub lower_ends : all (λ l. ltb l.u m) lower ≡ true
  pub upper_ends : all (λ l. leb m l.u) upper ≡ true
  pub upper_rises : ascending upper ≡ true

pub halves : (s : Survey) (m : ℕ) (lower upper : List Link) → lower ++ upper ≡ s.links.now → all (λ l. ltb l.u m) lower ≡ true → all (λ l. leb m l.u) upper ≡ true → Halves s.meters m s.links.now lower upper
halves s m lower upper e a b = record {
  whole = e;
  few = s.few;
  lower_ok = all_first (link_ok s.meters) lower upper (rw e s.each);
  upper_ok = all_second (link_ok s.meters) lower upper (rw e s.each);
  lower_ends = a;
  upper_ends = b;
  upper_rises = rises_second lower upper (rw e s.rises);
}

module _ (N m : ℕ) (ls lower upper : List Link) (h : Halves N m ls lower upper) where
  -- a link of the first part
  pub lower_at : (k : ℕ) → k < length lower → LinkOf N (link_in lower k) × ((link_in lower k).u < m)
  lower_at k l = (link_at N lower h.lower_ok k l, ltb-true (link_in lower k).u m (all_at (λ x. ltb x.u m) lower nothing h.lower_ends k l))

  -- the links from m up are in the second part, and first in it
  pub upward_second : upward m ls ≡ upward m upper
  unfolding upward
  upward_second =
      ap (upward m) (sym h.whole)
      ∙ filter-append (λ l. eqb l.u m) lower upper
      ∙ ap (λ (xs : List Link). xs ++ upward m upper) (upward_none m lower (λ k l e. omega (arith, (lower_at k l).1)))

  pub parts_few : length (lower ++ upward m ls) ≤ 256
  parts_few = omega (arith, length-append lower (upward m ls), ap length upward_second, upward_few m upper, length-append lower upper, ap length h.whole, h.few)

  -- so `take_while` gives them
  pub upward_yields : {F : Type 0} {s t : _} (g : Mut F (Bor (Bor Link) × Unit {0}) Bool) {f : F}
      → t ≡ s → iter_rest (take_while_source s) ≡ upper → take_while_callee s ≡ f → take_while_done s ≡ false → ((x : Bor Link) (b : Bool) (q : F) → CalledAt g f x b q → (q ≡ f) × (b ≡ eqb x.now.u m))
      → YieldsList (take_while_steps fronts g) (λ y. y.now) t (upward m ls)
  upward_yields g e r c d k =
      YieldsList-at e
      (subst (YieldsList _ _ _) (upward_first m upper h.upper_ends h.upper_rises ∙ sym upward_second)
      (YieldsList-from_take_while g (λ l. eqb l.u m) (YieldsList-from_slice upper r) c d k))
