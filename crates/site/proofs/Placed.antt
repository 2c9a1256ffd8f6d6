-- The place of a link in the chain: the chain split there, that the walk of the links finds it, and that the record at the place tells whether the link is there. Assumes nothing.
use Prim.Native.Nat.{ℕ, zero, suc, ◌≤◌}
use mathlib.Core.Bool.{Bool, true, false, ◌||◌, cond, false≢true}
use mathlib.Core.Path.{◌≡◌, refl, sym, ap, ◌∙◌, subst}
use mathlib.Core.List.{List, [], ◌∷◌, ◌++◌, map}
use lib.ListN.{length, length-append}
use borrow.Author.Tests.{ne_eqb}
use native.Mathlib.Omega.{arith}
use native.Mathlib.Nat.{not-suc-le-zero}
use Rattle.lists.specs.Tests.{all, any}
use Rattle.links.specs.Links.{before, has_ends, ascending_from, ascending, present}
use Rattle.links.specs.declared.Link.{Link}
use Rattle.lists.proofs.Tests.{and_left, and_right, and_both}
use Rattle.links.proofs.Order.{before_true, before_yes, before_trans, before_irrefl, before_else}
use Rattle.links.proofs.Altered.{ends_no, ends_not, rises_ascends, rises_sooner, rises_none, delete_length}
use Rattle.site.specs.Layout.{RECORDS, first, first_free, count, next, end_u, end_v}
use Rattle.site.specs.Image.{link_chain, free_chain, link_at, links, named, times, valid}
use Rattle.site.specs.Edits.{slot, after, goes_on, place_from, place}
use Rattle.site.specs.Inner.{last_before, is_link}
use Rattle.site.proofs.Chain.{Linked, named_low, named_high, linked_named, linked_once, times_cons, times_here, times_append, none_of, no_zero}
use Rattle.site.proofs.Walked.{named_no}
use Rattle.site.proofs.Valid.{Good, valid_good, apart, all_first, all_second, links_length}

-- ---- what follows a record

-- behind the header stands the first link
pub after_zero : (s : List ℕ) → after s 0 ≡ first s
unfolding after slot first
after_zero s = refl

-- behind a record stands its next
pub after_next : (s : List ℕ) (x : ℕ) → 1 ≤ x → after s x ≡ next s x
unfolding after slot next
after_next s x h = rw (ne_eqb x 0 (λ e. omega arith))

-- ---- one step of the search, and the look at one record
module _ (s : List ℕ) (a b : ℕ) where
  -- a number that names no record does not go on
  goes_out : (q : ℕ) → named q ≡ false → goes_on s a b q ≡ false
  unfolding goes_on
  goes_out q e = rw e

  -- a record goes on by its ends
  goes_by : (q : ℕ) (t : Bool) → named q ≡ true → t ≡ before (end_u s q) (end_v s q) a b → goes_on s a b q ≡ t
  unfolding goes_on
  goes_by q t e f = rw (e, f)

  -- where the record after p does not go on, the place is p
  place_stop : (f p : ℕ) → goes_on s a b (after s p) ≡ false → place_from s a b f p ≡ p
  unfolding place_from
  place_stop zero p e = refl
  place_stop (suc f) p e = rw e

  -- where it does, the search goes on from it
  place_go : (f p : ℕ) → goes_on s a b (after s p) ≡ true → place_from s a b (suc f) p ≡ place_from s a b f (after s p)
  unfolding place_from
  place_go f p e = rw e

  -- a number that names no record holds no link
  pub no_link : (q : ℕ) → named q ≡ false → is_link s a b q ≡ false
  unfolding is_link
  no_link q e = rw e

  -- a record holds the link with its ends
  pub link_by_ends : (q : ℕ) → named q ≡ true → is_link s a b q ≡ has_ends a b (link_at s q)
  unfolding is_link
  link_by_ends q e = rw e

-- ---- the chain split at the place: in front the records that stand before (a, b), and behind them one that does not

-- the last of p and the records of a list
unfoldable pub last_of : ℕ → List ℕ → ℕ
last_of p [] = p
last_of p (x ∷ A) = last_of x A

module _ (s : List ℕ) (a b : ℕ) where
  -- record x stands before (a, b)
  unfoldable pub stands : ℕ → Bool
  stands x = before (end_u s x) (end_v s x) a b

  -- a list's first record, if there is one, does not
  abbrev pub Stops : List ℕ → Type 0
  Stops [] = Unit {0}
  Stops (x ∷ B) = stands x ≡ false

  -- a list split there
  pub record Split (L : List ℕ) : Type 0 where
    pub front : List ℕ
    pub back : List ℕ
    pub joined : L ≡ front ++ back
    pub stand : all stands front ≡ true
    pub stops : Stops back

  -- every list can be
  pub split : (L : List ℕ) → Split L
  unfolding all
  split [] = record { front = []; back = []; joined = refl; stand = refl; stops = tt }
  split (x ∷ L) = go (stands x) refl (split L)
    where
      go : (t : Bool) → stands x ≡ t → Split L → Split (x ∷ L)
      go true q r = record { front = x ∷ r.front; back = r.back; joined = ap (λ (M : List ℕ). x ∷ M) r.joined; stand = and_both (stands x) _ q r.stand; stops = r.stops }
      go false q r = record { front = []; back = x ∷ L; joined = refl; stand = refl; stops = q }

  -- the search ends at the last record in front
  place_last : (A B : List ℕ) (f p : ℕ) → all stands A ≡ true → Stops B → Linked s (after s p) (A ++ B) → length A ≤ f → place_from s a b f p ≡ last_of p A
  unfolding all last_of stands
  place_last [] [] f p e t h l = place_stop s a b f p (goes_out s a b (after s p) (named_no (after s p) (omega (arith, h))))
  place_last [] (x ∷ B) f p e t h l = place_stop s a b f p (rw h.0 (goes_by s a b x false h.1 (sym t)))
  place_last (x ∷ A) B zero p e t h l = absurd (not-suc-le-zero l)
  place_last (x ∷ A) B (suc f) p e t h l =
      let n = sym (after_next s x (named_low x h.1)) in
      place_go s a b f p (rw h.0 (goes_by s a b x true h.1 (sym (and_left (stands x) _ e))))
      ∙ rw h.0 (place_last A B f x (and_right (stands x) _ e) t (subst (λ (k : ℕ). Linked s k (A ++ B)) n h.2) (omega arith))

  -- what stands before (a, b) does not have these ends
  pub stands_other : (x : ℕ) → stands x ≡ true → has_ends a b (link_at s x) ≡ false
  unfolding stands link_at
  stands_other x e = ends_no a b (link_at s x) (before_irrefl (before_true (end_u s x) (end_v s x) a b e))

  -- so the link is looked for behind
  present_back : (A B : List ℕ) → all stands A ≡ true → present a b (map (link_at s) (A ++ B)) ≡ present a b (map (link_at s) B)
  unfolding all present any
  present_back [] B e = refl
  present_back (x ∷ A) B e = rw (stands_other x (and_left (stands x) _ e)) (present_back A B (and_right (stands x) _ e))

-- ---- the chain behind the place
module _ (s : List ℕ) where
  -- follows the last record in front
  pub linked_back : (A B : List ℕ) (p : ℕ) → Linked s (after s p) (A ++ B) → Linked s (after s (last_of p A)) B
  unfolding last_of
  linked_back [] B p h = h
  linked_back (x ∷ A) B p h = linked_back A B x (subst (λ (k : ℕ). Linked s k (A ++ B)) (sym (after_next s x (named_low x h.1))) h.2)

  -- a chain that begins with the first link follows the header
  pub linked_first : (L : List ℕ) → Linked s (first s) L → Linked s (after s 0) L
  linked_first L h = subst (λ (k : ℕ). Linked s k L) (sym (after_zero s)) h

-- a rising list rises behind its front
rises_back : (f : ℕ → Link) (A B : List ℕ) → ascending (map f (A ++ B)) ≡ true → ascending (map f B) ≡ true
unfolding ascending
rises_back f [] B e = e
rises_back f (x ∷ A) B e = rises_back f A B (rises_ascends (f x).u (f x).v (map f (A ++ B)) e)

-- ---- whether a link is there
module _ (s : List ℕ) (a b : ℕ) where
  -- the first record behind the place tells
  found : (B : List ℕ) (q : ℕ) → Stops s a b B → Linked s q B → ascending (map (link_at s) B) ≡ true → is_link s a b q ≡ present a b (map (link_at s) B)
  unfolding present any ascending stands link_at
  found [] q t h e = no_link s a b q (named_no q (omega (arith, h)))
  found (x ∷ B) q t h e = rw h.0 (link_by_ends s a b x h.1 ∙ go (has_ends a b (link_at s x)) refl)
    where
      go : (i : Bool) → has_ends a b (link_at s x) ≡ i → has_ends a b (link_at s x) ≡ (has_ends a b (link_at s x) || any (has_ends a b) (map (link_at s) B))
      go true c = rw c
      go false c =
          let k = before_else (end_u s x) (end_v s x) a b t (ends_not a b (link_at s x) c) in
          rw c (sym (rises_none a b (map (link_at s) B) (rises_sooner a b (end_u s x) (end_v s x) (map (link_at s) B) k e)))

-- ---- the walk that remembers the last record that stands before (a, b)
module _ (s : List ℕ) (a b : ℕ) where
  -- behind a record that does not, in rising order, none does
  stops_tail : (x : ℕ) (B : List ℕ) → stands s a b x ≡ false → ascending_from (end_u s x) (end_v s x) (map (link_at s) B) ≡ true → Stops s a b B
  unfolding ascending_from stands link_at
  stops_tail x [] t e = tt
  stops_tail x (y ∷ B) t e = go (stands s a b y) refl
    where
      go : (i : Bool) → stands s a b y ≡ i → stands s a b y ≡ false
      go false q = q
      go true q =
          let k = before_true (end_u s x) (end_v s x) (end_u s y) (end_v s y) (and_left (before (end_u s x) (end_v s x) (end_u s y) (end_v s y)) _ e) in
          absurd (false≢true (sym t ∙ before_yes (end_u s x) (end_v s x) a b (before_trans k (before_true (end_u s y) (end_v s y) a b q))))

  -- one step
  last_step : (c k x p : ℕ) (i : Bool) → k ≡ x → stands s a b x ≡ i → last_before s a b (suc c) k p ≡ last_before s a b c (next s x) (cond i x p)
  unfolding last_before stands
  last_step c k x p i h e = rw (h, ← e)

  last_back : (B : List ℕ) (k p : ℕ) → Stops s a b B → ascending (map (link_at s) B) ≡ true → Linked s k B → last_before s a b (length B) k p ≡ p
  unfolding last_before ascending link_at
  last_back [] k p t e h = refl
  last_back (x ∷ B) k p t e h = last_step (length B) k x p false h.0 t ∙ last_back B (next s x) p (stops_tail x B t e) (rises_ascends (end_u s x) (end_v s x) (map (link_at s) B) e) h.2

  -- it ends with the last record in front
  last_front : (A B : List ℕ) (k p : ℕ) → all (stands s a b) A ≡ true → Stops s a b B → ascending (map (link_at s) B) ≡ true → Linked s k (A ++ B) → last_before s a b (length (A ++ B)) k p ≡ last_of p A
  unfolding all last_of
  last_front [] B k p e t r h = last_back B k p t r h
  last_front (x ∷ A) B k p e t r h = last_step (length (A ++ B)) k x p true h.0 (and_left (stands s a b x) _ e) ∙ (last_front A B (next s x) x (and_right (stands s a b x) _ e) t r h.2)

-- ---- the last record of a list
last_high : (A : List ℕ) (p : ℕ) → all named A ≡ true → p ≤ RECORDS → last_of p A ≤ RECORDS
unfolding last_of all
last_high [] p e h = h
last_high (x ∷ A) p e h = last_high A x (and_right (named x) _ e) (named_high x (and_left (named x) _ e))

last_out : (M A : List ℕ) (p : ℕ) → times p M ≡ 0 → ((y : ℕ) → 1 ≤ times y A → times y M ≡ 0) → times (last_of p A) M ≡ 0
unfolding last_of
last_out M [] p h k = h
last_out M (x ∷ A) p h k = last_out M A x (k x (omega (arith, times_here x A))) (λ y i. k y (omega (arith, i, times_cons y x A)))

-- ---- the place in an image whose chain is split there
module _ (s : List ℕ) (a b : ℕ) (A B F : List ℕ) (g : Good s (A ++ B) F) (e : all (stands s a b) A ≡ true) (t : Stops s a b B) where
  -- it is the last record in front, 0 for none
  pub place_at : place s a b ≡ last_of 0 A
  unfolding place
  place_at = place_last s a b A B RECORDS 0 e t (linked_first s (A ++ B) g.links) (omega (arith, g.whole, length-append A B))

  -- it is followed by what stands behind
  pub place_linked : Linked s (after s (place s a b)) B
  place_linked = rw place_at (linked_back s A B 0 (linked_first s (A ++ B) g.links))

  place_last_before : last_before s a b (length (A ++ B)) (first s) 0 ≡ place s a b
  place_last_before = last_front s a b A B (first s) 0 e t (rises_back (link_at s) A B g.links_rise) g.links ∙ sym place_at

  place_tells : is_link s a b (after s (place s a b)) ≡ present a b (map (link_at s) (A ++ B))
  place_tells = found s a b B (after s (place s a b)) t place_linked (rises_back (link_at s) A B g.links_rise) ∙ sym (present_back s a b A B e)

  names : all named (A ++ B) ≡ true
  names = linked_named s (A ++ B) (first s) g.links

  -- it is a record or 0
  pub place_high : place s a b ≤ RECORDS
  place_high = rw place_at (last_high A 0 (all_first named A B names) (omega arith))

  -- it does not stand behind
  pub place_back : times (place s a b) B ≡ 0
  place_back = rw place_at (last_out B A 0 (no_zero B (all_second named A B names)) (λ y h. omega (arith, h, times_append y A B, linked_once s (A ++ B) (first s) y g.links)))

  -- it is not free
  pub place_free : times (place s a b) F ≡ 0
  place_free = rw place_at (last_out F A 0 (no_zero F (linked_named s F (first_free s) g.frees)) (λ y h. none_of y F (apart s (A ++ B) F g y (omega (arith, h, times_append y A B)))))

-- ---- the place in a valid image
module _ (s : List ℕ) (a b : ℕ) (e : valid s ≡ true) where
  -- the link chain, split there
  pub valid_split : Split s a b (link_chain s)
  valid_split = split s a b (link_chain s)

  -- and the image with it
  pub split_good : Good s (valid_split.front ++ valid_split.back) (free_chain s)
  split_good = subst (λ (L : List ℕ). Good s L (free_chain s)) valid_split.joined (valid_good s e)

  -- the record at the place of (a, b) tells whether the link is there
  pub place_shows : is_link s a b (after s (place s a b)) ≡ present a b (links s)
  unfolding links
  place_shows = rw valid_split.joined (place_tells s a b valid_split.front valid_split.back (free_chain s) split_good valid_split.stand valid_split.stops)

  -- where it is, that is one of the records
  pub present_named : present a b (links s) ≡ true → named (after s (place s a b)) ≡ true
  unfolding is_link
  present_named p = and_left (named (after s (place s a b))) _ (place_shows ∙ p)

  pub present_after : present a b (links s) ≡ true → after s (place s a b) ≤ RECORDS
  present_after p = named_high _ (present_named p)

  -- and the count has it
  pub present_counted : present a b (links s) ≡ true → 1 ≤ count s
  present_counted p = omega (arith, delete_length a b (links s) p, links_length s e, (valid_good s e).counted)

  -- the place is a record or 0
  pub place_fits : place s a b ≤ RECORDS
  place_fits = place_high s a b valid_split.front valid_split.back (free_chain s) split_good valid_split.stand valid_split.stops

  -- the walk finds it
  pub place_walked : (c : ℕ) → c ≡ length (link_chain s) → last_before s a b c (first s) 0 ≡ place s a b
  place_walked c q = rw (q, valid_split.joined) (place_last_before s a b valid_split.front valid_split.back (free_chain s) split_good valid_split.stand valid_split.stops)
