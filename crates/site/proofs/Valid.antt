-- The rules of an image, and the two walks that test them, say the same; and both say that the image has two chains as lists, `Good s L F`. Assumes nothing.
use Prim.Native.Nat.{ℕ, zero, suc, ◌+◌, ◌-◌, ◌≤◌}
use mathlib.Core.Bool.{Bool, true, ◌&&◌}
use mathlib.Core.Path.{◌≡◌, refl, sym, ap, ap₂, ◌∙◌}
use mathlib.Core.List.{List, [], ◌∷◌, ◌++◌, map}
use lib.ListN.{length, get_or, length-append, length-map}
use lib.Dec.{leb, eqb}
use borrow.Author.Tests.{le-leb, eq-eqb, ne_eqb, eqb-true, leb-true}
use native.Mathlib.Omega.{arith}
use Rattle.lists.specs.Tests.{every, all, from}
use Rattle.links.specs.Links.{link_ok, before, ascending_from, ascending}
use Rattle.links.specs.Survey.{IsSurvey}
use Rattle.lists.proofs.Tests.{and_left, and_right, and_both, same_test, every_at, all_head, all_tail, all_cons, all_append}
use Rattle.links.proofs.Altered.{ascending_from_zero, link_of}
use Rattle.site.specs.Layout.{SIZE, RECORDS, METERS, meters, first, first_free, count, end_u, end_v, next}
use Rattle.site.specs.Image.{link_chain, free_chain, link_at, links, zero_at, pad_zero, free_ok, named, times, once_in, rules, valid}
use Rattle.site.specs.Inner.{link_fits, walk_links, walk_free, head_ok, checks}
use Rattle.site.proofs.Chain.{named_low, Linked, linked_chain, chain_linked, linked_named, linked_head, linked_once, times_append, all_at, times_all, exact_length, length_exact}

-- ---- the walks as lists
module _ (s : List ℕ) where
  free_list : (c k : ℕ) → walk_free s c k ≡ true → (L : List ℕ) × (length L ≡ c) × Linked s k L × (all (free_ok s) L ≡ true)
  unfolding walk_free all
  free_list zero k e = ([], refl, eqb-true k 0 e, refl)
  free_list (suc c) k e =
      let x = and_left (named k) _ e in
      let y = and_right (named k) _ e in
      let t = free_list c (next s k) (and_right (free_ok s k) _ y) in
      (k ∷ t.0, ap suc t.1, (refl, x, t.2), all_cons (free_ok s) k t.0 (and_left (free_ok s k) _ y) t.3)

  list_free : (L : List ℕ) (k : ℕ) → Linked s k L → all (free_ok s) L ≡ true → walk_free s (length L) k ≡ true
  unfolding walk_free
  list_free [] k h e = eq-eqb k 0 h
  list_free (x ∷ L) k h e = rw (h.0, h.1, all_head (free_ok s) x L e, list_free L (next s x) h.2 (all_tail (free_ok s) x L e))

  module _ (n : ℕ) where
    link_list : (c k a b : ℕ) → walk_links s n c k a b ≡ true → (L : List ℕ) × (length L ≡ c) × Linked s k L × (all (link_ok n) (map (link_at s) L) ≡ true) × (all (pad_zero s) L ≡ true) × (ascending_from a b (map (link_at s) L) ≡ true)
    unfolding walk_links link_fits all ascending_from link_at
    link_list zero k a b e = ([], refl, eqb-true k 0 e, refl, refl, refl)
    link_list (suc c) k a b e =
        let w = walk_links s n c (next s k) (end_u s k) (end_v s k) in
        let p = before a b (end_u s k) (end_v s k) in
        let y = and_right (named k) (link_fits s n a b k && w) e in
        let f = and_left (link_fits s n a b k) w y in
        let z = and_right (link_ok n (link_at s k)) (pad_zero s k && p) f in
        let t = link_list c (next s k) (end_u s k) (end_v s k) (and_right (link_fits s n a b k) w y) in (
          k ∷ t.0,
          ap suc t.1,
          (refl, and_left (named k) _ e, t.2),
          and_both (link_ok n (link_at s k)) _ (and_left (link_ok n (link_at s k)) _ f) t.3,
          and_both (pad_zero s k) _ (and_left (pad_zero s k) _ z) t.4,
          and_both p _ (and_right (pad_zero s k) p z) t.5,
        )

    list_link : (L : List ℕ) (k a b : ℕ) → Linked s k L → all (link_ok n) (map (link_at s) L) ≡ true → all (pad_zero s) L ≡ true → ascending_from a b (map (link_at s) L) ≡ true → walk_links s n (length L) k a b ≡ true
    unfolding walk_links link_fits all ascending_from link_at
    list_link [] k a b h e z r = eq-eqb k 0 h
    list_link (x ∷ L) k a b h e z r =
        let p = before a b (end_u s x) (end_v s x) in
        rw (h.0, h.1, and_left (link_ok n (link_at s x)) _ e, and_left (pad_zero s x) _ z, and_left p _ r, list_link L (next s x) (end_u s x) (end_v s x) h.2 (and_right (link_ok n (link_at s x)) _ e) (and_right (pad_zero s x) _ z) (and_right p _ r))

-- ---- an image with its chains

-- L is the link chain, F the free chain, and what the rules say holds of them
pub record Good (s L F : List ℕ) : Type 0 where
  pub long : length s ≡ SIZE
  pub head : head_ok s ≡ true
  pub links : Linked s (first s) L
  pub links_ok : all (link_ok (meters s)) (map (link_at s) L) ≡ true
  pub links_pad : all (pad_zero s) L ≡ true
  pub links_rise : ascending (map (link_at s) L) ≡ true
  pub counted : length L ≡ count s
  pub frees : Linked s (first_free s) F
  pub frees_ok : all (free_ok s) F ≡ true
  pub whole : length L + length F ≡ RECORDS

-- the first end of a free record is 0
pub free_u : (s : List ℕ) (k : ℕ) → free_ok s k ≡ true → end_u s k ≡ 0
unfolding free_ok
free_u s k e = eqb-true (end_u s k) 0 (every_at _ 0 e)

-- its zero bytes are zero
pub free_pad : (s : List ℕ) (k : ℕ) → free_ok s k ≡ true → pad_zero s k ≡ true
unfolding free_ok
free_pad s k e = every_at _ 3 e

-- ---- tests of records and of their links

-- a test of the links of records is a test of the records
pub all_map : {A : Type 0} (p : A → Bool) (f : ℕ → A) (L : List ℕ) → all p (map f L) ≡ all (λ k. p (f k)) L
unfolding all
all_map p f [] = refl
all_map p f (x ∷ L) = rw (all_map p f L)

module _ (p : ℕ → Bool) where
  -- what holds of two lists, one behind the other, holds of the first
  pub all_first : (A B : List ℕ) → all p (A ++ B) ≡ true → all p A ≡ true
  unfolding all
  all_first [] B e = refl
  all_first (x ∷ A) B e = and_both (p x) _ (and_left (p x) _ e) (all_first A B (and_right (p x) _ e))

  -- and of the second
  pub all_second : (A B : List ℕ) → all p (A ++ B) ≡ true → all p B ≡ true
  unfolding all
  all_second [] B e = e
  all_second (x ∷ A) B e = all_second A B (and_right (p x) _ e)

  -- what holds of every record holds of the records of a list
  all_named : (M : List ℕ) → all p (from 1 RECORDS) ≡ true → all named M ≡ true → all p M ≡ true
  unfolding all
  all_named [] e n = refl
  all_named (x ∷ M) e n =
      let h = and_left (named x) _ n in
      and_both (p x) _ (all_at p (from 1 RECORDS) x e (omega (arith, times_all x h))) (all_named M e (and_right (named x) _ n))

  -- what holds of a list holds of the numbers that stand in it once
  all_once : (M ks : List ℕ) → all (λ k. eqb (times k M) 1) ks ≡ true → all p M ≡ true → all p ks ≡ true
  unfolding all
  all_once M [] o e = refl
  all_once M (k ∷ ks) o e =
      let t = eqb-true (times k M) 1 (and_left (eqb (times k M) 1) _ o) in
      and_both (p k) _ (all_at p M k e (omega arith)) (all_once M ks (and_right (eqb (times k M) 1) _ o) e)

-- ---- the walks decide the rules
module _ (s : List ℕ) where
  -- the walks give the chains
  pub checks_good : checks s ≡ true → (L F : List ℕ) × Good s L F
  unfolding checks
  checks_good e =
      let e₁ = and_right (eqb (length s) SIZE) _ e in
      let e₂ = and_right (head_ok s) _ e₁ in
      let e₃ = and_right (leb (count s) RECORDS) _ e₂ in
      let w = walk_links s (meters s) (count s) (first s) 0 0 in
      let t = link_list s (meters s) (count s) (first s) 0 0 (and_left w _ e₃) in
      let f = free_list s (RECORDS - count s) (first_free s) (and_right w _ e₃) in
      let c = leb-true (count s) RECORDS (and_left (leb (count s) RECORDS) _ e₂) in (
        t.0,
        f.0,
        record {
          long = eqb-true (length s) SIZE (and_left (eqb (length s) SIZE) _ e);
          head = and_left (head_ok s) _ e₁;
          links = t.2;
          links_ok = t.3;
          links_pad = t.4;
          links_rise = sym (ascending_from_zero (meters s) (map (link_at s) t.0) t.3) ∙ t.5;
          counted = t.1;
          frees = f.2;
          frees_ok = f.3;
          whole = omega (arith, t.1, f.1);
        },
      )

  module _ (L F : List ℕ) (g : Good s L F) where
    -- the chains give the walks
    pub good_checks : checks s ≡ true
    unfolding checks
    good_checks =
        let c : count s ≡ length L = sym g.counted in
        let f : RECORDS - length L ≡ length F = omega (arith, g.whole) in
        let r = ascending_from_zero (meters s) (map (link_at s) L) g.links_ok ∙ g.links_rise in
        rw (eq-eqb _ _ g.long, g.head, c, le-leb (length L) RECORDS (omega (arith, g.whole)), list_link s (meters s) L (first s) 0 0 g.links g.links_ok g.links_pad r, f, list_free s F (first_free s) g.frees g.frees_ok)

    -- the first list is the link chain
    pub good_links : link_chain s ≡ L
    unfolding link_chain
    good_links = linked_chain s L (suc RECORDS) (first s) g.links (omega (arith, g.whole))

    -- the second list is the free chain
    pub good_frees : free_chain s ≡ F
    unfolding free_chain
    good_frees = linked_chain s F (suc RECORDS) (first_free s) g.frees (omega (arith, g.whole))

    -- a record of the link chain holds a link
    pub good_link : (k : ℕ) → 1 ≤ times k L → link_ok (meters s) (link_at s k) ≡ true
    good_link k h = all_at (λ j. link_ok (meters s) (link_at s j)) L k (sym (all_map (link_ok (meters s)) (link_at s) L) ∙ g.links_ok) h

    -- no record is in both chains
    pub apart : (k : ℕ) → 1 ≤ times k L → 1 ≤ times k F → ⊥
    unfolding link_at
    apart k h l =
        let a = link_of (meters s) (link_at s k) (good_link k h) in
        let b = free_u s k (all_at (free_ok s) F k g.frees_ok l) in
        omega (arith, a.u_low)

    at_most_once : (k : ℕ) → times k (L ++ F) ≤ 1
    at_most_once k = go (times k L) (times k F) (linked_once s L (first s) k g.links) (linked_once s F (first_free s) k g.frees) (apart k) (times_append k L F)
      where
        go : (x y : ℕ) → x ≤ 1 → y ≤ 1 → (1 ≤ x → 1 ≤ y → ⊥) → times k (L ++ F) ≡ x + y → times k (L ++ F) ≤ 1
        go zero y h l n e = omega arith
        go (suc x) zero h l n e = omega arith
        go (suc x) (suc y) h l n e = absurd (n (omega arith) (omega arith))

    good_named : all named (L ++ F) ≡ true
    good_named = all_append named L F (linked_named s L (first s) g.links) (linked_named s F (first_free s) g.frees)

    good_exact : all (λ k. eqb (times k (L ++ F)) 1) (from 1 RECORDS) ≡ true
    good_exact = length_exact (L ++ F) good_named at_most_once (length-append L F ∙ g.whole)

    good_once : all (once_in s) (from 1 RECORDS) ≡ true
    unfolding once_in
    good_once = ap₂ (λ (A B : List ℕ). all (λ k. eqb (times k (A ++ B)) 1) (from 1 RECORDS)) good_links good_frees ∙ good_exact

    frees_pad : (M : List ℕ) → all (free_ok s) M ≡ true → all (pad_zero s) M ≡ true
    unfolding all
    frees_pad [] e = refl
    frees_pad (x ∷ M) e = and_both (pad_zero s x) _ (free_pad s x (and_left (free_ok s x) _ e)) (frees_pad M (and_right (free_ok s x) _ e))

    good_pad : all (pad_zero s) (from 1 RECORDS) ≡ true
    good_pad = all_once (pad_zero s) (L ++ F) (from 1 RECORDS) good_exact (all_append (pad_zero s) L F g.links_pad (frees_pad F g.frees_ok))

    -- the zero bytes of every record are zero
    pub good_pads : (k : ℕ) → named k ≡ true → pad_zero s k ≡ true
    good_pads k n = all_at (pad_zero s) (from 1 RECORDS) k good_pad (omega (arith, times_all k n))

    -- and the image is valid
    pub good_valid : valid s ≡ true
    unfolding valid rules every head_ok links
    good_valid =
        let z = all (zero_at s) (1 ∷ from 8 8) in
        rw (good_links, good_frees, eq-eqb _ _ g.long, good_named, and_left z _ g.head, good_pad, and_right z _ g.head, g.links_ok, g.links_rise, eq-eqb _ _ g.counted, good_once, g.frees_ok)

  -- a valid image has its chains
  pub valid_good : valid s ≡ true → Good s (link_chain s) (free_chain s)
  unfolding valid rules head_ok link_chain free_chain links once_in
  valid_good e =
      let L = link_chain s in
      let F = free_chain s in
      let at : (i : ℕ) → get_or (rules s) i true ≡ true = λ i. every_at (rules s) i e in
      let nL = all_first named L F (at 1) in
      let n_f = all_second named L F (at 1) in
      let w : length L + length F ≡ RECORDS = sym (length-append L F) ∙ exact_length (L ++ F) (at 1) (at 8) in
      record {
        long = eqb-true (length s) SIZE (at 0);
        head = and_both (all (zero_at s) (1 ∷ from 8 8)) _ (at 2) (at 4);
        links = chain_linked s (suc RECORDS) (first s) nL (omega arith);
        links_ok = at 5;
        links_pad = all_named (pad_zero s) L (at 3) nL;
        links_rise = at 6;
        counted = eqb-true (length L) (count s) (at 7);
        frees = chain_linked s (suc RECORDS) (first_free s) n_f (omega arith);
        frees_ok = at 9;
        whole = w;
      }

  -- the code's two walks decide the rules
  pub valid_checks : valid s ≡ checks s
  valid_checks = same_test (valid s) (checks s) (λ e. good_checks (link_chain s) (free_chain s) (valid_good e)) (λ e. let t = checks_good e in good_valid t.0 t.1 t.2)

-- ---- what the code needs of a valid image
module _ (s : List ℕ) (e : valid s ≡ true) where
  -- it is 2,064 bytes long
  pub valid_long : length s ≡ SIZE
  valid_long = (valid_good s e).long

  -- its first free record is a record, or 0
  pub valid_free : first_free s ≤ RECORDS
  valid_free = linked_head s (free_chain s) (first_free s) (valid_good s e).frees

  -- its count is at most 256
  pub valid_count : count s ≤ RECORDS
  valid_count = let g = valid_good s e in omega (arith, g.whole, g.counted)

  -- ---- what the kinds need of it

  -- it has as many links as records in its link chain
  pub links_length : length (links s) ≡ length (link_chain s)
  unfolding links
  links_length = length-map (link_chain s) (link_at s)

  -- at most 256
  pub few_links : length (links s) ≤ RECORDS
  few_links = omega (arith, links_length, (valid_good s e).whole)

  -- its number of meters and its links are as a kind may rely on
  pub links_survey : IsSurvey (meters s) (links s)
  unfolding links head_ok
  links_survey =
      let g = valid_good s e in
      let m = and_right (all (zero_at s) (1 ∷ from 8 8)) _ g.head in
      record {
        meters_low = leb-true 1 (meters s) (and_left (leb 1 (meters s)) _ m);
        meters_high = leb-true (meters s) METERS (and_right (leb 1 (meters s)) _ m);
        few = few_links;
        each = g.links_ok;
        rises = g.links_rise;
      }

  -- "no record is free" exactly where 256 links are there
  pub full_exactly : eqb (first_free s) 0 ≡ eqb (length (links s)) RECORDS
  full_exactly = go (free_chain s) (valid_good s e)
    where
      go : (F : List ℕ) → Good s (link_chain s) F → eqb (first_free s) 0 ≡ eqb (length (links s)) RECORDS
      go [] g = rw (eq-eqb (first_free s) 0 g.frees, eq-eqb (length (links s)) RECORDS (omega (arith, links_length, g.whole)))
      go (r ∷ F) g =
          let lo = named_low r g.frees.1 in
          rw (ne_eqb (first_free s) 0 (λ z. omega (arith, g.frees.0)), ne_eqb (length (links s)) RECORDS (λ z. omega (arith, links_length, g.whole)))
