-- An image from which a link is removed is valid, and has the other links; the link's record is the first free one. Assumes nothing.
use Prim.Native.Nat.{ℕ, suc, ◌+◌, ◌-◌, ◌≤◌}
use mathlib.Core.Bool.{true, ◌&&◌}
use mathlib.Core.Path.{◌≡◌, sym, ap, ◌∙◌, subst}
use mathlib.Core.List.{List, [], ◌∷◌, ◌++◌, map}
use lib.ListN.{length, length-append}
use native.Mathlib.Omega.{arith}
use Rattle.lists.specs.Tests.{all}
use Rattle.links.specs.Links.{link_ok, has_ends, low, high, delete}
use Rattle.lists.proofs.Tests.{and_left, and_right, all_append, all_cons, all_tail}
use Rattle.links.proofs.Altered.{delete_all, delete_ascends}
use Rattle.site.specs.Layout.{meters, first, first_free, count, next}
use Rattle.site.specs.Image.{link_chain, free_chain, link_at, links, pad_zero, free_ok, named, times, valid}
use Rattle.site.specs.Edits.{after, place, remove_refusal, remove_bytes, remove_image}
use Rattle.site.specs.Inner.{is_link}
use Rattle.site.proofs.Chain.{Linked, named_low, named_high, linked_named, linked_once, times_here, times_append, none_of, no_zero, not_head, not_tail}
use Rattle.site.proofs.Valid.{Good, good_valid, good_links, good_frees, good_pads, apart, all_first, all_second}
use Rattle.site.proofs.Placed.{after_zero, stands, Stops, linked_first, place_at, place_linked, place_high, place_back, place_free, valid_split, split_good, place_shows}
use Rattle.site.proofs.Refused.{done, remove_zero}
use Rattle.site.proofs.Stored.{stored, Stored, stored_all, pad_zero_same, free_same, free_written}
use Rattle.site.proofs.Relinked.{linked_keep, relinked, all_of, all_keep, map_keep, delete_split}

-- ---- an image whose link chain is split at the place of (a, b), with record r behind it
module _ (s : List ℕ) (a b r : ℕ) (A B F : List ℕ) (g : Good s (A ++ (r ∷ B)) F) (e : all (stands s a b) A ≡ true) (t : Stops s a b (r ∷ B)) where
  s' : List ℕ
  s' = stored s r (count s - 1) r 0 0 0 (first_free s) (place s a b) (next s r)

  -- what follows the place is r and then B
  behind : Linked s (after s (place s a b)) (r ∷ B)
  behind = place_linked s a b A (r ∷ B) F g e t

  -- it is what remove leaves
  removed : remove_bytes s a b ≡ s'
  unfolding remove_bytes s' stored
  removed = rw behind.0

  nr : named r ≡ true
  nr = behind.1

  names : all named (A ++ (r ∷ B)) ≡ true
  names = linked_named s (A ++ (r ∷ B)) (first s) g.links

  n_a : all named A ≡ true
  n_a = all_first named A (r ∷ B) names

  n_b : all named B ≡ true
  n_b = all_tail named r B (all_second named A (r ∷ B) names)

  n_f : all named F ≡ true
  n_f = linked_named s F (first_free s) g.frees

  r_L : times r (A ++ (r ∷ B)) ≡ 1 + (times r A + times r B)
  r_L = omega (arith, times_append r A (r ∷ B), times_here r B)

  r_A_B : times r A + times r B ≡ 0
  r_A_B = omega (arith, r_L, linked_once s (A ++ (r ∷ B)) (first s) r g.links)

  r_A : times r A ≡ 0
  r_A = omega (arith, r_A_B)

  r_B : times r B ≡ 0
  r_B = omega (arith, r_A_B)

  r_F : times r F ≡ 0
  r_F = none_of r F (apart s (A ++ (r ∷ B)) F g r (omega (arith, r_L)))

  p_back : times (place s a b) (r ∷ B) ≡ 0
  p_back = place_back s a b A (r ∷ B) F g e t

  st : Stored s s' r (count s - 1) r 0 0 0 (first_free s) (place s a b) (next s r)
  unfolding s'
  st = stored_all s r (count s - 1) r 0 0 0 (first_free s) (place s a b) (next s r) g.long (named_low r nr) (named_high r nr) (place_high s a b A (r ∷ B) F g e t) (λ q. not_head (place s a b) r B p_back (sym q))

  -- ---- the chains
  links_new : Linked s' (first s') (A ++ B)
  links_new =
      let c = linked_keep s s' (place s a b) r st.after_same B (next s r) (not_tail (place s a b) r B p_back) r_B behind.2 in
      let lo = named_low r nr in
      subst (λ (k : ℕ). Linked s' k (A ++ B)) (after_zero s')
      (relinked s s' (place s a b) r st.after_same A (r ∷ B) B 0 (place_at s a b A (r ∷ B) F g e t) (no_zero A n_a) r_A (λ z. omega arith) (linked_first s (A ++ (r ∷ B)) g.links) (subst (λ (k : ℕ). Linked s' k B) (sym st.after_place) c))

  frees_new : Linked s' (first_free s') (r ∷ F)
  frees_new = (st.free_new, nr, subst (λ (k : ℕ). Linked s' k F) (sym st.next_new) (linked_keep s s' (place s a b) r st.after_same F (first_free s) (place_free s a b A (r ∷ B) F g e t) r_F g.frees))

  module _ (h : has_ends a b (link_at s r) ≡ true) where
    links_are : map (link_at s') (A ++ B) ≡ delete a b (map (link_at s) (A ++ (r ∷ B)))
    links_are = map_keep r (link_at s) (link_at s') st.link_same (A ++ B) (all_append named A B n_a n_b) (times_append r A B ∙ r_A_B) ∙ sym (delete_split s a b r h A B e)

    remove_good : Good s' (A ++ B) (r ∷ F)
    remove_good =
        let less : length (A ++ (r ∷ B)) ≡ suc (length (A ++ B)) = omega (arith, length-append A (r ∷ B), length-append A B) in
        record {
          long = st.length_same ∙ g.long;
          head = st.head_same ∙ g.head;
          links = links_new;
          links_ok = rw (links_are, st.meters_same) (delete_all (link_ok (meters s)) a b (map (link_at s) (A ++ (r ∷ B))) g.links_ok);
          links_pad = all_of (pad_zero s') (λ k n. pad_zero_same s s' _ _ _ _ _ _ _ _ _ st k (named_low k n) ∙ good_pads s (A ++ (r ∷ B)) F g k n) (A ++ B) (all_append named A B n_a n_b);
          links_rise = rw links_are (delete_ascends a b (map (link_at s) (A ++ (r ∷ B))) g.links_rise);
          counted = omega (arith, less, g.counted, st.count_new);
          frees = frees_new;
          frees_ok = all_cons (free_ok s') r F (free_written s s' _ _ r _ _ _ st (named_low r nr) (good_pads s (A ++ (r ∷ B)) F g r nr)) (all_keep r (free_ok s) (free_ok s') (free_same s s' _ _ _ _ _ _ _ _ _ st) F n_f r_F ∙ g.frees_ok);
          whole = omega (arith, g.whole, less);
        }

-- ---- the theorems of remove

-- what holds of t, from which the link was removed
record Removed (s : List ℕ) (a b : ℕ) (t : List ℕ) : Type 0 where
  keeps : valid t ≡ true
  deletes : links t ≡ delete a b (links s)
  same_meters : meters t ≡ meters s
  names_it : has_ends a b (link_at s (after s (place s a b))) ≡ true
  was_there : 1 ≤ times (after s (place s a b)) (link_chain s)
  gives : free_chain t ≡ after s (place s a b) ∷ free_chain s

module _ (s : List ℕ) (a b : ℕ) where
  remove_split : (A B F : List ℕ) → Good s (A ++ B) F → all (stands s a b) A ≡ true → Stops s a b B → named (after s (place s a b)) ≡ true → has_ends a b (link_at s (after s (place s a b))) ≡ true → Removed s a b (remove_bytes s a b)
  unfolding links
  remove_split A [] F g e t n h =
      let lo = named_low (after s (place s a b)) n in
      absurd (omega (arith, place_linked s a b A [] F g e t))
  remove_split A (r ∷ B) F g e t n h =
      let q = (behind s a b r A B F g e t).0 in
      let k = remove_good s a b r A B F g e t (rw q at h) in
      rw (removed s a b r A B F g e t) (record {
        keeps = good_valid _ _ _ k;
        deletes = ap (map (link_at _)) (good_links _ _ _ k) ∙ links_are s a b r A B F g e t (rw q at h) ∙ ap (λ (L : List ℕ). delete a b (map (link_at s) L)) (sym (good_links s (A ++ (r ∷ B)) F g));
        same_meters = (st s a b r A B F g e t).meters_same;
        names_it = h;
        was_there = rw (q, good_links s (A ++ (r ∷ B)) F g) (omega (arith, r_L s a b r A B F g e t));
        gives = good_frees _ _ _ k ∙ rw (q, good_frees s (A ++ (r ∷ B)) F g);
      })

module _ (s : List ℕ) (a b : ℕ) (z : remove_refusal s a b ≡ 0) where
  found : (named (after s (place s (low a b) (high a b))) && has_ends (low a b) (high a b) (link_at s (after s (place s (low a b) (high a b))))) ≡ true
  unfolding is_link
  found = let f = remove_zero s a b z in place_shows s (low a b) (high a b) f.0 ∙ f.2

  found_named : named (after s (place s (low a b) (high a b))) ≡ true
  found_named = and_left (named (after s (place s (low a b) (high a b)))) _ found

  remove_all : Removed s (low a b) (high a b) (remove_image s a b)
  unfolding remove_image
  remove_all =
      let v = (remove_zero s a b z).0 in
      let t = valid_split s (low a b) (high a b) v in
      let g = split_good s (low a b) (high a b) v in
      let h = and_right (named (after s (place s (low a b) (high a b)))) _ found in
      rw (done (remove_refusal s a b) (remove_bytes s (low a b) (high a b)) s z) (remove_split s (low a b) (high a b) t.front t.back (free_chain s) g t.stand t.stops found_named h)

  -- an image from which a link is removed is valid
  pub remove_valid : valid (remove_image s a b) ≡ true
  remove_valid = remove_all.keeps

  -- it has the other links
  pub remove_links : links (remove_image s a b) ≡ delete (low a b) (high a b) (links s)
  remove_links = remove_all.deletes

  -- the number of meters is as it was
  pub remove_meters : meters (remove_image s a b) ≡ meters s
  remove_meters = remove_all.same_meters

  -- "Remove makes the record the first free one": that of the link with these ends, which was one of the link chain
  pub remove_record : (has_ends (low a b) (high a b) (link_at s (after s (place s (low a b) (high a b)))) ≡ true)
      × (1 ≤ times (after s (place s (low a b) (high a b))) (link_chain s))
      × (free_chain (remove_image s a b) ≡ after s (place s (low a b) (high a b)) ∷ free_chain s)
  remove_record = (remove_all.names_it, remove_all.was_there, remove_all.gives)
