-- An image to which a link is added is valid, and has the link in its ordered place, in the record that was the first free one. Assumes nothing.
use Prim.Native.Nat.{ℕ, suc, ◌+◌, ◌≤◌, ◌<◌}
use mathlib.Core.Bool.{true, false}
use mathlib.Core.Path.{◌≡◌, sym, ap, ◌∙◌, subst}
use mathlib.Core.List.{List, [], ◌∷◌, ◌++◌, map}
use lib.ListN.{length, length-append}
use borrow.Author.Tests.{eqb-false}
use native.Mathlib.Omega.{arith}
use Rattle.lists.specs.Tests.{all}
use Rattle.links.specs.Links.{link_ok, low, high, present, insert}
use Rattle.links.specs.declared.Link.{Link}
use Rattle.lists.proofs.Tests.{all_tail, all_append, all_cons}
use Rattle.links.proofs.Altered.{link_tested, insert_all, insert_ascends}
use Rattle.site.specs.Layout.{meters, first, first_free, count, next}
use Rattle.site.specs.Image.{free_chain, link_at, links, pad_zero, free_ok, named, times, valid}
use Rattle.site.specs.Edits.{after, place, add_refusal, add_bytes, add_image}
use Rattle.site.proofs.Chain.{Linked, named_low, named_high, linked_named, head_once, times_here, times_append, none_of, no_zero, not_head, not_tail}
use Rattle.site.proofs.Valid.{Good, good_valid, good_links, good_frees, good_pads, apart, all_first, all_second}
use Rattle.site.proofs.Placed.{after_zero, stands, Stops, linked_first, place_at, place_linked, place_high, place_back, place_free, valid_split, split_good}
use Rattle.site.proofs.Refused.{done, add_zero, ends_order}
use Rattle.site.proofs.Stored.{stored, Stored, stored_all, pad_zero_same, free_same}
use Rattle.site.proofs.Relinked.{linked_keep, relinked, all_of, all_keep, map_keep, map_append, insert_split}

-- ---- an image whose link chain is split at the place of (a, b), and whose first free record is r
module _ (s : List ℕ) (a b w r : ℕ) (A B F : List ℕ) (g : Good s (A ++ B) (r ∷ F)) (e : all (stands s a b) A ≡ true) (t : Stops s a b B) where
  s' : List ℕ
  s' = stored s (next s r) (count s + 1) r a b w (after s (place s a b)) (place s a b) r

  -- it is what add leaves
  added : add_bytes s a b w ≡ s'
  unfolding add_bytes s' stored
  added = rw g.frees.0

  nr : named r ≡ true
  nr = g.frees.1

  n_a : all named A ≡ true
  n_a = all_first named A B (linked_named s (A ++ B) (first s) g.links)

  n_b : all named B ≡ true
  n_b = all_second named A B (linked_named s (A ++ B) (first s) g.links)

  n_f : all named F ≡ true
  n_f = linked_named s F (next s r) g.frees.2

  r_A_B : times r A + times r B ≡ 0
  r_A_B = sym (times_append r A B) ∙ none_of r (A ++ B) (λ h. apart s (A ++ B) (r ∷ F) g r h (omega (arith, times_here r F)))

  r_A : times r A ≡ 0
  r_A = omega (arith, r_A_B)

  r_B : times r B ≡ 0
  r_B = omega (arith, r_A_B)

  r_F : times r F ≡ 0
  r_F = head_once s (first_free s) r F g.frees

  p_free : times (place s a b) (r ∷ F) ≡ 0
  p_free = place_free s a b A B (r ∷ F) g e t

  st : Stored s s' (next s r) (count s + 1) r a b w (after s (place s a b)) (place s a b) r
  unfolding s'
  st = stored_all s (next s r) (count s + 1) r a b w (after s (place s a b)) (place s a b) r g.long (named_low r nr) (named_high r nr) (place_high s a b A B (r ∷ F) g e t) (λ q. not_head (place s a b) r F p_free (sym q))

  -- ---- the chains
  links_new : Linked s' (first s') (A ++ (r ∷ B))
  links_new =
      let c = linked_keep s s' (place s a b) r st.after_same B (after s (place s a b)) (place_back s a b A B (r ∷ F) g e t) r_B (place_linked s a b A B (r ∷ F) g e t) in
      let lo = named_low r nr in
      subst (λ (k : ℕ). Linked s' k (A ++ (r ∷ B))) (after_zero s')
      (relinked s s' (place s a b) r st.after_same A B (r ∷ B) 0 (place_at s a b A B (r ∷ F) g e t) (no_zero A n_a) r_A (λ z. omega arith) (linked_first s (A ++ B) g.links) (st.after_place, nr, subst (λ (k : ℕ). Linked s' k B) (sym st.next_new) c))

  frees_new : Linked s' (first_free s') F
  frees_new = subst (λ (k : ℕ). Linked s' k F) (sym st.free_new) (linked_keep s s' (place s a b) r st.after_same F (next s r) (not_tail (place s a b) r F p_free) r_F g.frees.2)

  -- ---- the links
  new : Link
  new = record { u = a; v = b; weight = w }

  links_are : map (link_at s') (A ++ (r ∷ B)) ≡ insert new (map (link_at s) (A ++ B))
  unfolding new
  links_are =
      map_append (link_at s') A (r ∷ B)
      ∙ rw (map_keep r (link_at s) (link_at s') st.link_same A n_a r_A, map_keep r (link_at s) (link_at s') st.link_same B n_b r_B, st.link_new) (sym (insert_split s new A B e t))

  module _ (a_lo : 1 ≤ a) (a-b : a < b) (b_hi : b ≤ meters s) (w-lo : 1 ≤ w) (w-hi : w ≤ 65535) (absent : present a b (map (link_at s) (A ++ B)) ≡ false) where
    new_ok : link_ok (meters s) new ≡ true
    unfolding new
    new_ok = link_tested (meters s) new (record { u_low = a_lo; ordered = a-b; v_high = b_hi; weight_low = w-lo; weight_high = w-hi })

    add_good : Good s' (A ++ (r ∷ B)) F
    unfolding new
    add_good =
        let more : length (A ++ (r ∷ B)) ≡ suc (length (A ++ B)) = omega (arith, length-append A (r ∷ B), length-append A B) in
        record {
          long = st.length_same ∙ g.long;
          head = st.head_same ∙ g.head;
          links = links_new;
          links_ok = rw (links_are, st.meters_same) (insert_all (link_ok (meters s)) new (map (link_at s) (A ++ B)) new_ok g.links_ok);
          links_pad = all_of (pad_zero s') (λ k n. pad_zero_same s s' _ _ _ _ _ _ _ _ _ st k (named_low k n) ∙ good_pads s (A ++ B) (r ∷ F) g k n) (A ++ (r ∷ B)) (all_append named A (r ∷ B) n_a (all_cons named r B nr n_b));
          links_rise = rw links_are (insert_ascends new (map (link_at s) (A ++ B)) g.links_rise absent);
          counted = omega (arith, more, g.counted, st.count_new);
          frees = frees_new;
          frees_ok = all_keep r (free_ok s) (free_ok s') (free_same s s' _ _ _ _ _ _ _ _ _ st) F n_f r_F ∙ all_tail (free_ok s) r F g.frees_ok;
          whole = omega (arith, g.whole, more);
        }

-- ---- the theorems of add

-- what holds of t, to which the link was added
record Added (s : List ℕ) (a b w : ℕ) (t : List ℕ) : Type 0 where
  keeps : valid t ≡ true
  inserts : links t ≡ insert (record { u = a; v = b; weight = w }) (links s)
  same_meters : meters t ≡ meters s
  takes : free_chain s ≡ first_free s ∷ free_chain t
  writes : link_at t (first_free s) ≡ record { u = a; v = b; weight = w }

module _ (s : List ℕ) (a b w : ℕ) (a_lo : 1 ≤ a) (a-b : a < b) (b_hi : b ≤ meters s) (w-lo : 1 ≤ w) (w-hi : w ≤ 65535) where
  add_split : (A B F : List ℕ) → Good s (A ++ B) F → all (stands s a b) A ≡ true → Stops s a b B → (first_free s ≡ 0 → ⊥) → present a b (map (link_at s) (A ++ B)) ≡ false → Added s a b w (add_bytes s a b w)
  unfolding links new
  add_split A B [] g e t full absent = absurd (full g.frees)
  add_split A B (r ∷ F) g e t full absent =
      let k = add_good s a b w r A B F g e t a_lo a-b b_hi w-lo w-hi absent in
      let c = st s a b w r A B F g e t in
      rw (added s a b w r A B F g e t) (record {
        keeps = good_valid _ _ _ k;
        inserts = ap (map (link_at _)) (good_links _ _ _ k) ∙ links_are s a b w r A B F g e t ∙ ap (λ (L : List ℕ). insert (record { u = a; v = b; weight = w }) (map (link_at s) L)) (sym (good_links s (A ++ B) (r ∷ F) g));
        same_meters = c.meters_same;
        takes = good_frees s (A ++ B) (r ∷ F) g ∙ rw (g.frees.0, good_frees _ _ _ k);
        writes = rw g.frees.0 c.link_new;
      })

module _ (s : List ℕ) (a b w : ℕ) (w-hi : w ≤ 65535) (z : add_refusal s a b w ≡ 0) where
  add_all : Added s (low a b) (high a b) w (add_image s a b w)
  unfolding add_image links
  add_all =
      let f = add_zero s a b w z in
      let o = ends_order (meters s) a b f.1 in
      let w-lo : 1 ≤ w = omega (arith, eqb-false w 0 f.2) in
      let t = valid_split s (low a b) (high a b) f.0 in
      let g = split_good s (low a b) (high a b) f.0 in
      rw (done (add_refusal s a b w) (add_bytes s (low a b) (high a b) w) s z) (add_split s (low a b) (high a b) w o.0 o.1 o.2 w-lo w-hi t.front t.back (free_chain s) g t.stand t.stops (eqb-false (first_free s) 0 f.4) (rw (← t.joined) f.3))

  -- an image to which a link is added is valid
  pub add_valid : valid (add_image s a b w) ≡ true
  add_valid = add_all.keeps

  -- the link stands in its ordered place among the links that were there
  pub add_links : links (add_image s a b w) ≡ insert (record { u = low a b; v = high a b; weight = w }) (links s)
  add_links = add_all.inserts

  -- the number of meters is as it was
  pub add_meters : meters (add_image s a b w) ≡ meters s
  add_meters = add_all.same_meters

  -- "Add takes the first free record", and writes the link there
  pub add_record : (free_chain s ≡ first_free s ∷ free_chain (add_image s a b w)) × (link_at (add_image s a b w) (first_free s) ≡ record { u = low a b; v = high a b; weight = w })
  add_record = (add_all.takes, add_all.writes)
