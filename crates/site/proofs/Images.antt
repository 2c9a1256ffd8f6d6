-- What holds of images and of calls one after another: the theorems about document 01's section "The site image". Assumes nothing.
use Prim.Native.Nat.{ℕ, suc, ◌≤◌}
use mathlib.Core.Bool.{true, false, ◌&&◌, cond}
use mathlib.Core.Path.{◌≡◌, refl, sym, ap, ◌∙◌, subst}
use mathlib.Core.List.{List, [], ◌∷◌}
use lib.ListN.{length, take}
use lib.Dec.{eqb}
use borrow.Author.Tests.{eq-eqb, ne_eqb, not-false}
use native.Mathlib.Omega.{arith}
use Rattle.links.specs.Links.{has_ends, low, high, present, weight_of, insert, delete, bad_ends}
use Rattle.links.specs.declared.Link.{Link}
use Rattle.links.specs.Survey.{IsSurvey}
use Rattle.links.proofs.Altered.{insert_weight, delete_weight, insert_present, delete_present, insert_delete, delete_insert, weight_within}
use Rattle.site.specs.Layout.{RECORDS, meters, first_free}
use Rattle.site.specs.Image.{link_at, links, valid, free_chain}
use Rattle.site.specs.Edits.{place, after, check_refusal, begin_refusal, begin_image, add_refusal, add_image, remove_refusal, remove_image}
use Rattle.site.specs.Reading.{read_meters, read_links, over}
use Rattle.site.proofs.Refused.{kept, refusal_none, find_number, add_zero, add_number, remove_zero, remove_number}
use Rattle.site.proofs.Valid.{valid_good, links_survey}
use Rattle.site.proofs.AddKeeps.{add_valid, add_links, add_meters, add_record}
use Rattle.site.proofs.RemoveKeeps.{remove_valid, remove_links, remove_meters, remove_record}
use Rattle.site.proofs.Chain.{Linked, named_low}
use Rattle.site.proofs.Filling.{length_over, take_over}
use Rattle.site.proofs.Calls.{read_meters_told, read_links_told}

-- ---- a refused call alters nothing

pub begin_refused : (s : List ℕ) (n : ℕ) → (begin_refusal s n ≡ 0 → ⊥) → begin_image s n ≡ s
unfolding begin_image
begin_refused s n h = kept (begin_refusal s n) _ s h

pub add_refused : (s : List ℕ) (a b w : ℕ) → (add_refusal s a b w ≡ 0 → ⊥) → add_image s a b w ≡ s
unfolding add_image
add_refused s a b w h = kept (add_refusal s a b w) _ s h

pub remove_refused : (s : List ℕ) (a b : ℕ) → (remove_refusal s a b ≡ 0 → ⊥) → remove_image s a b ≡ s
unfolding remove_image
remove_refused s a b h = kept (remove_refusal s a b) _ s h

-- ---- every other link keeps its weight

-- after add the new link has the weight given, and the others have theirs
pub add_weights : (s : List ℕ) (a b w c d : ℕ) → w ≤ 65535 → add_refusal s a b w ≡ 0 → weight_of c d (links (add_image s a b w)) ≡ cond (eqb (low a b) c && eqb (high a b) d) w (weight_of c d (links s))
unfolding has_ends
add_weights s a b w c d h e =
    ap (weight_of c d) (add_links s a b w h e) ∙ insert_weight (record { u = low a b; v = high a b; weight = w }) (links s) c d (add_zero s a b w e).3

-- after remove the link is gone, and the others have theirs
pub remove_weights : (s : List ℕ) (a b c d : ℕ) → remove_refusal s a b ≡ 0 → weight_of c d (links (remove_image s a b)) ≡ cond (eqb c (low a b) && eqb d (high a b)) 0 (weight_of c d (links s))
remove_weights s a b c d e =
    ap (weight_of c d) (remove_links s a b e) ∙ delete_weight (low a b) (high a b) (links s) c d (links_survey s (remove_zero s a b e).0).rises

-- ---- records are used again

-- the record that remove frees is the one that the next add takes
pub removed_next : (s : List ℕ) (a b c d w : ℕ) → w ≤ 65535 → remove_refusal s a b ≡ 0 → add_refusal (remove_image s a b) c d w ≡ 0
    → (first_free (remove_image s a b) ≡ after s (place s (low a b) (high a b)))
    × (link_at (add_image (remove_image s a b) c d w) (after s (place s (low a b) (high a b))) ≡ record { u = low c d; v = high c d; weight = w })
removed_next s a b c d w h e f =
    let t = remove_image s a b in
    let r = add_record t c d w h f in
    let q : first_free t ≡ after s (place s (low a b) (high a b)) = heads (sym r.0 ∙ (remove_record s a b e).2) in
    (q, subst (λ (k : ℕ). link_at (add_image t c d w) k ≡ record { u = low c d; v = high c d; weight = w }) q r.1)
  where
    head : List ℕ → ℕ
    head [] = 0
    head (x ∷ xs) = x

    heads : {x y : ℕ} {xs ys : List ℕ} → x ∷ xs ≡ y ∷ ys → x ≡ y
    heads p = ap head p

-- ---- one call undoes the other

same_ends : (a b : ℕ) → (eqb a a && eqb b b) ≡ true
same_ends a b = rw (eq-eqb a a refl, eq-eqb b b refl)

-- a record that remove freed is free
some_free : (s : List ℕ) (a b : ℕ) → remove_refusal s a b ≡ 0 → first_free (remove_image s a b) ≡ 0 → ⊥
some_free s a b e z = go (free_chain t) (remove_record s a b e).2 (valid_good t (remove_valid s a b e)).frees
  where
    t : List ℕ
    t = remove_image s a b

    go : (F : List ℕ) → F ≡ after s (place s (low a b) (high a b)) ∷ free_chain s → Linked t (first_free t) F → ⊥
    go [] q l = let n : 0 ≡ suc (length (free_chain s)) = ap length q in omega arith
    go (x ∷ F) q l = let k = named_low x l.1 in omega (arith, l.0, z)

-- add after remove of the same link, with the weight that it had, is accepted and gives the same links
pub add_after_remove : (s : List ℕ) (a b w : ℕ) → remove_refusal s a b ≡ 0 → w ≡ weight_of (low a b) (high a b) (links s)
    → (add_refusal (remove_image s a b) a b w ≡ 0) × (links (add_image (remove_image s a b) a b w) ≡ links s)
add_after_remove s a b w e f =
    let t = remove_image s a b in
    let z = remove_zero s a b e in
    let v = links_survey s z.0 in
    let k = weight_within (meters s) (low a b) (high a b) (links s) v.each z.2 in
    let absent : present (low a b) (high a b) (links t) ≡ false = ap (present (low a b) (high a b)) (remove_links s a b e) ∙ delete_present (low a b) (high a b) (links s) (low a b) (high a b) v.rises ∙ rw (same_ends (low a b) (high a b)) in
    let ends : bad_ends (meters t) a b ≡ false = ap (λ (n : ℕ). bad_ends n a b) (remove_meters s a b e) ∙ z.1 in
    let accepted : add_refusal t a b w ≡ 0 = add_number t a b w ∙ rw (find_number t a b, remove_valid s a b e, ends, ne_eqb w 0 (λ q. omega (arith, f, k)), absent, ne_eqb (first_free t) 0 (some_free s a b e)) in
    let l : Link = record { u = low a b; v = high a b; weight = w } in
    (accepted, add_links t a b w (omega (arith, f, k)) accepted ∙ ap (insert l) (remove_links s a b e) ∙ insert_delete l (links s) v.rises z.2 (sym f))

-- remove after add of the same link is accepted and gives the same links
pub remove_after_add : (s : List ℕ) (a b w : ℕ) → w ≤ 65535 → add_refusal s a b w ≡ 0
    → (remove_refusal (add_image s a b w) a b ≡ 0) × (links (remove_image (add_image s a b w) a b) ≡ links s)
unfolding has_ends
remove_after_add s a b w h e =
    let t = add_image s a b w in
    let z = add_zero s a b w e in
    let l : Link = record { u = low a b; v = high a b; weight = w } in
    let there : present (low a b) (high a b) (links t) ≡ true = ap (present (low a b) (high a b)) (add_links s a b w h e) ∙ insert_present l (links s) (low a b) (high a b) ∙ rw (same_ends (low a b) (high a b)) in
    let ends : bad_ends (meters t) a b ≡ false = ap (λ (n : ℕ). bad_ends n a b) (add_meters s a b w h e) ∙ z.1 in
    let accepted : remove_refusal t a b ≡ 0 = remove_number t a b ∙ rw (find_number t a b, add_valid s a b w h e, ends, there) in
    (accepted, remove_links t a b accepted ∙ ap (delete (low a b) (high a b)) (add_links s a b w h e) ∙ delete_insert l (links s) z.3)

-- ---- what read hands to the kinds

-- where check gives 0 the image is valid
pub check_valid : (s : List ℕ) → check_refusal s ≡ 0 → valid s ≡ true
unfolding check_refusal
check_valid s e = not-false (valid s) (refusal_none 0 _ _ e).0

-- what a caller of read has in hand where it is not refused: the first n places of the array are there, and hold the links, a survey of m meters
pub record ReadOut (s : List ℕ) (m n : ℕ) (ls : List Link) : Type 0 where
  pub is_valid : valid s ≡ true
  pub is_meters : m ≡ meters s
  pub room : n ≤ length ls
  pub survey : IsSurvey m (take n ls)
  pub are : take n ls ≡ links s

-- the promise of read, in an array of 256 places, says so
pub read_out : (s : List ℕ) (ls₀ ls : List Link) (m n : ℕ) → check_refusal s ≡ 0 → m ≡ read_meters s → n ≡ length (read_links s) → ls ≡ over (read_links s) ls₀ → length ls₀ ≡ RECORDS → ReadOut s m n ls
read_out s ls₀ ls m n z em en el long =
    let e = check_valid s z in
    let v = links_survey s e in
    let r : read_links s ≡ links s = read_links_told s ∙ rw e in
    let k : n ≡ length (links s) = en ∙ ap length r in
    let q : m ≡ meters s = em ∙ read_meters_told s ∙ rw e in
    let t : take n ls ≡ links s = rw (el, r) (take_over (links s) ls₀ n k (omega (arith, long, v.few))) in
    record { is_valid = e; is_meters = q; room = rw el (omega (arith, length_over (read_links s) ls₀, long, k, v.few)); survey = rw (q, t) v; are = t }

-- what is promised of the meters and links in the array holds of those of the image
pub to_image : (s : List ℕ) (ls : List Link) (m n : ℕ) → ReadOut s m n ls → (P : ℕ → List Link → Type 0) → P m (take n ls) → P (meters s) (links s)
to_image s ls m n o P p = subst (λ (N : ℕ). P N (links s)) o.is_meters (subst (P m) o.are p)
