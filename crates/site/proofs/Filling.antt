-- The walk of the link chain that stores what it meets and remembers a place, and the copy of what it stored. Assumes nothing.
use Rattle.std.proofs.Common.{ℕ, suc, ◌+◌, ◌-◌, ◌≤◌, ◌<◌, true, ◌&&◌, cond, ltb, eqb, ◌≡◌, refl, sym, ap, ◌∙◌, List, [], ◌∷◌, ◌++◌, map, append_assoc, append-nil, length, set, take, drop, get_or, length-append, length-set, arith, add-one}
use Rattle.std.proofs.lemmas.List.{take_more_set}
use Rattle.std.proofs.Math.Seq.{drop-cons, take-append_seam, take-length}
use lib.ListN.{length-map}
use lib.Seq.{set_at}
use native.Mathlib.Nat.{add-zero}
use Rattle.links.specs.Links.{link_ok}
use Rattle.links.specs.declared.Link.{Link}
use Rattle.site.specs.Layout.{first, count, next, pad, end_u, end_v}
use Rattle.site.specs.Image.{link_chain, link_at, links, named, valid}
use Rattle.site.specs.Edits.{place}
use Rattle.site.specs.Reading.{store_from, over}
use Rattle.site.specs.Inner.{key, link_fits, walk_links, links_on, last_before}
use Rattle.site.proofs.Chain.{Linked}
use Rattle.site.proofs.Walked.{one_less, none_left, link_on}
use Rattle.site.proofs.Valid.{valid_good}
use Rattle.site.proofs.Placed.{place_walked}
use Rattle.site.proofs.Turns.{key_before, fits_by}

-- ---- arrays
module _ {A : Type 0} where
  -- a number stored behind the first i makes one more
  store_next : (F d : List A) (i : ℕ) (x : A) → length F ≡ i → i < length d → set (F ++ drop i d) i x ≡ (F ++ (x ∷ [])) ++ drop (i + 1) d
  store_next F d i x e h = rw (add-one i, drop-cons d i x h, set_at F (get_or d i x) (drop (suc i) d) x i e, append_assoc F (x ∷ []) (drop (suc i) d))

  store_front : (F xs d : List A) (i : ℕ) → length F ≡ i → i + length xs ≤ length d → store_from i xs (F ++ drop i d) ≡ F ++ xs ++ drop (i + length xs) d
  unfolding store_from
  store_front F [] d i e h = rw (append-nil F, add-zero i)
  store_front F (x ∷ xs) d i e h =
      let n : i + suc (length xs) ≡ suc i + length xs = omega arith in
      let m : i + 1 ≡ suc i = omega arith in
      rw (store_next F d i x e (omega arith), m, n) (store_front (F ++ (x ∷ [])) xs d (suc i) (rw (length-append F (x ∷ [])) (omega arith)) (omega arith) ∙ rw (append_assoc F (x ∷ []) xs))

  -- in an array that is long enough, the entries stand in front and the rest follows
  pub over_front : (xs d : List A) → length xs ≤ length d → over xs d ≡ xs ++ drop (length xs) d
  unfolding over
  over_front xs d h =
      let n : 0 + length xs ≡ length xs = omega arith in
      store_front [] xs d 0 refl (rw n h) ∙ rw n

  -- an array stays as long as it was
  pub length_over : (xs d : List A) → length (over xs d) ≡ length d
  unfolding over store_from
  length_over xs d = go 0 xs d
    where
      go : (i : ℕ) (xs d : List A) → length (store_from i xs d) ≡ length d
      go i [] d = refl
      go i (x ∷ xs) d = go (suc i) xs (set d i x) ∙ length-set d i x

  -- of an array that is long enough, the front part that was stored
  pub take_over : (xs d : List A) (n : ℕ) → n ≡ length xs → length xs ≤ length d → take n (over xs d) ≡ xs
  take_over xs d n e h = rw (e, over_front xs d h) (take-append_seam xs (drop (length xs) d))

  -- a front part and the rest of an array make up what is wanted of it
  pub over_joined : (xs ys d : List A) (n : ℕ) → ys ≡ xs → n ≡ length xs → n ≤ length d → ys ++ drop n d ≡ over xs d
  over_joined xs ys d n e m h = rw (e, m) (sym (over_front xs d (omega (arith, m))))

-- ---- the walk that stores

-- one store
stored_turn : (s : List ℕ) (array : List Link) (m k i y : ℕ) (l : Link) → i < m → m ≡ length array → l ≡ link_at s k → y ≡ next s k
    → take i array ++ links_on s (m - i) k ≡ take (i + 1) (set array i l) ++ links_on s (m - (i + 1)) y
unfolding links_on
stored_turn s array m k i y l h n e g =
    rw (one_less m i h, g, take_more_set array i l (omega arith), append_assoc (take i array) (l ∷ []) (links_on s (m - (i + 1)) (next s k)), e)

pub stored_end : (s : List ℕ) (array : List Link) (m k i : ℕ) → m ≤ i → i ≤ m → m ≡ length array → take i array ++ links_on s (m - i) k ≡ array
unfolding links_on
stored_end s array m k i h g n =
    let e : i ≡ length array = omega arith in
    rw (none_left m i h, e, take-length array) (append-nil array)

last_turn : (s : List ℕ) (a b m k i p c d x y o : ℕ) → i < m → c ≡ end_u s k → d ≡ end_v s k → o ≡ next s k → d < 256 → b < 256 → x ≡ key c d → y ≡ key a b → last_before s a b (m - i) k p ≡ last_before s a b (m - (i + 1)) o (cond (ltb x y) k p)
unfolding last_before
last_turn s a b m k i p c d x y o h e f g l j q r = rw (one_less m i h, q, r, key_before c d a b l j, e, f, g)

pub last_end : (s : List ℕ) (a b m k i p : ℕ) → m ≤ i → last_before s a b (m - i) k p ≡ p
unfolding last_before
last_end s a b m k i p h = rw (none_left m i h)

-- the walk at record k, after i links of m, the last of them with ends c and d, whose key is x: what is left of it decides, gives the links behind those in the array, and goes on from the place p
pub record Walking (s : List ℕ) (n m a b : ℕ) (ls : List Link) (k x p i : ℕ) : Type 0 where
  pub c : ℕ
  pub d : ℕ
  pub small : d < 256
  pub keyed : x ≡ key c d
  pub tests : walk_links s n m (first s) 0 0 ≡ walk_links s n (m - i) k c d
  pub stored : links_on s m (first s) ≡ take i ls ++ links_on s (m - i) k
  pub last : last_before s a b m (first s) 0 ≡ last_before s a b (m - i) k p

pub walking_start : (s : List ℕ) (n m a b : ℕ) (ls : List Link) (k : ℕ) → k ≡ first s → Walking s n m a b ls k 0 0 0
walking_start s n m a b ls k e =
    let z : m - 0 ≡ m = omega arith in
    record { c = 0; d = 0; small = omega arith; keyed = refl; tests = rw (z, e); stored = rw (z, e); last = rw (z, e) }

module _ (s : List ℕ) (n m a b : ℕ) (ls : List Link) (k x p i : ℕ) (t : Walking s n m a b ls k x p i) where
  -- it goes on at a record that holds a fitting link
  pub walking_turn : i < m → named k ≡ true → (link_at s k).v < 256 → (link_ok n (link_at s k) && (eqb (pad s k) 0 && ltb x (key (link_at s k).u (link_at s k).v))) ≡ true
      → (l : Link) (o x' y' p' : ℕ) → l ≡ link_at s k → o ≡ next s k → b < 256 → m ≡ length ls → x' ≡ key l.u l.v → y' ≡ key a b → p' ≡ cond (ltb x' y') k p → Walking s n m a b (set ls i l) o x' p' (i + 1)
  unfolding link_at
  walking_turn h e j f l o x' y' p' g r sb long kx ky kp =
      let u : l.u ≡ end_u s k = ap (λ (l : Link). l.u) g in
      let v : l.v ≡ end_v s k = ap (λ (l : Link). l.v) g in
      let fit : link_fits s n t.c t.d k ≡ true = fits_by s n t.c t.d k t.small j ∙ rw (← t.keyed) f in
      record {
        c = l.u;
        d = l.v;
        small = rw v j;
        keyed = kx;
        tests = t.tests ∙ link_on s n m i k t.c t.d h e fit ∙ rw (u, v, r);
        stored = t.stored ∙ stored_turn s ls m k i o l h long g r;
        last = t.last ∙ last_turn s a b m k i p l.u l.v x' y' o h u v r (rw v j) sb kx ky ∙ rw kp;
      }

-- ---- what the array of a valid image holds

-- along a chain
on_linked : (s : List ℕ) (R : List ℕ) (k : ℕ) → Linked s k R → links_on s (length R) k ≡ map (link_at s) R
unfolding links_on
on_linked s [] k h = refl
on_linked s (x ∷ R) k h = rw (h.0) (ap (λ (t : List Link). link_at s x ∷ t) (on_linked s R (next s x) h.2))

-- as many as the count says
pub count_links : (s : List ℕ) → valid s ≡ true → count s ≡ length (links s)
unfolding links
count_links s e = sym (length-map (link_chain s) (link_at s) ∙ (valid_good s e).counted)

-- in the count's places stand its links
pub image_links : (s : List ℕ) → valid s ≡ true → links_on s (count s) (first s) ≡ links s
unfolding links
image_links s e = let g = valid_good s e in rw (← g.counted) (on_linked s (link_chain s) (first s) g.links)

-- and the place that the walk remembers is that of the ends
pub image_place : (s : List ℕ) (a b : ℕ) → valid s ≡ true → last_before s a b (count s) (first s) 0 ≡ place s a b
image_place s a b e = place_walked s a b e (count s) (sym (valid_good s e).counted)
