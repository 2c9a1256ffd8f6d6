-- A record put into a chain, or taken out of it, at the place of its link: what is linked afterwards, and which links it then has. Assumes nothing.
use Prim.Native.Nat.{ℕ, ◌≤◌}
use mathlib.Core.Bool.{Bool, true}
use mathlib.Core.Path.{◌≡◌, refl, sym, ap, ◌∙◌, subst}
use mathlib.Core.List.{List, [], ◌∷◌, ◌++◌, map}
use native.Mathlib.Omega.{arith}
use Rattle.lists.specs.Tests.{all}
use Rattle.links.specs.Links.{has_ends, insert, delete}
use Rattle.links.specs.declared.Link.{Link}
use Rattle.lists.proofs.Tests.{and_left, and_right, and_both}
use Rattle.site.specs.Layout.{next}
use Rattle.site.specs.Image.{link_at, named, times}
use Rattle.site.specs.Edits.{after}
use Rattle.site.proofs.Chain.{Linked, named_low, head_once, times_cons, times_here, times_append, not_head, not_tail}
use Rattle.site.proofs.Placed.{after_next, last_of, stands, Stops, stands_other}

-- ---- chains

-- the last of x and the records of a list is one of them
last_in : (A : List ℕ) (x : ℕ) → 1 ≤ times (last_of x A) (x ∷ A)
unfolding last_of
last_in [] x = omega (arith, times_here x [])
last_in (y ∷ A) x = omega (arith, last_in A y, times_cons (last_of y A) x (y ∷ A))

-- every record but pp and r is followed as before
module _ (s s' : List ℕ) (pp r : ℕ) (keep : (k : ℕ) → (k ≡ pp → ⊥) → (k ≡ r → ⊥) → after s' k ≡ after s k) where
  -- a chain without the two is as it was
  pub linked_keep : (L : List ℕ) (k : ℕ) → times pp L ≡ 0 → times r L ≡ 0 → Linked s k L → Linked s' k L
  linked_keep [] k a b h = h
  linked_keep (x ∷ L) k a b h =
      let lo = named_low x h.1 in
      let e = sym (after_next s x lo) ∙ sym (keep x (not_head pp x L a) (not_head r x L b)) ∙ after_next s' x lo in
      (h.0, h.1, subst (λ (z : ℕ). Linked s' z L) e (linked_keep L (next s x) (not_tail pp x L a) (not_tail r x L b) h.2))

  -- a chain with pp as the last record in front has the same front, and then what follows pp
  pub relinked : (A B C : List ℕ) (p : ℕ) → pp ≡ last_of p A → times p A ≡ 0 → times r A ≡ 0 → (p ≡ r → ⊥) → Linked s (after s p) (A ++ B) → Linked s' (after s' pp) C → Linked s' (after s' p) (A ++ C)
  unfolding last_of
  relinked [] B C p e a b n h g = subst (λ (z : ℕ). Linked s' (after s' z) C) e g
  relinked (x ∷ A) B C p e a b n h g =
      let lo = named_low x h.1 in
      let m : 1 ≤ times pp (x ∷ A) = rw e (last_in A x) in
      let o : (p ≡ pp → ⊥) = λ q. omega (arith, m, subst (λ (z : ℕ). times z (x ∷ A) ≡ 0) q a) in
      let x-A : times x A ≡ 0 = omega (arith, head_once s (after s p) x (A ++ B) h, times_append x A B) in
      let f = relinked A B C x e x-A (not_tail r x A b) (not_head r x A b) (subst (λ (z : ℕ). Linked s z (A ++ B)) (sym (after_next s x lo)) h.2) g in
      (keep p o n ∙ h.0, h.1, subst (λ (z : ℕ). Linked s' z (A ++ C)) (after_next s' x lo) f)

-- ---- tests and links of records

-- what holds of every record holds of a list of records
pub all_of : (p : ℕ → Bool) → ((k : ℕ) → named k ≡ true → p k ≡ true) → (L : List ℕ) → all named L ≡ true → all p L ≡ true
unfolding all
all_of p c [] n = refl
all_of p c (x ∷ L) n = and_both (p x) _ (c x (and_left (named x) _ n)) (all_of p c L (and_right (named x) _ n))

module _ (r : ℕ) where
  -- a test that is the same on every record but r is the same on a list without r
  pub all_keep : (f g : ℕ → Bool) → ((k : ℕ) → 1 ≤ k → (k ≡ r → ⊥) → g k ≡ f k) → (L : List ℕ) → all named L ≡ true → times r L ≡ 0 → all g L ≡ all f L
  unfolding all
  all_keep f g c [] n a = refl
  all_keep f g c (x ∷ L) n a = rw (c x (named_low x (and_left (named x) _ n)) (not_head r x L a), all_keep f g c L (and_right (named x) _ n) (not_tail r x L a))

  -- and so are links
  pub map_keep : (f g : ℕ → Link) → ((k : ℕ) → 1 ≤ k → (k ≡ r → ⊥) → g k ≡ f k) → (L : List ℕ) → all named L ≡ true → times r L ≡ 0 → map g L ≡ map f L
  unfolding all
  map_keep f g c [] n a = refl
  map_keep f g c (x ∷ L) n a = rw (c x (named_low x (and_left (named x) _ n)) (not_head r x L a), map_keep f g c L (and_right (named x) _ n) (not_tail r x L a))

-- the links of two lists, one behind the other
pub map_append : (f : ℕ → Link) (A B : List ℕ) → map f (A ++ B) ≡ map f A ++ map f B
map_append f [] B = refl
map_append f (x ∷ A) B = ap (λ (m : List Link). f x ∷ m) (map_append f A B)

-- ---- lists of links split at the place
module _ (s : List ℕ) where
  -- a link put in stands behind the front
  pub insert_split : (l : Link) (A B : List ℕ) → all (stands s l.u l.v) A ≡ true → Stops s l.u l.v B → insert l (map (link_at s) (A ++ B)) ≡ map (link_at s) A ++ (l ∷ map (link_at s) B)
  unfolding all insert stands link_at
  insert_split l [] [] e t = refl
  insert_split l [] (z ∷ B) e t = rw t
  insert_split l (z ∷ A) B e t =
      let x = stands s l.u l.v z in
      rw (and_left x _ e) (ap (λ (m : List Link). link_at s z ∷ m) (insert_split l A B (and_right x _ e) t))

  -- the first link behind the front, taken out
  pub delete_split : (a b r : ℕ) → has_ends a b (link_at s r) ≡ true → (A B : List ℕ) → all (stands s a b) A ≡ true → delete a b (map (link_at s) (A ++ (r ∷ B))) ≡ map (link_at s) (A ++ B)
  unfolding all delete
  delete_split a b r h [] B e = rw h
  delete_split a b r h (z ∷ A) B e =
      let x = stands s a b z in
      rw (stands_other s a b z (and_left x _ e)) (ap (λ (m : List Link). link_at s z ∷ m) (delete_split a b r h A B (and_right x _ e)))
