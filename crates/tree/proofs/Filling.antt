-- Lists filled entry by entry: the choices of a plan's code. Assumes nothing.
use Prim.Native.Nat.{ℕ, zero, suc, ◌+◌, ◌-◌, ◌*◌, ◌≤◌, ◌<◌}
use mathlib.Core.Path.{◌≡◌, refl, sym, ap, ap₂, ◌∙◌}
use mathlib.Core.List.{List, [], ◌∷◌, ◌++◌, map, append_assoc, append-nil}
use lib.ListN.{length, get_or, set, take, length-set, length-map}
use lib.Seq.{take-suc-set}
use native.Mathlib.Omega.{arith}
use native.Mathlib.Numerals.{add-one}
use mathlib.Core.Bool.{Bool, true, false}
use lib.Dec.{eqb}
use Rattle.lists.specs.Sums.{nth}
use Rattle.links.specs.declared.Link.{Link}
use Rattle.qubo.specs.Terms.{each}
use Rattle.onehot.proofs.Codes.{each_length, each_at}
use Rattle.onehot.proofs.Parts.{one_less}
use Rattle.spanning.specs.Parents.{depth_of, neighbours}
use Rattle.std.specs.Prelude.{Option, Some, None}
use Rattle.arcs.specs.Arcs.{Arc, arcs}
use Rattle.arcs.proofs.ArcLists.{arcs_length, arc_up, arc_back, arcs_left, arcs_start, arcs_turn, arcs_past}
use Rattle.tree.specs.Plans.{bit_of_depth, arc_depth, depth_choices, arc_choice, arc_choices, count_choices}

-- ---- a value for each meter

-- the bit of meter v's depth
unfoldable pub depth_bit_of : List ℕ → ℕ → ℕ → ℕ
depth_bit_of p N v = bit_of_depth (depth_of p N v)

-- all depths
pub depths_filled : (p : List ℕ) (N : ℕ) (l : List ℕ) (v : ℕ) → v ≡ N → take v l ≡ each v (depth_bit_of p N) → take N l ≡ depth_choices N p
unfolding depth_bit_of depth_choices
depths_filled p N l v d e = ap (λ t. take t l) (sym d) ∙ e ∙ ap (λ (t : ℕ). each t (depth_bit_of p N)) d

-- all numbers of neighbours
pub counts_filled : (p : List ℕ) (N : ℕ) (l : List ℕ) (v : ℕ) → v ≡ N → take v l ≡ each v (neighbours N p) → take N l ≡ count_choices N p
unfolding count_choices
counts_filled p N l v d e = ap (λ t. take t l) (sym d) ∙ e ∙ ap (λ (t : ℕ). each t (neighbours N p)) d

-- as many depth bits as meters
pub depths_length : (N : ℕ) (p : List ℕ) → length (depth_choices N p) ≡ N
unfolding depth_choices
depths_length N p = each_length N (λ v. bit_of_depth (depth_of p N v))

-- ---- arc_choice

-- the bits of all depths, lent by themselves
module _ (N : ℕ) (p l : List ℕ) (e : l ≡ depth_choices N p) where
  pub lent_length : length l ≡ N
  lent_length = ap length e ∙ depths_length N p

  -- that of the meter after index k, and of meter v
  pub lent_next : (k : ℕ) → k < N → get_or l k 0 ≡ bit_of_depth (depth_of p N (suc k))
  unfolding depth_choices
  lent_next k h = rw e (each_at N (λ v. bit_of_depth (depth_of p N v)) k h)

  pub lent_at : (v : ℕ) → 1 ≤ v → v ≤ N → get_or l (v - 1) 0 ≡ bit_of_depth (depth_of p N v)
  lent_at zero a b = absurd (omega arith)
  lent_at (suc k) a b = rw (one_less k) (lent_next k b)

-- the depth bits are numbered from depth 0, an arc's from depth 1
bit_arc : (o : Option ℕ) → bit_of_depth o - 1 ≡ arc_depth o
bit_arc (Some h) = omega arith
bit_arc None = omega arith

module _ (N : ℕ) (p : List ℕ) (u v : ℕ) (a : Arc) (eu : a.parent ≡ u) (ev : a.child ≡ v) where
  -- u is not the parent of v: no bit is set
  pub choice_none : (r : Bool) → r ≡ eqb (nth p v) u → r ≡ false → 0 ≡ arc_choice N p a
  unfolding arc_choice
  choice_none r e z = let f : eqb (nth p v) u ≡ false = sym e ∙ z in rw (eu, ev, f) refl

  -- u is the parent of v: the bit of v's depth is set
  pub choice_some : (r : Bool) → r ≡ eqb (nth p v) u → r ≡ true → (b : ℕ) → b ≡ bit_of_depth (depth_of p N v) → b - 1 ≡ arc_choice N p a
  unfolding arc_choice
  choice_some r e z b d = let t : eqb (nth p v) u ≡ true = sym e ∙ z in rw (eu, ev, t, d) (bit_arc (depth_of p N v))

-- ---- a value for each arc, two by two

module _ (ls : List Link) (f : Arc → ℕ) where
  -- the first k links' arcs are filled in; with those left they are all
  pub record ArcsFilled (k : ℕ) (l : List ℕ) : Type 0 where
    pub whole : take (2 * k) l ++ map f (arcs_left ls k) ≡ map f (arcs ls)

  -- at first nothing is filled in
  pub arcs_filled_start : (l : List ℕ) → ArcsFilled 0 l
  arcs_filled_start l = record { whole = ap (map f) (arcs_start ls) }

  -- two entries stored one after the other
  two_more : (n : ℕ) (l : List ℕ) (x y : ℕ) → n + 1 < length l → take (suc (n + 1)) (set (set l n x) (n + 1) y) ≡ take n l ++ (x ∷ []) ++ (y ∷ [])
  two_more n l x y h =
      let e : take (n + 1) (set l n x) ≡ take n l ++ (x ∷ []) = rw (add-one n) (take-suc-set l n x (omega arith)) in
      take-suc-set (set l n x) (n + 1) y (rw length-set h) ∙ ap (λ (s : List ℕ). s ++ (y ∷ [])) e

  -- a turn fills in the two arcs of the link at k
  pub arcs_filled_turn : (k : ℕ) (l : List ℕ) (x y : ℕ) → k < length ls → 2 * k + 1 < length l → x ≡ f (arc_up ls k) → y ≡ f (arc_back ls k) → ArcsFilled k l → ArcsFilled (k + 1) (set (set l (2 * k) x) (2 * k + 1) y)
  arcs_filled_turn k l x y h g ex ey a = record { whole = whole }
    where
      e : 2 * (k + 1) ≡ suc (2 * k + 1)
      e = omega arith

      whole : take (2 * (k + 1)) (set (set l (2 * k) x) (2 * k + 1) y) ++ map f (arcs_left ls (k + 1)) ≡ map f (arcs ls)
      whole =
          ap (λ (t : ℕ). take t (set (set l (2 * k) x) (2 * k + 1) y) ++ map f (arcs_left ls (k + 1))) e
          ∙ ap (λ (s : List ℕ). s ++ map f (arcs_left ls (k + 1))) (two_more (2 * k) l x y g)
          ∙ append_assoc (take (2 * k) l ++ (x ∷ [])) (y ∷ []) (map f (arcs_left ls (k + 1)))
          ∙ append_assoc (take (2 * k) l) (x ∷ []) (y ∷ map f (arcs_left ls (k + 1)))
          ∙ ap₂ (λ (s t : ℕ). take (2 * k) l ++ (s ∷ t ∷ map f (arcs_left ls (k + 1)))) ex ey
          ∙ ap (λ (t : List Arc). take (2 * k) l ++ map f t) (sym (arcs_turn ls k h))
          ∙ a.whole

  -- in the end all are filled in
  pub arcs_filled_end : (k : ℕ) (l : List ℕ) → k ≡ length ls → ArcsFilled k l → take (2 * length ls) l ≡ map f (arcs ls)
  arcs_filled_end k l e a =
      ap (λ t. take (2 * t) l) (sym e)
      ∙ sym (ap (λ (t : List Arc). take (2 * k) l ++ map f t) (arcs_past ls k (omega arith)) ∙ append-nil (take (2 * k) l))
      ∙ a.whole

-- ---- as many choices as meters or arcs

pub counts_length : (N : ℕ) (p : List ℕ) → length (count_choices N p) ≡ N
unfolding count_choices
counts_length N p = each_length N (neighbours N p)

pub arc_choices_length : (N : ℕ) (ls : List Link) (p : List ℕ) → length (arc_choices N ls p) ≡ 2 * length ls
unfolding arc_choices
arc_choices_length N ls p = length-map (arcs ls) (arc_choice N p) ∙ arcs_length ls
