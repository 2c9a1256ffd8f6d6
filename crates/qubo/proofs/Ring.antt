-- Identities of the commutative ring ℤ, by computation. `solve e₁ e₂ tt ρ` proves that two expressions have equal values where they have equal normal forms.
-- `solve_bits n e₁ e₂ tt ρ h` does so where the first n variables are bits, or any values v with v² ≡ v.
-- A normal form is a sum of terms, sorted by their monomials, with no coefficient 0; a monomial is the sorted list of its variables. That forms are sorted is not proved: soundness does not need it.
-- Assumes nothing.
use mathlib.Core.Path.{◌≡◌, refl, sym, ap, ap₂, ◌∙◌}
use mathlib.Core.Bool.{Bool, true, false, ◌&&◌}
use mathlib.Core.List.{List, [], ◌∷◌}
use Prim.Native.Nat.{ℕ, zero, suc, ◌<◌}
use native.Mathlib.Nat.{le_of_suc-le-suc}
use native.Mathlib.Omega.{arith}
use lib.Dec.{T, leb, ltb, eqb, eqb→eq, ltb→lt}
use lib.ListN.{get_or}
use lib.IntN.{ℤ, pos, negsuc, neg_ℤ, ◌+ℤ◌, ◌*ℤ◌, one, +ℤ_idl, +ℤ_idr, +ℤ_assoc, zero-*ℤ, *ℤ-zero, *ℤ-one, neg_ℤ-+ℤ}
use Rattle.qubo.proofs.Ints.{+ℤ_left_comm, negℤ_*ℤ, +ℤ_*ℤ, *ℤ_+ℤ, *ℤ_assoc, *ℤ_left_comm, one_*ℤ}

infixl 6 ◌⊕◌ ◌⊖◌
infixl 7 ◌⊗◌
pub data Expr : Type 0 where
  var : ℕ → Expr
  con : ℤ → Expr
  ◌⊕◌ : Expr → Expr → Expr
  ◌⊗◌ : Expr → Expr → Expr
  neg : Expr → Expr

abbrev pub ◌⊖◌ : Expr → Expr → Expr
a ⊖ b = a ⊕ neg b

abbrev pub eval : Expr → List ℤ → ℤ
eval (var i) ρ = get_or ρ i (pos 0)
eval (con c) ρ = c
eval (a ⊕ b) ρ = eval a ρ +ℤ eval b ρ
eval (a ⊗ b) ρ = eval a ρ *ℤ eval b ρ
eval (neg a) ρ = neg_ℤ (eval a ρ)

-- ---- normal forms
pub data Poly : Type 0 where
  nil : Poly
  node : List ℕ → ℤ → Poly → Poly

-- i, put before j or dropped, or r
abbrev pub put : Bool → Bool → ℕ → ℕ → List ℕ → List ℕ → List ℕ
put le true i j m r = j ∷ m
put true false i j m r = i ∷ j ∷ m
put false false i j m r = r

-- n of the variables are bits
abbrev pub ins_v : ℕ → ℕ → List ℕ → List ℕ
ins_v n i [] = i ∷ []
ins_v n i (j ∷ m) = let r = j ∷ ins_v n i m in put (leb i j) (eqb i j && ltb j n) i j m r

abbrev pub mul_m : ℕ → List ℕ → List ℕ → List ℕ
mul_m n [] l = l
mul_m n (i ∷ m) l = ins_v n i (mul_m n m l)

pub data Order : Type 0 where
  less same more : Order

abbrev pub first_of : Bool → Bool → Order → Order
first_of true e o = less
first_of false true o = o
first_of false false o = more

abbrev pub order : List ℕ → List ℕ → Order
order [] [] = same
order [] (j ∷ n) = less
order (i ∷ m) [] = more
order (i ∷ m) (j ∷ n) = first_of (ltb i j) (eqb i j) (order m n)

abbrev pub cons : List ℕ → ℤ → Poly → Poly
cons m (pos zero) p = p
cons m (pos (suc c)) p = node m (pos (suc c)) p
cons m (negsuc c) p = node m (negsuc c) p

abbrev pub place : Order → List ℕ → ℤ → List ℕ → ℤ → Poly → Poly → Poly
place less m c n d p r = cons m c (node n d p)
place same m c n d p r = cons m (c +ℤ d) p
place more m c n d p r = node n d r

abbrev pub ins : List ℕ → ℤ → Poly → Poly
ins m c nil = cons m c nil
ins m c (node n d p) = let r = ins m c p in place (order m n) m c n d p r

abbrev pub add_p : Poly → Poly → Poly
add_p nil q = q
add_p (node m c p) q = ins m c (add_p p q)

abbrev pub mul_t : ℕ → List ℕ → ℤ → Poly → Poly
mul_t n m c nil = nil
mul_t n m c (node l d p) = ins (mul_m n m l) (c *ℤ d) (mul_t n m c p)

abbrev pub mul_p : ℕ → Poly → Poly → Poly
mul_p n nil q = nil
mul_p n (node m c p) q = add_p (mul_t n m c q) (mul_p n p q)

abbrev pub neg_p : Poly → Poly
neg_p nil = nil
neg_p (node m c p) = node m (neg_ℤ c) (neg_p p)

abbrev pub norm : ℕ → Expr → Poly
norm n (var i) = node (i ∷ []) (pos 1) nil
norm n (con c) = cons [] c nil
norm n (a ⊕ b) = add_p (norm n a) (norm n b)
norm n (a ⊗ b) = mul_p n (norm n a) (norm n b)
norm n (neg a) = neg_p (norm n a)

-- ---- the test of two normal forms. It is a Boolean, since two long forms are compared far faster by computing than by `refl`
abbrev pub is_same : Order → Bool
is_same less = false
is_same same = true
is_same more = false

abbrev pub eqℤ : ℤ → ℤ → Bool
eqℤ (pos a) (pos b) = eqb a b
eqℤ (pos a) (negsuc b) = false
eqℤ (negsuc a) (pos b) = false
eqℤ (negsuc a) (negsuc b) = eqb a b

abbrev pub eq_p : Poly → Poly → Bool
eq_p nil nil = true
eq_p nil (node n d q) = false
eq_p (node m c p) nil = false
eq_p (node m c p) (node n d q) = is_same (order m n) && (eqℤ c d && eq_p p q)

eqℤ_sound : (a b : ℤ) → T (eqℤ a b) → a ≡ b
eqℤ_sound (pos a) (pos b) t = ap pos (eqb→eq a b t)
eqℤ_sound (pos a) (negsuc b) t = absurd t
eqℤ_sound (negsuc a) (pos b) t = absurd t
eqℤ_sound (negsuc a) (negsuc b) t = ap negsuc (eqb→eq a b t)

-- ---- their values
-- the first n values are their own squares
abbrev pub Squares : ℕ → List ℤ → Type 0
Squares zero ρ = Unit {0}
Squares (suc n) [] = Unit {0}
Squares (suc n) (v ∷ ρ) = (v *ℤ v ≡ v) × Squares n ρ

square_at : (n : ℕ) (ρ : List ℤ) → Squares n ρ → (k : ℕ) → k < n → get_or ρ k (pos 0) *ℤ get_or ρ k (pos 0) ≡ get_or ρ k (pos 0)
square_at zero ρ h k l = let z : ⊥ = omega arith in absurd z
square_at (suc n) [] h k l = refl
square_at (suc n) (v ∷ ρ) h zero l = h.0
square_at (suc n) (v ∷ ρ) h (suc k) l = square_at n ρ h.1 k (le_of_suc-le-suc l)

module _ (ρ : List ℤ) where
  abbrev val_m : List ℕ → ℤ
  val_m [] = pos 1
  val_m (i ∷ m) = get_or ρ i (pos 0) *ℤ val_m m

  abbrev val_p : Poly → ℤ
  val_p nil = pos 0
  val_p (node m c p) = c *ℤ val_m m +ℤ val_p p

  -- two monomials that the order takes for one have one value
  Same : Order → List ℕ → List ℕ → Type 0
  Same less m n = Unit {0}
  Same same m n = val_m m ≡ val_m n
  Same more m n = Unit {0}

  order_sound : (m n : List ℕ) → Same (order m n) m n
  unfolding Same
  order_sound [] [] = refl
  order_sound [] (j ∷ n) = tt
  order_sound (i ∷ m) [] = tt
  order_sound (i ∷ m) (j ∷ n) = go (ltb i j) (eqb i j) (order m n) (eqb→eq i j) (order_sound m n)
    where
      go : (s t : Bool) (o : Order) → (T t → i ≡ j) → Same o m n → Same (first_of s t o) (i ∷ m) (j ∷ n)
      go true t o e h = tt
      go false true less e h = tt
      go false true same e h = ap (λ k. get_or ρ k (pos 0) *ℤ val_m m) (e tt) ∙ ap (λ x. get_or ρ j (pos 0) *ℤ x) h
      go false true more e h = tt
      go false false o e h = tt

  eq_p_sound : (p q : Poly) → T (eq_p p q) → val_p p ≡ val_p q
  unfolding Same
  eq_p_sound nil nil t = refl
  eq_p_sound nil (node n d q) t = absurd t
  eq_p_sound (node m c p) nil t = absurd t
  eq_p_sound (node m c p) (node n d q) t = go (order m n) (eqℤ c d) (eq_p p q) (order_sound m n) (eqℤ_sound c d) (eq_p_sound p q) t
    where
      go : (o : Order) (a b : Bool) → Same o m n → (T a → c ≡ d) → (T b → val_p p ≡ val_p q) → T (is_same o && (a && b)) → c *ℤ val_m m +ℤ val_p p ≡ d *ℤ val_m n +ℤ val_p q
      go less a b e f g t = absurd t
      go same true true e f g t = ap₂ ◌+ℤ◌ (ap₂ ◌*ℤ◌ (f tt) e) (g tt)
      go same true false e f g t = absurd t
      go same false b e f g t = absurd t
      go more a b e f g t = absurd t

  cons_sound : (m : List ℕ) (c : ℤ) (p : Poly) → val_p (cons m c p) ≡ c *ℤ val_m m +ℤ val_p p
  cons_sound m (pos zero) p = sym (ap (λ x. x +ℤ val_p p) (zero-*ℤ (val_m m)) ∙ +ℤ_idl (val_p p))
  cons_sound m (pos (suc c)) p = refl
  cons_sound m (negsuc c) p = refl

  place_sound : (o : Order) (m : List ℕ) (c : ℤ) (n : List ℕ) (d : ℤ) (p r : Poly) → Same o m n → val_p r ≡ c *ℤ val_m m +ℤ val_p p → val_p (place o m c n d p r) ≡ c *ℤ val_m m +ℤ (d *ℤ val_m n +ℤ val_p p)
  unfolding Same
  place_sound less m c n d p r e h = cons_sound m c (node n d p)
  place_sound same m c n d p r e h = cons_sound m (c +ℤ d) p ∙ ap (λ x. x +ℤ val_p p) (+ℤ_*ℤ c d (val_m m)) ∙ +ℤ_assoc (c *ℤ val_m m) (d *ℤ val_m m) (val_p p) ∙ ap (λ x. c *ℤ val_m m +ℤ (d *ℤ x +ℤ val_p p)) e
  place_sound more m c n d p r e h = ap (λ x. d *ℤ val_m n +ℤ x) h ∙ +ℤ_left_comm (d *ℤ val_m n) (c *ℤ val_m m) (val_p p)

  ins_sound : (m : List ℕ) (c : ℤ) (p : Poly) → val_p (ins m c p) ≡ c *ℤ val_m m +ℤ val_p p
  ins_sound m c nil = cons_sound m c nil
  ins_sound m c (node n d p) = place_sound (order m n) m c n d p (ins m c p) (order_sound m n) (ins_sound m c p)

  add_p_sound : (p q : Poly) → val_p (add_p p q) ≡ val_p p +ℤ val_p q
  add_p_sound nil q = sym (+ℤ_idl (val_p q))
  add_p_sound (node m c p) q = ins_sound m c (add_p p q) ∙ ap (λ x. c *ℤ val_m m +ℤ x) (add_p_sound p q) ∙ sym (+ℤ_assoc (c *ℤ val_m m) (val_p p) (val_p q))

  neg_p_sound : (p : Poly) → val_p (neg_p p) ≡ neg_ℤ (val_p p)
  neg_p_sound nil = refl
  neg_p_sound (node m c p) = ap (λ x. x +ℤ val_p (neg_p p)) (negℤ_*ℤ c (val_m m)) ∙ ap (λ x. neg_ℤ (c *ℤ val_m m) +ℤ x) (neg_p_sound p) ∙ sym (neg_ℤ-+ℤ (c *ℤ val_m m) (val_p p))

  module _ (n : ℕ) (sq : Squares n ρ) where
    ins_v_sound : (i : ℕ) (m : List ℕ) → val_m (ins_v n i m) ≡ get_or ρ i (pos 0) *ℤ val_m m
    ins_v_sound i [] = refl
    ins_v_sound i (j ∷ m) = go (leb i j) (eqb i j) (ltb j n) (eqb→eq i j) (λ t. square_at n ρ sq j (ltb→lt j n t)) (ins_v_sound i m)
      where
        v : ℕ → ℤ
        v k = get_or ρ k (pos 0)

        go : (a b c : Bool) → (T b → i ≡ j) → (T c → v j *ℤ v j ≡ v j) → val_m (ins_v n i m) ≡ v i *ℤ val_m m → val_m (put a (b && c) i j m (j ∷ ins_v n i m)) ≡ v i *ℤ (v j *ℤ val_m m)
        go a true true e f h = sym (ap (λ k. v k *ℤ (v j *ℤ val_m m)) (e tt) ∙ sym (*ℤ_assoc (v j) (v j) (val_m m)) ∙ ap (λ x. x *ℤ val_m m) (f tt))
        go true true false e f h = refl
        go false true false e f h = ap (λ x. v j *ℤ x) h ∙ *ℤ_left_comm (v j) (v i) (val_m m)
        go true false c e f h = refl
        go false false c e f h = ap (λ x. v j *ℤ x) h ∙ *ℤ_left_comm (v j) (v i) (val_m m)

    mul_m_sound : (m l : List ℕ) → val_m (mul_m n m l) ≡ val_m m *ℤ val_m l
    mul_m_sound [] l = sym (one_*ℤ (val_m l))
    mul_m_sound (i ∷ m) l = ins_v_sound i (mul_m n m l) ∙ ap (λ x. get_or ρ i (pos 0) *ℤ x) (mul_m_sound m l) ∙ sym (*ℤ_assoc (get_or ρ i (pos 0)) (val_m m) (val_m l))

    mul_t_sound : (m : List ℕ) (c : ℤ) (p : Poly) → val_p (mul_t n m c p) ≡ (c *ℤ val_m m) *ℤ val_p p
    mul_t_sound m c nil = sym (*ℤ-zero (c *ℤ val_m m))
    mul_t_sound m c (node l d p) =
        ins_sound (mul_m n m l) (c *ℤ d) (mul_t n m c p)
        ∙ ap (λ x. c *ℤ d *ℤ x +ℤ val_p (mul_t n m c p)) (mul_m_sound m l)
        ∙ ap (λ x. x +ℤ val_p (mul_t n m c p)) (swap c d (val_m m) (val_m l))
        ∙ ap (λ x. c *ℤ val_m m *ℤ (d *ℤ val_m l) +ℤ x) (mul_t_sound m c p)
        ∙ sym (*ℤ_+ℤ (c *ℤ val_m m) (d *ℤ val_m l) (val_p p))
      where
        swap : (a b x y : ℤ) → a *ℤ b *ℤ (x *ℤ y) ≡ a *ℤ x *ℤ (b *ℤ y)
        swap a b x y = *ℤ_assoc a b (x *ℤ y) ∙ ap (λ z. a *ℤ z) (*ℤ_left_comm b x y) ∙ sym (*ℤ_assoc a x (b *ℤ y))

    mul_p_sound : (p q : Poly) → val_p (mul_p n p q) ≡ val_p p *ℤ val_p q
    mul_p_sound nil q = sym (zero-*ℤ (val_p q))
    mul_p_sound (node m c p) q = add_p_sound (mul_t n m c q) (mul_p n p q) ∙ ap (λ x. x +ℤ val_p (mul_p n p q)) (mul_t_sound m c q) ∙ ap (λ x. c *ℤ val_m m *ℤ val_p q +ℤ x) (mul_p_sound p q) ∙ sym (+ℤ_*ℤ (c *ℤ val_m m) (val_p p) (val_p q))

    norm_sound : (e : Expr) → val_p (norm n e) ≡ eval e ρ
    unfolding one
    norm_sound (var i) = +ℤ_idr (pos 1 *ℤ (get_or ρ i (pos 0) *ℤ pos 1)) ∙ one_*ℤ (get_or ρ i (pos 0) *ℤ pos 1) ∙ *ℤ-one (get_or ρ i (pos 0))
    norm_sound (con c) = cons_sound [] c nil ∙ +ℤ_idr (c *ℤ pos 1) ∙ *ℤ-one c
    norm_sound (a ⊕ b) = add_p_sound (norm n a) (norm n b) ∙ ap (λ x. x +ℤ val_p (norm n b)) (norm_sound a) ∙ ap (λ x. eval a ρ +ℤ x) (norm_sound b)
    norm_sound (a ⊗ b) = mul_p_sound (norm n a) (norm n b) ∙ ap (λ x. x *ℤ val_p (norm n b)) (norm_sound a) ∙ ap (λ x. eval a ρ *ℤ x) (norm_sound b)
    norm_sound (neg a) = neg_p_sound (norm n a) ∙ ap neg_ℤ (norm_sound a)

pub solve_bits : (n : ℕ) (a b : Expr) → T (eq_p (norm n a) (norm n b)) → (ρ : List ℤ) → Squares n ρ → eval a ρ ≡ eval b ρ
solve_bits n a b t ρ sq = sym (norm_sound ρ n sq a) ∙ eq_p_sound ρ (norm n a) (norm n b) t ∙ norm_sound ρ n sq b

pub solve : (a b : Expr) → T (eq_p (norm 0 a) (norm 0 b)) → (ρ : List ℤ) → eval a ρ ≡ eval b ρ
solve a b t ρ = solve_bits 0 a b t ρ tt
