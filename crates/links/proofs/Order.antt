-- The order of ends, by u, then by v. Assumes nothing.
use Prim.Native.Nat.{ℕ, ◌<◌}
use mathlib.Core.Bool.{Bool, true, false, ◌&&◌, true≢false}
use mathlib.Core.Path.{◌≡◌, refl, sym}
use lib.Dec.{ltb, eqb}
use borrow.Author.Tests.{le-ltb, lt-ltb, eq-eqb, ltb-true, ltb-false, eqb-true}
use native.Mathlib.Omega.{arith}
use Rattle.links.specs.Links.{before}
use Rattle.lists.proofs.Tests.{Equal, equal, other, equal?, and_left, and_right}

-- the ends (a, b) stand before the ends (c, d), as facts
pub data Before (a b c d : ℕ) : Type 0 where
  less : a < c → Before a b c d
  tied : a ≡ c → b < d → Before a b c d

-- the test gives the facts
pub before_true : (a b c d : ℕ) → before a b c d ≡ true → Before a b c d
unfolding before
before_true a b c d e = go (ltb a c) refl
  where
    go : (t : Bool) → ltb a c ≡ t → Before a b c d
    go true q = less (ltb-true a c q)
    go false q =
        let f : (eqb a c && ltb b d) ≡ true = rw q at e in
        tied (eqb-true a c (and_left (eqb a c) _ f)) (ltb-true b d (and_right (eqb a c) _ f))

-- the facts give the test
pub before_yes : (a b c d : ℕ) → Before a b c d → before a b c d ≡ true
unfolding before
before_yes a b c d (less h) = rw (lt-ltb a c h)
before_yes a b c d (tied e h) = rw (le-ltb a c (omega arith), eq-eqb a c e, lt-ltb b d h)

-- what stands before what stands before, stands before
pub before_trans : {a b c d x y : ℕ} → Before a b c d → Before c d x y → Before a b x y
before_trans (less h) (less k) = less (omega arith)
before_trans (less h) (tied e k) = less (omega arith)
before_trans (tied e h) (less k) = less (omega arith)
before_trans (tied e h) (tied f k) = tied (omega arith) (omega arith)

-- no ends stand before themselves
pub before_irrefl : {a b c d : ℕ} → Before a b c d → a ≡ c → b ≡ d → ⊥
before_irrefl (less h) e f = omega arith
before_irrefl (tied q h) e f = omega arith

-- of two different pairs of ends one stands before the other
pub before_else : (a b c d : ℕ) → before a b c d ≡ false → (a ≡ c → b ≡ d → ⊥) → Before c d a b
unfolding before
before_else a b c d e n = go (ltb a c) refl (equal? a c)
  where
    go : (t : Bool) → ltb a c ≡ t → Equal a c → Before c d a b
    go true q r = absurd (true≢false (rw q at e))
    go false q (other m) = let l = ltb-false a c q in less (omega arith)
    go false q (equal m) =
        let f : ltb b d ≡ false = rw (q, eq-eqb a c m) at e in
        let l = ltb-false b d f in
        let k : (b ≡ d → ⊥) = n m in
        tied (sym m) (omega arith)
