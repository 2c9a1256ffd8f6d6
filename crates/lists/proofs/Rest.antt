-- The entries of a list from an index on, as code cuts them: how many there are, and which is at an index. Assumes nothing.
use Rattle.std.proofs.Common.{ℕ, ◌+◌, ◌-◌, ◌≤◌, ◌<◌, ◌≡◌, List, length, get_or, take, drop, length-take, length-drop, arith, refl}
use lib.Seq.{get_or-take, get_or-drop}

module _ {A : Type 0} (xs : List A) (from : ℕ) where
  -- those from there on
  abbrev pub rest : List A
  rest = take (length xs - from) (drop from xs)

  module _ (inside : from ≤ length xs) where
    pub rest_length : from + length rest ≡ length xs
    rest_length = rw (length-take, length-drop) (omega arith)

    pub rest_at : (d : A) (k : ℕ) → k < length rest → get_or rest k d ≡ get_or xs (from + k) d
    rest_at d k h = rw (get_or-take (length xs - from) (drop from xs) k d (omega (arith, h, rest_length)), get_or-drop) refl
