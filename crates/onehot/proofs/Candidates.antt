-- The choices that bits would code: the lowest one set at each meter. With exactly one set at each meter the bits are their code. Assumes nothing.
use Prim.Native.Nat.{ℕ, zero, suc, ◌+◌, ◌*◌, ◌≤◌, ◌<◌}
use mathlib.Core.Path.{◌≡◌, refl, sym, ◌∙◌}
use mathlib.Core.List.{List, []}
use lib.ListN.{length, get_or, set, take}
use lib.Seq.{ext_get_or}
use native.Mathlib.Omega.{arith}
use native.Mathlib.Numerals.{add-one}
use Rattle.std.specs.List.{AllWithin, HoldsAt}
use Rattle.std.specs.Prelude.{Option, Some, None, MatchOption, unwrap_or}
use Rattle.lists.specs.Sums.{lowest, same, nth}
use Rattle.lists.proofs.Sums.{same_one, lowest_zero, lowest_skip, lowest_found, lowest_ok, lowest_eq, sum_to_same, nth_suc}
use Rattle.qubo.specs.Formula.{Assignment}
use Rattle.onehot.specs.Choices.{bit_at, set_at, code, candidate}
use Rattle.onehot.proofs.Codes.{each_length, each_at, filled_next, filled_end, Choices, bit_code, Hot, hot_code}

pub candidate_length : (N n : ℕ) (x : List ℕ) → length (candidate N n x) ≡ N
unfolding candidate
candidate_length N n x = each_length N (λ v. lowest n (bit_at n x v))

pub candidate_at : (N n : ℕ) (x : List ℕ) (v : ℕ) → 1 ≤ v → v ≤ N → nth (candidate N n x) v ≡ lowest n (bit_at n x v)
unfolding candidate
candidate_at N n x zero a b = absurd (omega arith)
candidate_at N n x (suc k) a b = nth_suc (candidate N n x) k ∙ each_at N (λ v. lowest n (bit_at n x v)) k b

-- ---- the lowest bit set in a part

lowest_zeros : (n : ℕ) (part : List ℕ) → ((k : ℕ) → k < n → get_or part k 0 ≡ 0) → lowest n (nth part) ≡ 0
lowest_zeros zero part h = lowest_zero (nth part)
lowest_zeros (suc n) part h =
    rw (add-one n) at (lowest_skip n (nth part) (lowest_zeros n part (λ k l. h k (omega arith))) (nth_suc part n ∙ h n (omega arith)))

-- it is one above the first index of a byte that is not 0
pub lowest_first : (part : List ℕ) (o : Option ℕ)
    → MatchOption o (AllWithin (λ x. x ≡ 0) part 0 (length part)) (λ i. (i < length part) × HoldsAt (λ x. x ≡ 0 → ⊥) part i × AllWithin (λ x. x ≡ 0) part 0 i)
    → MatchOption o (lowest (length part) (nth part) ≡ 0) (λ i. i + 1 ≡ lowest (length part) (nth part))
lowest_first part None h = lowest_zeros (length part) part (λ k l. h k 0 (omega arith) l)
lowest_first part (Some i) h = lowest_found (length part) i (nth part) h.0 (lowest_zeros i part (λ k l. h.2 k 0 (omega arith) l)) (λ e. h.1 0 (sym (nth_suc part i) ∙ e))

-- 0 where there is none
pub lowest_or : (o : Option ℕ) (k : ℕ) → MatchOption o (k ≡ 0) (λ c. (1 ≤ c) × (c ≡ k)) → unwrap_or o 0 ≡ k
lowest_or None k h = sym h
lowest_or (Some c) k h = h.1

-- ---- exactly one set at each meter

-- the lowest choice set, where exactly one is
lowest_hot : (N n : ℕ) (x : List ℕ) → Hot N n (bit_at n x) → (v : ℕ) → 1 ≤ v → v ≤ N → (1 ≤ nth (candidate N n x) v) × (nth (candidate N n x) v ≤ n) × (1 ≤ bit_at n x v (nth (candidate N n x) v))
unfolding set_at
lowest_hot N n x hot v a b = rw (candidate_at N n x v a b) (lowest_ok n (bit_at n x v) (omega (arith, hot v a b)))

-- exactly one set at each meter: the candidate is a list of choices, and the bits are its code
module _ (N n : ℕ) (x : List ℕ) (hot : Hot N n (bit_at n x)) where
  pub candidate_choices : Choices N n (candidate N n x)
  candidate_choices = record { size = candidate_length N n x; fits = λ v a b. ((lowest_hot N n x hot v a b).0, (lowest_hot N n x hot v a b).1) }

  pub candidate_coded : 1 ≤ n → Assignment (N * n) x → x ≡ code n (candidate N n x)
  candidate_coded n1 s = hot_code N n x (candidate N n x) n1 s hot candidate_choices (λ v a b. (lowest_hot N n x hot v a b).2)

-- the candidate of a code is what it codes
pub candidate_code : (N n : ℕ) (p : List ℕ) → Choices N n p → candidate N n (code n p) ≡ p
unfolding nth
candidate_code N n p ok = ext_get_or 0 (candidate N n (code n p)) p (candidate_length N n (code n p) ∙ sym ok.size) (λ k h. at k (rw (candidate_length N n (code n p)) at h))
  where
    own : (v : ℕ) → 1 ≤ v → v ≤ N → lowest n (same (nth p v)) ≡ nth p v
    own v a b =
        let f : (1 ≤ nth p v) × (nth p v ≤ n) = ok.fits v a b in
        let l = lowest_ok n (same (nth p v)) (omega (arith, sum_to_same n (nth p v) f.0 f.1)) in
        sym (same_one (nth p v) (lowest n (same (nth p v))) l.2)

    at : (k : ℕ) → suc k ≤ N → get_or (candidate N n (code n p)) k 0 ≡ get_or p k 0
    at k h =
        candidate_at N n (code n p) (suc k) (omega arith) h
        ∙ lowest_eq n (bit_at n (code n p) (suc k)) (same (nth p (suc k))) (λ i a b. bit_code N n p ok (suc k) i (omega arith) h a b)
        ∙ own (suc k) (omega arith) h

-- ---- read_off: the choices of the first v meters

module _ (n : ℕ) (x : List ℕ) where
  pub read_start : [] ≡ candidate 0 n x
  unfolding candidate
  read_start = refl

  -- one meter more
  pub read_next : (p : List ℕ) (v c : ℕ) → v < length p → take v p ≡ candidate v n x → c ≡ lowest n (bit_at n x (v + 1)) → take (v + 1) (set p v c) ≡ candidate (v + 1) n x
  unfolding candidate
  read_next p v c h e d = filled_next (λ v. lowest n (bit_at n x v)) p v c h e d

  pub read_end : (N : ℕ) (p : List ℕ) (v : ℕ) → v ≡ N → length p ≡ N → take v p ≡ candidate v n x → p ≡ candidate N n x
  unfolding candidate
  read_end N p v d l e = filled_end (λ v. lowest n (bit_at n x v)) N p v d l e
