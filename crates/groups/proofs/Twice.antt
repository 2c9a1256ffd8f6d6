-- A cut link counts twice: once for the group of each end. Assumes nothing.
use Prim.Native.Nat.{ℕ, ◌+◌, ◌*◌, ◌≤◌}
use mathlib.Core.Path.{◌≡◌, refl, sym, ap, ap₂, ◌∙◌}
use mathlib.Core.List.{List}
use native.Mathlib.Omega.{arith}
use native.Mathlib.Decide.{ℕ_discrete}
use native.Mathlib.Nat.{mul-one, mul-zero}
use Rattle.lists.specs.Sums.{sum_to, same, differ, nth}
use Rattle.lists.proofs.Sums.{same_yes, same_no, differ_yes, differ_no, differ_le, sum_to_eq, sum_to_add, sum_to_none, sum_to_single, sum_of_le, sum_of_times, times_bit}
use Rattle.links.specs.Links.{total}
use Rattle.links.specs.declared.Link.{Link}
use Rattle.links.specs.Survey.{LinkOf, IsSurvey}
use Rattle.links.proofs.Walk.{sum_equal}
use Rattle.onehot.specs.Choices.{bit_at, code}
use Rattle.onehot.proofs.Codes.{Choices, bit_code}
use Rattle.groups.specs.Formula.{cutting_of}
use Rattle.groups.specs.Plans.{cut_weight}

-- ---- one link, whose ends are in the groups c and d

one_term : (m w c : ℕ) → 1 ≤ c → c ≤ m → sum_to m (λ g. w * same c g) ≡ w
one_term m w c a b =
    sum_to_single m (λ g. w * same c g) c a b (λ g ne. rw (same_no c g (λ e. ne (sym e))) (mul-zero w))
    ∙ rw (same_yes c c refl) (mul-one w)

two_terms : (w c d g : ℕ) → (c ≡ d → ⊥) → w * differ (same c g) (same d g) ≡ w * same c g + w * same d g
two_terms w c d g ne =
    elim (ℕ_discrete c g) [
      | yes e ↦ (let z : same d g ≡ 0 = same_no d g (λ q. ne (e ∙ sym q)) in
          rw (same_yes c g e, z) (omega (arith, mul-one w, mul-zero w, ap (λ t. w * t) (differ_yes 1 0 (λ q. omega arith)))))
      | no e ↦ elim (ℕ_discrete d g) [
        | yes q ↦ rw (same_no c g e, same_yes d g q) (omega (arith, mul-one w, mul-zero w, ap (λ t. w * t) (differ_yes 0 1 (λ q. omega arith))))
        | no q ↦ rw (same_no c g e, same_no d g q) (omega (arith, mul-zero w, ap (λ t. w * t) (differ_no 0 0 refl)))
      ]
    ]

link_twice : (m w c d : ℕ) → 1 ≤ c → c ≤ m → 1 ≤ d → d ≤ m → sum_to m (λ g. w * differ (same c g) (same d g)) ≡ 2 * (w * differ c d)
link_twice m w c d c1 cm d1 dm =
    elim (ℕ_discrete c d) [
      | yes e ↦
          sum_to_none m (λ g. w * differ (same c g) (same d g)) (λ g a b. rw (differ_no (same c g) (same d g) (ap (λ t. same t g) e)) (mul-zero w))
          ∙ omega (arith, mul-zero w, ap (λ t. w * t) (differ_no c d e))
      | no e ↦
          sum_to_eq m (λ g. w * differ (same c g) (same d g)) (λ g. w * same c g + w * same d g) (λ g a b. two_terms w c d g e)
          ∙ sum_to_add m (λ g. w * same c g) (λ g. w * same d g)
          ∙ omega (arith, one_term m w c c1 cm, one_term m w d d1 dm, mul-one w, ap (λ t. w * t) (differ_yes c d e))
    ]

-- ---- all links

pub cutting_twice : (N m : ℕ) (ls : List Link) → IsSurvey N ls → (p : List ℕ) → Choices N m p → cutting_of m ls (bit_at m (code m p)) ≡ 2 * cut_weight ls p
unfolding cutting_of cut_weight
cutting_twice N m ls s p ok =
    sum_equal N ls s.each (λ l. sum_to m (λ g. l.weight * differ (bit_at m (code m p) l.u g) (bit_at m (code m p) l.v g))) (λ l. 2 * (l.weight * differ (nth p l.u) (nth p l.v))) each
    ∙ sum_of_times ls 2 (λ l. l.weight * differ (nth p l.u) (nth p l.v))
  where
    each : (l : Link) → LinkOf N l → sum_to m (λ g. l.weight * differ (bit_at m (code m p) l.u g) (bit_at m (code m p) l.v g)) ≡ 2 * (l.weight * differ (nth p l.u) (nth p l.v))
    each l o =
        let un : l.u ≤ N = omega (arith, o.ordered, o.v_high) in
        let v1 : 1 ≤ l.v = omega (arith, o.ordered) in
        sum_to_eq m (λ g. l.weight * differ (bit_at m (code m p) l.u g) (bit_at m (code m p) l.v g)) (λ g. l.weight * differ (same (nth p l.u) g) (same (nth p l.v) g))
        (λ g a c. ap (λ t. l.weight * t) (ap₂ differ (bit_code N m p ok l.u g o.u_low un a c) (bit_code N m p ok l.v g v1 o.v_high a c)))
        ∙ link_twice m l.weight (nth p l.u) (nth p l.v) (ok.fits l.u o.u_low un).0 (ok.fits l.u o.u_low un).1 (ok.fits l.v v1 o.v_high).0 (ok.fits l.v v1 o.v_high).1

-- no plan cuts more than all links
pub cut_total : (ls : List Link) (p : List ℕ) → cut_weight ls p ≤ total ls
unfolding cut_weight total
cut_total ls p = sum_of_le ls (λ l. l.weight * differ (nth p l.u) (nth p l.v)) (λ l. l.weight) (λ l. times_bit l.weight _ (differ_le (nth p l.u) (nth p l.v)))
