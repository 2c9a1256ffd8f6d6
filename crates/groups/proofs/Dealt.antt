-- There is a plan exactly where m divides N: the meters are dealt out to the groups in turn. Assumes nothing.
use Prim.Native.Nat.{ℕ, zero, suc, pred, ◌+◌, ◌*◌, ◌/◌, ◌%◌, ◌≤◌}
use mathlib.Core.Path.{◌≡◌, sym, ap, ◌∙◌}
use mathlib.Core.Logic.{◌↔◌}
use mathlib.Core.Bool.{true}
use mathlib.Core.List.{List}
use native.Mathlib.Omega.{arith}
use native.Mathlib.Nat.{mod-lt, mod-eq_of_lt, mul-add-mod_self_right, mul-mod_left, suc-mul, zero-mul, div-add-mod'}
use lib.ListN.{length}
use Rattle.lists.specs.Sums.{sum_to, same, nth}
use Rattle.lists.proofs.Sums.{same_sym, sum_to_eq, sum_to_same, sum_to_split}
use Rattle.qubo.specs.Terms.{each}
use Rattle.onehot.proofs.Codes.{each_length, each_at}
use Rattle.groups.specs.Plans.{members_of, is_plan}
use Rattle.groups.proofs.Bracket.{split_plan, plan_divides}

-- 1 2 .. m 1 2 .. m ..
dealt : ℕ → ℕ → List ℕ
dealt N m = each N (λ v. suc (pred v % m))

dealt_at : (N m v : ℕ) → 1 ≤ v → v ≤ N → nth (dealt N m) v ≡ suc (pred v % m)
unfolding dealt nth
dealt_at N m zero a b = absurd (omega arith)
dealt_at N m (suc k) a b = each_at N (λ v. suc (pred v % m)) k b

dealt_length : (N m : ℕ) → length (dealt N m) ≡ N
unfolding dealt
dealt_length N m = each_length N (λ v. suc (pred v % m))

-- each of q rounds gives group g one meter
rounds : (m g q : ℕ) → 1 ≤ g → g ≤ m → sum_to (q * m) (λ v. same (suc (pred v % m)) g) ≡ q
unfolding sum_to
rounds m g zero a b = ap (λ t. sum_to t (λ v. same (suc (pred v % m)) g)) (zero-mul m)
rounds m g (suc q) a b =
    ap (λ t. sum_to t (λ v. same (suc (pred v % m)) g)) (suc-mul q m)
    ∙ sum_to_split (q * m) m (λ v. same (suc (pred v % m)) g)
    ∙ omega (arith, rounds m g q a b, sum_to_eq m (λ i. same (suc (pred (q * m + i) % m)) g) (same g) one, sum_to_same m g a b)
  where
    one : (i : ℕ) → 1 ≤ i → i ≤ m → same (suc (pred (q * m + i) % m)) g ≡ same g i
    one zero c d = absurd (omega arith)
    one (suc i) c d =
        let e : q * m + suc i ≡ suc (q * m + i) = omega arith in
        ap (λ t. same (suc (pred t % m)) g) e
        ∙ ap (λ t. same (suc t) g) (mul-add-mod_self_right q m i ∙ mod-eq_of_lt d)
        ∙ same_sym (suc i) g

dealt_plan : (N m : ℕ) → 1 ≤ m → N % m ≡ 0 → is_plan N m (dealt N m) ≡ true
unfolding members_of
dealt_plan N m m1 d = split_plan N m (dealt N m) (record {
  choices = record { size = dealt_length N m; fits = λ v a b. rw (dealt_at N m v a b) (omega arith, mod-lt (pred v) m1) };
  level = λ g h a b c e. count g a b ∙ sym (count h c e);
})
  where
    whole : N ≡ N / m * m
    whole = omega (arith, div-add-mod' N m)

    count : (g : ℕ) → 1 ≤ g → g ≤ m → sum_to N (λ v. same (nth (dealt N m) v) g) ≡ N / m
    count g a b =
        sum_to_eq N (λ v. same (nth (dealt N m) v) g) (λ v. same (suc (pred v % m)) g) (λ v c e. ap (λ t. same t g) (dealt_at N m v c e))
        ∙ ap (λ t. sum_to t (λ v. same (suc (pred v % m)) g)) whole
        ∙ rounds m g (N / m) a b

pub plan_exists : (N m : ℕ) → 1 ≤ m → (N % m ≡ 0) ↔ ((p : List ℕ) × (is_plan N m p ≡ true))
plan_exists N m m1 = (
  λ d. (dealt N m, dealt_plan N m m1 d),
  λ t. ap (λ (n : ℕ). n % m) (plan_divides N m m1 t.0 t.1) ∙ mul-mod_left _ m,
)
