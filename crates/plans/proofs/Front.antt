-- The front part of a `&mut [i64]` is lent as a slice, and what lies behind it stays: once the part's loan ends, the slice ends as what the part ends as, and behind it what was there. Assumes `Logic`.
use mathlib.Core.Path.{◌≡◌, refl, sym}
use Prim.Native.Nat.{ℕ, ◌*◌, ◌<◌, ◌≤◌, ◌^◌}
use native.Mathlib.Nat.{mul-le-mul_right}
use native.Mathlib.Omega.{arith}
use mathlib.Core.List.{List, [], ◌∷◌, ◌++◌}
use lib.ListN.{length, take, drop as drop_list, take-append-drop, length-drop, length-append}
use seplogic.Ra.Ura.{Ura}
use mir.Syntax.{Lifetime}
use mir.Val.{Val}
use base.Logic.{SProp, ent, sep, ex}
use base.Stored.{coded_list}
use base.Fml.{Lft, GName, Share, flft, fobs, fbor}
use types.Logic.{Logic, sem}
use types.Kit.{Item, ‵, ◌⊛◌, some, later, ◌$◌, ◌∵◌, !, qed, move, drop, split, split3, fsplit, fsplit3, fjoin, feq_i, feq_l, use1, use2, await, pick, group, updating, now, show, rewrite, done}
use types.SemTy.{cells, Arr, Body}
use types.Follow.{takes_part}
use types.Mut.{open_ref}
use denote.Array.{Array}
use denote.Builtin.{i64}
use denote.Follow.{follows}
use denote.FollowSlice.{heres_id, slice_of}
use denote.Memory.{mem}
use denote.Slice.{MutSlice, Room, slice_val}
use borrow.Table.Elements.{at, cut_app, join_app, length-take-le}

module _ {M : Type 1} {𝓤 : Ura M} (𝓛 : Logic 𝓤) (ℓ : Lifetime) (κ : Lft) (q : Share) (b o : ℕ) (γ : GName) (xs : List i64.Denot) (m : ℕ) where
  open 𝓛 use {H, A}

  abbrev before : List i64.Denot
  before = take m xs

  abbrev behind : List i64.Denot
  behind = drop_list m xs

  abbrev after : List i64.Denot → List i64.Denot
  after ws = ws ++ behind

  abbrev past : ℕ → ℕ
  past = at o (mem i64).size

  -- the part is back at any ws, as many as were lent
  put : m ≤ length xs → (ws : List i64.Denot)
      → ent 𝓤 (sep 𝓤 (sem 𝓛 ((Arr (mem i64) (length before)).own_at ws b o)) (sem 𝓛 (cells (mem i64) behind b (past (length before))))) (sem 𝓛 ((Arr (mem i64) (length xs)).own_at (after ws) b o))
  put le ws =
      let few = length-take-le m xs le in
      let both = length-append ws behind in
      let rest = length-drop m xs in
      qed 𝓛 (‵ ((Arr (mem i64) (length before)).own_at ws b o) ∷ ‵ (cells (mem i64) behind b (past (length before))) ∷ []) ∵ fsplit ! $ feq_l ! (λ e.
      rewrite ! 1 (λ (k : ℕ). ‵ (cells (mem i64) behind b (past k))) (sym e) refl $
      use2 𝓛 (‵ (cells (mem i64) (after ws) b o)) (join_app 𝓛 (mem i64) ws behind b o) $
      feq_i ! ℕ (length (after ws)) (length xs) (omega arith) $ fjoin ! $ done !)

  abbrev pub Lent : GName → SProp 𝓤
  Lent δ = sep 𝓤 (sem 𝓛 ((MutSlice ℓ κ i64).own_val (record { ref_ptr = (b, o); ghost_name = δ; now = before }) (slice_val (b, o) m ∷ []))) (sep 𝓤 (A.lft κ q) (sem 𝓛 (follows (Array i64 0) (Array i64 0) γ δ after)))

  -- the part under a new name, the token, and what the slice ends as
  abbrev pub lent : GName → Item 𝓤
  lent δ = ‵ ((MutSlice ℓ κ i64).own_val (record { ref_ptr = (b, o); ghost_name = δ; now = before }) (slice_val (b, o) m ∷ [])) ⊛ ‵ (flft κ q) ⊛ ‵ (follows (Array i64 0) (Array i64 0) γ δ after)

  pub lends : Room i64 (length xs) → m ≤ length xs → (vs : List Val)
      → ent 𝓤 (sep 𝓤 (sem 𝓛 ((MutSlice ℓ κ i64).own_val (record { ref_ptr = (b, o); ghost_name = γ; now = xs }) vs)) (A.lft κ q)) (H.⇛ (ex 𝓤 Lent))
  lends rm le vs =
      let few : length before ≡ m = length-take-le m xs le in
      let bytes : length before * (mem i64).size ≤ length xs * (mem i64).size = mul-le-mul_right (mem i64).size (omega arith) in
      let fits : length xs < 2 ^ 64 = rm.0 in
      let small : length xs * (mem i64).size < 2 ^ 63 = rm.1 in
      let room : Room i64 (length before) = (omega arith, omega arith) in
      qed 𝓛 (‵ ((MutSlice ℓ κ i64).own_val (record { ref_ptr = (b, o); ghost_name = γ; now = xs }) vs) ∷ ‵ (flft κ q) ∷ []) ∵ updating ! $ fsplit3 ! $ drop ! $
      rewrite ! 0 (λ (l : List i64.Denot). ‵ (fobs γ ((coded_list i64.coded).code l))) (heres_id i64 xs) refl $ open_ref ! tt (Arr (mem i64) (length xs)) {b = b} {o = o} $ fsplit ! $ drop ! $
      rewrite ! 0 (λ (l : List i64.Denot). ‵ (cells (mem i64) l b o)) (sym (take-append-drop m xs)) refl $
      use1 𝓛 (‵ (cells (mem i64) before b o) ⊛ ‵ (cells (mem i64) behind b (past (length before)))) (cut_app 𝓛 (mem i64) before behind b o) $ split ! $
      feq_i ! ℕ (length before) (length before) refl $ fjoin ! $ move ! (2 ∷ 3 ∷ 4 ∷ 0 ∷ 1 ∷ []) $ group ! 5 $
      use1 𝓛 (later (some (λ (δ : GName). ‵ (fobs δ ((coded_list i64.coded).code before)) ⊛ ‵ (fbor κ (Body (Arr (mem i64) (length before)) b o δ)) ⊛ ‵ (flft κ q) ⊛ ‵ (follows (Array i64 0) (Array i64 0) γ δ after))))
      (takes_part 𝓛 (Arr (mem i64) (length xs)) (Arr (mem i64) (length before)) after κ q b o b o γ (sem 𝓛 (cells (mem i64) behind b (past (length before)))) (put le) ((coded_list i64.coded).code xs) ((coded_list i64.coded).code xs) before) $ await ! tt $ pick ! (λ δ. split3 ! $
      use2 𝓛 (‵ ((MutSlice ℓ κ i64).own_val (record { ref_ptr = (b, o); ghost_name = δ; now = before }) (slice_val (b, o) (length before) ∷ []))) (slice_of 𝓛 i64 ℓ κ b o δ before room) $
      rewrite ! 0 (λ (k : ℕ). ‵ ((MutSlice ℓ κ i64).own_val (record { ref_ptr = (b, o); ghost_name = δ; now = before }) (slice_val (b, o) k ∷ []))) few refl $ now ! $ show ! Lent δ $ done !)
