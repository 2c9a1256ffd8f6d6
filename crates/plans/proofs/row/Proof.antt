-- `row` hands on the front part of the slice that `filled` returns. The borrow checker proves no clause about what a slice ends as for a part of it, so this proof walks the code by hand.
use Rattle.std.proofs.Common.{◌≡◌, ℕ, ◌≤◌, List, [], ◌∷◌, ◌++◌, length, drop as drop_list, take, refl, ap, ap₂, ◌∙◌, w64, MutBor, arith}
use Rattle.std.proofs.raw_atomic.Walks.{proved}
use base.Logic.{id⊢, emp}
use base.Fml.{GName, ftrue, flft}
use lib.IntN.{ℤ}
use mir.Syntax.{named}
use mir.Val.{vint, vstruct, vcons, vnil, of_list}
use contract.Monad.{fact, fact_i}
use contract.Running.{tables}
use types.Kit.{‵, raw, ◌⊛◌, some, later, ◌$◌, ◌∵◌, !, qed, done, move, drop, use0, use1, use2, split, split3, join, fsplit, fjoin, fpick, feq_l, pick, await, rewrite, suffices, frame}
use types.Part.{whole, sub, agg}
use types.Run.{enter, of_opd, addr, stop, fld, hop, from, no_more, and_then, returns}
use types.ByLocal.{alloc_all, pass_all, free_all, look_at, look_in_at, get, get_in, sets, lands_as}
use denote.Array.{Array}
use denote.Builtin.{u8, u64, i64, usize, SliceRefOf}
use denote.Exit.{yes, no}
use denote.Follow.{follows}
use denote.Laws.{Is, shows}
use denote.Plain.{uint_vals, uint_Tells}
use denote.Signature.{plain}
use denote.Slice.{MutSlice, slice_val, shr_slice_vals, shr_slice_Tells, mut_slice_vals, mut_slice_Tells}
use denote.Steps.{nothing, heard, peeks, only}
use denote.Struct.Loose.{loose_lawful}
use denote.Struct.Tuple.{Tuple}
use denote.Triple.Call.{calls_at}
use denote.Triple.Clauses.{Lasts, lasts}
use denote.Triple.Spec.{triple_of}
use denote.Triple.Table.{framed}
use denote.Triple.Walked.{Stays, stay_dropped, walk_of, ends_at, Goes-dropped, Goes-spent_slice}
use Rattle.std.proofs.lemmas.List.{length-take}
use Rattle.plans.specs.Calls.{row_part_in, row_after_in}
use Rattle.plans.specs.contracts.Ask as ask
use Rattle.plans.proofs.Ask.TheLaws as laws
use Rattle.plans.proofs.Calling.{row_front}
use Rattle.plans.proofs.Front.{lent, lends}
use Rattle.plans.specs.contracts.filled as g
use Rattle.plans.proofs.filled.Met.{met}
use Rattle.plans.specs.contracts.row as f
use Rattle.plans.proofs.row.Statement.{statement}
use Rattle.plans.proofs.row.Code as code

abbrev stayed : Stays f.ended.signature.params f.ended.kept
stayed = (stay_dropped _ yes, (stay_dropped _ yes, (stay_dropped _ yes, (stay_dropped _ no, tt))))

pub row_spec : {M : Type 1} → statement M
row_spec 𝓤 𝓛 𝓜 𝓡 wired =
    let c = f.clauses 𝓛 𝓜.mem 𝓡.returns in
    proved 𝓛 f.ended stayed c 𝓜 𝓡
    (Goes-dropped 𝓛 2 (SliceRefOf (0 ∷ []) tt (plain (λ _. u8)) (λ _. tt)) yes (λ κs x w. refl), (Goes-dropped 𝓛 2 (plain (λ _. ask.the_row)) yes (λ κs x w. refl), (Goes-dropped 𝓛 2 (plain (λ _. u64)) yes (λ κs x w. refl), (Goes-spent_slice 𝓛 2 (1 ∷ []) tt (plain (λ _. i64)), tt))))
    f.Key.name code.function (code.unfolded 𝓤 𝓛.H 𝓜 𝓡 wired)
    (λ κs. (shr_slice_vals, ((λ d. laws.lowered d ∷ []), (uint_vals w64, (mut_slice_vals, tt)))))
    (λ κs. (shr_slice_Tells (named 0) κs.0 u8, (laws.lowers.val_is, (uint_Tells w64, (mut_slice_Tells (named 1) κs.1.0 i64, tt)))))
    (λ κs qs bounds a _ are.
    let κ = κs.1.0 in let q = qs.1.0 in let s = a.0.now in let i = a.1.1.0 in let out = a.1.1.1.0 in
    let part = row_part_in s a.1.0 i (length out.now) in
    let y : (walk_of 𝓛 f.ended stayed c).Ghost = ((κs, qs, bounds, a, (shr_slice_vals a.0, (laws.lowered a.1.0 ∷ [], (vint w64 i ∷ [], (mut_slice_vals out, tt))))), tt) in
    let G = triple_of 𝓛 g.signature (g.spec 𝓛 𝓜.mem 𝓡.returns) in
    let z : G.Ghost = y in
    qed 𝓛 (raw (G.pre z) ∷ []) ∵ enter ! _ _ _ _ _ $
    alloc_all ! (λ l. pass_all ! refl ((tt, (tt, (record { fits = are.0.0.1.0 }, tt))), (((loose_lawful ask.the_type laws.the_loose 𝓛).typed a.1.0 _ are.1.0).0, ((tt, record { fits = are.1.1.0.1 }), ((tt, (tt, (record { fits = are.1.1.1.0.0.1.0 }, tt))), tt)))) $
    sets ! (addr ! (from ! (fld ! refl (hop ! (look_in_at ! 4 (sub ! 0 refl (whole !))) (stop !))))) refl (tt, tt) $
    sets ! (agg ! (and_then ! (get ! refl) (and_then ! (get_in ! (fld ! refl (stop !)) (sub ! 1 refl (whole !))) (no_more !)))) refl (tt, (tt, (record { fits = are.1.1.1.0.0.1.0 }, tt))) $
    calls_at ! (framed 𝓤 𝓛.H 𝓜 (tables 𝓤 𝓛.H 𝓜 𝓡 𝓡.env)) G (met 𝓤 𝓛 𝓜 𝓡 (code.calls-plans::filled 𝓡.env wired)) z
    (and_then ! (get ! refl) (and_then ! (get ! refl) (and_then ! (get ! refl) (and_then ! (get ! refl) (no_more !))))) (λ v.
    use1 𝓛 (later (some (λ (r : MutBor (List ℤ) × ℕ). ((‵ (flft κs.0 qs.0) ⊛ ‵ (flft κ q) ⊛ ‵ ftrue) ⊛ ‵ ((Tuple (MutSlice (named 1) κ i64 ∷ usize ∷ [])).own_val r (v ∷ []))) ⊛
    some (λ (ws : Lasts g.ended κs a). ‵ (lasts g.ended κs a ws) ⊛ raw (fact 𝓤 ((r.0.ghost_name ≡ out.ghost_name) × (r.0.ref_ptr ≡ out.ref_ptr))) ⊛ raw (fact 𝓤 (r.0.now ≡ row_after_in s a.1.0 i out.now)) ⊛ raw (fact 𝓤 (r.1 ≡ length part)))))) (id⊢ 𝓤 _) $
    await ! tt $ pick ! (λ r. split ! $ split ! $ move ! (2 ∷ []) $ pick ! (λ ws. split ! $ drop ! $ split3 ! $ heard ! _ (λ same. heard ! _ (λ then. heard ! _ (λ len.
    -- [the tokens; the pair]
    let Part = MutSlice (named 1) κ i64 in
    move ! (1 ∷ []) $ fpick ! (λ vss. fsplit ! $ feq_l ! (λ is. fsplit ! $ peeks ! Part (Is Part) (shows 𝓛 Part) r.0 vss.0 (λ is_slice.
    move ! (1 ∷ []) $ fsplit ! $ peeks ! usize (Is usize) (shows 𝓛 usize) r.1 vss.1.0 (λ is_len. drop ! $ drop ! $
    -- [the slice; the tokens]
    let room = is_slice.0.1 in
    let pair : v ≡ vstruct (vcons (slice_val r.0.ref_ptr (length r.0.now)) (vcons (vint w64 r.1) vnil)) = ap only (is ∙ ap₂ (λ us ws. vstruct (of_list (us ++ (ws ++ []))) ∷ []) (mut_slice_Tells (named 1) κ i64 r.0 vss.0 is_slice) (uint_Tells w64 r.1 vss.1.0 is_len)) in
    lands_as ! pair refl (tt, ((tt, (record { fits = room.0 }, tt)), (record { fits = is_len.1 }, tt))) $
    sets ! (of_opd ! (get_in ! (fld ! refl (stop !)) (sub ! 0 refl (whole !)))) refl (tt, (tt, (record { fits = room.0 }, tt))) $
    sets ! (of_opd ! (get_in ! (fld ! refl (stop !)) (sub ! 1 refl (whole !)))) refl (tt, record { fits = is_len.1 }) $
    sets ! (addr ! (from ! (fld ! refl (hop ! (look_in_at ! 5 (sub ! 0 refl (whole !))) (stop !))))) refl (tt, tt) $
    sets ! (agg ! (and_then ! (get ! refl) (and_then ! (get ! refl) (no_more !)))) refl (tt, (tt, (record { fits = is_len.1 }, tt))) $
    let cut = row_front s a.1.0 i out.now r.1 r.0.now len then in
    let within : r.1 ≤ length r.0.now = omega (arith, len, ap length cut.0, length-take r.1 r.0.now) in
    move ! (1 ∷ []) $ split3 ! $ move ! (3 ∷ 1 ∷ []) $
    use2 𝓛 (later (some (lent 𝓛 (named 1) κ q r.0.ref_ptr.0 r.0.ref_ptr.1 r.0.ghost_name r.0.now r.1))) (lends 𝓛 (named 1) κ q r.0.ref_ptr.0 r.0.ref_ptr.1 r.0.ghost_name r.0.now r.1 room within vss.0) $ await ! tt $ pick ! (λ δ. split3 ! $
    -- [the part; the token of the slice; what the slice ends as; the token of the image; nothing]
    returns ! (look_at ! 0 refl) $ free_all ! refl $
    suffices ! _ (ends_at 𝓛 f.ended stayed c y (slice_val r.0.ref_ptr r.1) (record { ref_ptr = r.0.ref_ptr; ghost_name = δ; now = take r.1 r.0.now }) (tt, (tt, (tt, (tt, tt)))) (tt, (tt, (tt, (tt, tt))))) $
    rewrite ! 2 (λ (γ : GName). ‵ (follows (Array i64 0) (Array i64 0) γ δ (λ w. w ++ drop_list r.1 r.0.now))) same.0 refl $
    rewrite ! 2 (λ (l : List ℤ). ‵ (follows (Array i64 0) (Array i64 0) out.ghost_name δ (λ w. w ++ l))) cut.1 refl $
    nothing ! $ nothing ! $ fjoin ! $ nothing ! $ fjoin ! $ nothing ! $ fjoin ! $ nothing ! $ fjoin ! $ join ! $
    move ! (1 ∷ 4 ∷ []) $ join ! $ move ! (3 ∷ 0 ∷ []) $ join ! $ join ! $ frame ! $
    use0 𝓛 (raw (fact 𝓤 (s ≡ s))) (fact_i 𝓤 _ (emp 𝓤) refl) $ frame ! $
    use0 𝓛 (raw (fact 𝓤 (take r.1 r.0.now ≡ part))) (fact_i 𝓤 _ (emp 𝓤) cut.0) $ frame ! $
    use0 𝓛 (raw (fact 𝓤 (r.0.ref_ptr ≡ out.ref_ptr))) (fact_i 𝓤 _ (emp 𝓤) same.1) $ frame ! $ done !)))))))))))))
