-- `part` reads the block's pointer, and shows the part behind it. Assumes `Logic`.
use Rattle.std.proofs.Common.{◌≡◌, ◌+◌, ◌*◌, ◌^◌, ◌≤◌, List, [], ◌∷◌, length, refl, sym, ap, arith, length-take, length-drop, w64}
use Rattle.std.proofs.Common.{drop as drop_l}
use Rattle.std.proofs.raw_atomic.Walks.{proved}
use Rattle.std.proofs.VecSteps.Shapes.{after}
use Rattle.std.proofs.Words.{pointer_in, pointer_out}
use base.Logic.{never, id⊢}
use base.Fml.{ftrue, flft, fhide}
use mir.Syntax.{named}
use mir.Val.{Val}
use contract.Monad.{fact}
use contract.Running.{tables}
use types.Kit.{‵, raw, ◌⊛◌, at_ret, ◌$◌, ◌∵◌, !, qed, move, keep, drop, use1, split, join, rewrite, fsplit, fjoin, feq_i, flt_l, flt_i, suffices, frame, done}
use types.Part.{agg}
use types.Run.{stop, fld, of_opd, bin, load, look, and_then, no_more, first, blocks, exec, returns, enter}
use types.ByLocal.{alloc_all, pass_all, free_all, look_at, get, through, sets, sets_last, env}
use denote.Builtin.{u8, usize}
use denote.Memory.{hidden_shr}
use denote.Opens.{hide, unhide}
use denote.Plain.{uint_vals, uint_Tells}
use denote.RattleType.{owns}
use denote.RawPtr.{Ptr, block_ptr, in_a_block}
use denote.Ref.{ShrRef, shr_vals, shr_Tells}
use denote.Slice.{slice_val, elements_shared}
use denote.Steps.{nothing, heard}
use denote.Struct.Lending.{lent_out}
use denote.Triple.Entry.{on_entry}
use denote.Triple.Walked.{Stays, walk_of, says, stay_dropped, Goes-dropped, ends_at}
use Rattle.guest_region.specs.ByteSlices.{part}
use Rattle.guest_region.specs.Ownership.{bytes_lent}
use Rattle.guest_region.specs.contracts.block.RawBlock as B
use Rattle.guest_region.specs.contracts.block.RawBlock.part as f
use Rattle.guest_region.proofs.Bytes.{part_seen}
use Rattle.guest_region.proofs.Fields.{Fields, shows_ptr}
use Rattle.guest_region.proofs.Walks.{slot_at}
use Rattle.guest_region.proofs.block.RawBlock.part.Statement.{statement}
use Rattle.guest_region.proofs.block.RawBlock.part.Code as code

abbrev stayed : Stays f.ended.signature.params f.ended.kept
stayed = (stay_dropped (slot_at 0 f.ended.signature.params) f.ended.kept.0, (stay_dropped (slot_at 1 f.ended.signature.params) f.ended.kept.1.0, (stay_dropped (slot_at 2 f.ended.signature.params) f.ended.kept.1.1.0, tt)))

pub part_spec : {M : Type 1} → statement M
part_spec 𝓤 𝓛 𝓜 𝓡 wired =
    let T = f.ended in let S = T.signature in
    let c = f.clauses 𝓛 𝓜.mem 𝓡.returns in let W = walk_of 𝓛 T stayed c in let 𝓣 = tables 𝓤 𝓛.H 𝓜 𝓡 𝓡.env in
    proved 𝓛 T stayed c 𝓜 𝓡
    (Goes-dropped 𝓛 1 (slot_at 0 S.params) T.kept.0 (λ κs x w. refl), (Goes-dropped 𝓛 1 (slot_at 1 S.params) T.kept.1.0 (λ κs x w. refl), (Goes-dropped 𝓛 1 (slot_at 2 S.params) T.kept.1.1.0 (λ κs x w. refl), tt)))
    f.Key.name code.function (code.unfolded 𝓤 𝓛.H 𝓜 𝓡 wired)
    (λ κs. (shr_vals, (uint_vals w64, (uint_vals w64, tt)))) (λ κs. (shr_Tells (named 0) κs.0 B.the_row, (uint_Tells w64, (uint_Tells w64, tt))))
    (λ κs qs bounds a _ are.
    let κ = κs.0 in let q = qs.0 in let d = a.0.now in let at = a.1.0 in let len = a.1.1.0 in
    let xs = part d.bytes at len in
    let rb = a.0.ref_ptr.0 in let ro = a.0.ref_ptr.1 in
    let y : W.Ghost = ((κs, qs, bounds, a, (shr_vals a.0, (uint_vals w64 at, (uint_vals w64 len, tt)))), tt) in
    qed 𝓛 (raw (on_entry 𝓛 S κs qs a y.0.4) ∷ raw (fact 𝓤 (at + len ≤ length d.bytes)) ∷ []) ∵
    move ! (1 ∷ []) $ heard ! (at + len ≤ length d.bytes) (λ within.
    let long : length xs ≡ len = omega (arith, length-take len (drop_l at d.bytes), length-drop at d.bytes) in
    use1 𝓛 ((‵ (flft κ q) ⊛ ‵ ftrue) ⊛ ‵ (owns (ShrRef (named 0) κ B.the_row ∷ usize ∷ usize ∷ []) a y.0.4)) (id⊢ 𝓤 _) $
    split ! $ split ! $ move ! (2 ∷ []) $ fsplit ! $ fsplit ! $ drop ! $ keep ! (0 ∷ 2 ∷ []) $
    use1 𝓛 (‵ (hidden_shr Fields κ (d.ptr, tt) rb ro) ⊛ ‵ (fhide (bytes_lent d.ptr d.bytes κ))) (lent_out 𝓛 B.struct B.the_codes B.the_heap B.the_lent κ d rb ro) $ split ! $ move ! (1 ∷ []) $ unhide ! $
    -- [what a `&` to the bytes holds; the block's fields; the token]
    in_a_block ! d.ptr (λ p. bytes_lent p d.bytes κ) (id⊢ 𝓤 (never 𝓤)) (λ b o e. fsplit ! $ flt_l ! (λ small. move ! (1 ∷ 2 ∷ []) $
    rewrite ! 0 (λ (p : Ptr). ‵ (hidden_shr Fields κ (p, tt) rb ro)) e refl $
    enter ! _ _ _ _ _ $ alloc_all ! (λ l. pass_all ! refl ((tt, tt), ((tt, record { fits = are.1.0.1 }), ((tt, record { fits = are.1.1.0.1 }), tt))) $
    pointer_in ! tt (block_ptr b o) tt rb (ro + 0) (shows_ptr 𝓛 κ b o rb ro) (λ q'.
    first ! $ blocks ! $
    sets ! (of_opd ! (load ! (through ! refl (fld ! refl (stop !))) (look ! 1 refl))) refl (tt, tt) $
    sets ! (bin ! (get ! refl) (get ! refl) tt) refl (tt, tt) $
    pointer_out ! tt (block_ptr b o) tt rb (ro + 0) $
    sets_last ! (agg ! (and_then ! (get ! refl) (and_then ! (get ! refl) (no_more !)))) refl (tt, (tt, (record { fits = are.1.1.0.1 }, tt))) $
    exec ! 𝓣.C 𝓣.Λ (env code.Mir.locals l) (after 1 (code.function).body) (at_ret _ (W.post y)) $
    sets ! (of_opd ! (get ! refl)) refl (tt, (tt, (record { fits = are.1.1.0.1 }, tt))) $
    -- [the token; the fields; what a `&` to the bytes holds]
    move ! (2 ∷ []) $ use1 𝓛 (‵ (elements_shared u8 xs b (at + o) κ)) (part_seen 𝓛 b κ d.bytes at len o (omega arith)) $ hide ! $
    flt_i ! (length xs * 1) (2 ^ 63) (omega arith) $ flt_i ! (length xs) (2 ^ 64) (omega arith) $ fjoin ! $
    feq_i ! (List Val) (slice_val (b, at + o) len ∷ []) (slice_val (b, at + o) (length xs) ∷ []) (ap (λ k. slice_val (b, at + o) k ∷ []) (sym long)) $ fjoin ! $ fjoin ! $
    returns ! (look_at ! 0 refl) $ free_all ! refl $ keep ! (0 ∷ 1 ∷ []) $
    suffices ! _ (ends_at 𝓛 T stayed c y (slice_val (b, at + o) len) (record { ref_ptr = (b, at + o); now = xs }) (tt, (tt, (tt, tt))) (tt, (tt, (tt, tt)))) $ says ! refl $
    nothing ! $ move ! (2 ∷ 0 ∷ []) $ join ! $ frame ! $ nothing ! $ nothing ! $ fjoin ! $ nothing ! $ fjoin ! $ nothing ! $ fjoin ! $ done !))))))
