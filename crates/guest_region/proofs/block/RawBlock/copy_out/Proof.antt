-- `copy_out` reads the part's bytes behind the `&` one by one, and writes each into the slice. Assumes `Logic`.
use Rattle.std.proofs.Common.{◌≡◌, ℕ, zero, suc, ◌+◌, ◌-◌, ◌^◌, ◌<◌, ◌≤◌, List, [], ◌∷◌, length, get_or, set, refl, sym, ap, subst, arith, lit<, length-take, length-drop, w8, w64, ltb→lt, nltb→le}
use Rattle.std.proofs.Common.{drop as drop_l}
use Rattle.std.proofs.raw_atomic.Walks.{proved}
use Rattle.std.proofs.VecSteps.Shapes.{after, head}
use Rattle.std.proofs.Words.{pointer_in, pointer_out}
use mathlib.Core.WellFounded.InvImage
use lib.WfN.{lt-wf_rel}
use base.Fraction.{full_share}
use base.Logic.{never, id⊢}
use base.Fml.{ftrue, fat, flft, fobs, fobor, fauth, fhide}
use mir.Syntax.{Body, named, ty_int}
use mir.Val.{Val, vint, vptr, vunit}
use prog.Wp.{after_turn}
use contract.Monad.{fact}
use contract.Running.{tables, tables_of}
use types.Kit.{Item, ‵, raw, ◌⊛◌, at_ret, any_q, post, ◌$◌, ◌∵◌, !, qed, move, keep, drop, use1, use2, split, split3, join, rewrite, fsplit, fsplit3, fjoin, feq_i, flt_l, suffices, frame, done}
use types.Part.{whole, sub}
use types.Run.{stop, fld, hop, from, lit, unit_lit, of_opd, bin, addr, load, look, store, assigns, first, blocks, skips, jumps, branches, loops, again, Below, exec, returns, enter, well_typed}
use types.ByLocal.{alloc_all, pass_all, free_all, look_at, look_in_at, get, get_in, through, sets, sets_last, env, holding, forget_but, take_at, give_at}
use denote.Builtin.{u8, usize}
use denote.Copied.{uint_Copied}
use denote.Index.{row, others, takes, puts, puts_back, place_byte, opens_slice, closes_slice, looks_slice, shuts_slice, place as nth}
use denote.Lend.{Held}
use denote.Memory.{hidden_shr, part_at, shares}
use denote.Opens.{Shut, hide, unhide}
use denote.Plain.{uint_vals, uint_Tells, uint_out, uint_in}
use denote.RattleType.{owns}
use denote.RawPtr.{Ptr, block_ptr, in_a_block}
use denote.Ref.{ShrRef, shr_vals, shr_Tells}
use denote.Signature.{plain}
use denote.Slice.{MutSlice, slice_val, elements_shared, mut_slice_vals, mut_slice_Tells, mut_slice_at, Room, coded_holeys, heres}
use denote.Shadow.{pure_i}
use denote.Steps.{nothing, heard}
use denote.Struct.Lending.{lent_out}
use denote.Triple.Entry.{on_entry}
use denote.Triple.Walked.{Stays, walk_of, says, stay_dropped, stay_slice, Goes-dropped, Goes-slice, ends_at}
use Rattle.guest_region.specs.ByteSlices.{part}
use Rattle.guest_region.specs.Ownership.{bytes_lent}
use Rattle.guest_region.specs.contracts.block.RawBlock as B
use Rattle.guest_region.specs.contracts.block.RawBlock.copy_out as f
use Rattle.guest_region.proofs.Bytes.{Row, part_seen}
use Rattle.guest_region.proofs.Copies.{copied, length-copied, copied_more, copied_all}
use Rattle.guest_region.proofs.Fields.{Fields, shows_ptr}
use Rattle.guest_region.proofs.Walks.{slot_at, then_runs, out_of_block}
use Rattle.guest_region.proofs.block.RawBlock.copy_out.Statement.{statement}
use Rattle.guest_region.proofs.block.RawBlock.copy_out.Code as code

abbrev stayed : Stays f.ended.signature.params f.ended.kept
stayed = (stay_dropped (slot_at 0 f.ended.signature.params) f.ended.kept.0, (stay_dropped (slot_at 1 f.ended.signature.params) f.ended.kept.1.0, (stay_slice (1 ∷ []) tt (plain (λ _. u8)), tt)))

-- how many bytes are copied
abbrev Copied : ℕ → Type 0
Copied n = (i : ℕ) × (i ≤ n)

abbrev Nearer : (n : ℕ) → Copied n → Copied n → Type 0
Nearer n t u = n - t.0 < n - u.0

pub copy_out_spec : {M : Type 1} → statement M
unfolding tables_of after_turn
copy_out_spec 𝓤 𝓛 𝓜 𝓡 wired =
    let T = f.ended in let S = T.signature in
    let c = f.clauses 𝓛 𝓜.mem 𝓡.returns in let W = walk_of 𝓛 T stayed c in let 𝓣 = tables 𝓤 𝓛.H 𝓜 𝓡 𝓡.env in let C = 𝓣.C in let Λ = 𝓣.Λ in
    proved 𝓛 T stayed c 𝓜 𝓡
    (Goes-dropped 𝓛 2 (slot_at 0 S.params) T.kept.0 (λ κs x w. refl), (Goes-dropped 𝓛 2 (slot_at 1 S.params) T.kept.1.0 (λ κs x w. refl), (Goes-slice 𝓛 2 1 tt (plain (λ _. u8)), tt)))
    f.Key.name code.function (code.unfolded 𝓤 𝓛.H 𝓜 𝓡 wired)
    (λ κs. (shr_vals, (uint_vals w64, (mut_slice_vals, tt)))) (λ κs. (shr_Tells (named 0) κs.0 B.the_row, (uint_Tells w64, (mut_slice_Tells (named 1) κs.1.0 u8, tt))))
    (λ κs qs bounds a _ are.
    let κ = κs.0 in let q = qs.0 in let κ' = κs.1.0 in let q' = qs.1.0 in
    let d = a.0.now in let at = a.1.0 in let out = a.1.1.0 in let old = out.now in let len = length old in
    let new = part d.bytes at len in let γ = out.ghost_name in
    let rb = a.0.ref_ptr.0 in let ro = a.0.ref_ptr.1 in let ob = out.ref_ptr.0 in let oo = out.ref_ptr.1 in
    let y : W.Ghost = ((κs, qs, bounds, a, (shr_vals a.0, (uint_vals w64 at, (mut_slice_vals out, tt)))), tt) in
    let count : len < 2 ^ 64 = are.1.1.0.0.1.0 in
    qed 𝓛 (raw (on_entry 𝓛 S κs qs a y.0.4) ∷ raw (fact 𝓤 (at + len ≤ length d.bytes)) ∷ []) ∵
    move ! (1 ∷ []) $ heard ! (at + len ≤ length d.bytes) (λ within.
    let same : length new ≡ length old = omega (arith, length-take len (drop_l at d.bytes), length-drop at d.bytes) in
    use1 𝓛 ((‵ (flft κ q) ⊛ ‵ (flft κ' q') ⊛ ‵ ftrue) ⊛ ‵ (owns (ShrRef (named 0) κ B.the_row ∷ usize ∷ MutSlice (named 1) κ' u8 ∷ []) a y.0.4)) (id⊢ 𝓤 _) $
    split ! $ split3 ! $ move ! (3 ∷ []) $ fsplit ! $ fsplit ! $ drop ! $
    -- [the `&` to the block; the other parameters; the tokens of the two lifetimes]
    move ! (1 ∷ []) $ fsplit ! $ drop ! $ fsplit ! $ fsplit3 ! $ keep ! (4 ∷ 5 ∷ 1 ∷ 2 ∷ 6 ∷ []) $
    use1 𝓛 (‵ (hidden_shr Fields κ (d.ptr, tt) rb ro) ⊛ ‵ (fhide (bytes_lent d.ptr d.bytes κ))) (lent_out 𝓛 B.struct B.the_codes B.the_heap B.the_lent κ d rb ro) $ split ! $ move ! (1 ∷ []) $ unhide ! $
    in_a_block ! d.ptr (λ p. bytes_lent p d.bytes κ) (id⊢ 𝓤 (never 𝓤)) (λ b o e. fsplit ! $ flt_l ! (λ small.
    use1 𝓛 (‵ (elements_shared u8 new b (at + o) κ)) (part_seen 𝓛 b κ d.bytes at len o (omega arith)) $ hide ! $ move ! (1 ∷ 2 ∷ []) $
    rewrite ! 0 (λ (p : Ptr). ‵ (hidden_shr Fields κ (p, tt) rb ro)) e refl $
    -- [the block's fields; the token; the part behind the `&`; the slice, in two entries; its token]
    enter ! _ _ _ _ _ $ alloc_all ! (λ l. pass_all ! refl ((tt, tt), ((tt, record { fits = are.1.0.1 }), ((tt, (tt, (record { fits = count }, tt))), tt))) $
    let En = env code.Mir.locals l in
    sets ! (of_opd ! (get_in ! (fld ! refl (stop !)) (sub ! 1 refl (whole !)))) refl (tt, record { fits = count }) $
    sets ! (addr ! (from ! (fld ! refl (hop ! (look_in_at ! 3 (sub ! 0 refl (whole !))) (stop !))))) refl (tt, tt) $
    sets ! (of_opd ! (lit ! tt)) refl (tt, record { fits = lit< tt }) $
    first ! $ blocks ! $ pointer_in ! tt (block_ptr b o) tt rb (ro + 0) (shows_ptr 𝓛 κ b o rb ro) (λ qp.
    sets ! (of_opd ! (load ! (through ! refl (fld ! refl (stop !))) (look ! 1 refl))) refl (tt, tt) $ pointer_out ! tt (block_ptr b o) tt rb (ro + 0) $
    sets ! (bin ! (get ! refl) (get ! refl) tt) refl (tt, tt) $
    move ! (2 ∷ 0 ∷ []) $ looks_slice ! tt u8 (uint_Copied 𝓛 w8) new b (at + o) (λ s. move ! (4 ∷ 5 ∷ 6 ∷ []) $ opens_slice ! tt u8 old ob oo $
    let body : Body = (code.function).body in let turn : Body = head (head (after 2 (head (head (after 3 body))))) in
    let Then = then_runs 𝓛 C Λ En (after 4 body) (at_ret En (W.post y)) in
    let ends = (coded_holeys u8).code (heres u8 old) in
    let Now : Copied len → List (Item 𝓤) = λ t. ‵ (Row (copied new old t.0) ob oo) ∷ ‵ (row u8 s new b (at + o)) ∷ ‵ (fobor κ' q' (Held u8 len ob oo γ)) ∷ ‵ (fobs γ ends) ∷ ‵ (fauth γ ends)
    ∷ Shut 𝓛 κ q (row u8 s new b (at + o)) ∷ holding 𝓛 En ((4, vint w64 len) ∷ (5, vptr ob oo) ∷ (6, vint w64 t.0) ∷ (7, vptr b (at + o)) ∷ []) in
    move ! (6 ∷ []) $ drop ! $ move ! (6 ∷ []) $ drop ! $ move ! (0 ∷ 4 ∷ []) $ forget_but ! En (4 ∷ 5 ∷ 6 ∷ 7 ∷ []) refl $
    -- [the slice's bytes; the part's; the open borrow, in three entries; the way back to the `&`]
    blocks ! $ loops ! (tables_of 𝓤 𝓛.H 𝓜 𝓣) (Nearer len) (InvImage.wf (λ (t : Copied len). len - t.0) lt-wf_rel.wf) Now (λ t.
    let i = t.0 in let all = copied new old i in let byte = get_or new i 0 in
    let Turned = any_q (after_turn 𝓤 𝓛.H (Below 𝓛 (Nearer len) Now t) (post 𝓤 𝓛.H (out_of_block 𝓛 (out_of_block 𝓛 Then)))) in
    sets ! (bin ! (get ! refl) (get ! refl) tt) refl (tt, tt) $ first ! $ branches ! (get ! refl)
    (λ less. let below : i < len = ltb→lt i len less in let more : i + 1 < 2 ^ 64 = omega arith in
    let there : i < length new = omega arith in let here : i < length all = omega (arith, length-copied new old i same t.1) in
    skips ! $ exec ! C Λ En (after 2 turn) Turned $
    sets ! (bin ! (get ! refl) (get ! refl) tt) refl (tt, tt) $ sets ! (bin ! (get ! refl) (get ! refl) tt) refl (tt, tt) $
    move ! (1 ∷ []) $ use1 𝓛 (‵ (part_at u8 s byte b (nth 1 (at + o) i)) ⊛ ‵ (others (shares u8) s new i b (at + o))) (takes (shares u8) s 𝓛 new i 0 b (at + o) there) $ split ! $
    rewrite ! 0 (λ (k : ℕ). ‵ (part_at u8 s byte b k)) (place_byte (at + o) i) refl $
    use1 𝓛 (‵ (fat s (ty_int w8) b (i + (at + o)) (vint w8 byte))) (uint_out 𝓛 s w8 byte b (i + (at + o))) $ well_typed ! (λ good.
    sets ! (of_opd ! (load ! (through ! refl (stop !)) (look ! 0 refl))) refl good $
    use1 𝓛 (‵ (part_at u8 s byte b (i + (at + o)))) (uint_in 𝓛 s w8 byte b (i + (at + o))) $ rewrite ! 0 (λ (k : ℕ). ‵ (part_at u8 s byte b k)) (sym (place_byte (at + o) i)) refl $
    use2 𝓛 (‵ (row u8 s new b (at + o))) (puts_back (shares u8) s 𝓛 new i 0 b (at + o) there) $ move ! (1 ∷ []) $
    -- [the slice's bytes; the part's; ..]
    use1 𝓛 (‵ (part_at u8 full_share (get_or all i 0) ob (nth 1 oo i)) ⊛ ‵ (others (shares u8) full_share all i ob oo)) (takes (shares u8) full_share 𝓛 all i 0 ob oo here) $ split ! $
    rewrite ! 0 (λ (k : ℕ). ‵ (part_at u8 full_share (get_or all i 0) ob k)) (place_byte oo i) refl $
    use1 𝓛 (‵ (fat full_share (ty_int w8) ob (i + oo) (vint w8 (get_or all i 0)))) (uint_out 𝓛 full_share w8 (get_or all i 0) ob (i + oo)) $
    assigns ! (of_opd ! (get ! refl)) (through ! refl (stop !)) (store ! 0 refl good) $
    sets_last ! (bin ! (get ! refl) (lit ! tt) (record { fits = more })) refl (tt, record { fits = more }) $
    use1 𝓛 (‵ (part_at u8 full_share byte ob (i + oo))) (uint_in 𝓛 full_share w8 byte ob (i + oo)) $ rewrite ! 0 (λ (k : ℕ). ‵ (part_at u8 full_share byte ob k)) (sym (place_byte oo i)) refl $
    use2 𝓛 (‵ (Row (set all i byte) ob oo)) (puts (shares u8) full_share 𝓛 all i byte ob oo here) $ rewrite ! 0 (λ (l : List ℕ). ‵ (Row l ob oo)) (copied_more new old i same below) refl $
    forget_but ! En (4 ∷ 5 ∷ 6 ∷ 7 ∷ []) refl $ take_at ! 6 $ rewrite ! 0 (λ (k : ℕ). ‵ (fat full_share (ty_int w64) (l 6) zero (vint w64 k))) {x = suc i} {y = i + 1} (omega arith) refl $ give_at ! 6 $
    again ! (Nearer len) Now t (suc i, omega arith) (omega arith)))
    (λ over. let past : len ≤ i = nltb→le i len over in let whole : i ≡ length old = omega arith in
    jumps ! $ exec ! C Λ En (after 4 body) (at_ret En (W.post y)) $
    rewrite ! 0 (λ (l : List ℕ). ‵ (Row l ob oo)) (copied_all new old i same whole) refl $
    move ! (0 ∷ 2 ∷ 3 ∷ 4 ∷ []) $ closes_slice ! tt u8 old new same ob oo $ move ! (3 ∷ 4 ∷ []) $ shuts_slice ! tt u8 s new b (at + o) $
    sets ! (of_opd ! (unit_lit !)) refl (tt, tt) $ returns ! (look_at ! 0 refl) $ free_all ! refl $
    -- [the token; the slice, in two entries; its token]
    suffices ! _ (ends_at 𝓛 T stayed c y vunit tt (tt, (tt, (new, tt))) (tt, (tt, (same, tt)))) $ says ! refl $
    nothing ! $ move ! (4 ∷ 0 ∷ []) $ join ! $ move ! (1 ∷ 0 ∷ []) $ join ! $ frame ! $ fjoin ! $
    pure_i ! (mut_slice_at u8 (record out { now = new }) (mut_slice_vals out)) (tt, (tt, tt)) (ap (λ n. slice_val (ob, oo) n ∷ []) (sym same), subst (Room u8) (sym same) are.1.1.0.0.1) $ fjoin ! $
    nothing ! $ move ! (1 ∷ 0 ∷ []) $ fjoin ! $ nothing ! $ fjoin ! $ nothing ! $ fjoin ! $
    feq_i ! (List Val) (vunit ∷ []) (vunit ∷ []) refl $ move ! (1 ∷ 0 ∷ []) $ done !)) (0, omega arith))))))))
