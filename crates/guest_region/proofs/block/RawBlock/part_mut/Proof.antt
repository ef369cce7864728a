-- `part_mut` lends a part of the bytes, and the block follows it. Assumes `Logic`.
use Rattle.std.proofs.Common.{◌≡◌, ℕ, ◌+◌, ◌^◌, ◌<◌, ◌≤◌, List, [], ◌∷◌, ◌++◌, length, refl, sym, ap, subst, ◌∙◌, arith, length-take, length-drop, length-append, w64, MutBor}
use Rattle.std.proofs.Common.{take as take_l, drop as drop_l}
use Rattle.std.proofs.raw_atomic.Walks.{proved}
use Rattle.std.proofs.VecSteps.Shapes.{after}
use seplogic.Ra.Ura.{Ura}
use base.Fraction.{full_share}
use base.Logic.{ent, sep, never, id⊢}
use base.Fml.{GName, Fml, ftrue, fsep, flft}
use mir.Syntax.{named}
use mir.Val.{Val}
use contract.Monad.{fact}
use contract.Running.{tables}
use types.Logic.{Logic, sem}
use types.Kit.{‵, raw, ◌⊛◌, some, later, await, pick, at_ret, ◌$◌, ◌∵◌, !, qed, move, keep, drop, use1, use2, split, split3, join, group, rewrite, fsplit, fsplit3, fjoin, fjoin3, fpack, flt_l, flt_i, suffices, frame, done}
use types.Part.{whole, sub, agg, look_in}
use types.Run.{stop, fld, of_opd, bin, load, and_then, no_more, first, blocks, exec, returns, enter}
use types.ByLocal.{alloc_all, pass_all, free_all, look_at, get, through, sets, sets_last, env}
use types.SemTy.{cells}
use denote.Array.{Array}
use denote.Builtin.{u8, usize}
use denote.Follow.{follows}
use denote.FollowSlice.{Elements, lends_Elements}
use denote.Index.{whole_in, whole_out}
use denote.Laws.{shows}
use denote.Memory.{mem, cell_at, part_of}
use denote.Plain.{uint_vals, uint_Tells}
use denote.RattleType.{RattleType, owns}
use denote.RawPtr.{Ptr, block_ptr, in_a_block}
use denote.Ref.{MutRef, mut_vals, mut_Tells}
use denote.Signature.{plain}
use denote.Slice.{MutSlice, Room, slice_val}
use denote.Steps.{nothing, heard, opens, peeks}
use denote.Triple.Entry.{on_entry}
use denote.Triple.Walked.{Stays, walk_of, says, stay_dropped, Goes-dropped, Goes-spent_ref, ends_at}
use Rattle.guest_region.specs.declared.block.RawBlock.{RawBlock}
use Rattle.guest_region.specs.ByteSlices.{part, with_part}
use Rattle.guest_region.specs.LendsPart.{with_bytes}
use Rattle.guest_region.specs.Ownership.{bytes_own}
use Rattle.guest_region.specs.contracts.block.RawBlock as B
use Rattle.guest_region.specs.contracts.block.RawBlock.part_mut as f
use Rattle.guest_region.proofs.Bytes.{Row, Around, part_out, part_in}
use Rattle.guest_region.proofs.Fields.{Fields}
use Rattle.guest_region.proofs.Walks.{slot_at}
use Rattle.guest_region.proofs.block.RawBlock.TheLaws.{lowers}
use Rattle.guest_region.proofs.block.RawBlock.part_mut.Statement.{statement}
use Rattle.guest_region.proofs.block.RawBlock.part_mut.Code as code

abbrev R : RattleType
R = B.the_row

abbrev stayed : Stays f.ended.signature.params f.ended.kept
stayed = (stay_dropped (slot_at 0 f.ended.signature.params) f.ended.kept.0, (stay_dropped (slot_at 1 f.ended.signature.params) f.ended.kept.1.0, (stay_dropped (slot_at 2 f.ended.signature.params) f.ended.kept.1.1.0, tt)))

-- the block, once the part holds other bytes
abbrev new : RawBlock → ℕ → List ℕ → RawBlock
new d at ws = with_bytes d (with_part d.bytes at ws)

module _ {M : Type 1} {𝓤 : Ura M} (𝓛 : Logic 𝓤) (rb ro : ℕ) (d : RawBlock) (at len : ℕ) (within : at + len ≤ length d.bytes) (vs : List Val) (b o : ℕ) where
  -- all but the part
  abbrev Rest : Fml
  Rest = fsep (Around 𝓛 b o d.bytes at len within) (fsep (Fields.own_val (d.ptr, tt) vs) (cell_at full_share R.mir vs rb ro))

  back : d.ptr ≡ block_ptr b o → length d.bytes < 2 ^ 63 → (ws : List ℕ) → length ws ≡ len
      → ent 𝓤 (sep 𝓤 (sem 𝓛 (cells (mem u8) ws b (at + o))) (sem 𝓛 Rest)) (sem 𝓛 ((mem R).own_at (new d at ws) rb ro))
  unfolding part_of
  back e small ws long =
      let all = with_part d.bytes at ws in
      let same : length all ≡ length d.bytes = omega (arith, length-append (take_l at d.bytes ++ ws) (drop_l (at + length ws) d.bytes), length-append (take_l at d.bytes) ws, length-take at d.bytes, length-drop (at + length ws) d.bytes) in
      qed 𝓛 (‵ (cells (mem u8) ws b (at + o)) ∷ ‵ Rest ∷ []) ∵ use1 𝓛 (‵ (Row ws b (at + o))) (whole_out 𝓛 u8 ws b (at + o)) $
      move ! (1 ∷ []) $ fsplit3 ! $ move ! (3 ∷ 0 ∷ []) $
      use2 𝓛 (‵ (Row all b o)) (part_in 𝓛 b o d.bytes at len within ws long) $
      flt_i ! (length all) (2 ^ 63) (omega arith) $ fjoin ! $
      rewrite ! 0 (λ (p : Ptr). ‵ (bytes_own p all)) (sym e) refl $ move ! (1 ∷ 0 ∷ []) $ fjoin ! $ move ! (1 ∷ 0 ∷ []) $ fjoin ! $
      fpack ! (List Val) (λ us. fsep (cell_at full_share R.mir us rb ro) (R.own_val (new d at ws) us)) vs $ done !

pub part_mut_spec : {M : Type 1} → statement M
part_mut_spec 𝓤 𝓛 𝓜 𝓡 wired =
    let T = f.ended in let S = T.signature in
    let c = f.clauses 𝓛 𝓜.mem 𝓡.returns in let W = walk_of 𝓛 T stayed c in let 𝓣 = tables 𝓤 𝓛.H 𝓜 𝓡 𝓡.env in
    proved 𝓛 T stayed c 𝓜 𝓡
    (Goes-spent_ref 𝓛 1 (0 ∷ []) tt (plain (λ _. R)), (Goes-dropped 𝓛 1 (slot_at 1 S.params) T.kept.1.0 (λ κs x w. refl), (Goes-dropped 𝓛 1 (slot_at 2 S.params) T.kept.1.1.0 (λ κs x w. refl), tt)))
    f.Key.name code.function (code.unfolded 𝓤 𝓛.H 𝓜 𝓡 wired)
    (λ κs. (mut_vals, (uint_vals w64, (uint_vals w64, tt)))) (λ κs. (mut_Tells (named 0) κs.0 R, (uint_Tells w64, (uint_Tells w64, tt))))
    (λ κs qs bounds a _ are.
    let κ = κs.0 in let q = qs.0 in let d = a.0.now in let at = a.1.0 in let len = a.1.1.0 in
    let xs = part d.bytes at len in let γ = a.0.ghost_name in
    let rb = a.0.ref_ptr.0 in let ro = a.0.ref_ptr.1 in
    let y : W.Ghost = ((κs, qs, bounds, a, (mut_vals a.0, (uint_vals w64 at, (uint_vals w64 len, tt)))), tt) in
    qed 𝓛 (raw (on_entry 𝓛 S κs qs a y.0.4) ∷ raw (fact 𝓤 (at + len ≤ length d.bytes)) ∷ []) ∵
    move ! (1 ∷ []) $ heard ! (at + len ≤ length d.bytes) (λ within.
    let long : length xs ≡ len = omega (arith, length-take len (drop_l at d.bytes), length-drop at d.bytes) in
    use1 𝓛 ((‵ (flft κ q) ⊛ ‵ ftrue) ⊛ ‵ (owns (MutRef (named 0) κ R ∷ usize ∷ usize ∷ []) a y.0.4)) (id⊢ 𝓤 _) $
    split ! $ split ! $ move ! (2 ∷ []) $ fsplit ! $ fsplit3 ! $ drop ! $ keep ! (0 ∷ 1 ∷ 3 ∷ []) $
    enter ! _ _ _ _ _ $ alloc_all ! (λ l. pass_all ! refl ((tt, tt), ((tt, record { fits = are.1.0.1 }), ((tt, record { fits = are.1.1.0.1 }), tt))) $
    opens ! tt R {h = d} rb ro (λ vs. move ! (1 ∷ []) $ peeks ! R _ (shows 𝓛 R) d vs (λ is. fsplit ! $ move ! (1 ∷ []) $
    in_a_block ! d.ptr (λ p. bytes_own p d.bytes) (id⊢ 𝓤 (never 𝓤)) (λ b o e. fsplit ! $ flt_l ! (λ small.
    let word = lowers.val_is d vs is ∙ ap (λ (p : Ptr). lowers.lowered (record d { ptr = p }) ∷ []) e in
    let Cell = λ (us : List Val). ‵ (cell_at full_share R.mir us rb ro) in
    -- [the bytes; the fields; the block's cell; the open borrow, in three entries]
    rewrite ! 2 Cell word refl $
    first ! $ blocks ! $
    sets ! (of_opd ! (load ! (through ! refl (fld ! refl (stop !))) (look_in ! 2 (sub ! 0 refl (whole !))))) refl (tt, tt) $
    sets ! (bin ! (get ! refl) (get ! refl) tt) refl (tt, tt) $
    rewrite ! 2 Cell (sym word) refl $
    sets_last ! (agg ! (and_then ! (get ! refl) (and_then ! (get ! refl) (no_more !)))) refl (tt, (tt, (record { fits = are.1.1.0.1 }, tt))) $
    exec ! 𝓣.C 𝓣.Λ (env code.Mir.locals l) (after 1 (code.function).body) (at_ret _ (W.post y)) $
    sets ! (of_opd ! (get ! refl)) refl (tt, (tt, (record { fits = are.1.1.0.1 }, tt))) $
    let rest = sem 𝓛 (Rest 𝓛 rb ro d at len within vs b o) in
    let fits : Room u8 (length xs) = (omega arith, omega arith) in
    let way = λ (ws : List ℕ) (same : length ws ≡ length xs). back 𝓛 rb ro d at len within vs b o e small ws (same ∙ long) in
    use1 𝓛 (‵ (Row xs b (at + o)) ⊛ ‵ (Around 𝓛 b o d.bytes at len within)) (part_out 𝓛 b o d.bytes at len within) $ split ! $
    use1 𝓛 (‵ (cells (mem u8) xs b (at + o))) (whole_in 𝓛 u8 xs b (at + o)) $
    move ! (1 ∷ 2 ∷ 3 ∷ []) $ fjoin3 ! $ move ! (2 ∷ 3 ∷ 4 ∷ 1 ∷ 0 ∷ []) $ group ! 5 $
    use1 𝓛 (later (some (λ (δ : GName). raw (Elements 𝓛 R u8 (new d at) (named 0) κ q rb ro b (at + o) γ xs fits rest way δ))))
    (lends_Elements 𝓛 R u8 (new d at) (named 0) κ q rb ro b (at + o) γ xs fits rest way (R.coded.code d) (R.coded.code d)) $ await ! tt $ pick ! (λ δ.
    returns ! (look_at ! 0 refl) $ free_all ! refl $ keep ! (0 ∷ []) $
    let r : MutBor (List ℕ) = record { ref_ptr = (b, at + o); ghost_name = δ; now = xs } in
    use1 𝓛 (‵ ((MutSlice (named 0) κ u8).own_val r (slice_val (b, at + o) len ∷ [])) ⊛ ‵ (flft κ q) ⊛ ‵ (follows R (Array u8 0) γ δ (new d at)))
    (subst (λ (k : ℕ). ent 𝓤 (Elements 𝓛 R u8 (new d at) (named 0) κ q rb ro b (at + o) γ xs fits rest way δ)
    (sep 𝓤 (sem 𝓛 ((MutSlice (named 0) κ u8).own_val r (slice_val (b, at + o) k ∷ []))) (sep 𝓤 (𝓛.A.lft κ q) (sem 𝓛 (follows R (Array u8 0) γ δ (new d at)))))) long (id⊢ 𝓤 _)) $ split3 ! $
    suffices ! _ (ends_at 𝓛 T stayed c y (slice_val (b, at + o) len) r (tt, (tt, (tt, tt))) (tt, (tt, (tt, tt)))) $
    nothing ! $ nothing ! $ fjoin ! $ nothing ! $ fjoin ! $ nothing ! $ fjoin ! $ join ! $ nothing ! $ move ! (2 ∷ 0 ∷ []) $ join ! $ join ! $ frame ! $ says ! refl $ done !))))))))
