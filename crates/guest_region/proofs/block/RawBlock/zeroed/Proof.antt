-- `zeroed` takes a block, and makes its bytes zeros one by one. Assumes `Logic`.
use Rattle.std.proofs.Common.{◌≡◌, ℕ, zero, suc, ◌+◌, ◌-◌, ◌*◌, ◌^◌, ◌<◌, ◌≤◌, List, [], ◌∷◌, ◌++◌, length, replicate, refl, ◌∙◌, arith, lit<, w64, true, false, Ok, Err, IfOk, ltb→lt, nltb→le}
use Rattle.std.proofs.lemmas.List.{length-replicate}
use Rattle.std.proofs.raw_atomic.Walks.{proved_at, leaves}
use Rattle.std.proofs.ResultValues.{ok_of, err_of}
use Rattle.std.proofs.VecSteps.Shapes.{after, head, arm_body}
use Rattle.std.proofs.alloc.Calls.{Al, seen, Answer-typed, Takes, at_takes, Answered, Takes-goes, Takes-gives, answers}
use mathlib.Core.WellFounded.InvImage
use lib.WfN.{lt-wf_rel}
use base.Fraction.{full_share}
use base.Logic.{SProp, emp, id⊢}
use base.Fml.{Lft, Share, ftrue, fat, flft, froom}
use mir.Syntax.{Ty, Fn, Args, Body, a_type, dcons, dnil, w8, ty_int}
use mir.Val.{Val, vptr, vint, vstruct, vcons, vnil}
use mir.MapTy.{inst_fn}
use prog.Capped.{capped_is}
use prog.Wp.{Env, WpFn, after_turn}
use contract.BorrowLft.{◌⊑◌, ⊑_trans}
use contract.Monad.{fact, fact_i}
use contract.Running.{tables, tables_of}
use types.Kit.{Item, ‵, raw, ◌⊛◌, later, prop, at_ret, any_q, post, ◌$◌, ◌∵◌, !, qed, by, move, drop, use0, use1, use2, split, join, regoal, rewrite, fsplit, fjoin, flt_i, await}
use types.Part.{whole, agg}
use types.Match.{live, vrt, in_variant}
use types.Run.{stop, fld, lit, bin, of_opd, init, assigns_last, no_more, and_then, first, blocks, skips, jumps, branches, switches_on, loops, again, Below, exec, returns, enter}
use types.ByLocal.{alloc_all, pass_all, free_all, look_at, get, get_in, get_tag, through, sets, sets_last, lands_as, env, holding, forget_but, take_at, give_at}
use denote.RattleType.{RattleType, owns}
use denote.RawPtr.{Ptr, block_ptr}
use denote.Param.{param, bounded}
use denote.Signature.{types_at, type_at}
use denote.Laws.{Is}
use denote.Steps.{nothing, heard, owned}
use denote.Struct.Declared.{shape}
use denote.Struct.Struct.{Struct, Struct-Makes}
use denote.Struct.Tuple.{Tuple}
use denote.Triple.Entry.{alive}
use denote.Triple.Call.{calls_at}
use denote.Triple.Table.{framed}
use denote.Triple.Walked.{Stays, stay_dropped, walk_of, Goes-dropped}
use Rattle.std.specs.contracts.alloc.AllocError as AE
use Rattle.guest_region.specs.Lease.{IsLeaseFor}
use Rattle.guest_region.specs.Ownership.{block_type}
use Rattle.guest_region.specs.contracts.block.RawBlock as B
use Rattle.guest_region.specs.contracts.block.Lease as D
use Rattle.guest_region.specs.contracts.block.RawBlock.zeroed.{ended, clauses}
use Rattle.guest_region.specs.contracts.block.RawBlock.zeroed.Key.{name as #self}
use Rattle.guest_region.proofs.Bytes.{Row, row_more}
use Rattle.guest_region.proofs.Values.{block_val, block_own, block_made, lease_val, lease_own, lease_made, pair_val, pair_made}
use Rattle.guest_region.proofs.Walks.{slot_at, then_runs, out_of_block}
use Rattle.guest_region.proofs.block.RawBlock.zeroed.Statement.{statement}
use Rattle.guest_region.proofs.block.RawBlock.zeroed.Code as compiled

-- how many bytes are zero
abbrev Filled : ℕ → Type 0
Filled n = (i : ℕ) × (i ≤ n)

abbrev Refusal : RattleType
Refusal = Struct (shape AE.the_type)

abbrev Nearer : (n : ℕ) → Filled n → Filled n → Type 0
Nearer n t u = n - t.0 < n - u.0

pub zeroed_spec : {M : Type 1} → statement M
unfolding tables_of after_turn
zeroed_spec 𝓤 𝓛 𝓜 𝓡 wired A L g d dd met md =
    let H = 𝓛.H in let T = ended A g d dd in let S = T.signature in
    let c = clauses A g d dd 𝓛 𝓜.mem 𝓡.returns in
    let args : Args = bounded (a_type ∷ []) (A, tt) (dcons d (dcons dd dnil)) in
    let fn : Fn = inst_fn args compiled.function in
    let stays : Stays S.params T.kept = (stay_dropped (slot_at 0 S.params) T.kept.0, (stay_dropped (slot_at 1 S.params) T.kept.1.0, tt)) in
    let 𝓣 = tables 𝓤 H 𝓜 𝓡 𝓡.env in let C = 𝓣.C in let Λ = 𝓣.Λ in
    proved_at 𝓛 T stays c 𝓜 𝓡 (Goes-dropped 𝓛 2 (slot_at 0 S.params) T.kept.0 (λ κs x f. refl), (Goes-dropped 𝓛 2 (slot_at 1 S.params) T.kept.1.0 (λ κs x f. refl), tt))
    (#self args) fn (compiled.unfolded 𝓤 H 𝓜 𝓡 wired (A, tt) d dd) (λ z are.
    let Post : Val → SProp 𝓤 = (walk_of 𝓛 T stays c).post z in
    let a = z.0.3 in let vss = z.0.4 in
    let Y : Al = record { row = A; laws = L; g = g; d = d; drops = dd } in
    let κ : Lft = z.0.0.0 in let q : Share = z.0.1.0 in
    let h = a.0.now in let at = a.0.ref_ptr in let n = a.1.0 in let fits = are.1.0.1 in
    let τ : Ty = block_type n in
    let y = at_takes Y 𝓛 𝓜.mem 𝓡.returns κ q at h n 1 τ in
    let Out : RattleType = type_at S.result z.0.0 in
    let Z : RattleType = param 0 A in let Pair : RattleType = Tuple (B.the_row ∷ D.the_row Z g ∷ []) in
    let Zeros : Out.Denot → Type 0 = λ r. IfOk r (λ made. made.0.bytes ≡ replicate n 0) in
    let Leased : Out.Denot → Type 0 = λ r. IfOk r (λ made. IsLeaseFor made.1 h made.0.ptr n) in
    let Asked : Type 0 = n < 2 ^ 63 in
    qed 𝓛 ((raw (alive 𝓛 S z.0.0 z.0.1) ⊛ ‵ (owns (types_at S.params z.0.0) a vss)) ∷ (raw (fact 𝓤 (z.0.0.1.0 ⊑ A.lives)) ⊛ raw (fact 𝓤 Asked)) ∷ []) ∵
    move ! (1 ∷ []) $ split ! $ heard ! (z.0.0.1.0 ⊑ A.lives) (λ le. heard ! Asked (λ asked. split ! $ move ! (1 ∷ []) $
    fsplit ! $ fsplit ! $ drop ! $ move ! (1 ∷ []) $ drop ! $ use1 𝓛 (‵ (seen Y κ at h)) (id⊢ 𝓤 _) $ move ! (1 ∷ []) $ use1 𝓛 (‵ (flft κ q) ⊛ ‵ (flft z.0.0.1.0 z.0.1.1.0) ⊛ ‵ ftrue) (id⊢ 𝓤 _) $ split ! $ move ! (2 ∷ 0 ∷ []) $
    regoal ! (λ (us : List Val). prop (WpFn 𝓤 H C Λ fn us Post)) (λ i. are.0.0 i ++ (are.1.0.0 i ++ [])) refl $
    enter ! C Λ fn (vptr at.0 at.1 ∷ vint w64 n ∷ []) Post $
    alloc_all ! (λ l. pass_all ! refl ((tt, tt), ((tt, record { fits = fits }), tt)) $ let En : Env 𝓤 𝓛.H = env fn.locals l in
    let arms : Body = head (after 1 fn.body) in
    use2 𝓛 (raw ((Takes Y 𝓛 𝓜.mem 𝓡.returns).pre y)) (Takes-goes Y 𝓛 𝓜.mem 𝓡.returns κ q at h (⊑_trans κ z.0.0.1.0 A.lives z.0.2.0 le) n 1 τ (capped_is (n * 1) (omega arith) ∙ omega arith) refl fits (lit< tt)) $
    calls_at ! (framed 𝓤 𝓛.H 𝓜 𝓣) (Takes Y 𝓛 𝓜.mem 𝓡.returns) (met.allocate dd) y (and_then ! (get ! refl) (and_then ! (get ! refl) (and_then ! (lit ! tt) (no_more !)))) (λ v.
    use1 𝓛 (later (raw (Answered Y 𝓛 𝓜.mem 𝓡.returns h τ v) ⊛ ‵ (flft κ q))) (Takes-gives Y 𝓛 𝓜.mem 𝓡.returns κ q at h n 1 τ v) $ await ! tt $ split ! $
    answers Y ! 𝓜.mem 𝓡.returns h τ v
    (λ b o e. move ! (2 ∷ 3 ∷ []) $ join ! $
    -- [the tokens; the room; the right to free it]
    lands_as ! e refl (Answer-typed true b o) $
    first ! $ switches_on ! (get_tag ! (vrt ! refl (fld ! refl (stop !))) (whole !)) $ exec ! C Λ En (arm_body 0 arms) (then_runs 𝓛 C Λ En (after 2 fn.body) (at_ret En Post)) $
    sets ! (of_opd ! (get_in ! (vrt ! refl (fld ! refl (stop !))) (in_variant ! 0 0 refl refl (whole !)))) refl (tt, tt) $
    sets ! (of_opd ! (lit ! tt)) refl (tt, record { fits = lit< tt }) $
    let Held : Item 𝓤 = ‵ (flft κ q) ⊛ ‵ (flft z.0.0.1.0 z.0.1.1.0) ⊛ ‵ ftrue in
    let Right : Item 𝓤 = ‵ (g.dealloc_token h τ (block_ptr b o)) in
    let Room : ℕ → ℕ → Item 𝓤 = λ m k. ‵ (froom (block_type m) b k) in
    let arm = arm_body 0 arms in let Then = then_runs 𝓛 C Λ En (after 2 fn.body) (at_ret En Post) in
    let turn : Body = head (head (head (after 2 arm))) in
    let Now : Filled n → List (Item 𝓤) = λ t. Held ∷ Right ∷ ‵ (Row (replicate t.0 0) b o) ∷ Room (n - t.0) (t.0 + o) ∷ holding 𝓛 En ((1, vptr at.0 at.1) ∷ (2, vint w64 n) ∷ (3, vptr b o) ∷ (4, vint w64 t.0) ∷ []) in
    move ! (1 ∷ []) $ rewrite ! 0 (λ (m : ℕ). Room m o) {x = n - 0} {y = n} (omega arith) refl $ rewrite ! 0 (λ (k : ℕ). Room (n - 0) k) {x = 0 + o} {y = o} (omega arith) refl $
    nothing ! $ move ! (2 ∷ 3 ∷ []) $ forget_but ! En (1 ∷ 2 ∷ 3 ∷ 4 ∷ []) refl $
    -- [the tokens; the right to free the block; the zeros; the room behind them]
    first ! $ blocks ! $ loops ! (tables_of 𝓤 𝓛.H 𝓜 𝓣) (Nearer n) (InvImage.wf (λ (t : Filled n). n - t.0) lt-wf_rel.wf) Now (λ t.
    let i = t.0 in
    let Turned = any_q (after_turn 𝓤 H (Below 𝓛 (Nearer n) Now t) (post 𝓤 H (out_of_block 𝓛 (then_runs 𝓛 C Λ En (after 3 arm) Then)))) in
    sets ! (bin ! (get ! refl) (get ! refl) tt) refl (tt, tt) $ first ! $ branches ! (get ! refl)
    (λ less. let below : i < n = ltb→lt i n less in
    let more : i + 1 < 2 ^ 64 = omega arith in
    skips ! $ exec ! C Λ En (after 2 turn) Turned $
    first ! $ blocks ! $ sets ! (bin ! (get ! refl) (get ! refl) tt) refl (tt, tt) $
    move ! (3 ∷ []) $ rewrite ! 0 (λ (m : ℕ). Room m (i + o)) {x = suc (n - suc i)} {y = n - i} (omega arith) refl $
    use1 𝓛 (‵ (froom (ty_int w8) b (i + o)) ⊛ Room (n - suc i) (i + o + 1)) (𝓛.laws.room_uncons (ty_int w8) (n - suc i) b (i + o)) $ split ! $
    assigns_last ! (of_opd ! (lit ! tt)) (through ! refl (stop !)) (init ! 0 refl (tt, record { fits = lit< tt })) $
    exec ! C Λ En (after 3 turn) Turned $ sets_last ! (bin ! (get ! refl) (lit ! tt) (record { fits = more })) refl (tt, record { fits = more }) $
    -- [the byte; the room behind it; the tokens; the right to free the block; the zeros]
    move ! (4 ∷ 0 ∷ []) $ use2 𝓛 (‵ (Row (replicate (suc i) 0) b o)) (row_more 𝓛 b i o) $
    rewrite ! 1 (λ (k : ℕ). Room (n - suc i) k) {x = suc i + o} {y = i + o + 1} (omega arith) refl $ move ! (2 ∷ 3 ∷ 0 ∷ []) $
    forget_but ! En (1 ∷ 2 ∷ 3 ∷ 4 ∷ []) refl $ take_at ! 4 $ rewrite ! 0 (λ (k : ℕ). ‵ (fat full_share (ty_int w64) (l 4) zero (vint w64 k))) {x = suc i} {y = i + 1} (omega arith) refl $ give_at ! 4 $
    again ! (Nearer n) Now t (suc i, omega arith) (omega arith))
    (λ over. let past : n ≤ i = nltb→le i n over in
    let all : i ≡ n = omega arith in
    let p : Ptr = block_ptr b o in
    jumps ! $ exec ! C Λ En (after 3 arm) Then $
    move ! (2 ∷ 3 ∷ []) $ rewrite ! 0 (λ (k : ℕ). ‵ (Row (replicate k 0) b o)) all refl $ move ! (1 ∷ []) $ drop ! $
    -- [the zeros; the tokens; the right to free the block]
    sets ! (agg ! (and_then ! (get ! refl) (no_more !))) refl (tt, (tt, tt)) $
    sets ! (agg ! (no_more !)) refl (tt, tt) $ sets ! (agg ! (and_then ! (get ! refl) (no_more !))) refl (tt, (tt, tt)) $
    sets ! (agg ! (and_then ! (get ! refl) (and_then ! (get ! refl) (no_more !)))) refl (tt, ((tt, tt), ((tt, tt), tt))) $
    sets_last ! (agg ! (and_then ! (lit ! tt) (and_then ! (get ! refl) (no_more !)))) refl (tt, (record { fits = lit< tt }, (((tt, tt), ((tt, tt), tt)), tt))) $
    exec ! C Λ En (after 2 fn.body) (at_ret En Post) $
    sets ! (of_opd ! (get ! refl)) refl (tt, (record { fits = lit< tt }, (((tt, tt), ((tt, tt), tt)), tt))) $
    returns ! (look_at ! 0 refl) $ free_all ! refl $
    let x : B.the_row.Denot = record { ptr = p; bytes = replicate n 0 } in
    let k : (D.the_row Z g).Denot = record { mark = record {}; alloc = h; ptr = p; len = n } in
    let made : Val = pair_val (block_val p) lease_val in
    flt_i ! (length x.bytes) (2 ^ 63) (omega (arith, length-replicate {A = ℕ} n 0)) $ fjoin ! $
    use0 𝓛 (‵ (block_own p (block_val p ∷ []))) (block_made 𝓛 p) $ fjoin ! $ move ! (2 ∷ []) $
    use0 𝓛 (‵ (lease_own (lease_val ∷ []))) (lease_made 𝓛) $ fjoin ! $ move ! (1 ∷ 0 ∷ []) $
    use2 𝓛 (‵ (Pair.own_val (x, k) (made ∷ []))) (pair_made 𝓛 B.the_row (D.the_row Z g) x k (block_val p) lease_val) $
    use1 𝓛 (‵ (Out.own_val (Ok (x, k)) (live 0 (vcons made vnil) ∷ []))) (ok_of 𝓛 Pair AE.the_row (x, k) made) $
    use0 𝓛 (raw (fact 𝓤 (Leased (Ok (x, k))))) (fact_i 𝓤 (Leased (Ok (x, k))) (emp 𝓤) (record { handle = refl; place = refl; size = refl })) $
    use0 𝓛 (raw (fact 𝓤 (Zeros (Ok (x, k))))) (fact_i 𝓤 (Zeros (Ok (x, k))) (emp 𝓤) refl) $ join ! $
    nothing ! $ nothing ! $ fjoin ! $ nothing ! $ fjoin ! $ move ! (3 ∷ 0 ∷ 2 ∷ 1 ∷ []) $
    by ! (leaves 𝓛 T stays c z (live 0 (vcons made vnil)) (Ok (x, k)) (tt, (tt, tt)) (tt, (tt, tt))))) (0, omega arith))
    (λ e. join ! $ lands_as ! e refl (Answer-typed false 0 0) $
    first ! $ switches_on ! (get_tag ! (vrt ! refl (fld ! refl (stop !))) (whole !)) $ exec ! C Λ En (arm_body 1 arms) (then_runs 𝓛 C Λ En (after 2 fn.body) (at_ret En Post)) $
    sets ! (of_opd ! (get_in ! (vrt ! refl (fld ! refl (stop !))) (in_variant ! 1 0 refl refl (whole !)))) refl (tt, tt) $
    sets_last ! (agg ! (and_then ! (lit ! tt) (and_then ! (get ! refl) (no_more !)))) refl (tt, (record { fits = lit< tt }, (tt, tt))) $
    exec ! C Λ En (after 2 fn.body) (at_ret En Post) $
    sets ! (of_opd ! (get ! refl)) refl (tt, (record { fits = lit< tt }, (tt, tt))) $
    returns ! (look_at ! 0 refl) $ free_all ! refl $
    let none : Val = live 1 (vcons (vstruct vnil) vnil) in
    owned ! Refusal (Is Refusal) (Struct-Makes 𝓛 (shape AE.the_type) tt) tt (vstruct vnil ∷ []) (tt, (refl, tt)) $
    use1 𝓛 (‵ (Out.own_val (Err (record {})) (none ∷ []))) (err_of 𝓛 Pair AE.the_row (record {}) (vstruct vnil)) $
    use0 𝓛 (raw (fact 𝓤 (Unit {0}))) (fact_i 𝓤 (Unit {0}) (emp 𝓤) tt) $ use0 𝓛 (raw (fact 𝓤 (Unit {0}))) (fact_i 𝓤 (Unit {0}) (emp 𝓤) tt) $ join ! $
    nothing ! $ nothing ! $ fjoin ! $ nothing ! $ fjoin ! $ move ! (3 ∷ 0 ∷ 2 ∷ 1 ∷ []) $
    by ! (leaves 𝓛 T stays c z none (Err (record {})) (tt, (tt, tt)) (tt, (tt, tt)))))))))
