use Rattle.std.proofs.Common.{◌≡◌, ◌<◌, ◌∙◌, sym, ap, subst, length, arith, ◌+◌, true, false, Some, None}
use Rattle.std.specs.Prelude.{if◌then◌else◌, ◌==◌}
use Rattle.igvm_headers.specs.Fixed.{fault_at}
use Rattle.igvm_headers.specs.declared.fault.ReadWhat.TheVariants.{NoPlatform}
use Rattle.igvm_image.proofs.Walking.{Walking, walking_start, walking_fault, walking_step, walking_cut, walking_done, walking_all, walking_follows, walking_content}
use Rattle.igvm_image.specs.HeaderRules.{Seen, seen_of}
use Rattle.igvm_image.proofs.PiecesLemmas.{piece_at-shorter}
use Rattle.igvm_image.proofs.file_rules.read_section.Goals as goal

pub headers-init : goal.headers-init
headers-init c =
    subst (λ (t : Seen). Walking c.args.total c.args.start t 0 c.args.section.now c.args.section.now) (sym c.new-seen.ensures)
    (walking_start c.args.total c.args.start c.args.section.now)

pub judged-requires : goal.judged-requires
judged-requires c =
    let content = walking_content _ _ _ (sym c.in-Some.ensures.found) in
    let within = c.headers.invariant.within in
    omega arith

pub returns-in-Err-clause-fault : goal.returns-in-Err-clause-fault
returns-in-Err-clause-fault c =
    walking_fault _ _ _ _ _ _ _ _ _ c.headers.invariant (sym c.in-Some.ensures.found) (sym c.in-Err.ensures)

pub push-requires : goal.push-requires
push-requires c = walking_follows _ _ _ _ (sym c.in-Ok.ensures)

pub headers-smaller : goal.headers-smaller
headers-smaller c =
    let shorter = piece_at-shorter _ _ _ (sym c.in-Some.ensures.found) in
    omega arith

pub headers-preserved : goal.headers-preserved
headers-preserved c =
    subst (λ (t : Seen). Walking c.args.total c.args.start t (c.headers.count + 1) c.args.section.now c.in-Some.piece.rest.now) (sym c.push.ensures.value)
    (walking_step _ _ _ _ _ _ _ _ _ c.headers.invariant (sym c.in-Some.ensures.found) (sym c.in-Ok.ensures))

pub returns-then-not-is_empty-clause-fault : goal.returns-then-not-is_empty-clause-fault
returns-then-not-is_empty-clause-fault c =
    let some : 0 < length c.headers.rest.now = grind arith in
    walking_cut _ _ _ _ _ _ c.headers.invariant (sym c.in_default.ensures.found) some

pub returns-then-count-eq0-clause-fault : goal.returns-then-count-eq0-clause-fault
returns-then-count-eq0-clause-fault c =
    let nothing : length c.headers.rest.now ≡ 0 = grind arith in
    let none : (length c.headers.seen.platforms == 0) ≡ true = grind arith in
    walking_done _ _ _ _ _ _ c.headers.invariant (sym c.in_default.ensures.found) nothing
    ∙ ap (λ b. if b then Some (fault_at c.args.start NoPlatform) else None) none

pub returns-clause-accepted : goal.returns-clause-accepted
returns-clause-accepted c =
    let nothing : length c.headers.rest.now ≡ 0 = grind arith in
    let some : (length c.headers.seen.platforms == 0) ≡ false = grind arith in
    walking_done _ _ _ _ _ _ c.headers.invariant (sym c.in_default.ensures.found) nothing
    ∙ ap (λ b. if b then Some (fault_at c.args.start NoPlatform) else None) some

pub returns-clause-seen : goal.returns-clause-seen
returns-clause-seen c = c.headers.invariant.seen ∙ ap seen_of (walking_all _ _ _ _ _ _ c.headers.invariant (sym c.in_default.ensures.found))

pub returns-clause-count : goal.returns-clause-count
returns-clause-count c = c.headers.invariant.counted ∙ ap length (walking_all _ _ _ _ _ _ c.headers.invariant (sym c.in_default.ensures.found))
