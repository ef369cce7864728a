use Rattle.std.proofs.Common.{refl, sym, ap, subst, ◌∙◌, arith, inl, inr, Err}
use Rattle.igvm_headers.specs.FaultCounts.{Rose}
use Rattle.sev_chain.specs.SevBytes.{HasSevDigest}
use Rattle.sev_platform.specs.SevMachine.{sev_started}
use Rattle.sev_loader.proofs.SevEnds.{as_begun, has_run, holds_image, cut_at_end, still_loading, cut_on_the_way, is_not_err, memory_is_no_fault}
use Rattle.sev_loader.proofs.loading.launch.Goals as goal

-- ---- the start

pub start-requires-clause-idle : goal.start-requires-clause-idle
start-requires-clause-idle g c = c.requires.idle

pub start-requires-clause-kind : goal.start-requires-clause-kind
start-requires-clause-kind g c = subst HasSevDigest (sym c.requires.kind) c.requires.sev

pub start-requires-clause-pages : goal.start-requires-clause-pages
start-requires-clause-pages g c = c.pages.ensures.few

pub start-requires-clause-contexts : goal.start-requires-clause-contexts
start-requires-clause-contexts g c = c.contexts.ensures.few

pub returns-in-Err-Memory-clause-refused : goal.returns-in-Err-Memory-clause-refused
returns-in-Err-Memory-clause-refused g c = (c.requires.sev, c.in-Err-Memory.ensures.kept.state)

pub returns-in-Err-Memory-clause-cause : goal.returns-in-Err-Memory-clause-cause
returns-in-Err-Memory-clause-cause g c = λ is. absurd (cc is)

pub returns-in-Err-Memory-clause-no_fault : goal.returns-in-Err-Memory-clause-no_fault
returns-in-Err-Memory-clause-no_fault g c = λ other.
    c.in-Err-Memory.ensures.no_fault (memory_is_no_fault c.in-Err-Memory.field-0 c.in-Err-Memory.field-0-is)

pub returns-in-Err-Memory-clause-counted : goal.returns-in-Err-Memory-clause-counted
returns-in-Err-Memory-clause-counted g c = c.in-Err-Memory.ensures.counted

pub returns-in-Err-Failed-clause-refused : goal.returns-in-Err-Failed-clause-refused
returns-in-Err-Failed-clause-refused g c = (c.requires.sev, refl, inl c.in-Err-Failed.ensures.kept.state)

pub returns-in-Err-Failed-clause-cause : goal.returns-in-Err-Failed-clause-cause
returns-in-Err-Failed-clause-cause g c = λ is. c.in-Err-Failed.ensures.cause (ap (λ x. Err x) c.in-Err-Failed.field-0-is)

pub returns-in-Err-Failed-clause-no_fault : goal.returns-in-Err-Failed-clause-no_fault
returns-in-Err-Failed-clause-no_fault g c = λ other. absurd (other refl)

pub returns-in-Err-Failed-clause-counted : goal.returns-in-Err-Failed-clause-counted
returns-in-Err-Failed-clause-counted g c = c.in-Err-Failed.ensures.counted

-- ---- the commands

pub same-judged : goal.same-judged
same-judged g c = refl

pub carry-requires-clause-begun : goal.carry-requires-clause-begun
carry-requires-clause-begun g c =
    as_begun g.M.SevLaunch c.args.judged c.start.new.self (c.in-Ok.ensures.started ∙ ap sev_started c.requires.kind)

pub carry-requires-clause-kinds : goal.carry-requires-clause-kinds
carry-requires-clause-kinds g c = c.requires.sev

pub carry-requires-clause-pages : goal.carry-requires-clause-pages
carry-requires-clause-pages g c = omega (arith, c.pages.ensures.enough, c.in-Ok.ensures.pages)

pub carry-requires-clause-contexts : goal.carry-requires-clause-contexts
carry-requires-clause-contexts g c = omega (arith, c.contexts.ensures.enough, c.in-Ok.ensures.contexts)

pub returns-in-Err-clause-refused : goal.returns-in-Err-clause-refused
returns-in-Err-clause-refused g c = (
  c.requires.sev,
  refl,
  inr (cut_on_the_way g.M.SevLaunch _ c.args.judged c.start.new.self c.carry.new.machine c.requires.sev
      (as_begun g.M.SevLaunch c.args.judged c.start.new.self (c.in-Ok.ensures.started ∙ ap sev_started c.requires.kind))
      c.in-Ok.ensures.empty refl c.in-Err.ensures.stopped),
)

pub returns-in-Err-clause-cause : goal.returns-in-Err-clause-cause
returns-in-Err-clause-cause g c = λ is.
    subst (λ n. Rose n (g.M.SevLaunch.faults c.carry.new.machine)) (c.in-Ok.ensures.no_fault (is_not_err _))
    c.in-Err.ensures.stopped.rose

pub returns-in-Err-clause-no_fault : goal.returns-in-Err-clause-no_fault
returns-in-Err-clause-no_fault g c = λ other. absurd (other refl)

pub returns-in-Err-clause-counted : goal.returns-in-Err-clause-counted
returns-in-Err-clause-counted g c = omega (arith, c.in-Ok.ensures.counted, c.in-Err.ensures.stopped.counted)

-- ---- the end

pub finish-requires : goal.finish-requires
finish-requires g c =
    let load = c.args.judged in
    let run = has_run g.M.SevLaunch load c.start.new.self c.carry.new.machine
    (c.commands_agree.ensures load c.requires.sev) (c.in-Ok.ensures.started ∙ ap sev_started c.requires.kind)
    c.in-Ok.ensures.empty c.in-Ok-carry.ensures.done.state c.in-Ok-carry.ensures.done.held in
    record { loading = still_loading g.M.SevLaunch load c.carry.new.machine (c.commands_place.ensures load) run }

pub returns-in-Ok-finish-clause-ends : goal.returns-in-Ok-finish-clause-ends
returns-in-Ok-finish-clause-ends g c =
    let load = c.args.judged in
    let run = has_run g.M.SevLaunch load c.start.new.self c.carry.new.machine
    (c.commands_agree.ensures load c.requires.sev) (c.in-Ok.ensures.started ∙ ap sev_started c.requires.kind)
    c.in-Ok.ensures.empty c.in-Ok-carry.ensures.done.state c.in-Ok-carry.ensures.done.held in
    let held = holds_image g.M.SevLaunch load c.carry.new.machine c.finish.new.self c.in-Ok-finish.digest c.requires.sev
    (c.commands_place.ensures load) run c.in-Ok-finish.ensures.ends c.in-Ok-finish.ensures.digest in
    (refl, held.0, held.1)

pub returns-in-Ok-finish-clause-cause : goal.returns-in-Ok-finish-clause-cause
returns-in-Ok-finish-clause-cause g c = λ is. absurd (cc is)

pub returns-in-Ok-finish-clause-no_fault : goal.returns-in-Ok-finish-clause-no_fault
returns-in-Ok-finish-clause-no_fault g c = λ other.
    c.in-Ok-finish.ensures.no_fault ∙ c.in-Ok-carry.ensures.done.counted ∙ c.in-Ok.ensures.no_fault (is_not_err _)

pub returns-in-Ok-finish-clause-counted : goal.returns-in-Ok-finish-clause-counted
returns-in-Ok-finish-clause-counted g c =
    omega (arith, c.in-Ok.ensures.counted, c.in-Ok-carry.ensures.done.counted, c.in-Ok-finish.ensures.counted)

pub returns-in-Err-finish-clause-refused : goal.returns-in-Err-finish-clause-refused
returns-in-Err-finish-clause-refused g c =
    let load = c.args.judged in
    let run = has_run g.M.SevLaunch load c.start.new.self c.carry.new.machine
    (c.commands_agree.ensures load c.requires.sev) (c.in-Ok.ensures.started ∙ ap sev_started c.requires.kind)
    c.in-Ok.ensures.empty c.in-Ok-carry.ensures.done.state c.in-Ok-carry.ensures.done.held in (
      c.requires.sev,
      refl,
      inr (cut_at_end g.M.SevLaunch load c.carry.new.machine c.finish.new.self c.requires.sev run c.in-Err-finish.ensures.ends),
    )

pub returns-in-Err-finish-clause-cause : goal.returns-in-Err-finish-clause-cause
returns-in-Err-finish-clause-cause g c = λ is.
    subst (λ n. Rose n (g.M.SevLaunch.faults c.finish.new.self))
    (c.in-Ok-carry.ensures.done.counted ∙ c.in-Ok.ensures.no_fault (is_not_err _)) c.in-Err-finish.ensures.cause

pub returns-in-Err-finish-clause-no_fault : goal.returns-in-Err-finish-clause-no_fault
returns-in-Err-finish-clause-no_fault g c = λ other. absurd (other refl)

pub returns-in-Err-finish-clause-counted : goal.returns-in-Err-finish-clause-counted
returns-in-Err-finish-clause-counted g c =
    omega (arith, c.in-Ok.ensures.counted, c.in-Ok-carry.ensures.done.counted, c.in-Err-finish.ensures.counted)
