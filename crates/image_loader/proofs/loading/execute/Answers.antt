use Rattle.std.proofs.Common.{refl, sym, ap, subst, ◌∙◌, arith, inl, inr}
use Rattle.igvm_headers.specs.FaultCounts.{Rose}
use Rattle.platform_masks.specs.declared.platform.Platform.{Platform}
use Rattle.launch_platform.specs.Machine.{State, HasDigest, started}
use Rattle.image_loader.specs.Loads.{Load}
use Rattle.image_loader.specs.Loading.{HoldsImage, EndsBy, IsStopped}
use Rattle.std.specs.Prelude.{OnOk, IfOk}
use Rattle.image_loader.proofs.WholeLoads.{is_run, ended_whole, ended_by, no_memory, stopped_at_end, err_moved, not_moved, no_id, is_not_err}
use Rattle.image_loader.proofs.StoppedLoads.{stopped_in}
use Rattle.image_loader.proofs.loading.execute.Goals as goal

pub begin-requires : goal.begin-requires
begin-requires g c = record {
  idle = c.requires;
  kind = subst (λ (p : Platform). HasDigest p.kind) (sym c.platform.ensures) c.prepared.invariant;
  pages = c.pages.ensures.few;
  contexts = c.contexts.ensures.few;
}

-- ---- where it doesn't begin

pub returns-in-Err-clause-stopped : goal.returns-in-Err-clause-stopped
returns-in-Err-clause-stopped g c = λ _. inl c.in-Err.ensures.idle

pub returns-in-Err-clause-idle : goal.returns-in-Err-clause-idle
returns-in-Err-clause-idle g c = λ _. c.in-Err.ensures.idle

pub returns-in-Err-clause-cause : goal.returns-in-Err-clause-cause
returns-in-Err-clause-cause g c = λ is. c.in-Err.ensures.cause (err_moved _ _ is)

pub returns-in-Err-clause-no_fault : goal.returns-in-Err-clause-no_fault
returns-in-Err-clause-no_fault g c = λ other. c.in-Err.ensures.no_fault (not_moved _ _ other)

pub returns-in-Err-clause-counted : goal.returns-in-Err-clause-counted
returns-in-Err-clause-counted g c = c.in-Err.ensures.counted

-- ---- the commands

pub carry-requires : goal.carry-requires
carry-requires g c = record {
  begun = c.in-Ok.ensures.started ∙ ap (λ (p : Platform). started p.kind) c.platform.ensures;
  kinds = c.prepared.invariant;
  pages = omega (arith, c.pages.ensures.enough, c.in-Ok.ensures.pages);
  contexts = omega (arith, c.contexts.ensures.enough, c.in-Ok.ensures.contexts);
}

pub returns-in-Err-carry-clause-stopped : goal.returns-in-Err-carry-clause-stopped
returns-in-Err-carry-clause-stopped g c = λ _.
    subst (λ (load : Load). IsStopped g.L.Launch load c.args.machine.now c.carry.new.machine) c.prepared.view_is
    (inr (stopped_in _ c.prepared.inside.judged c.begin.new.machine c.carry.new.machine
    (c.in-Ok.ensures.started ∙ ap (λ (p : Platform). started p.kind) c.platform.ensures)
    c.in-Ok.ensures.empty c.in-Err-carry.ensures.stopped))

pub returns-in-Err-carry-clause-idle : goal.returns-in-Err-carry-clause-idle
returns-in-Err-carry-clause-idle g c = λ is. absurd (cc is)

pub returns-in-Err-carry-clause-cause : goal.returns-in-Err-carry-clause-cause
returns-in-Err-carry-clause-cause g c = λ _.
    subst (λ n. Rose n (g.L.Launch.faults c.carry.new.machine)) (c.in-Ok.ensures.no_fault (is_not_err _))
    c.in-Err-carry.ensures.stopped.rose

pub returns-in-Err-carry-clause-no_fault : goal.returns-in-Err-carry-clause-no_fault
returns-in-Err-carry-clause-no_fault g c = λ other. absurd (other refl)

pub returns-in-Err-carry-clause-counted : goal.returns-in-Err-carry-clause-counted
returns-in-Err-carry-clause-counted g c = omega (arith, c.in-Ok.ensures.counted, c.in-Err-carry.ensures.stopped.counted)

-- ---- the end

pub end-requires : goal.end-requires
end-requires g c =
    let load = c.prepared.inside.judged in
    let run = is_run c.commands_agree.ensures c.commands_place.ensures g.L.Launch load c.wanted-id.result
    c.begin.new.machine c.carry.new.machine c.prepared.invariant c.wanted-id.ensures.fits c.wanted-id.ensures.id
    (c.in-Ok.ensures.started ∙ ap (λ (p : Platform). started p.kind) c.platform.ensures)
    c.in-Ok.ensures.empty c.in-Ok-carry.ensures.done.state c.in-Ok-carry.ensures.done.held in
    let kind = ap (λ (s : State). s.kind) run.whole in
    record {
      loading = ap (λ (s : State). s.phase) run.whole;
      wanted = λ is. no_id c.wanted-id.result
          (c.wanted-id.ensures.id
          ∙ c.counts_suffice.ensures.ids load c.wanted-id.ensures.fits.plan (sym kind ∙ is) c.wanted-id.ensures.fits.fits);
    }

pub returns-in-Ok-carry : goal.returns-in-Ok-carry
returns-in-Ok-carry g c =
    let load = c.prepared.inside.judged in
    let run = is_run c.commands_agree.ensures c.commands_place.ensures g.L.Launch load c.wanted-id.result
    c.begin.new.machine c.carry.new.machine c.prepared.invariant c.wanted-id.ensures.fits c.wanted-id.ensures.id
    (c.in-Ok.ensures.started ∙ ap (λ (p : Platform). started p.kind) c.platform.ensures)
    c.in-Ok.ensures.empty c.in-Ok-carry.ensures.done.state c.in-Ok-carry.ensures.done.held in
    let before = c.carry.new.machine in
    let after = c.end.new.machine in
    let id = c.wanted-id.result in
    let ends = c.end.ensures.ends in
    let counted = c.in-Ok-carry.ensures.done.counted ∙ c.in-Ok.ensures.no_fault (is_not_err _) in
    record {
      holds = subst (λ (load : Load). OnOk c.end.result (HoldsImage load (g.L.Launch.state after))) c.prepared.view_is
          (ended_whole g.L.Launch load id before after c.end.result run ends);
      ends = subst (λ (load : Load). IfOk c.end.result (EndsBy load (g.L.Launch.state after))) c.prepared.view_is
          (ended_by g.L.Launch load id before after c.end.result run ends);
      stopped = λ is. subst (λ (load : Load). IsStopped g.L.Launch load c.args.machine.now after) c.prepared.view_is
          (stopped_at_end g.L.Launch load id c.args.machine.now before after c.end.result run ends c.end.ensures.held is);
      idle = no_memory g.L.Launch load id before after c.end.result _ run ends;
      cause = λ is. subst (λ n. Rose n (g.L.Launch.faults after)) counted (c.end.ensures.cause is);
      no_fault = λ other. c.end.ensures.no_fault other ∙ counted;
      counted = omega (arith, c.in-Ok.ensures.counted, c.in-Ok-carry.ensures.done.counted, c.end.ensures.counted);
    }
