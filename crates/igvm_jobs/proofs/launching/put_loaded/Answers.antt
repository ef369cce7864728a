use Rattle.std.proofs.Common.{◌≡◌, length, refl}
use Rattle.igvm_jobs.specs.Texts.{load_text}
use Rattle.igvm_jobs.proofs.LaunchLemmas.{loaded_put, not_written}
use Rattle.igvm_jobs.proofs.launching.put_loaded.Goals as goal

pub returns-in-Ok : goal.returns-in-Ok
returns-in-Ok g c = λ load digest before holds is.
    let state = g.L.Launch.state c.args.machine.now in
    let said : c.bytes.result.now ≡ load_text (length state.entries) (length state.contexts) digest =
    rw (c.bytes.ensures, c.push_machine.ensures digest is, c.new-text.ensures) refl in
    loaded_put _ _ c.args.image load digest c.bytes.result.now c.in-Ok.field-0 holds c.requires.done c.in-Ok.ensures.written c.in-Ok.ensures.unwanted
    said
    c.put_end.ensures

pub returns-in-Err : goal.returns-in-Err
returns-in-Err g c = λ load digest before holds is.
    not_written _ _ c.args.image load digest c.in-Err.field-0 holds c.requires.done c.in-Err.ensures.written c.in-Err.ensures.unwanted
