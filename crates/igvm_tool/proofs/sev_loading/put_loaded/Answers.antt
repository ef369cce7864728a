use Rattle.std.proofs.Common.{◌≡◌, length, refl}
use Rattle.igvm_jobs.specs.Texts.{load_text}
use Rattle.igvm_tool.proofs.SevLaunchLemmas.{loaded_put}
use Rattle.igvm_tool.proofs.sev_loading.put_loaded.Goals as goal

pub returns : goal.returns
returns g c = λ load digest before holds is.
    let state = g.M.SevLaunch.state c.args.sev.now in
    let said : c.bytes.result.now ≡ load_text (length state.entries) (length state.contexts) digest =
    rw (c.bytes.ensures, c.push_machine.ensures digest is, c.new-text.ensures) refl in
    loaded_put load digest c.bytes.result.now holds said c.put_end.ensures
