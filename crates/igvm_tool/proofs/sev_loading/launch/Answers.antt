use Rattle.std.proofs.Common.{◌∙◌}
use Rattle.sev_loader.specs.SevPlaced.{sev_load_of}
use Rattle.igvm_tool.proofs.SevLaunchLemmas.{misfit_put, loaded_ends}
use Rattle.igvm_tool.proofs.sev_loading.launch.Goals as goal

-- the image is loaded
pub returns-in-Ok-Loaded : goal.returns-in-Ok-Loaded
returns-in-Ok-Loaded g c = λ digest is.
    let asked = c.args.asked.now in
    let load = sev_load_of asked.view.now asked.platform asked.host.now in
    let ends = rw c.in-Ok-Loaded.field-0-is at c.in-Ok-Loaded.ensures.ends in
    loaded_ends load digest ends.0 (c.put_loaded.ensures load digest c.args.sev.now ends.1 (ends.1.digest ∙ is))

-- a header does not fit: the machine is not started
pub returns-in-Ok-DoesNotFit : goal.returns-in-Ok-DoesNotFit
returns-in-Ok-DoesNotFit g c = λ digest is.
    let asked = c.args.asked.now in
    let load = sev_load_of asked.view.now asked.platform asked.host.now in
    let ends = rw c.in-Ok-DoesNotFit.field-0-is at c.in-Ok-DoesNotFit.ensures.ends in
    misfit_put load digest c.in-Ok-DoesNotFit.misfit ends.1 ends.2 c.put_misfit.ensures
