use Rattle.std.proofs.Common.{◌≡◌, ◌∙◌, refl, ap, subst, Some, None}
use Rattle.std.specs.Option.{option_map}
use Rattle.igvm_measure.specs.WantedDigest.{bad_digest}
use Rattle.launch_platform.specs.declared.phase.Phase.TheVariants as phase
use Rattle.image_loader.specs.declared.answers.LoadAnswer.TheVariants.{Loaded, DoesNotFit}
use Rattle.image_loader.specs.Loads.{Load, load_of}
use Rattle.image_loader.specs.Loading.{HoldsImage, EndsBy}
use Rattle.igvm_jobs.specs.LoadJob.{checked_outcome}
use Rattle.igvm_jobs.proofs.LaunchLemmas.{misfit_put, ends_by, ends_as}
use Rattle.igvm_jobs.proofs.launching.launch.Goals as goal

-- ---- a header does not fit: the machine is not started

pub returns-in-Err-Misfit : goal.returns-in-Err-Misfit
returns-in-Err-Misfit g c = λ digest is.
    let asked = c.args.asked.now in
    let image = option_map (λ name. name.now) asked.image in
    let load = load_of asked.view.now asked.platform asked.options asked.host.now in
    let refused = rw c.in-Err-Misfit.field-0-is at c.in-Err-Misfit.ensures.refused in
    misfit_put c.in-Err-Misfit.misfit None (ap (checked_outcome image load digest) refused.1) refl c.put_misfit.ensures

-- ---- the launch has ended

pub returns-in-Ok-Loaded : goal.returns-in-Ok-Loaded
returns-in-Ok-Loaded g c = λ digest is.
    let asked = c.args.asked.now in
    let image = option_map (λ name. name.now) asked.image in
    let load = load_of asked.view.now asked.platform asked.options asked.host.now in
    let state = g.L.Launch.state c.execute.new.machine in
    let holds : HoldsImage load state = subst (λ (l : Load). HoldsImage l state) c.in-Ok.ensures.load c.in-Ok-Loaded.ensures.holds in
    let ends : EndsBy c.in-Ok.prepared state (Loaded c.in-Ok-Loaded.field-0-0) = rw c.in-Ok-Loaded.field-0-is at c.in-Ok-Loaded.ensures.ends in
    let good = subst (λ (l : Load). bad_digest l.file l.platform l.options ≡ None) c.in-Ok.ensures.load ends.2 in
    ends_as (ends_by image load digest c.in-Ok.ensures.fits good) (c.put_loaded.ensures load digest c.args.machine.now holds (holds.digest ∙ is))

pub returns-in-Ok-DoesNotFit : goal.returns-in-Ok-DoesNotFit
returns-in-Ok-DoesNotFit g c = λ digest is.
    let asked = c.args.asked.now in
    let image = option_map (λ name. name.now) asked.image in
    let load = load_of asked.view.now asked.platform asked.options asked.host.now in
    let misfit = c.in-Ok-DoesNotFit.misfit in
    let state = g.L.Launch.state c.execute.new.machine in
    let holds : HoldsImage load state = subst (λ (l : Load). HoldsImage l state) c.in-Ok.ensures.load c.in-Ok-DoesNotFit.ensures.holds in
    let ends : EndsBy c.in-Ok.prepared state (DoesNotFit misfit) = rw c.in-Ok-DoesNotFit.field-0-is at c.in-Ok-DoesNotFit.ensures.ends in
    let bad = subst (λ (l : Load). bad_digest l.file l.platform l.options ≡ Some misfit) c.in-Ok.ensures.load ends.1 in
    misfit_put misfit (Some (record { load = load; phase = phase.Refused })) (ends_by image load digest c.in-Ok.ensures.fits bad) (holds, ends.0) c.put_misfit-in-Ok-DoesNotFit.ensures
