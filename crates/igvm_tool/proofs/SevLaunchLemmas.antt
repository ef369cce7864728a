-- How the step ends that launches a SEV or SEV-ES guest.
use Rattle.std.proofs.Common.{◌≡◌, ◌∙◌, ℕ, refl, sym, ap, ap₂, subst, inl, inr, List, length, Option, Some, None, Result, Ok, Err}
use Rattle.directive_rules.specs.declared.misfit.Misfit.{Misfit}
use Rattle.image_loader.specs.Loads.{Load}
use Rattle.image_loader.specs.PlacedPages.{contexts}
use Rattle.sev_platform.specs.SevMachine.{SevState}
use Rattle.sev_platform.specs.declared.sev_launch.SevLaunch as sevs
use Rattle.sev_loader.specs.SevPlaced.{sev_placed}
use Rattle.sev_loader.specs.SevLoading.{HoldsSevImage}
use Rattle.igvm_outside.specs.declared.sink.Sink as sinks
use Rattle.igvm_jobs.specs.declared.refusal.Ended.{Ended}
use Rattle.igvm_jobs.specs.declared.refusal.Ended.TheVariants as end
use Rattle.igvm_jobs.specs.declared.refusal.Refusal.{Refusal}
use Rattle.igvm_jobs.specs.Texts.{load_text, misfit_text}
use Rattle.igvm_jobs.specs.Outcome.{Outcome, not_fit}
use Rattle.igvm_jobs.specs.Refusals.{ended_status}
use Rattle.igvm_jobs.specs.Clauses.{PutsText}
use Rattle.igvm_jobs.specs.Endings.{PutsEnd}
use Rattle.igvm_tool.specs.SevLoadJob.{sev_loaded, sev_checked}
use Rattle.igvm_tool.specs.SevClauses.{HoldsSevLaunch}
use Rattle.igvm_tool.specs.SevEndings.{SevLaunchEnds}

puts : (x : Outcome) (ended : Ended) → x.status ≡ ended_status ended → PutsText x
puts x end.Done same = inl same
puts x end.NotFit same = inr same

-- the text of the outcome is put, or a front of it
text_put : {O M : Type 0} {o : sinks.Ghosts O} {m : sevs.Ghosts M} (x : Outcome) (ended : Ended) {ending : Result Ended Refusal} {out out' : O} {before sev : M} → x.status ≡ ended_status ended
    → HoldsSevLaunch m x.launched before sev → PutsEnd o ended x.out ending out out' → SevLaunchEnds o m x ending out out' before sev
text_put {O} {M} {o} {m} x ended {ending = Ok e} {out} {out'} {before} {sev} status holds put =
    subst (λ (q : Ended). SevLaunchEnds o m x (Ok q) out out' before sev) (sym put.put.0) (record { end_is = status; output = put.put.1; leaves = holds })
text_put {O} {M} {o} {m} x ended {ending = Err r} {out} {out'} {before} {sev} status holds put =
    subst (λ (q : Refusal). SevLaunchEnds o m x (Err q) out out' before sev) (sym put.failed.0)
    (record { end_is = (put.failed.1, puts x ended status); output = put.failed.2; leaves = holds })

-- the same of an outcome that is known by another name
ends_as : {O M : Type 0} {o : sinks.Ghosts O} {m : sevs.Ghosts M} {x y : Outcome} {ending : Result Ended Refusal} {out out' : O} {before sev : M} → x ≡ y
    → SevLaunchEnds o m y ending out out' before sev → SevLaunchEnds o m x ending out out' before sev
ends_as {O} {M} {o} {m} {ending = ending} {out} {out'} {before} {sev} same h = subst (λ (z : Outcome). SevLaunchEnds o m z ending out out' before sev) (sym same) h

-- a header does not fit, and the line says why
pub misfit_put : {O M : Type 0} {o : sinks.Ghosts O} {m : sevs.Ghosts M} (load : Load) (digest : List ℕ) (misfit : Misfit) {first : Option Misfit} {ending : Result Ended Refusal} {out out' : O} {before sev : M}
    → first ≡ Some misfit → sev ≡ before → PutsEnd o end.NotFit (misfit_text misfit) ending out out' → SevLaunchEnds o m (sev_checked load digest first) ending out out' before sev
misfit_put load digest misfit is kept put = ends_as (ap (sev_checked load digest) is) (text_put (not_fit (misfit_text misfit) None) end.NotFit refl kept put)

-- what a machine says of itself is the text of its load
machine_text : (load : Load) (digest : List ℕ) (state : SevState) → HoldsSevImage load state
    → load_text (length state.entries) (length state.contexts) digest ≡ load_text (length (sev_placed load)) (length (contexts load)) digest
machine_text load digest state holds = ap₂ (λ pages added. load_text pages added digest) (ap length holds.entries) (ap length holds.contexts)

-- what a machine says of itself is put
pub loaded_put : {O M : Type 0} {o : sinks.Ghosts O} {m : sevs.Ghosts M} (load : Load) (digest text : List ℕ) {ending : Result Ended Refusal} {out out' : O} {before sev : M}
    → HoldsSevImage load (m.state sev) → text ≡ load_text (length (m.state sev).entries) (length (m.state sev).contexts) digest → PutsEnd o end.Done text ending out out'
    → SevLaunchEnds o m (sev_loaded load digest) ending out out' before sev
loaded_put {O} {M} {o} {m} load digest text {ending} {out} {out'} {before} {sev} holds same put =
    text_put (sev_loaded load digest) end.Done refl holds (subst (λ t. PutsEnd o end.Done t ending out out') (same ∙ machine_text load digest (m.state sev) holds) put)

-- an image that fits is loaded
pub loaded_ends : {O M : Type 0} {o : sinks.Ghosts O} {m : sevs.Ghosts M} (load : Load) (digest : List ℕ) {first : Option Misfit} {ending : Result Ended Refusal} {out out' : O} {before sev : M}
    → first ≡ None → SevLaunchEnds o m (sev_loaded load digest) ending out out' before sev → SevLaunchEnds o m (sev_checked load digest first) ending out out' before sev
loaded_ends load digest fits h = ends_as (ap (sev_checked load digest) fits) h
