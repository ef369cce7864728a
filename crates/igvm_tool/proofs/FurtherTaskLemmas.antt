-- The tasks of further jobs, and of all words.
use Rattle.std.proofs.Common.{◌≡◌, ℕ, refl, sym, ap, subst, List, Option, Some, None, Result}
use Rattle.std.specs.Option.{option_map}
use Rattle.igvm_outside.specs.declared.shelf.Shelf as shelves
use Rattle.igvm_outside.specs.declared.sink.Sink as sinks
use Rattle.launch_platform.specs.declared.launch.Launch as launches
use Rattle.sev_platform.specs.declared.sev_launch.SevLaunch as sevs
use Rattle.igvm_words.specs.Words.{Job, job_of}
use Rattle.further_words.specs.FurtherWords.{FurtherJob, SevMeasure, SevLoad, VmsaBuild, VmsaPrint, BuildElf, Strip, Join, Seal, SevLoadWords, further_of, AnyJob, First, Further, either_job, any_job_of}
use Rattle.igvm_jobs.specs.declared.refusal.Ended.{Ended}
use Rattle.igvm_jobs.specs.declared.refusal.Refusal.{Refusal}
use Rattle.igvm_jobs.specs.declared.status.Status.{Status}
use Rattle.igvm_jobs.specs.Outcome.{Outcome}
use Rattle.igvm_jobs.specs.Tasks.{Task}
use Rattle.igvm_jobs.specs.Refusals.{end_status}
use Rattle.igvm_jobs.specs.Clauses.{KeepsPromises}
use Rattle.igvm_jobs.specs.Endings.{EndIsPut}
use Rattle.igvm_jobs.proofs.EndingLemmas.{keeps_under, keeps, without}
use Rattle.igvm_tool.specs.SevLoadJob.{sev_load_task}
use Rattle.igvm_tool.specs.SevClauses.{SevMachineFailed, KeepsSevPromises}
use Rattle.igvm_tool.specs.AllJobs.{words_task, KeepsAll}
use Rattle.igvm_tool.specs.SevEndings.{EndsOnSev, FurtherEnds}

-- ---- further jobs

-- the end of a job, of the same job
pub job_ends : {S O M : Type 0} {s : shelves.Ghosts S} {o : sinks.Ghosts O} {m : sevs.Ghosts M} {job meant : FurtherJob} {ending : Result Ended Refusal} {shelf shelf' : S} {out out' : O} {sev sev' : M} → job ≡ meant
    → FurtherEnds s o m job ending shelf shelf' out out' sev sev' → FurtherEnds s o m meant ending shelf shelf' out out' sev sev'
job_ends {S} {O} {M} {s} {o} {m} {ending = ending} {shelf} {shelf'} {out} {out'} {sev} {sev'} same h = subst (λ (j : FurtherJob). FurtherEnds s o m j ending shelf shelf' out out' sev sev') same h

keeps_sev_end : {S O E M : Type 0} (s : shelves.Ghosts S) (o : sinks.Ghosts O) (e : sinks.Ghosts E) (m : sevs.Ghosts M) (words : SevLoadWords) (ending : Result Ended Refusal) (shelf shelf' : S) (out out' : O)
    (err err' : E) (sev sev' : M) → EndsOnSev s o m (sev_load_task words) ending shelf shelf' out out' sev sev' → EndIsPut e ending err err'
    → KeepsSevPromises s o e m (sev_load_task words) (end_status ending) shelf shelf' out out' err err' sev sev'
unfolding keeps_under
keeps_sev_end s o e m words ending shelf shelf' out out' err err' sev sev' h put =
    record { keeps = keeps_under (λ (x : Outcome). SevMachineFailed m (sev_load_task words) (s.given shelf') x sev sev') ending refl h.ends put; launch = h.launch }

-- what the end of `sev-load` and its line keep
keeps_sev : {S O E M : Type 0} {s : shelves.Ghosts S} {o : sinks.Ghosts O} {e : sinks.Ghosts E} {m : sevs.Ghosts M} (words : SevLoadWords) (ending : Result Ended Refusal) {status : Status} {shelf shelf' : S} {out out' : O}
    {err err' : E} {sev sev' : M} → EndsOnSev s o m (sev_load_task words) ending shelf shelf' out out' sev sev' → status ≡ end_status ending → EndIsPut e ending err err'
    → KeepsSevPromises s o e m (sev_load_task words) status shelf shelf' out out' err err' sev sev'
keeps_sev {S} {O} {E} {M} {s} {o} {e} {m} words ending {status} {shelf} {shelf'} {out} {out'} {err} {err'} {sev} {sev'} h same put =
    subst (λ (st : Status). KeepsSevPromises s o e m (sev_load_task words) st shelf shelf' out out' err err' sev sev') (sym same)
    (keeps_sev_end s o e m words ending shelf shelf' out out' err err' sev sev' h put)

-- what the end of a further job and its line keep
pub further_keeps : {S O E L M : Type 0} (s : shelves.Ghosts S) (o : sinks.Ghosts O) (e : sinks.Ghosts E) (l : launches.Ghosts L) (m : sevs.Ghosts M) (job : FurtherJob) (ending : Result Ended Refusal) (status : Status)
    (shelf shelf' : S) (out out' : O) (err err' : E) (machine : L) (sev sev' : M) → FurtherEnds s o m job ending shelf shelf' out out' sev sev' → status ≡ end_status ending → EndIsPut e ending err err'
    → KeepsAll s o e l m (Some (Further job)) status shelf shelf' out out' err err' machine machine sev sev'
further_keeps s o e l m (SevMeasure file wanted) ending status shelf shelf' out out' err err' machine sev sev' h same put = (keeps ending refl (without refl h.by_command.0) same put, h.by_command.1)
further_keeps s o e l m (SevLoad words) ending status shelf shelf' out out' err err' machine sev sev' h same put = (keeps_sev words ending h.by_command same put, refl)
further_keeps s o e l m (VmsaBuild json target) ending status shelf shelf' out out' err err' machine sev sev' h same put = (keeps ending refl (without refl h.by_command.0) same put, h.by_command.1)
further_keeps s o e l m (VmsaPrint file) ending status shelf shelf' out out' err err' machine sev sev' h same put = (keeps ending refl (without refl h.by_command.0) same put, h.by_command.1)
further_keeps s o e l m (BuildElf words) ending status shelf shelf' out out' err err' machine sev sev' h same put = (keeps ending refl (without refl h.by_command.0) same put, h.by_command.1)
further_keeps s o e l m (Strip words) ending status shelf shelf' out out' err err' machine sev sev' h same put = (keeps ending refl (without refl h.by_command.0) same put, h.by_command.1)
further_keeps s o e l m (Join words) ending status shelf shelf' out out' err err' machine sev sev' h same put = (keeps ending refl (without refl h.by_command.0) same put, h.by_command.1)
further_keeps s o e l m (Seal words) ending status shelf shelf' out out' err err' machine sev sev' h same put = (keeps ending refl (without refl h.by_command.0) same put, h.by_command.1)

-- ---- all words

-- what is promised of the same task
pub promised : {S O E L : Type 0} {s : shelves.Ghosts S} {o : sinks.Ghosts O} {e : sinks.Ghosts E} {l : launches.Ghosts L} {task meant : Task} {status : Status} {shelf shelf' : S} {out out' : O} {err err' : E} {machine machine' : L}
    → task ≡ meant → KeepsPromises s o e l task status shelf shelf' out out' err err' machine machine' → KeepsPromises s o e l meant status shelf shelf' out out' err err' machine machine'
promised {S} {O} {E} {L} {s} {o} {e} {l} {status = status} {shelf} {shelf'} {out} {out'} {err} {err'} {machine} {machine'} same h =
    subst (λ (t : Task). KeepsPromises s o e l t status shelf shelf' out out' err err' machine machine') same h

-- what is promised of the same job
pub all_promised : {S O E L M : Type 0} (s : shelves.Ghosts S) (o : sinks.Ghosts O) (e : sinks.Ghosts E) (l : launches.Ghosts L) (m : sevs.Ghosts M) (job meant : Option AnyJob) (status : Status) (shelf shelf' : S) (out out' : O)
    (err err' : E) (machine machine' : L) (sev sev' : M) → job ≡ meant → KeepsAll s o e l m job status shelf shelf' out out' err err' machine machine' sev sev'
    → KeepsAll s o e l m meant status shelf shelf' out out' err err' machine machine' sev sev'
all_promised s o e l m job meant status shelf shelf' out out' err err' machine machine' sev sev' same h =
    subst (λ (job : Option AnyJob). KeepsAll s o e l m job status shelf shelf' out out' err err' machine machine' sev sev') same h

-- words that mean a further job
pub job_of_further : (words : List (List ℕ)) (job : FurtherJob) → Some job ≡ further_of words → Some (Further job) ≡ any_job_of words
unfolding any_job_of
job_of_further words job means = ap (λ further. either_job further (job_of words)) means

-- words that mean none
pub job_of_first : (words : List (List ℕ)) → None ≡ further_of words → option_map First (job_of words) ≡ any_job_of words
unfolding any_job_of
job_of_first words none = ap (λ further. either_job further (job_of words)) none

-- what is promised of the first commands, which leave the SEV machine untouched
pub first_keeps : {S O E L M : Type 0} (s : shelves.Ghosts S) (o : sinks.Ghosts O) (e : sinks.Ghosts E) (l : launches.Ghosts L) (m : sevs.Ghosts M) (job : Option Job) (status : Status) (shelf shelf' : S) (out out' : O)
    (err err' : E) (machine machine' : L) (sev : M) → KeepsPromises s o e l (words_task job) status shelf shelf' out out' err err' machine machine'
    → KeepsAll s o e l m (option_map First job) status shelf shelf' out out' err err' machine machine' sev sev
first_keeps s o e l m None status shelf shelf' out out' err err' machine machine' sev h = (h, refl)
first_keeps s o e l m (Some job) status shelf shelf' out out' err err' machine machine' sev h = (h, refl)
