-- How a job ends that may launch a SEV or SEV-ES guest, and how the step does that launches it.
use Rattle.std.specs.Prelude.{◌≡◌, ◌⊎◌, Result, Ok, Err, IsSome}
use Rattle.igvm_headers.specs.FaultCounts.{Rose}
use Rattle.igvm_outside.specs.declared.shelf.Shelf as shelves
use Rattle.igvm_outside.specs.declared.sink.Sink as sinks
use Rattle.sev_platform.specs.declared.sev_launch.SevLaunch as sevs
use Rattle.further_words.specs.FurtherWords.{FurtherJob, SevLoad}
use Rattle.igvm_jobs.specs.declared.refusal.Ended.{Ended}
use Rattle.igvm_jobs.specs.declared.refusal.Refusal.{Refusal}
use Rattle.igvm_jobs.specs.declared.refusal.Refusal.TheVariants.{Output, Machine, Memory}
use Rattle.igvm_jobs.specs.Outcome.{Outcome}
use Rattle.igvm_jobs.specs.Tasks.{Task}
use Rattle.igvm_jobs.specs.Refusals.{ended_status, end_status}
use Rattle.igvm_jobs.specs.Clauses.{PutsText}
use Rattle.igvm_jobs.specs.Endings.{EndKeepsOutput, EndsUnder, Ends}
use Rattle.igvm_tool.specs.SevClauses.{sev_failures, HoldsSevLaunch, IsSevStoppedIn, SevEndsAs}
use Rattle.igvm_tool.specs.SevLoadJob.{sev_load_task}
use Rattle.igvm_tool.specs.AllJobs.{further_task}

-- ---- the whole job

-- how a job ends that has a SEV machine
pub record EndsOnSev {S O M : Type 0} (s : shelves.Ghosts S) (o : sinks.Ghosts O) (m : sevs.Ghosts M) (task : Task)
    (ending : Result Ended Refusal) (shelf shelf' : S) (out out' : O) (sev sev' : M) : Type 0 where
  pub ends : EndsUnder s o task (sev_failures s o m task shelf shelf' out out' sev sev') ending shelf shelf' out out'
  pub launch : SevEndsAs m ends.outcome (end_status ending)
      (sev_failures s o m task shelf shelf' out out' sev sev' ends.outcome) sev sev'

-- how the job of a further command ends: `sev-load` alone has a machine, and every other leaves it untouched
abbrev pub JobEnds : {S O M : Type 0} → shelves.Ghosts S → sinks.Ghosts O → sevs.Ghosts M → FurtherJob
    → Result Ended Refusal → S → S → O → O → M → M → Type 0
JobEnds s o m (SevLoad words) ending shelf shelf' out out' sev sev' =
    EndsOnSev s o m (sev_load_task words) ending shelf shelf' out out' sev sev'
JobEnds s o m job ending shelf shelf' out out' sev sev' =
    Ends s o (further_task job) ending shelf shelf' out out' × (sev' ≡ sev)

-- A further job ends by its command.
pub record FurtherEnds {S O M : Type 0} (s : shelves.Ghosts S) (o : sinks.Ghosts O) (m : sevs.Ghosts M) (job : FurtherJob)
    (ending : Result Ended Refusal) (shelf shelf' : S) (out out' : O) (sev sev' : M) : Type 0 where
  pub by_command : JobEnds s o m job ending shelf shelf' out out' sev sev'

-- ---- the step that launches

-- why the launch of a job with this outcome ends so
abbrev pub SevLaunchIsTrue : {O M : Type 0} → sinks.Ghosts O → sevs.Ghosts M → Outcome → Result Ended Refusal
    → O → O → M → M → Type 0
SevLaunchIsTrue o m outcome (Ok ended) out out' sev sev' = outcome.status ≡ ended_status ended
SevLaunchIsTrue o m outcome (Err Output) out out' sev sev' = Rose (o.faults out) (o.faults out') × PutsText outcome
SevLaunchIsTrue o m outcome (Err Machine) out out' sev sev' =
    Rose (m.faults sev) (m.faults sev') × IsSome outcome.launched
SevLaunchIsTrue o m outcome (Err Memory) out out' sev sev' = Unit {0}
SevLaunchIsTrue o m outcome (Err refusal) out out' sev sev' = ⊥

-- what it leaves of the machine
abbrev pub SevLaunchLeaves : {M : Type 0} → sevs.Ghosts M → Outcome → Result Ended Refusal → M → M → Type 0
SevLaunchLeaves m outcome (Err Machine) sev sev' =
    (m.state sev' ≡ m.state sev) ⊎ IsSevStoppedIn m outcome.launched sev'
SevLaunchLeaves m outcome (Err Memory) sev sev' = m.state sev' ≡ m.state sev
SevLaunchLeaves m outcome ending sev sev' = HoldsSevLaunch m outcome.launched sev sev'

-- The last step of a job whose outcome is known launches, and ends so. It touches no file.
pub record SevLaunchEnds {O M : Type 0} (o : sinks.Ghosts O) (m : sevs.Ghosts M) (outcome : Outcome)
    (ending : Result Ended Refusal) (out out' : O) (sev sev' : M) : Type 0 where
  pub end_is : SevLaunchIsTrue o m outcome ending out out' sev sev'
  pub output : EndKeepsOutput o outcome ending out out'
  pub leaves : SevLaunchLeaves m outcome ending sev sev'
