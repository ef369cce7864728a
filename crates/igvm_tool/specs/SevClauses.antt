-- What is promised of a job that launches a SEV or SEV-ES guest: on its machine, and all together.
use Rattle.std.specs.Prelude.{◌≡◌, ℕ, ◌⊎◌, Option, Some, None, IsSome}
use Rattle.igvm_headers.specs.FaultCounts.{Rose}
use Rattle.igvm_outside.specs.declared.shelf.Shelf as shelves
use Rattle.igvm_outside.specs.declared.sink.Sink as sinks
use Rattle.sev_platform.specs.declared.sev_launch.SevLaunch as sevs
use Rattle.sev_loader.specs.SevLoading.{HoldsSevImage, IsCutShort}
use Rattle.igvm_jobs.specs.declared.status.Status.{Status}
use Rattle.igvm_jobs.specs.declared.status.Status.TheVariants as is
use Rattle.igvm_jobs.specs.Outcome.{Outcome, Launched}
use Rattle.igvm_jobs.specs.Tasks.{Task}
use Rattle.igvm_jobs.specs.Clauses.{ShelfFailed, OutFailed, Failures, KeepsUnder}

-- ---- faults

-- the machine failed the job: its count rose, and the job, which can give this outcome, would launch
abbrev pub SevMachineFailed : {M : Type 0} → sevs.Ghosts M → Task → ℕ → Outcome → M → M → Type 0
SevMachineFailed m task given outcome sev sev' =
    Rose (m.faults sev) (m.faults sev') × IsSome outcome.launched × task.can_give given outcome

-- what says that the shelf, the output or the machine failed a job with this outcome
abbrev pub sev_failures : {S O M : Type 0} → shelves.Ghosts S → sinks.Ghosts O → sevs.Ghosts M → Task
    → S → S → O → O → M → M → Outcome → Failures
sev_failures s o m task shelf shelf' out out' sev sev' outcome =
    record {
      shelf = ShelfFailed s task outcome shelf shelf';
      output = OutFailed o task (s.given shelf') outcome out out';
      machine = SevMachineFailed m task (s.given shelf') outcome sev sev';
    }

-- ---- the machine

-- the machine is done, and holds what is launched; without a launch it is as before
abbrev pub HoldsSevLaunch : {M : Type 0} → sevs.Ghosts M → Option Launched → M → M → Type 0
HoldsSevLaunch m None sev sev' = sev' ≡ sev
HoldsSevLaunch m (Some launched) sev sev' = HoldsSevImage launched.load (m.state sev')

-- what is launched was cut short: the machine has begun, and holds some of its first pages and contexts
abbrev pub IsSevStoppedIn : {M : Type 0} → sevs.Ghosts M → Option Launched → M → Type 0
IsSevStoppedIn m None sev' = ⊥
IsSevStoppedIn m (Some launched) sev' = IsCutShort launched.load (m.state sev')

-- After a fault of the outside the machine is as before; or it failed the job itself, and its launch was cut short; or
-- the shelf or the output failed the job, and it has ended as without the fault.
abbrev pub SevAfterFault : {M : Type 0} → sevs.Ghosts M → Outcome → Failures → M → M → Type 0
SevAfterFault m outcome failed sev sev' =
    (m.state sev' ≡ m.state sev) ⊎ (failed.machine × IsSevStoppedIn m outcome.launched sev')
    ⊎ ((failed.shelf ⊎ failed.output) × HoldsSevLaunch m outcome.launched sev sev')

-- The machine is left as the outcome says: after want of memory as before, and after a fault of the outside as its cause
-- says.
abbrev pub SevEndsAs : {M : Type 0} → sevs.Ghosts M → Outcome → Status → Failures → M → M → Type 0
SevEndsAs m outcome is.Outside failed sev sev' = SevAfterFault m outcome failed sev sev'
SevEndsAs m outcome is.Memory failed sev sev' = m.state sev' ≡ m.state sev
SevEndsAs m outcome _ failed sev sev' = HoldsSevLaunch m outcome.launched sev sev'

-- ---- all together

-- All that is promised of a job that may send commands to a SEV machine.
pub record KeepsSevPromises {S O E M : Type 0} (s : shelves.Ghosts S) (o : sinks.Ghosts O) (e : sinks.Ghosts E)
    (m : sevs.Ghosts M) (task : Task) (status : Status) (shelf shelf' : S) (out out' : O) (err err' : E) (sev sev' : M)
    : Type 0 where
  pub keeps : KeepsUnder s o e task (sev_failures s o m task shelf shelf' out out' sev sev') status shelf shelf' out out'
      err err'
  pub launch : SevEndsAs m keeps.outcome status
      (sev_failures s o m task shelf shelf' out out' sev sev' keeps.outcome) sev sev'
