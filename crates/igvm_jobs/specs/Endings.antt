-- How a job ends and how its steps stop it, over the shelf and the output.
use Rattle.std.specs.Prelude.{◌≡◌, ℕ, List, Result, Ok, Err, IfOk, IfErr, IfSome, Some, IsSome, ◌⊎◌}
use Rattle.igvm_headers.specs.FaultCounts.{Rose}
use Rattle.igvm_outside.specs.Files.{IsUnwritten}
use Rattle.igvm_outside.specs.SinkCalls.{GainsFront}
use Rattle.igvm_outside.specs.ShelfCalls.{IsLonger}
use Rattle.igvm_outside.specs.declared.shelf.Shelf as shelves
use Rattle.igvm_outside.specs.declared.sink.Sink as sinks
use Rattle.launch_platform.specs.declared.launch.Launch as launches
use Rattle.igvm_jobs.specs.declared.refusal.Ended.{Ended}
use Rattle.igvm_jobs.specs.declared.status.Status.TheVariants as is
use Rattle.igvm_jobs.specs.declared.refusal.LimitOf.{LimitOf}
use Rattle.igvm_jobs.specs.declared.refusal.Refusal.{Refusal}
use Rattle.igvm_jobs.specs.declared.refusal.Refusal.TheVariants.{Shelf, Output, Machine, Memory, Limit}
use Rattle.igvm_jobs.specs.Outcome.{Outcome, Written}
use Rattle.igvm_jobs.specs.Tasks.{Task}
use Rattle.igvm_jobs.specs.Refusals.{ended_status, end_status, text_of, refusal_outcome}
use Rattle.igvm_jobs.specs.Clauses.{Gains, IsPut, FilesAreKept, FilesEndAs, ShelfFailed, OutFailed, Failures, failures, PutsText, MachineEndsAs, HoldsLaunch, IsStoppedIn}

-- ---- the whole job

-- The end is the outcome, which the job can give; or the shelf, the output or the machine failed, or memory ran out.
abbrev pub EndIsTrue : Task → ℕ → Outcome → Result Ended Refusal → Failures → Type 0
EndIsTrue task given outcome (Ok ended) failed = (outcome.status ≡ ended_status ended) × task.can_give given outcome
EndIsTrue task given outcome (Err Shelf) failed = failed.shelf
EndIsTrue task given outcome (Err Output) failed = failed.output
EndIsTrue task given outcome (Err Machine) failed = failed.machine
EndIsTrue task given outcome (Err Memory) failed = Unit {0}
EndIsTrue task given outcome (Err refusal) failed = (outcome ≡ refusal_outcome refusal) × task.can_give given outcome

-- what says that the shelf or the output failed a job that has no machine
abbrev pub without_machine : {S O : Type 0} → shelves.Ghosts S → sinks.Ghosts O → Task → S → S → O → O → Outcome → Failures
without_machine s o task shelf shelf' out out' outcome =
    record {
      shelf = ShelfFailed s task outcome shelf shelf';
      output = OutFailed o task (s.given shelf') outcome out out';
      machine = ⊥;
    }

-- the output has gained the outcome's text, or a front of it where it failed, or nothing
abbrev pub EndKeepsOutput : {O : Type 0} → sinks.Ghosts O → Outcome → Result Ended Refusal → O → O → Type 0
EndKeepsOutput o outcome (Ok ended) out out' = Gains o outcome.out out out'
EndKeepsOutput o outcome (Err Output) out out' = GainsFront o outcome.out out out'
EndKeepsOutput o outcome (Err refusal) out out' = o.bytes out' ≡ o.bytes out

-- How a job ends, for some outcome of its task, where `failed` says what a failure is. Where the files are told, the
-- outcome is the one over them.
pub record EndsUnder {S O : Type 0} (s : shelves.Ghosts S) (o : sinks.Ghosts O) (task : Task) (failed : Outcome → Failures)
    (ending : Result Ended Refusal) (shelf shelf' : S) (out out' : O) : Type 0 where
  pub outcome : Outcome
  pub told : IfSome (s.told shelf) (λ files. outcome ≡ task.outcome files)
  pub end_is : EndIsTrue task (s.given shelf') outcome ending (failed outcome)
  pub output : EndKeepsOutput o outcome ending out out'
  pub files : FilesEndAs outcome (end_status ending) task.early (s.told shelf) (s.told shelf')
  pub unwritten : IsUnwritten (s.state shelf) → IsUnwritten (s.state shelf')

-- how a job ends that has no machine
abbrev pub Ends : {S O : Type 0} → shelves.Ghosts S → sinks.Ghosts O → Task → Result Ended Refusal → S → S → O → O → Type 0
Ends s o task ending shelf shelf' out out' =
    EndsUnder s o task (without_machine s o task shelf shelf' out out') ending shelf shelf' out out'

-- how a job ends that has one
pub record EndsOn {S O L : Type 0} (s : shelves.Ghosts S) (o : sinks.Ghosts O) (l : launches.Ghosts L) (task : Task)
    (ending : Result Ended Refusal) (shelf shelf' : S) (out out' : O) (machine machine' : L) : Type 0 where
  pub ends : EndsUnder s o task (failures s o l task shelf shelf' out out' machine machine') ending shelf shelf' out out'
  pub launch : MachineEndsAs l task.launches ends.outcome (end_status ending)
      (failures s o l task shelf shelf' out out' machine machine' ends.outcome) machine machine'

-- the error output has gained a refusal's line, and nothing where there is none
abbrev pub EndIsPut : {E : Type 0} → sinks.Ghosts E → Result Ended Refusal → E → E → Type 0
EndIsPut e (Ok ended) err err' = e.bytes err' ≡ e.bytes err
EndIsPut e (Err refusal) err err' = IsPut e (text_of refusal) err err'

-- ---- its steps

-- A file was not read: its count of read faults rose, or it is longer than its limit, or memory ran out.
abbrev pub IsNotRead : {S : Type 0} → shelves.Ghosts S → List ℕ → ℕ → LimitOf → Refusal → S → S → Type 0
IsNotRead s name limit of Shelf shelf shelf' = Rose (s.read_faults shelf name) (s.read_faults shelf' name)
IsNotRead s name limit of (Limit passed) shelf shelf' = (passed ≡ of) × IsLonger s name limit shelf shelf'
IsNotRead s name limit of Memory shelf shelf' = Unit {0}
IsNotRead s name limit of _ shelf shelf' = ⊥

-- A step without output and machine stopped the job with this refusal, and no file has changed.
pub record Stops {S : Type 0} (s : shelves.Ghosts S) (task : Task) (refusal : Refusal) (shelf shelf' : S)
    : Type 0 where
  pub outcome : Outcome
  pub told : IfSome (s.told shelf) (λ files. outcome ≡ task.outcome files)
  pub stop_is : EndIsTrue task (s.given shelf') outcome (Err refusal)
      (record { shelf = ShelfFailed s task outcome shelf shelf'; output = ⊥; machine = ⊥ })
  pub files : s.told shelf' ≡ s.told shelf
  pub unwritten : IsUnwritten (s.state shelf')

-- A text was put that ends a job so, or a front of it where the output failed.
pub record PutsEnd {O : Type 0} (o : sinks.Ghosts O) (ended : Ended) (text : List ℕ) (ending : Result Ended Refusal)
    (out out' : O) : Type 0 where
  pub put : IfOk ending (λ e. (e ≡ ended) × Gains o text out out')
  pub failed : IfErr ending (λ refusal.
      (refusal ≡ Output) × Rose (o.faults out) (o.faults out') × GainsFront o text out out')

-- ---- the step that writes

-- why a job with this outcome ends so
abbrev pub WriteIsTrue : {S O : Type 0} → shelves.Ghosts S → sinks.Ghosts O → Outcome → Result Ended Refusal → S → S → O → O → Type 0
WriteIsTrue s o outcome (Ok ended) shelf shelf' out out' = outcome.status ≡ ended_status ended
WriteIsTrue s o outcome (Err Shelf) shelf shelf' out out' =
    (written : Written) × (outcome.written ≡ Some written) × (outcome.status ≡ is.Done)
    × Rose (s.write_faults shelf written.name) (s.write_faults shelf' written.name)
WriteIsTrue s o outcome (Err Output) shelf shelf' out out' = Rose (o.faults out) (o.faults out') × PutsText outcome
WriteIsTrue s o outcome (Err Machine) shelf shelf' out out' = ⊥
WriteIsTrue s o outcome (Err Memory) shelf shelf' out out' = Unit {0}
WriteIsTrue s o outcome (Err refusal) shelf shelf' out out' = outcome ≡ refusal_outcome refusal

-- The last step of a job whose outcome is known writes its file and puts its text, and ends so. It reads no file.
pub record WriteEnds {S O : Type 0} (s : shelves.Ghosts S) (o : sinks.Ghosts O) (outcome : Outcome)
    (ending : Result Ended Refusal) (shelf shelf' : S) (out out' : O) : Type 0 where
  pub end_is : WriteIsTrue s o outcome ending shelf shelf' out out'
  pub output : EndKeepsOutput o outcome ending out out'
  pub files : FilesAreKept outcome (end_status ending) (s.told shelf) (s.told shelf')
  pub given : s.given shelf' ≡ s.given shelf
  pub unwritten : IsUnwritten (s.state shelf) → IsUnwritten (s.state shelf')

-- ---- the step that launches

-- why the launch of a job with this outcome ends so
abbrev pub LaunchIsTrue : {S O L : Type 0} → shelves.Ghosts S → sinks.Ghosts O → launches.Ghosts L → Outcome → Result Ended Refusal
    → S → S → O → O → L → L → Type 0
LaunchIsTrue s o l outcome (Ok ended) shelf shelf' out out' machine machine' = outcome.status ≡ ended_status ended
LaunchIsTrue s o l outcome (Err Shelf) shelf shelf' out out' machine machine' =
    (written : Written) × (outcome.written ≡ Some written) × (outcome.status ≡ is.Done)
    × Rose (s.write_faults shelf written.name) (s.write_faults shelf' written.name)
LaunchIsTrue s o l outcome (Err Output) shelf shelf' out out' machine machine' =
    Rose (o.faults out) (o.faults out') × PutsText outcome
LaunchIsTrue s o l outcome (Err Machine) shelf shelf' out out' machine machine' =
    Rose (l.faults machine) (l.faults machine') × IsSome outcome.launched
LaunchIsTrue s o l outcome (Err Memory) shelf shelf' out out' machine machine' = Unit {0}
LaunchIsTrue s o l outcome (Err refusal) shelf shelf' out out' machine machine' = ⊥

-- what it leaves of the machine
abbrev pub LaunchLeaves : {L : Type 0} → launches.Ghosts L → Outcome → Result Ended Refusal → L → L → Type 0
LaunchLeaves l outcome (Err Machine) machine machine' =
    (l.state machine' ≡ l.state machine) ⊎ IsStoppedIn l outcome.launched machine'
LaunchLeaves l outcome (Err Memory) machine machine' = l.state machine' ≡ l.state machine
LaunchLeaves l outcome ending machine machine' = HoldsLaunch l outcome.launched machine machine'

-- The last step of a job whose outcome is known launches, and ends so. It reads no file.
pub record LaunchEnds {S O L : Type 0} (s : shelves.Ghosts S) (o : sinks.Ghosts O) (l : launches.Ghosts L)
    (outcome : Outcome) (ending : Result Ended Refusal) (shelf shelf' : S) (out out' : O) (machine machine' : L)
    : Type 0 where
  pub end_is : LaunchIsTrue s o l outcome ending shelf shelf' out out' machine machine'
  pub output : EndKeepsOutput o outcome ending out out'
  pub files : FilesAreKept outcome (end_status ending) (s.told shelf) (s.told shelf')
  pub given : s.given shelf' ≡ s.given shelf
  pub unwritten : IsUnwritten (s.state shelf) → IsUnwritten (s.state shelf')
  pub leaves : LaunchLeaves l outcome ending machine machine'
