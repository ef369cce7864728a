-- What is promised of a job, a definition a sentence. They speak of what the job gives, and of what the shelf, the
-- outputs and the launch machine show before and after the call.
use Rattle.std.specs.Prelude.{◌≡◌, ℕ, ◌≤◌, ◌⊎◌, ◌↔◌, List, length, take, Option, Some, None, IfSome, IsSome, Bool, true, false}
use Rattle.std.specs.FinMap as map
use Rattle.std.specs.Option.{option_map}
use Rattle.igvm_headers.specs.FaultCounts.{Rose}
use Rattle.igvm_outside.specs.Files.{Files, IsUnwritten, with_file}
use Rattle.igvm_outside.specs.Outputs.{gained}
use Rattle.igvm_outside.specs.SinkCalls.{GainsFront}
use Rattle.igvm_outside.specs.declared.shelf.Shelf as shelves
use Rattle.igvm_outside.specs.declared.sink.Sink as sinks
use Rattle.launch_platform.specs.declared.launch.Launch as launches
use Rattle.image_loader.specs.Loading.{HoldsImage}
use Rattle.image_loader.specs.LoadCommands.{IsAfter}
use Rattle.igvm_jobs.specs.declared.status.Status.{Status}
use Rattle.igvm_jobs.specs.declared.status.Status.TheVariants as is
use Rattle.igvm_jobs.specs.Texts.{shelf_text, output_text, machine_text, memory_text}
use Rattle.igvm_jobs.specs.Outcome.{Outcome, Written, Launched}
use Rattle.igvm_jobs.specs.Tasks.{Task}

-- ---- status

-- The status is the outcome's, which the job can give whatever is told; or a fault of the outside, or want of memory.
abbrev pub StatusIsTrue : Task → ℕ → Outcome → Status → Type 0
StatusIsTrue task given outcome status =
    ((status ≡ outcome.status) × task.can_give given outcome) ⊎ (status ≡ is.Outside) ⊎ (status ≡ is.Memory)

-- Usage is answered exactly where the words mean no job, and leaves the shelf and the output as they were.
pub record UsageIsExact {S O : Type 0} (meant : Bool) (status : Status) (shelf shelf' : S) (out out' : O)
    : Type 0 where
  pub exact : (status ≡ is.Usage) ↔ (meant ≡ false)
  pub shelf_kept : status ≡ is.Usage → shelf' ≡ shelf
  pub out_kept : status ≡ is.Usage → out' ≡ out

-- ---- faults

-- the count rose of a name that the job may read
abbrev pub ReadFailed : {S : Type 0} → shelves.Ghosts S → Task → S → S → Type 0
ReadFailed s task shelf shelf' =
    (name : List ℕ) × task.reads (s.told shelf) name × Rose (s.read_faults shelf name) (s.read_faults shelf' name)

-- the count rose of a name that the job may write, and the job, which can give this outcome, would be done
abbrev pub WriteFailed : {S : Type 0} → shelves.Ghosts S → Task → Outcome → S → S → Type 0
WriteFailed s task outcome shelf shelf' =
    (name : List ℕ) × task.writes name × Rose (s.write_faults shelf name) (s.write_faults shelf' name)
    × (outcome.status ≡ is.Done) × task.can_give (s.given shelf') outcome

-- the shelf failed the job
abbrev pub ShelfFailed : {S : Type 0} → shelves.Ghosts S → Task → Outcome → S → S → Type 0
ShelfFailed s task outcome shelf shelf' = ReadFailed s task shelf shelf' ⊎ WriteFailed s task outcome shelf shelf'

-- the job would put its text
abbrev pub PutsText : Outcome → Type 0
PutsText outcome = (outcome.status ≡ is.Done) ⊎ (outcome.status ≡ is.NotFit)

-- the output failed the job: its count rose, and the job, which can give this outcome, would put its text
abbrev pub OutFailed : {O : Type 0} → sinks.Ghosts O → Task → ℕ → Outcome → O → O → Type 0
OutFailed o task given outcome out out' =
    Rose (o.faults out) (o.faults out') × PutsText outcome × task.can_give given outcome

-- the machine failed the job: its count rose, and the job, which can give this outcome, would launch
abbrev pub MachineFailed : {L : Type 0} → launches.Ghosts L → Task → ℕ → Outcome → L → L → Type 0
MachineFailed l task given outcome machine machine' =
    Rose (l.faults machine) (l.faults machine') × IsSome outcome.launched × task.can_give given outcome

-- what says that the shelf, the output or the machine failed the job
pub record Failures : Type 1 where
  pub shelf : Type 0
  pub output : Type 0
  pub machine : Type 0

-- those of a job with this outcome
abbrev pub failures : {S O L : Type 0} → shelves.Ghosts S → sinks.Ghosts O → launches.Ghosts L → Task
    → S → S → O → O → L → L → Outcome → Failures
failures s o l task shelf shelf' out out' machine machine' outcome =
    record {
      shelf = ShelfFailed s task outcome shelf shelf';
      output = OutFailed o task (s.given shelf') outcome out out';
      machine = MachineFailed l task (s.given shelf') outcome machine machine';
    }

-- A fault of the outside is answered only where the shelf, the output or the machine failed the job.
abbrev pub FaultsHaveCauses : Status → Failures → Type 0
FaultsHaveCauses status failed = status ≡ is.Outside → failed.shelf ⊎ failed.output ⊎ failed.machine

-- ---- texts

-- an output has gained this text
abbrev pub Gains : {O : Type 0} → sinks.Ghosts O → List ℕ → O → O → Type 0
Gains o text out out' = o.bytes out' ≡ gained (o.bytes out) text

-- an output has gained this text, or a front of it where its own count rose
pub record IsPut {O : Type 0} (o : sinks.Ghosts O) (text : List ℕ) (out out' : O) : Type 0 where
  pub front : GainsFront o text out out'
  pub whole : Gains o text out out' ⊎ Rose (o.faults out) (o.faults out')

-- After Done and NotFit the output has gained the outcome's text; after a fault of the outside a front of it, and nothing
-- where its count did not rise; after every other status nothing.
abbrev pub OutputIsKept : {O : Type 0} → sinks.Ghosts O → Outcome → Status → O → O → Type 0
OutputIsKept o outcome is.Done out out' = Gains o outcome.out out out'
OutputIsKept o outcome is.NotFit out out' = Gains o outcome.out out out'
OutputIsKept o outcome is.Outside out out' =
    (o.bytes out' ≡ o.bytes out) ⊎ (Rose (o.faults out) (o.faults out') × GainsFront o outcome.out out out')
OutputIsKept o outcome _ out out' = o.bytes out' ≡ o.bytes out

-- The error output has gained the one text of the status, in full where its own count did not rise. A fault of the
-- outside names the shelf, the output or the machine, whichever failed.
abbrev pub ErrorTextIsPut : {E : Type 0} → sinks.Ghosts E → Outcome → Status → Failures → E → E → Type 0
ErrorTextIsPut e outcome is.Done failed err err' = e.bytes err' ≡ e.bytes err
ErrorTextIsPut e outcome is.NotFit failed err err' = e.bytes err' ≡ e.bytes err
ErrorTextIsPut e outcome is.Outside failed err err' =
    (failed.shelf × IsPut e shelf_text err err') ⊎ (failed.output × IsPut e output_text err err')
    ⊎ (failed.machine × IsPut e machine_text err err')
ErrorTextIsPut e outcome is.Memory failed err err' = IsPut e memory_text err err'
ErrorTextIsPut e outcome _ failed err err' = IsPut e outcome.err err err'

-- ---- files

-- the files with one more, where one is written
abbrev pub with_written : Option Written → Files → Files
with_written None files = files
with_written (Some written) files = map.insert files written.name written.bytes

-- the files with a front of the one that is written
abbrev pub HaveFront : Option Files → Option Files → Option Written → Type 0
HaveFront told told' None = ⊥
HaveFront told told' (Some written) =
    (n : ℕ) × (n ≤ length written.bytes) × (told' ≡ with_file told written.name (take n written.bytes))

-- After Done the written file alone has changed, and after a fault of the outside it may have a front of its bytes;
-- after every other status no file has.
abbrev pub FilesAreKept : Outcome → Status → Option Files → Option Files → Type 0
FilesAreKept outcome is.Done told told' = told' ≡ option_map (with_written outcome.written) told
FilesAreKept outcome is.Outside told told' = (told' ≡ told) ⊎ HaveFront told told' outcome.written
FilesAreKept outcome _ told told' = told' ≡ told

-- The same, but that a job which writes its file early may have written it whole when memory runs out.
abbrev pub FilesEndAs : Outcome → Status → Bool → Option Files → Option Files → Type 0
FilesEndAs outcome is.Memory true told told' =
    (told' ≡ told) ⊎ (told' ≡ option_map (with_written outcome.written) told)
FilesEndAs outcome status early told told' = FilesAreKept outcome status told told'

-- ---- the machine

-- the machine holds what is launched, and has ended so; without a launch it is as before
abbrev pub HoldsLaunch : {L : Type 0} → launches.Ghosts L → Option Launched → L → L → Type 0
HoldsLaunch l None machine machine' = machine' ≡ machine
HoldsLaunch l (Some launched) machine machine' =
    HoldsImage launched.load (l.state machine') × ((l.state machine').phase ≡ launched.phase)

-- the machine is as the start of what is launched and a front of its commands leave it
abbrev pub IsStoppedIn : {L : Type 0} → launches.Ghosts L → Option Launched → L → Type 0
IsStoppedIn l None machine' = ⊥
IsStoppedIn l (Some launched) machine' = (n : ℕ) × IsAfter l launched.load n machine'

-- After a fault of the outside the machine is as before; or it failed the job itself, and is stopped between its
-- commands; or the shelf or the output failed the job, and it has ended as without the fault.
abbrev pub MachineAfterFault : {L : Type 0} → launches.Ghosts L → Outcome → Failures → L → L → Type 0
MachineAfterFault l outcome failed machine machine' =
    (l.state machine' ≡ l.state machine) ⊎ (failed.machine × IsStoppedIn l outcome.launched machine')
    ⊎ ((failed.shelf ⊎ failed.output) × HoldsLaunch l outcome.launched machine machine')

-- A job that launches leaves the machine as the outcome says: after want of memory as before, and after a fault of the
-- outside as its cause says. Every other job leaves it untouched.
abbrev pub MachineEndsAs : {L : Type 0} → launches.Ghosts L → Bool → Outcome → Status → Failures → L → L → Type 0
MachineEndsAs l false outcome status failed machine machine' = machine' ≡ machine
MachineEndsAs l true outcome is.Outside failed machine machine' = MachineAfterFault l outcome failed machine machine'
MachineEndsAs l true outcome is.Memory failed machine machine' = l.state machine' ≡ l.state machine
MachineEndsAs l true outcome _ failed machine machine' = HoldsLaunch l outcome.launched machine machine'

-- ---- all together

-- What is promised of a job but for its machine, for some outcome of its task, where `failed` says what a failure is.
-- Where the files are told, the outcome is the one over them.
pub record KeepsUnder {S O E : Type 0} (s : shelves.Ghosts S) (o : sinks.Ghosts O) (e : sinks.Ghosts E) (task : Task)
    (failed : Outcome → Failures) (status : Status) (shelf shelf' : S) (out out' : O) (err err' : E) : Type 0 where
  pub outcome : Outcome
  pub told : IfSome (s.told shelf) (λ files. outcome ≡ task.outcome files)
  pub judged : StatusIsTrue task (s.given shelf') outcome status
  pub usage : UsageIsExact task.meant status shelf shelf' out out'
  pub output : OutputIsKept o outcome status out out'
  pub error : ErrorTextIsPut e outcome status (failed outcome) err err'
  pub files : FilesEndAs outcome status task.early (s.told shelf) (s.told shelf')
  pub unwritten : IsUnwritten (s.state shelf) → IsUnwritten (s.state shelf')
  pub faults : FaultsHaveCauses status (failed outcome)

-- All that is promised of a job that may send commands to a launch machine.
pub record KeepsPromises {S O E L : Type 0} (s : shelves.Ghosts S) (o : sinks.Ghosts O) (e : sinks.Ghosts E)
    (l : launches.Ghosts L) (task : Task) (status : Status) (shelf shelf' : S) (out out' : O) (err err' : E)
    (machine machine' : L) : Type 0 where
  pub keeps : KeepsUnder s o e task (failures s o l task shelf shelf' out out' machine machine') status shelf shelf' out out'
      err err'
  pub launch : MachineEndsAs l task.launches keeps.outcome status
      (failures s o l task shelf shelf' out out' machine machine' keeps.outcome) machine machine'
