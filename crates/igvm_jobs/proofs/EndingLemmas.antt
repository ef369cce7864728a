-- From how a job ended to what the top call promises, and from its steps to how it ended.
use Rattle.std.proofs.Common.{◌≡◌, ◌∙◌, ℕ, ◌≤◌, refl, sym, ap, subst, inl, inr, ◌⊎◌, arith, List, Option, Some, None, Result, Ok, Err, IfSome, Bool, true, false}
use Rattle.std.specs.Prelude.{IsErrAnd}
use Rattle.igvm_headers.specs.FaultCounts.{Rose}
use Rattle.igvm_outside.specs.Files.{Files, IsUnwritten}
use Rattle.igvm_outside.specs.ShelfCalls.{IsLonger, OnlyReads}
use Rattle.igvm_outside.specs.SinkCalls.{GainsFront}
use Rattle.igvm_outside.specs.declared.shelf.Shelf as shelves
use Rattle.igvm_outside.specs.declared.sink.Sink as sinks
use Rattle.launch_platform.specs.declared.launch.Launch as launches
use Rattle.igvm_jobs.specs.declared.status.Status.{Status}
use Rattle.igvm_jobs.specs.declared.status.Status.TheVariants as is
use Rattle.igvm_jobs.specs.declared.refusal.Refusal.{Refusal}
use Rattle.igvm_jobs.specs.declared.refusal.Refusal.TheVariants.{File, Shelf, Output, Machine, Memory, Platform, Json, Limit}
use Rattle.igvm_jobs.specs.declared.refusal.LimitOf.{LimitOf}
use Rattle.igvm_jobs.specs.declared.refusal.Ended.{Ended}
use Rattle.igvm_jobs.specs.declared.refusal.Ended.TheVariants as end
use Rattle.igvm_jobs.specs.Texts.{memory_text}
use Rattle.igvm_jobs.specs.Outcome.{Outcome, Written, refused}
use Rattle.igvm_jobs.specs.Tasks.{Task, no_task}
use Rattle.igvm_jobs.specs.Refusals.{status_of, limit_text, ended_status, end_status, Refuses}
use Rattle.igvm_jobs.specs.Endings.{EndIsTrue, without_machine, EndKeepsOutput, EndIsPut, EndsUnder, Ends, EndsOn, IsNotRead, Stops, PutsEnd, WriteIsTrue, WriteEnds}
use Rattle.igvm_jobs.specs.Clauses.{StatusIsTrue, Gains, OutputIsKept, ErrorTextIsPut, IsPut, HaveFront, FilesAreKept, FilesEndAs, ShelfFailed, PutsText, OutFailed, MachineFailed, Failures, FaultsHaveCauses, MachineEndsAs, KeepsUnder, KeepsPromises}

-- ---- counts

-- a count that rose after a step that never lowers it rose over both
pub rose_after : (a b c : ℕ) → a ≤ b → Rose b c → Rose a c
rose_after a b c h (inl r) = inl (omega (arith, h, r))
rose_after a b c h (inr r) = inr r

-- ---- the files

-- files that are kept so have ended so, whether the job writes early or not
pub kept_end : (x : Outcome) (status : Status) (early : Bool) (told told' : Option Files) → FilesAreKept x status told told' → FilesEndAs x status early told told'
kept_end x is.Done early told told' h = h
kept_end x is.File early told told' h = h
kept_end x is.Usage early told told' h = h
kept_end x is.NotFit early told told' h = h
kept_end x is.Outside early told told' h = h
kept_end x is.Memory true told told' h = inl h
kept_end x is.Memory false told told' h = h
kept_end x is.Platform early told told' h = h
kept_end x is.Json early told told' h = h
kept_end x is.Limit early told told' h = h

-- of a job that does not write early, files that have ended so are kept so
pub late_kept : (x : Outcome) (status : Status) (told told' : Option Files) → FilesEndAs x status false told told' → FilesAreKept x status told told'
late_kept x is.Done told told' h = h
late_kept x is.File told told' h = h
late_kept x is.Usage told told' h = h
late_kept x is.NotFit told told' h = h
late_kept x is.Outside told told' h = h
late_kept x is.Memory told told' h = h
late_kept x is.Platform told told' h = h
late_kept x is.Json told told' h = h
late_kept x is.Limit told told' h = h

-- ---- to the top call

status_of_line : {x y : Outcome} → x ≡ y → y.status ≡ x.status
status_of_line same = ap (λ (z : Outcome). z.status) (sym same)

line_of : {E : Type 0} (e : sinks.Ghosts E) {x y : Outcome} {err err' : E} → x ≡ y → IsPut e y.err err err' → IsPut e x.err err err'
line_of e {x} {y} {err} {err'} same put = subst (λ (z : Outcome). IsPut e z.err err err') (sym same) put

-- the failures of a job on a shelf and an output, whose machine fails it so
abbrev pub failing : {S O : Type 0} → shelves.Ghosts S → sinks.Ghosts O → Task → S → S → O → O → (Outcome → Type 0) → Outcome → Failures
failing s o task shelf shelf' out out' machine outcome =
    record { shelf = ShelfFailed s task outcome shelf shelf'; output = OutFailed o task (s.given shelf') outcome out out'; machine = machine outcome }

-- a task that words mean is no usage
pub is_meant : {meant : Bool} → meant ≡ true → meant ≡ false → ⊥
is_meant is is_not = cc

-- the output's failure, beside those of a shelf and a machine
abbrev with_output : {O : Type 0} → sinks.Ghosts O → Task → ℕ → Outcome → O → O → Type 0 → Type 0 → Failures
with_output o task given x out out' a m = record { shelf = a; output = OutFailed o task given x out out'; machine = m }

-- what the end of a job keeps, by how it ended
pub kept : {O E : Type 0} (o : sinks.Ghosts O) (e : sinks.Ghosts E) (task : Task) (x : Outcome) (given : ℕ) (ending : Result Ended Refusal) (a m : Type 0) (out out' : O) (err err' : E)
    → EndIsTrue task given x ending (with_output o task given x out out' a m) → EndKeepsOutput o x ending out out' → EndIsPut e ending err err'
    → StatusIsTrue task given x (end_status ending) × (end_status ending ≡ is.Usage → ⊥) × OutputIsKept o x (end_status ending) out out'
    × ErrorTextIsPut e x (end_status ending) (with_output o task given x out out' a m) err err'
    × FaultsHaveCauses (end_status ending) (with_output o task given x out out' a m)
kept o e task x given (Ok end.Done) a m out out' err err' h k p = (inl (sym h.0, h.1), (λ u. cc), k, p, (λ f. cc))
kept o e task x given (Ok end.NotFit) a m out out' err err' h k p = (inl (sym h.0, h.1), (λ u. cc), k, p, (λ f. cc))
kept o e task x given (Err (File text)) a m out out' err err' h k p = (inl (status_of_line h.0, h.1), (λ u. cc), k, line_of e h.0 p, (λ f. cc))
kept o e task x given (Err Shelf) a m out out' err err' h k p = (inr (inl refl), (λ u. cc), inl k, inl (h, p), (λ f. inl h))
kept o e task x given (Err Output) a m out out' err err' h k p = (inr (inl refl), (λ u. cc), inr (h.0, k), inr (inl (h, p)), (λ f. inr (inl h)))
kept o e task x given (Err Machine) a m out out' err err' h k p = (inr (inl refl), (λ u. cc), inl k, inr (inr (h, p)), (λ f. inr (inr h)))
kept o e task x given (Err Memory) a m out out' err err' h k p = (inr (inr refl), (λ u. cc), k, p, (λ f. cc))
kept o e task x given (Err (Platform text)) a m out out' err err' h k p = (inl (status_of_line h.0, h.1), (λ u. cc), k, line_of e h.0 p, (λ f. cc))
kept o e task x given (Err (Json text)) a m out out' err err' h k p = (inl (status_of_line h.0, h.1), (λ u. cc), k, line_of e h.0 p, (λ f. cc))
kept o e task x given (Err (Limit limit)) a m out out' err err' h k p = (inl (status_of_line h.0, h.1), (λ u. cc), k, line_of e h.0 p, (λ f. cc))

-- what the end of a job and its line keep, whatever its machine's failure is
unfoldable pub keeps_under : {S O E : Type 0} {s : shelves.Ghosts S} {o : sinks.Ghosts O} {e : sinks.Ghosts E} {task : Task} (m : Outcome → Type 0) (ending : Result Ended Refusal)
    {shelf shelf' : S} {out out' : O} {err err' : E} → task.meant ≡ true
    → EndsUnder s o task (failing s o task shelf shelf' out out' m) ending shelf shelf' out out' → EndIsPut e ending err err'
    → KeepsUnder s o e task (failing s o task shelf shelf' out out' m) (end_status ending) shelf shelf' out out' err err'
keeps_under {s} {o} {e} {task} m ending {shelf} {shelf'} {out} {out'} {err} {err'} meant h put =
    let k = kept o e task h.outcome (s.given shelf') ending _ (m h.outcome) out out' err err' h.end_is h.output put in
    record {
      outcome = h.outcome;
      told = h.told;
      judged = k.0;
      usage = record { exact = (λ u. absurd (k.1 u), λ u. absurd (is_meant meant u)); shelf_kept = λ u. absurd (k.1 u); out_kept = λ u. absurd (k.1 u) };
      output = k.2;
      error = k.3;
      files = h.files;
      unwritten = h.unwritten;
      faults = k.4;
    }

keeps_end : {S O E L : Type 0} (s : shelves.Ghosts S) (o : sinks.Ghosts O) (e : sinks.Ghosts E) (l : launches.Ghosts L) (task : Task) (ending : Result Ended Refusal)
    (shelf shelf' : S) (out out' : O) (err err' : E) (machine machine' : L) → task.meant ≡ true
    → EndsOn s o l task ending shelf shelf' out out' machine machine' → EndIsPut e ending err err'
    → KeepsPromises s o e l task (end_status ending) shelf shelf' out out' err err' machine machine'
unfolding keeps_under
keeps_end s o e l task ending shelf shelf' out out' err err' machine machine' meant h put =
    record { keeps = keeps_under (λ (x : Outcome). MachineFailed l task (s.given shelf') x machine machine') ending meant h.ends put; launch = h.launch }

-- what the end of a job and its line keep
pub keeps : {S O E L : Type 0} {s : shelves.Ghosts S} {o : sinks.Ghosts O} {e : sinks.Ghosts E} {l : launches.Ghosts L} {task : Task} {status : Status}
    {shelf shelf' : S} {out out' : O} {err err' : E} {machine machine' : L} (ending : Result Ended Refusal) → task.meant ≡ true
    → EndsOn s o l task ending shelf shelf' out out' machine machine' → status ≡ end_status ending
    → EndIsPut e ending err err' → KeepsPromises s o e l task status shelf shelf' out out' err err' machine machine'
keeps {S} {O} {E} {L} {s} {o} {e} {l} {task} {status} {shelf} {shelf'} {out} {out'} {err} {err'} {machine} {machine'} ending meant h same put =
    subst (λ (st : Status). KeepsPromises s o e l task st shelf shelf' out out' err err' machine machine') (sym same)
    (keeps_end s o e l task ending shelf shelf' out out' err err' machine machine' meant h put)

-- what holds of any files holds of those that are told
pub always : (told : Option Files) (P : Files → Type 0) → ((files : Files) → P files) → IfSome told P
always None P h = tt
always (Some files) P h = h files

-- words that mean no job
pub keeps_no_job : {S O E L : Type 0} {s : shelves.Ghosts S} {o : sinks.Ghosts O} {e : sinks.Ghosts E} {l : launches.Ghosts L} {usage : List ℕ} {shelf : S} {out : O} {err err' : E} {machine : L}
    → IsPut e usage err err' → KeepsPromises s o e l (no_task usage) is.Usage shelf shelf out out err err' machine machine
keeps_no_job {s} {usage} {shelf} put =
    record {
      keeps =
          record {
            outcome = refused is.Usage usage;
            told = always (s.told shelf) _ (λ files. refl);
            judged = inl (refl, refl);
            usage = record { exact = (λ h. refl, λ h. refl); shelf_kept = λ h. refl; out_kept = λ h. refl };
            output = refl;
            error = put;
            files = refl;
            unwritten = λ u. u;
            faults = λ h. cc;
          };
      launch = refl;
    }

-- ---- a job without a machine

-- an end that no machine fails is one that whatever machine may fail
machine_unheard : (task : Task) (given : ℕ) (x : Outcome) (ending : Result Ended Refusal) (a b m : Type 0) → EndIsTrue task given x ending (record { shelf = a; output = b; machine = ⊥ })
    → EndIsTrue task given x ending (record { shelf = a; output = b; machine = m })
machine_unheard task given x (Ok ended) a b m h = h
machine_unheard task given x (Err (File text)) a b m h = h
machine_unheard task given x (Err Shelf) a b m h = h
machine_unheard task given x (Err Output) a b m h = h
machine_unheard task given x (Err Machine) a b m h = absurd h
machine_unheard task given x (Err Memory) a b m h = h
machine_unheard task given x (Err (Platform text)) a b m h = h
machine_unheard task given x (Err (Json text)) a b m h = h
machine_unheard task given x (Err (Limit limit)) a b m h = h

left_alone : {L : Type 0} (l : launches.Ghosts L) (launches : Bool) (x : Outcome) (status : Status) (failed : Failures) (machine : L) → launches ≡ false
    → MachineEndsAs l launches x status failed machine machine
left_alone l launches x status failed machine none = subst (λ (b : Bool). MachineEndsAs l b x status failed machine machine) (sym none) refl

-- a job that sends no commands leaves any machine as it is
pub without : {S O L : Type 0} {s : shelves.Ghosts S} {o : sinks.Ghosts O} {l : launches.Ghosts L} {task : Task} {ending : Result Ended Refusal} {shelf shelf' : S} {out out' : O} {machine : L}
    → task.launches ≡ false → Ends s o task ending shelf shelf' out out' → EndsOn s o l task ending shelf shelf' out out' machine machine
without {S} {O} {L} {s} {o} {l} {task} {ending} {shelf} {shelf'} {out} {out'} {machine} none h =
    record {
      ends =
          record {
            outcome = h.outcome;
            told = h.told;
            end_is = machine_unheard task (s.given shelf') h.outcome ending _ _ _ h.end_is;
            output = h.output;
            files = h.files;
            unwritten = h.unwritten;
          };
      launch = left_alone l task.launches h.outcome (end_status ending) _ machine none;
    }

-- the end of a job, of the same task
pub task_meant : {S O L : Type 0} {s : shelves.Ghosts S} {o : sinks.Ghosts O} {l : launches.Ghosts L} {task meant : Task} {ending : Result Ended Refusal} {shelf shelf' : S} {out out' : O} {machine machine' : L}
    → task ≡ meant → EndsOn s o l task ending shelf shelf' out out' machine machine' → EndsOn s o l meant ending shelf shelf' out out' machine machine'
task_meant {S} {O} {L} {s} {o} {l} {ending} {shelf} {shelf'} {out} {out'} {machine} {machine'} same h =
    subst (λ (t : Task). EndsOn s o l t ending shelf shelf' out out' machine machine') same h

-- ---- a step that stops a job

-- what a step that stopped the job keeps, by its refusal
stop_kept : {O : Type 0} (o : sinks.Ghosts O) (task : Task) (given : ℕ) (x : Outcome) (r : Refusal) (a b m : Type 0) (out : O) (told told' : Option Files)
    → EndIsTrue task given x (Err r) (record { shelf = a; output = ⊥; machine = ⊥ }) → told' ≡ told
    → EndIsTrue task given x (Err r) (record { shelf = a; output = b; machine = m }) × EndKeepsOutput o x (Err r) out out × FilesAreKept x (status_of r) told told'
stop_kept o task given x (File text) a b m out told told' h same = (h, refl, same)
stop_kept o task given x Shelf a b m out told told' h same = (h, refl, inl same)
stop_kept o task given x Output a b m out told told' h same = absurd h
stop_kept o task given x Machine a b m out told told' h same = absurd h
stop_kept o task given x Memory a b m out told told' h same = (h, refl, same)
stop_kept o task given x (Platform text) a b m out told told' h same = (h, refl, same)
stop_kept o task given x (Json text) a b m out told told' h same = (h, refl, same)
stop_kept o task given x (Limit limit) a b m out told told' h same = (h, refl, same)

stop_ends : {S O : Type 0} (s : shelves.Ghosts S) (o : sinks.Ghosts O) (task : Task) (m : Outcome → Type 0) (r : Refusal) (shelf shelf' : S) (out : O)
    → Stops s task r shelf shelf' → EndsUnder s o task (failing s o task shelf shelf' out out m) (Err r) shelf shelf' out out
stop_ends s o task m r shelf shelf' out h =
    let k = stop_kept o task (s.given shelf') h.outcome r _ _ (m h.outcome) out (s.told shelf) (s.told shelf') h.stop_is h.files in
    record {
      outcome = h.outcome;
      told = h.told;
      end_is = k.0;
      output = k.1;
      files = kept_end h.outcome (status_of r) task.early (s.told shelf) (s.told shelf') k.2;
      unwritten = λ u. h.unwritten;
    }

-- a step stopped the job, behind `?`, whatever its machine's failure is
pub stopped_under : {S O : Type 0} {s : shelves.Ghosts S} {o : sinks.Ghosts O} {task : Task} {ending : Result Ended Refusal} (m : Outcome → Type 0) (r : Refusal) {shelf shelf' : S} {out : O}
    → IsErrAnd ending (λ q. q ≡ r) → Stops s task r shelf shelf' → EndsUnder s o task (failing s o task shelf shelf' out out m) ending shelf shelf' out out
stopped_under {ending = Ok ended} m r same h = absurd same
stopped_under {S} {O} {s} {o} {task} {ending = Err q} m r {shelf} {shelf'} {out} same h =
    subst (λ (x : Refusal). EndsUnder s o task (failing s o task shelf shelf' out out m) (Err x) shelf shelf' out out) (sym same) (stop_ends s o task m r shelf shelf' out h)

-- the same of a job without a machine
pub stopped : {S O : Type 0} {s : shelves.Ghosts S} {o : sinks.Ghosts O} {task : Task} {ending : Result Ended Refusal} (r : Refusal) {shelf shelf' : S} {out : O}
    → IsErrAnd ending (λ q. q ≡ r) → Stops s task r shelf shelf' → Ends s o task ending shelf shelf' out out
stopped r same h = stopped_under (λ x. ⊥) r same h

-- the outcome over the files where they are told, and any where not
some_outcome : (told : Option Files) (task : Task) → (x : Outcome) × IfSome told (λ files. x ≡ task.outcome files)
some_outcome None task = (refused is.Memory memory_text, tt)
some_outcome (Some files) task = (task.outcome files, refl)

-- a name that is read failed
pub failed_stops : {S : Type 0} {s : shelves.Ghosts S} (task : Task) (name : List ℕ) {shelf shelf' : S} → task.reads (s.told shelf) name
    → Rose (s.read_faults shelf name) (s.read_faults shelf' name) → s.told shelf' ≡ s.told shelf → IsUnwritten (s.state shelf') → Stops s task Shelf shelf shelf'
failed_stops {S} {s} task name {shelf} {shelf'} reads rose same unwritten =
    let some = some_outcome (s.told shelf) task in
    record { outcome = some.0; told = some.1; stop_is = inl (name, reads, rose); files = same; unwritten = unwritten }

-- memory ran out
pub memory_stops : {S : Type 0} {s : shelves.Ghosts S} (task : Task) {shelf shelf' : S} → s.told shelf' ≡ s.told shelf → IsUnwritten (s.state shelf')
    → Stops s task Memory shelf shelf'
memory_stops {S} {s} task {shelf} {shelf'} same unwritten =
    let some = some_outcome (s.told shelf) task in
    record { outcome = some.0; told = some.1; stop_is = tt; files = same; unwritten = unwritten }

-- ---- a job whose outcome is known

-- The job gives this outcome: it is the one over the files, where they are told, and one that the job can give.
pub record Known {S : Type 0} (s : shelves.Ghosts S) (task : Task) (x : Outcome) (shelf shelf' : S) : Type 0 where
  pub told : IfSome (s.told shelf) (λ files. x ≡ task.outcome files)
  pub can : task.can_give (s.given shelf') x

refusal_stop : (task : Task) (given : ℕ) (x : Outcome) (r : Refusal) (a : Type 0) → Refuses x r → task.can_give given x
    → EndIsTrue task given x (Err r) (record { shelf = a; output = ⊥; machine = ⊥ })
refusal_stop task given x (File text) a h can = (h, can)
refusal_stop task given x Shelf a h can = absurd h
refusal_stop task given x Output a h can = absurd h
refusal_stop task given x Machine a h can = absurd h
refusal_stop task given x Memory a h can = tt
refusal_stop task given x (Platform text) a h can = (h, can)
refusal_stop task given x (Json text) a h can = (h, can)
refusal_stop task given x (Limit limit) a h can = (h, can)

-- what was read is refused
pub refused_stops : {S : Type 0} {s : shelves.Ghosts S} (task : Task) (x : Outcome) (r : Refusal) {shelf shelf' : S} → Refuses x r
    → Known s task x shelf shelf' → s.told shelf' ≡ s.told shelf → IsUnwritten (s.state shelf') → Stops s task r shelf shelf'
refused_stops {S} {s} task x r {shelf} {shelf'} refuses known same unwritten =
    record { outcome = x; told = known.told; stop_is = refusal_stop task (s.given shelf') x r _ refuses known.can; files = same; unwritten = unwritten }

-- ---- a file that was not read

no_steps : {S : Type 0} (s : shelves.Ghosts S) (shelf : S) → OnlyReads s shelf shelf
no_steps s shelf = record { kept = refl; reads = λ name. omega arith; writes = λ name. omega arith; unwritten = λ u. u }

-- A file was not read, behind steps that only read: a job stops so that may read it, and that is refused as something too
-- long where the file is longer than its limit.
pub later_not_read : {S : Type 0} {s : shelves.Ghosts S} (task : Task) (name : List ℕ) (limit : ℕ) (of : LimitOf) (r : Refusal) {shelf mid shelf' : S} → task.reads (s.told shelf) name
    → (IsLonger s name limit mid shelf' → Known s task (refused is.Limit (limit_text of)) shelf shelf')
    → OnlyReads s shelf mid → IsNotRead s name limit of r mid shelf' → OnlyReads s mid shelf' → IsUnwritten (s.state shelf') → Stops s task r shelf shelf'
later_not_read task name limit of (File text) reads longer before h k unwritten = absurd h
later_not_read {S} {s} task name limit of Shelf {shelf} {mid} {shelf'} reads longer before h k unwritten =
    failed_stops task name reads (rose_after (s.read_faults shelf name) (s.read_faults mid name) (s.read_faults shelf' name) (before.reads name) h) (k.kept ∙ before.kept) unwritten
later_not_read task name limit of Output reads longer before h k unwritten = absurd h
later_not_read task name limit of Machine reads longer before h k unwritten = absurd h
later_not_read task name limit of Memory reads longer before h k unwritten = memory_stops task (k.kept ∙ before.kept) unwritten
later_not_read task name limit of (Platform text) reads longer before h k unwritten = absurd h
later_not_read task name limit of (Json text) reads longer before h k unwritten = absurd h
later_not_read {S} {s} task name limit of (Limit passed) {shelf} {mid} {shelf'} reads longer before h k unwritten =
    subst (λ (q : LimitOf). Stops s task (Limit q) shelf shelf') (sym h.0)
    (refused_stops task (refused is.Limit (limit_text of)) (Limit of) refl (longer h.1) (k.kept ∙ before.kept) unwritten)

-- the same of the file that is read first
pub not_read_stops : {S : Type 0} {s : shelves.Ghosts S} (task : Task) (name : List ℕ) (limit : ℕ) (of : LimitOf) (r : Refusal) {shelf shelf' : S} → task.reads (s.told shelf) name
    → (IsLonger s name limit shelf shelf' → Known s task (refused is.Limit (limit_text of)) shelf shelf')
    → IsNotRead s name limit of r shelf shelf' → OnlyReads s shelf shelf' → IsUnwritten (s.state shelf') → Stops s task r shelf shelf'
not_read_stops {S} {s} task name limit of r {shelf} reads longer h k unwritten = later_not_read task name limit of r reads longer (no_steps s shelf) h k unwritten

-- ---- a part of a job

-- what stopped a part stops the whole, which may read and write all that the part may, and gives what it gives
part_stop : {S : Type 0} (s : shelves.Ghosts S) (part whole : Task) (x : Outcome) (r : Refusal) (shelf shelf' : S) → ((given : ℕ) (y : Outcome) → part.can_give given y → whole.can_give given y)
    → ((name : List ℕ) → part.reads (s.told shelf) name → whole.reads (s.told shelf) name) → ((name : List ℕ) → part.writes name → whole.writes name)
    → EndIsTrue part (s.given shelf') x (Err r) (record { shelf = ShelfFailed s part x shelf shelf'; output = ⊥; machine = ⊥ })
    → EndIsTrue whole (s.given shelf') x (Err r) (record { shelf = ShelfFailed s whole x shelf shelf'; output = ⊥; machine = ⊥ })
part_stop s part whole x (File text) shelf shelf' can reads writes h = (h.0, can _ x h.1)
part_stop s part whole x Shelf shelf shelf' can reads writes (inl h) = inl (h.0, reads h.0 h.1, h.2)
part_stop s part whole x Shelf shelf shelf' can reads writes (inr h) = inr (h.0, writes h.0 h.1, h.2, h.3, can _ x h.4)
part_stop s part whole x Output shelf shelf' can reads writes h = absurd h
part_stop s part whole x Machine shelf shelf' can reads writes h = absurd h
part_stop s part whole x Memory shelf shelf' can reads writes h = tt
part_stop s part whole x (Platform text) shelf shelf' can reads writes h = (h.0, can _ x h.1)
part_stop s part whole x (Json text) shelf shelf' can reads writes h = (h.0, can _ x h.1)
part_stop s part whole x (Limit limit) shelf shelf' can reads writes h = (h.0, can _ x h.1)

whole_told : (told : Option Files) (part whole : Task) (x : Outcome) → IfSome told (λ files. part.outcome files ≡ whole.outcome files) → IfSome told (λ files. x ≡ part.outcome files)
    → IfSome told (λ files. x ≡ whole.outcome files)
whole_told None part whole x same h = tt
whole_told (Some files) part whole x same h = h ∙ same

-- A step of a part of a job stopped the whole. Over the files that are told the whole gives what the part gives, and all
-- that the part can give, may read and may write is the whole's.
pub part_stops : {S : Type 0} {s : shelves.Ghosts S} (part whole : Task) {r : Refusal} {shelf shelf' : S} → IfSome (s.told shelf) (λ files. part.outcome files ≡ whole.outcome files)
    → ((given : ℕ) (x : Outcome) → part.can_give given x → whole.can_give given x) → ((name : List ℕ) → part.reads (s.told shelf) name → whole.reads (s.told shelf) name)
    → ((name : List ℕ) → part.writes name → whole.writes name) → Stops s part r shelf shelf' → Stops s whole r shelf shelf'
part_stops {S} {s} part whole {r} {shelf} {shelf'} same can reads writes h =
    record {
      outcome = h.outcome;
      told = whole_told (s.told shelf) part whole h.outcome same h.told;
      stop_is = part_stop s part whole h.outcome r shelf shelf' can reads writes h.stop_is;
      files = h.files;
      unwritten = h.unwritten;
    }

-- ---- a job whose text is put

puts : (x : Outcome) (ended : Ended) → x.status ≡ ended_status ended → PutsText x
puts x end.Done same = inl same
puts x end.NotFit same = inr same

-- the text of the outcome is put, or a front of it, whatever the machine's failure is
pub text_ends_under : {S O : Type 0} {s : shelves.Ghosts S} {o : sinks.Ghosts O} {task : Task} (m : Outcome → Type 0) (x : Outcome) (ended : Ended) (text : List ℕ) {ending : Result Ended Refusal}
    {shelf shelf' : S} {out out' : O} → Known s task x shelf shelf' → x.status ≡ ended_status ended → text ≡ x.out → FilesAreKept x (ended_status ended) (s.told shelf) (s.told shelf')
    → (s.told shelf' ≡ s.told shelf) ⊎ HaveFront (s.told shelf) (s.told shelf') x.written → IsUnwritten (s.state shelf') → PutsEnd o ended text ending out out'
    → EndsUnder s o task (failing s o task shelf shelf' out out' m) ending shelf shelf' out out'
text_ends_under {S} {O} {s} {o} {task} m x ended text {ending = Ok e} {shelf} {shelf'} {out} {out'} known status same whole front unwritten put =
    subst (λ (q : Ended). EndsUnder s o task (failing s o task shelf shelf' out out' m) (Ok q) shelf shelf' out out') (sym put.put.0)
    (record {
      outcome = x;
      told = known.told;
      end_is = (status, known.can);
      output = subst (λ t. Gains o t out out') same put.put.1;
      files = kept_end x (ended_status ended) task.early (s.told shelf) (s.told shelf') whole;
      unwritten = λ u. unwritten;
    })
text_ends_under {S} {O} {s} {o} {task} m x ended text {ending = Err r} {shelf} {shelf'} {out} {out'} known status same whole front unwritten put =
    subst (λ (q : Refusal). EndsUnder s o task (failing s o task shelf shelf' out out' m) (Err q) shelf shelf' out out') (sym put.failed.0)
    (record {
      outcome = x;
      told = known.told;
      end_is = (put.failed.1, puts x ended status, known.can);
      output = subst (λ t. GainsFront o t out out') same put.failed.2;
      files = front;
      unwritten = λ u. unwritten;
    })

-- the same of a job without a machine
pub text_ends : {S O : Type 0} {s : shelves.Ghosts S} {o : sinks.Ghosts O} {task : Task} (x : Outcome) (ended : Ended) (text : List ℕ) {ending : Result Ended Refusal} {shelf shelf' : S} {out out' : O}
    → Known s task x shelf shelf' → x.status ≡ ended_status ended → text ≡ x.out → FilesAreKept x (ended_status ended) (s.told shelf) (s.told shelf')
    → (s.told shelf' ≡ s.told shelf) ⊎ HaveFront (s.told shelf) (s.told shelf') x.written → IsUnwritten (s.state shelf') → PutsEnd o ended text ending out out'
    → Ends s o task ending shelf shelf' out out'
text_ends x ended text known status same whole front unwritten put = text_ends_under (λ y. ⊥) x ended text known status same whole front unwritten put

-- ---- a job whose last step writes

-- why a job ends so, behind steps that only read
wrote : {S O : Type 0} (s : shelves.Ghosts S) (o : sinks.Ghosts O) (task : Task) (x : Outcome) (ending : Result Ended Refusal) (shelf mid shelf' : S) (out out' : O) → task.can_give (s.given shelf') x
    → OnlyReads s shelf mid → ((written : Written) → x.written ≡ Some written → task.writes written.name) → WriteIsTrue s o x ending mid shelf' out out'
    → EndIsTrue task (s.given shelf') x ending (without_machine s o task shelf shelf' out out' x)
wrote s o task x (Ok ended) shelf mid shelf' out out' can k named h = (h, can)
wrote s o task x (Err (File text)) shelf mid shelf' out out' can k named h = (h, can)
wrote s o task x (Err Shelf) shelf mid shelf' out out' can k named h =
    let name = h.0.name in
    inr (name, named h.0 h.1, rose_after (s.write_faults shelf name) (s.write_faults mid name) (s.write_faults shelf' name) (k.writes name) h.3, h.2, can)
wrote s o task x (Err Output) shelf mid shelf' out out' can k named h = (h.0, h.1, can)
wrote s o task x (Err Machine) shelf mid shelf' out out' can k named h = absurd h
wrote s o task x (Err Memory) shelf mid shelf' out out' can k named h = tt
wrote s o task x (Err (Platform text)) shelf mid shelf' out out' can k named h = (h, can)
wrote s o task x (Err (Json text)) shelf mid shelf' out out' can k named h = (h, can)
wrote s o task x (Err (Limit limit)) shelf mid shelf' out out' can k named h = (h, can)

-- A step that writes, behind steps that only read, ends the job, whose outcome is known before it writes.
pub write_ends : {S O : Type 0} {s : shelves.Ghosts S} {o : sinks.Ghosts O} (task : Task) (x : Outcome) {ending : Result Ended Refusal} {shelf mid shelf' : S} {out out' : O} → Known s task x shelf mid
    → OnlyReads s shelf mid → IsUnwritten (s.state mid) → ((written : Written) → x.written ≡ Some written → task.writes written.name) → WriteEnds s o x ending mid shelf' out out'
    → Ends s o task ending shelf shelf' out out'
write_ends {S} {O} {s} {o} task x {ending} {shelf} {mid} {shelf'} {out} {out'} known k unwritten named h =
    record {
      outcome = x;
      told = known.told;
      end_is = wrote s o task x ending shelf mid shelf' out out' (subst (λ n. task.can_give n x) (sym h.given) known.can) k named h.end_is;
      output = h.output;
      files = kept_end x (end_status ending) task.early (s.told shelf) (s.told shelf') (subst (λ told. FilesAreKept x (end_status ending) told (s.told shelf')) k.kept h.files);
      unwritten = λ u. h.unwritten unwritten;
    }
