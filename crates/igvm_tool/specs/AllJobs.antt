-- The task of all words: of the first commands, of the further ones, and of words that mean no job. And what is promised
-- of all words.
use Rattle.std.specs.Prelude.{◌≡◌, Option, Some, None}
use Rattle.igvm_outside.specs.declared.shelf.Shelf as shelves
use Rattle.igvm_outside.specs.declared.sink.Sink as sinks
use Rattle.launch_platform.specs.declared.launch.Launch as launches
use Rattle.sev_platform.specs.declared.sev_launch.SevLaunch as sevs
use Rattle.igvm_words.specs.Words.{Job}
use Rattle.further_words.specs.FurtherWords.{FurtherJob, SevMeasure, SevLoad, VmsaBuild, VmsaPrint, BuildElf, Strip, Join, Seal, AnyJob, First, Further}
use Rattle.igvm_jobs.specs.declared.status.Status.{Status}
use Rattle.igvm_jobs.specs.Tasks.{Task, no_task}
use Rattle.igvm_jobs.specs.Clauses.{KeepsPromises}
use Rattle.igvm_jobs.specs.Jobs.{task_of}
use Rattle.operation_jobs.specs.StripJob.{strip_task}
use Rattle.operation_jobs.specs.JoinJob.{join_task}
use Rattle.operation_jobs.specs.SealJob.{seal_task}
use Rattle.igvm_tool.specs.UsageText.{usage_text}
use Rattle.igvm_tool.specs.SevMeasureJob.{sev_measure_task}
use Rattle.igvm_tool.specs.SevLoadJob.{sev_load_task}
use Rattle.igvm_tool.specs.SevClauses.{KeepsSevPromises}
use Rattle.igvm_tool.specs.VmsaJobs.{vmsa_build_task, vmsa_print_task}
use Rattle.igvm_tool.specs.BuildElfJob.{build_elf_task}

-- what the clauses ask of a further job
abbrev pub further_task : FurtherJob → Task
further_task (SevMeasure file wanted) = sev_measure_task file wanted
further_task (SevLoad words) = sev_load_task words
further_task (VmsaBuild json target) = vmsa_build_task json target
further_task (VmsaPrint file) = vmsa_print_task file
further_task (BuildElf words) = build_elf_task words
further_task (Strip words) = strip_task words
further_task (Join words) = join_task words
further_task (Seal words) = seal_task words

-- of the job that words mean, of the first commands, if they mean one
abbrev pub words_task : Option Job → Task
words_task None = no_task usage_text
words_task (Some job) = task_of job

-- of the job that words mean, if they mean one
abbrev pub any_task : Option AnyJob → Task
any_task None = no_task usage_text
any_task (Some (First job)) = task_of job
any_task (Some (Further job)) = further_task job

-- What is promised of the job that words mean, if they mean one. `sev-load` has the SEV machine, and every other job the
-- first one; a job leaves the machine untouched that it does not have.
abbrev pub KeepsAll : {S O E L M : Type 0} → shelves.Ghosts S → sinks.Ghosts O → sinks.Ghosts E → launches.Ghosts L
    → sevs.Ghosts M → Option AnyJob → Status → S → S → O → O → E → E → L → L → M → M → Type 0
KeepsAll s o e l m (Some (Further (SevLoad words))) status shelf shelf' out out' err err' machine machine' sev sev' =
    KeepsSevPromises s o e m (sev_load_task words) status shelf shelf' out out' err err' sev sev' × (machine' ≡ machine)
KeepsAll s o e l m any status shelf shelf' out out' err err' machine machine' sev sev' =
    KeepsPromises s o e l (any_task any) status shelf shelf' out out' err err' machine machine' × (sev' ≡ sev)
