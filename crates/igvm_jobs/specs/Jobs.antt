-- The task of each job.
use Rattle.igvm_outside.specs.Files.{Files}
use Rattle.igvm_words.specs.Words.{Job, Build, Print, Measure, Load, Make}
use Rattle.igvm_jobs.specs.Outcome.{Outcome}
use Rattle.igvm_jobs.specs.Tasks.{Task}
use Rattle.igvm_jobs.specs.PrintJob.{print_task}
use Rattle.igvm_jobs.specs.MeasureJob.{measure_task}
use Rattle.igvm_jobs.specs.BuildJob.{build_task}
use Rattle.igvm_jobs.specs.LoadJob.{load_task}
use Rattle.igvm_jobs.specs.MakeJob.{make_task}

-- what the clauses ask of a job
abbrev pub task_of : Job → Task
task_of (Build list target) = build_task list target
task_of (Print file) = print_task file
task_of (Measure words) = measure_task words
task_of (Load words) = load_task words
task_of (Make count target) = make_task count target

-- what it gives over these files
abbrev pub outcome_of : Job → Files → Outcome
outcome_of job files = (task_of job).outcome files
