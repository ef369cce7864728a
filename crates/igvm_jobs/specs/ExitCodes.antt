-- Exit statuses: docs/PROGRAM.md.
use Rattle.std.specs.Prelude.{ℕ}
use Rattle.igvm_jobs.specs.declared.status.Status.{Status}
use Rattle.igvm_jobs.specs.declared.status.Status.TheVariants.{Done, File, Usage, NotFit, Outside, Memory, Platform, Json, Limit}

-- the exit status of a status
abbrev pub code_of : Status → ℕ
code_of Done = 0
code_of File = 1
code_of Usage = 2
code_of NotFit = 3
code_of Outside = 4
code_of Memory = 5
code_of Platform = 6
code_of Json = 7
code_of Limit = 8
