-- `print FILE`.
use Rattle.std.specs.Prelude.{ℕ, List}
use Rattle.dump_text.specs.Listing.{print_text}
use Rattle.igvm_jobs.specs.Outcome.{Outcome, done}
use Rattle.igvm_jobs.specs.Tasks.{Task}
use Rattle.igvm_jobs.specs.ImageFiles.{file_task}

-- the listing of an accepted image is put
unfoldable pub listed : List ℕ → Outcome
listed bytes = done (print_text bytes)

-- FILE is read
abbrev pub print_task : List ℕ → Task
print_task file = file_task file listed
