use Rattle.std.proofs.Common.{◌≢◌, ℕ, ◌<◌}
use Rattle.igvm_outside.specs.MemFiles.{name_at}
use Rattle.igvm_outside.proofs.fakes.mem_files.index_of.Given as goal

-- the files so far have other names
abbrev pub invariant-files : goal.invariant-files
invariant-files l = (k : ℕ) → k < l.at → name_at l.files k ≢ l.name
