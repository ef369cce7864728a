-- How a job ends, as the code keeps it: what it gives, its status and its line.
use Rattle.std.specs.Prelude.{◌≡◌, ℕ, List, [], Result, Ok, Err, None, string_bytes}
use Rattle.igvm_jobs.specs.declared.status.Status.{Status}
use Rattle.igvm_jobs.specs.declared.status.Status.TheVariants as is
use Rattle.igvm_jobs.specs.declared.refusal.Ended.{Ended}
use Rattle.igvm_jobs.specs.declared.refusal.Ended.TheVariants as end
use Rattle.igvm_jobs.specs.declared.refusal.LimitOf.{LimitOf}
use Rattle.igvm_jobs.specs.declared.refusal.LimitOf.TheVariants as of
use Rattle.igvm_jobs.specs.declared.refusal.Refusal.{Refusal}
use Rattle.igvm_jobs.specs.declared.refusal.Refusal.TheVariants.{File, Shelf, Output, Machine, Memory, Platform, Json, Limit}
use Rattle.igvm_jobs.specs.Texts.{shelf_text, output_text, machine_text, memory_text, long_file_text, long_list_text, long_host_text, long_blob_text, large_data_text, large_image_text, long_vmsa_text, long_elf_text, many_pages_text, many_platforms_text, many_areas_text}
use Rattle.igvm_jobs.specs.Outcome.{Outcome, refused}

-- ---- a job that puts its text

-- the status of a job whose text is put
abbrev pub ended_status : Ended → Status
ended_status end.Done = is.Done
ended_status end.NotFit = is.NotFit

-- what a job gives that puts a text and writes no file
abbrev pub ended_outcome : Ended → List ℕ → Outcome
ended_outcome ended text = record { status = ended_status ended; out = text; err = []; written = None; launched = None }

-- ---- a job that is refused

-- the status of a refusal
abbrev pub status_of : Refusal → Status
status_of (File text) = is.File
status_of Shelf = is.Outside
status_of Output = is.Outside
status_of Machine = is.Outside
status_of Memory = is.Memory
status_of (Platform text) = is.Platform
status_of (Json text) = is.Json
status_of (Limit of) = is.Limit

-- the line that says what passed its limit
abbrev pub limit_text : LimitOf → List ℕ
limit_text of.File = long_file_text
limit_text of.List = long_list_text
limit_text of.Host = long_host_text
limit_text of.Blob = long_blob_text
limit_text of.Data = large_data_text
limit_text of.Image = large_image_text
limit_text of.Vmsa = long_vmsa_text
limit_text of.Elf = long_elf_text
limit_text of.Pages = many_pages_text
limit_text of.Platforms = many_platforms_text
limit_text of.Areas = many_areas_text

-- the line of a refusal
abbrev pub text_of : Refusal → List ℕ
text_of (File text) = string_bytes text
text_of Shelf = shelf_text
text_of Output = output_text
text_of Machine = machine_text
text_of Memory = memory_text
text_of (Platform text) = string_bytes text
text_of (Json text) = string_bytes text
text_of (Limit limit) = limit_text limit

-- what a job gives that is refused
abbrev pub refusal_outcome : Refusal → Outcome
refusal_outcome refusal = refused (status_of refusal) (text_of refusal)

-- The outcome is what this refusal says, which neither a shelf nor an output nor a machine gave; or memory ran out.
abbrev pub Refuses : Outcome → Refusal → Type 0
Refuses outcome Shelf = ⊥
Refuses outcome Output = ⊥
Refuses outcome Machine = ⊥
Refuses outcome Memory = Unit {0}
Refuses outcome refusal = outcome ≡ refusal_outcome refusal

-- the status of a job that ended so
abbrev pub end_status : Result Ended Refusal → Status
end_status (Ok ended) = ended_status ended
end_status (Err refusal) = status_of refusal
