-- `join FILE FILE OUT`.
use Rattle.std.specs.Prelude.{◌≡◌, ℕ, ◌⊎◌, ◌||◌, List, length, nat_lt, if◌then◌else◌, true, false, Option, IfSome}
use Rattle.std.specs.FinMap as map
use Rattle.igvm_outside.specs.Files.{Files, content}
use Rattle.component_list.specs.ImageList.{list_of}
use Rattle.component_list.specs.Lists.{ImageParts, IsList}
use Rattle.further_words.specs.FurtherWords.{JoinWords}
use Rattle.joined_list.specs.Joined.{all_areas, all_pages, all_platforms, joined}
use Rattle.igvm_jobs.specs.declared.status.Status.TheVariants as is
use Rattle.igvm_jobs.specs.BuildJob.{parts_outcome}
use Rattle.igvm_jobs.specs.ImageFiles.{bytes_outcome, file_outcome}
use Rattle.igvm_jobs.specs.Outcome.{Outcome, refused}
use Rattle.igvm_jobs.specs.Tasks.{Task}
use Rattle.igvm_jobs.specs.Texts.{large_data_text, many_areas_text, many_pages_text, many_platforms_text}
use Rattle.operation_jobs.specs.StoredData.{data_limit, stored_bytes}

-- ---- the outcome

-- of the lists of two accepted images: the image of the joined list is written
unfoldable pub lists_outcome : List ℕ → ImageParts → ImageParts → Outcome
lists_outcome target first second =
    if nat_lt 32 (all_platforms first.parts second.parts) then refused is.Limit many_platforms_text else
    if nat_lt 256 (all_areas first.parts second.parts) then refused is.Limit many_areas_text else
    if nat_lt 4194304 (all_pages first.parts second.parts) then refused is.Limit many_pages_text else
    parts_outcome target (joined first second)

-- of two accepted images
unfoldable pub joined_outcome : List ℕ → List ℕ → List ℕ → Outcome
joined_outcome target first second =
    if nat_lt data_limit (stored_bytes first) || nat_lt data_limit (stored_bytes second)
    then refused is.Limit large_data_text else lists_outcome target (list_of first) (list_of second)

-- ---- whatever is told

-- the bytes of the first FILE lead on to the second
abbrev pub IsJoinable : List ℕ → Type 0
IsJoinable bytes = (next : List ℕ → Outcome) → bytes_outcome next bytes ≡ next bytes

-- some bytes of the first FILE, as many as were given, decide, whatever the second is
abbrev pub IsByFirst : ℕ → Outcome → Type 0
IsByFirst given outcome =
    (bytes : List ℕ) × (length bytes ≡ given) × ((next : List ℕ → Outcome) → outcome ≡ bytes_outcome next bytes)

-- Some bytes of the first FILE lead on, and some bytes of the second, as many as were given, decide. Where the job is done,
-- what both come to are lists: their numbers and bytes are those of their types.
abbrev pub IsBySecond : List ℕ → ℕ → Outcome → Type 0
IsBySecond target given outcome =
    (first : List ℕ) × (second : List ℕ) × IsJoinable first × (length second ≡ given)
    × (outcome ≡ bytes_outcome (joined_outcome target first) second)
    × (outcome.status ≡ is.Done → IsList (list_of first) × IsList (list_of second))

-- ---- the task

-- the second FILE is read where the first leads on to it, and always where the files are not told
abbrev pub IsSecond : JoinWords → Option Files → List ℕ → Type 0
IsSecond words told name = (name ≡ words.second) × IfSome told (λ files. IsJoinable (content files words.first))

-- the first FILE is read, then the second, and OUT is written
abbrev pub join_task : JoinWords → Task
join_task words =
    record {
      meant = true;
      outcome = λ files. file_outcome
          (λ first. file_outcome (joined_outcome words.target first) (map.get files words.second))
          (map.get files words.first);
      can_give = λ given outcome. IsByFirst given outcome ⊎ IsBySecond words.target given outcome;
      reads = λ told name. (name ≡ words.first) ⊎ IsSecond words told name;
      writes = λ name. name ≡ words.target;
      launches = false;
      early = false;
    }
