-- How much data the headers of an image have in its file, and jobs that copy them.
use Rattle.std.specs.Prelude.{◌≡◌, ℕ, List, length, sum_by, nat_lt, unwrap_or, ◌==◌, if◌then◌else◌, true, false}
use Rattle.std.specs.FinMap as map
use Rattle.igvm_headers.specs.HeaderFacts.{data_offset, data_size}
use Rattle.igvm_headers.specs.declared.header.Header.{Header}
use Rattle.igvm_image.specs.Headers.{headers_of}
use Rattle.component_list.specs.ImageList.{list_of}
use Rattle.component_list.specs.Lists.{ImageParts, IsList}
use Rattle.igvm_jobs.specs.declared.status.Status.TheVariants as is
use Rattle.igvm_jobs.specs.ImageFiles.{bytes_outcome, file_outcome}
use Rattle.igvm_jobs.specs.Outcome.{Outcome, refused}
use Rattle.igvm_jobs.specs.Tasks.{Task}
use Rattle.igvm_jobs.specs.Texts.{large_data_text}

-- the bytes that a header has in the file: none where its data are zeros at offset 0
abbrev pub stored_size : Header → ℕ
stored_size header = if data_offset header == 0 then 0 else unwrap_or (data_size header) 0

-- of all headers together, each counted by itself
unfoldable pub stored_bytes : List ℕ → ℕ
stored_bytes file = sum_by stored_size (headers_of file)

-- the most of them that are copied
abbrev pub data_limit : ℕ
data_limit = 1073741824

-- an image with more is refused; `next` says what becomes of the list of another
abbrev pub data_outcome : (ImageParts → Outcome) → List ℕ → Outcome
data_outcome next bytes =
    if nat_lt data_limit (stored_bytes bytes) then refused is.Limit large_data_text else next (list_of bytes)

-- The outcome is that of some bytes, as many as were given. Where the job is done, what they come to is a list: its numbers
-- and bytes are those of its types.
abbrev pub IsOfImage : (List ℕ → Outcome) → ℕ → Outcome → Type 0
IsOfImage next given outcome =
    (bytes : List ℕ) × (length bytes ≡ given) × (outcome ≡ bytes_outcome next bytes)
    × (outcome.status ≡ is.Done → IsList (list_of bytes))

-- a job that reads one image file and writes another
abbrev pub image_task : List ℕ → List ℕ → (List ℕ → Outcome) → Task
image_task file target next =
    record {
      meant = true;
      outcome = λ files. file_outcome next (map.get files file);
      can_give = IsOfImage next;
      reads = λ told name. name ≡ file;
      writes = λ name. name ≡ target;
      launches = false;
      early = false;
    }
