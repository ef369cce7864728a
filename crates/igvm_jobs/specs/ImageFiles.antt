-- Jobs on one image file: it is read, judged, and then something is made of it.
use Rattle.std.specs.Prelude.{◌≡◌, ℕ, List, length, nat_lt, if◌then◌else◌, true, false, Option, Some, None}
use Rattle.std.specs.FinMap as map
use Rattle.igvm_headers.specs.declared.fault.ReadFault.{ReadFault}
use Rattle.igvm_image.specs.FileFault.{fault_of}
use Rattle.igvm_jobs.specs.declared.status.Status.TheVariants as is
use Rattle.igvm_jobs.specs.Texts.{fault_text, shelf_text, long_file_text}
use Rattle.igvm_jobs.specs.Outcome.{Outcome, refused}
use Rattle.igvm_jobs.specs.Tasks.{Task}

-- the most bytes that an image file may have
abbrev pub file_limit : ℕ
file_limit = 536870912

-- an image that breaks a rule is refused; `next` says what becomes of another
abbrev pub image_outcome : (List ℕ → Outcome) → List ℕ → Option ReadFault → Outcome
image_outcome next bytes (Some fault) = refused is.File (fault_text fault)
image_outcome next bytes None = next bytes

-- of the bytes of a file
unfoldable pub bytes_outcome : (List ℕ → Outcome) → List ℕ → Outcome
bytes_outcome next bytes =
    if nat_lt file_limit (length bytes) then refused is.Limit long_file_text
    else image_outcome next bytes (fault_of bytes)

-- a file that is not there is a fault of the shelf
abbrev pub file_outcome : (List ℕ → Outcome) → Option (List ℕ) → Outcome
file_outcome next None = refused is.Outside shelf_text
file_outcome next (Some bytes) = bytes_outcome next bytes

-- the outcome is that of some bytes, as many as were given
abbrev pub IsOfBytes : (List ℕ → Outcome) → ℕ → Outcome → Type 0
IsOfBytes next given outcome = (bytes : List ℕ) × (length bytes ≡ given) × (outcome ≡ bytes_outcome next bytes)

-- a job that reads one image file and writes none
abbrev pub file_task : List ℕ → (List ℕ → Outcome) → Task
file_task file next =
    record {
      meant = true;
      outcome = λ files. file_outcome next (map.get files file);
      can_give = IsOfBytes next;
      reads = λ told name. name ≡ file;
      writes = λ name. ⊥;
      launches = false;
      early = false;
    }
