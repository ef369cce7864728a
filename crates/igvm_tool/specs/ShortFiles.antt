-- Jobs on one file of a VMSA: it is read within its limit, and then something is made of it.
use Rattle.std.specs.Prelude.{◌≡◌, ℕ, List, length, nat_lt, if◌then◌else◌, true, false, Option, Some, None}
use Rattle.std.specs.FinMap as map
use Rattle.igvm_jobs.specs.declared.status.Status.TheVariants as is
use Rattle.igvm_jobs.specs.Texts.{shelf_text, long_vmsa_text}
use Rattle.igvm_jobs.specs.Outcome.{Outcome, refused}
use Rattle.igvm_jobs.specs.Tasks.{Task}

-- a file longer than its limit is refused; `next` says what becomes of the bytes of another
unfoldable pub short_outcome : ℕ → (List ℕ → Outcome) → List ℕ → Outcome
short_outcome limit next bytes = if nat_lt limit (length bytes) then refused is.Limit long_vmsa_text else next bytes

-- a file that is not there is a fault of the shelf
abbrev pub short_file_outcome : ℕ → (List ℕ → Outcome) → Option (List ℕ) → Outcome
short_file_outcome limit next None = refused is.Outside shelf_text
short_file_outcome limit next (Some bytes) = short_outcome limit next bytes

-- the outcome is that of some bytes, as many as were given
abbrev pub IsOfShort : ℕ → (List ℕ → Outcome) → ℕ → Outcome → Type 0
IsOfShort limit next given outcome =
    (bytes : List ℕ) × (length bytes ≡ given) × (outcome ≡ short_outcome limit next bytes)

-- a job that reads one such file, and may write these
abbrev pub short_file_task : List ℕ → ℕ → (List ℕ → Outcome) → (List ℕ → Type 0) → Task
short_file_task file limit next writes =
    record {
      meant = true;
      outcome = λ files. short_file_outcome limit next (map.get files file);
      can_give = IsOfShort limit next;
      reads = λ told name. name ≡ file;
      writes = writes;
      launches = false;
      early = false;
    }
