-- `build LIST OUT`.
use Rattle.std.specs.Prelude.{◌≡◌, ℕ, ◌≤◌, ◌⊎◌, List, length, nat_lt, if◌then◌else◌, true, false}
use Rattle.std.specs.FinMap as map
use Rattle.component_list.specs.Lists.{ImageParts}
use Rattle.image_builder.specs.Layout.{layout}
use Rattle.igvm_jobs.specs.declared.status.Status.TheVariants as is
use Rattle.igvm_jobs.specs.Texts.{large_image_text, built_text}
use Rattle.igvm_jobs.specs.Outcome.{Outcome, done_writing, refused}
use Rattle.igvm_jobs.specs.Tasks.{Task}
use Rattle.igvm_jobs.specs.ImageFiles.{file_limit}
use Rattle.igvm_jobs.specs.ListFiles.{list_outcome, IsListRefused, IsNamed}

-- the most bytes that a built image may have
abbrev pub image_limit : ℕ
image_limit = 536870912

-- the image of some components is written, and its size is put
unfoldable pub parts_outcome : List ℕ → ImageParts → Outcome
parts_outcome target parts =
    if nat_lt image_limit (length (layout parts)) then refused is.Limit large_image_text
    else done_writing target (layout parts) (built_text (length (layout parts)))

-- the image of some components is built, or too large; no file was too long
abbrev pub IsOfParts : List ℕ → ℕ → Outcome → Type 0
IsOfParts target given outcome =
    (parts : ImageParts) × (given ≤ file_limit) × (outcome ≡ parts_outcome target parts)

-- LIST and the files that it comes to are read, and OUT is written
abbrev pub build_task : List ℕ → List ℕ → Task
build_task list target =
    record {
      meant = true;
      outcome = λ files. list_outcome files (parts_outcome target) (map.get files list);
      can_give = λ given outcome. IsListRefused given outcome ⊎ IsOfParts target given outcome;
      reads = λ told name. (name ≡ list) ⊎ IsNamed told list name;
      writes = λ name. name ≡ target;
      launches = false;
      early = false;
    }
