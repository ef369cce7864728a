-- `build-elf LIST ELF MASK OUT`.
use Rattle.std.specs.Prelude.{◌≡◌, ℕ, ◌+◌, ◌⊎◌, List, length, nat_lt, if◌then◌else◌, true, false, Option, Some, None, IfSome}
use Rattle.std.specs.FinMap as map
use Rattle.igvm_headers.specs.SpellingConditions.{AreBytes}
use Rattle.igvm_outside.specs.Files.{Files}
use Rattle.component_list.specs.Lists.{ImageParts, IsList}
use Rattle.elf_pages.specs.declared.fault.ElfFault.{ElfFault}
use Rattle.elf_pages.specs.Faults.{elf_fault}
use Rattle.elf_pages.specs.Pages.{pages_of}
use Rattle.elf_list.specs.ElfParts.{with_elf_pages, pages_named}
use Rattle.further_words.specs.FurtherWords.{ElfWords}
use Rattle.igvm_jobs.specs.declared.status.Status.TheVariants as is
use Rattle.igvm_jobs.specs.Texts.{shelf_text, long_elf_text, many_pages_text}
use Rattle.igvm_jobs.specs.Outcome.{Outcome, refused}
use Rattle.igvm_jobs.specs.Tasks.{Task}
use Rattle.igvm_jobs.specs.ListFiles.{list_outcome, IsListRefused, IsNamed}
use Rattle.igvm_jobs.specs.BuildJob.{parts_outcome}
use Rattle.igvm_tool.specs.ElfTexts.{elf_text}

-- the most bytes that an ELF file may have
abbrev pub elf_limit : ℕ
elf_limit = 536870912

-- the most pages that the headers of an image may name together
abbrev pub pages_limit : ℕ
pages_limit = 4194304

-- ---- the outcome

-- of a list and an accepted ELF file: the pages are added behind the list's components, and the image is written
abbrev pub joined_outcome : ElfWords → ImageParts → List ℕ → Outcome
joined_outcome words parts file =
    if nat_lt pages_limit (pages_named parts.parts + length (pages_of file)) then refused is.Limit many_pages_text
    else parts_outcome words.target (with_elf_pages parts file words.mask)

-- of a list and an ELF file, by the first rule that the file breaks
abbrev pub judged_outcome : ElfWords → ImageParts → List ℕ → Option ElfFault → Outcome
judged_outcome words parts file None = joined_outcome words parts file
judged_outcome words parts file (Some fault) = refused is.File (elf_text fault)

-- of a list and the bytes of an ELF file
unfoldable pub elf_outcome : ElfWords → ImageParts → List ℕ → Outcome
elf_outcome words parts file =
    if nat_lt elf_limit (length file) then refused is.Limit long_elf_text
    else judged_outcome words parts file (elf_fault file)

-- an ELF file that is not there is a fault of the shelf
abbrev pub elf_file_outcome : ElfWords → Option (List ℕ) → ImageParts → Outcome
elf_file_outcome words None parts = refused is.Outside shelf_text
elf_file_outcome words (Some file) parts = elf_outcome words parts file

-- ---- whatever is told

-- some components and some bytes of ELF, as many as were given, decide
abbrev pub IsOfElf : ElfWords → ℕ → Outcome → Type 0
IsOfElf words given outcome =
    (parts : ImageParts) × (file : List ℕ) × IsList parts × AreBytes file × (length file ≡ given)
    × (outcome ≡ elf_outcome words parts file)

-- ---- the files that may be read

-- LIST leads on to ELF with these components
abbrev pub LeadsOn : Files → List ℕ → ImageParts → Type 0
LeadsOn files list parts = (next : ImageParts → Outcome) → list_outcome files next (map.get files list) ≡ next parts

-- ELF is read where LIST leads on to it, and always where the files are not told
abbrev pub IsElf : ElfWords → Option Files → List ℕ → Type 0
IsElf words told name =
    (name ≡ words.elf) × IfSome told (λ files. (parts : ImageParts) × LeadsOn files words.list parts)

-- LIST and the files that it comes to are read, then ELF, and OUT is written
abbrev pub build_elf_task : ElfWords → Task
build_elf_task words =
    record {
      meant = true;
      outcome = λ files. list_outcome files (elf_file_outcome words (map.get files words.elf)) (map.get files words.list);
      can_give = λ given outcome. IsListRefused given outcome ⊎ IsOfElf words given outcome;
      reads = λ told name. ((name ≡ words.list) ⊎ IsNamed told words.list name) ⊎ IsElf words told name;
      writes = λ name. name ≡ words.target;
      launches = false;
      early = false;
    }
