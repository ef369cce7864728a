-- Which program header decides what a file's fault is.
use Rattle.std.specs.Prelude.{ℕ, ◌<◌, ◌≡◌, List, Some, None}
use Rattle.elf_pages.specs.declared.fault.ElfFault.{ElfFault}
use Rattle.elf_pages.specs.FileHeader.{header_count}
use Rattle.elf_pages.specs.Faults.{header_fault}

-- program header k is the first that breaks a rule, and this is the first rule that it breaks
pub record IsFirstHeader (file : List ℕ) (k : ℕ) (e : ElfFault) : Type 0 where
  pub within : k < header_count file
  pub here : header_fault file k ≡ Some e
  pub before : (j : ℕ) → j < k → header_fault file j ≡ None
