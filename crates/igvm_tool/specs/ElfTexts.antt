-- What is said of an ELF file that is refused: docs/PROGRAM.md.
use Rattle.std.specs.Prelude.{ℕ, List, [], ◌∷◌, ◌++◌, codes}
use Rattle.std.specs.Fmt.{decimal}
use Rattle.elf_pages.specs.declared.fault.ElfFault.{ElfFault}
use Rattle.elf_pages.specs.declared.fault.ElfWhat.{ElfWhat}
use Rattle.elf_pages.specs.declared.fault.ElfWhat.TheVariants as what

-- the words for a rule
abbrev pub elf_words : ElfWhat → List ℕ
elf_words what.TooShort = codes "too short"
elf_words what.Magic = codes "magic"
elf_words what.Class = codes "class"
elf_words what.Machine = codes "machine"
elf_words what.Table = codes "table"
elf_words what.TooMany = codes "too many segments"
elf_words what.Sizes = codes "sizes"
elf_words what.Outside = codes "outside"
elf_words what.Wrap = codes "address wraps"
elf_words what.Overlap = codes "overlap"
elf_words what.Empty = codes "empty"
elf_words what.TooLarge = codes "too large"

-- an ELF file that breaks a rule
abbrev pub elf_text : ElfFault → List ℕ
elf_text fault =
    codes "igvm: elf refused at " ++ (decimal fault.item ++ (codes ": " ++ (elf_words fault.what ++ 10 ∷ [])))
