-- What a page is to a file, in the words of the format.
use Rattle.std.specs.Prelude.{ℕ, ◌+◌, ◌%◌, ◌<◌, ◌≤◌, ◌≡◌, List, length}
use Rattle.elf_pages.specs.Segments.{segments_of}
use Rattle.elf_pages.specs.SegmentFacts.{segment_number, IsByteOf, IsInFile}

-- an address is a page's, and the page holds a byte of some loadable segment
pub record IsPage (file : List ℕ) (gpa : ℕ) : Type 0 where
  pub whole : gpa % 4096 ≡ 0
  pub n : ℕ
  pub within : n < length (segments_of file)
  pub x : ℕ
  pub byte : IsByteOf x (segment_number file n)
  pub from : gpa ≤ x
  pub to : x < gpa + 4096

-- the page at an address holds a byte that some loadable segment has in the file
pub record IsFilled (file : List ℕ) (gpa : ℕ) : Type 0 where
  pub n : ℕ
  pub within : n < length (segments_of file)
  pub x : ℕ
  pub byte : IsInFile x (segment_number file n)
  pub from : gpa ≤ x
  pub to : x < gpa + 4096
