-- The bytes of guest memory: those that segments have in the file, and zeros.
use Rattle.std.specs.Prelude.{ℕ, ◌+◌, ◌-◌, nat_lt, nat_le, ◌&&◌, Bool, if◌then◌else◌, List, [], ◌∷◌, slice_index}
use Rattle.elf_pages.specs.declared.segment.Segment.{Segment}
use Rattle.elf_pages.specs.Segments.{segments_of}

-- an address lies in the part of a segment that the file has
abbrev pub holds : ℕ → Segment → Bool
holds x s = nat_le s.address x && nat_lt x (s.address + s.file_bytes)

-- the byte of the file that a segment has at an address
abbrev pub byte_of : List ℕ → Segment → ℕ → ℕ
byte_of file s x = slice_index file (s.offset + (x - s.address))

-- the byte at an address: the file's byte of a segment that has one there, else 0
abbrev pub byte_in : List ℕ → List Segment → ℕ → ℕ
byte_in file [] x = 0
byte_in file (s ∷ ss) x = if holds x s then byte_of file s x else byte_in file ss x

-- the byte that a file has for an address of guest memory
abbrev pub elf_byte : List ℕ → ℕ → ℕ
elf_byte file x = byte_in file (segments_of file) x
