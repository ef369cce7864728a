-- What an address is to a segment, in the words of the format.
use Rattle.std.specs.Prelude.{ℕ, ◌+◌, ◌<◌, ◌≤◌, List, slice_index_or}
use Rattle.elf_pages.specs.declared.segment.Segment.{Segment}
use Rattle.elf_pages.specs.Limits.{address_limit}
use Rattle.elf_pages.specs.Segments.{end_of, segments_of}

-- a segment of no bytes, which stands for one that isn't there
abbrev pub no_segment : Segment
no_segment = record { offset = 0; address = 0; file_bytes = 0; memory_bytes = 0 }

-- loadable segment n of a file, in its order
abbrev pub segment_number : List ℕ → ℕ → Segment
segment_number file n = slice_index_or (segments_of file) n no_segment

-- an address is that of a byte of a segment
pub record IsByteOf (x : ℕ) (s : Segment) : Type 0 where
  pub low : s.address ≤ x
  pub high : x < end_of s

-- an address is that of a byte that a segment has in the file
pub record IsInFile (x : ℕ) (s : Segment) : Type 0 where
  pub low : s.address ≤ x
  pub high : x < s.address + s.file_bytes

-- some byte is of both segments
pub record ShareByte (s t : Segment) : Type 0 where
  pub x : ℕ
  pub one : IsByteOf x s
  pub other : IsByteOf x t

-- what a loadable segment keeps that breaks no rule of its own, in a file of this size
pub record IsSound (size : ℕ) (s : Segment) : Type 0 where
  pub some : 0 < s.memory_bytes
  pub sizes : s.file_bytes ≤ s.memory_bytes
  pub inside : 0 < s.file_bytes → s.offset + s.file_bytes ≤ size
  pub ends : end_of s ≤ address_limit
