-- The loadable segments of an ELF-64 file (ELF-64 Object File Format, "Program header table"; System V ABI,
-- "Program Header"). A program header has p_type at 0, p_offset at 8, p_paddr at 24, p_filesz at 32 and p_memsz
-- at 40.
use Rattle.std.specs.Prelude.{ℕ, zero, suc, ◌+◌, ◌==◌, nat_lt, ◌&&◌, Bool, if◌then◌else◌, List, [], ◌∷◌, ◌++◌}
use Rattle.igvm_headers.specs.Numbers.{number_at}
use Rattle.elf_pages.specs.declared.segment.Segment.{Segment}
use Rattle.elf_pages.specs.FileHeader.{header_count, header_offset}

-- the address after a segment's last byte in memory
abbrev pub end_of : Segment → ℕ
end_of segment = segment.address + segment.memory_bytes

-- some byte in memory is of both segments, each of which has one at least
abbrev pub overlaps : Segment → Segment → Bool
overlaps s t = nat_lt s.address (end_of t) && nat_lt t.address (end_of s)

-- the program header at an offset has the type PT_LOAD, and bytes in memory
unfoldable pub is_loadable : List ℕ → ℕ → Bool
is_loadable file at = (number_at 4 at file == 1) && nat_lt 0 (number_at 8 (at + 40) file)

-- the segment of the program header at an offset
abbrev pub segment_at : List ℕ → ℕ → Segment
segment_at file at = record {
  offset = number_at 8 (at + 8) file;
  address = number_at 8 (at + 24) file;
  file_bytes = number_at 8 (at + 32) file;
  memory_bytes = number_at 8 (at + 40) file;
}

-- the segment of program header k, or nothing where it isn't loadable
abbrev pub segment_of : List ℕ → ℕ → List Segment
segment_of file k =
    if is_loadable file (header_offset file k) then segment_at file (header_offset file k) ∷ [] else []

-- the loadable segments of the first k program headers, in the order of the file
unfoldable pub segments_before : List ℕ → ℕ → List Segment
segments_before file zero = []
segments_before file (suc k) = segments_before file k ++ segment_of file k

-- the loadable segments of a file, in its order
abbrev pub segments_of : List ℕ → List Segment
segments_of file = segments_before file (header_count file)
