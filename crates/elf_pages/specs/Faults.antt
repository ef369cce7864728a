-- The first rule that an ELF-64 file breaks (ELF-64 Object File Format, "File header" and "Program header
-- table"): rules on the file header, on each loadable segment, and on all of them.
use Rattle.std.specs.Prelude.{ℕ, zero, suc, ◌+◌, ◌==◌, nat_lt, not, ◌&&◌, ◌||◌, Bool, if◌then◌else◌, List, length, Option, Some, None}
use Rattle.std.specs.List.{list_any}
use Rattle.std.specs.Option.{option_or, option_map}
use Rattle.elf_pages.specs.declared.fault.ElfFault.{ElfFault}
use Rattle.elf_pages.specs.declared.fault.ElfWhat.{ElfWhat}
use Rattle.elf_pages.specs.declared.fault.ElfWhat.TheVariants.{TooShort, Magic, Class, Machine, Table, TooMany, Sizes, Outside, Wrap, Overlap, Empty, TooLarge}
use Rattle.elf_pages.specs.declared.segment.Segment.{Segment}
use Rattle.elf_pages.specs.FileHeader.{magic_of, class_of, encoding_of, machine_of, header_size, header_count, header_offset}
use Rattle.elf_pages.specs.Limits.{segment_limit, page_limit, address_limit}
use Rattle.elf_pages.specs.Segments.{end_of, overlaps, is_loadable, segment_at, segments_before, segments_of}
use Rattle.elf_pages.specs.Pages.{pages_in}

-- a rule that breaks at an item: the number of a program header, else 0
abbrev pub fault_in : ℕ → ElfWhat → ElfFault
fault_in item what = record { item = item; what = what }

-- the file doesn't begin with 7f 45 4c 46
abbrev pub breaks_magic : List ℕ → Bool
breaks_magic file = not (magic_of file == 0x464C457F)

-- the file isn't of 64 bits with little-endian numbers
abbrev pub breaks_class : List ℕ → Bool
breaks_class file = not ((class_of file == 2) && (encoding_of file == 1))

-- the file isn't for x86-64
abbrev pub breaks_machine : List ℕ → Bool
breaks_machine file = not (machine_of file == 62)

-- there are program headers, and they have another size than 56 bytes or don't lie in the file
abbrev pub breaks_table : List ℕ → Bool
breaks_table file =
    not (header_count file == 0)
    && (not (header_size file == 56) || nat_lt (length file) (header_offset file (header_count file)))

-- the first rule on the file header that fails
unfoldable pub file_fault : List ℕ → Option ElfWhat
file_fault file =
    if nat_lt (length file) 64 then Some TooShort else
    if breaks_magic file then Some Magic else
    if breaks_class file then Some Class else
    if breaks_machine file then Some Machine else
    if breaks_table file then Some Table else
    None

-- a segment has bytes in the file, and they pass the end of a file of this size
abbrev pub is_outside : ℕ → Segment → Bool
is_outside size s = not (s.file_bytes == 0) && nat_lt size (s.offset + s.file_bytes)

-- the first rule that a loadable segment breaks after those before it, in a file of this size
unfoldable pub segment_fault : ℕ → List Segment → Segment → Option ElfWhat
segment_fault size before s =
    if length before == segment_limit then Some TooMany else
    if nat_lt s.memory_bytes s.file_bytes then Some Sizes else
    if is_outside size s then Some Outside else
    if nat_lt address_limit (end_of s) then Some Wrap else
    if list_any (overlaps s) before then Some Overlap else
    None

-- the first rule that the segment of the program header at an offset breaks after those of the first k
abbrev pub fault_at : List ℕ → ℕ → ℕ → Option ElfWhat
fault_at file k at = segment_fault (length file) (segments_before file k) (segment_at file at)

-- the first rule that program header k breaks, where it is loadable
unfoldable pub header_fault : List ℕ → ℕ → Option ElfFault
header_fault file k =
    if is_loadable file (header_offset file k) then option_map (fault_in k) (fault_at file k (header_offset file k)) else None

-- the fault of the first of the first k program headers that has one
unfoldable pub headers_fault : List ℕ → ℕ → Option ElfFault
headers_fault file zero = None
headers_fault file (suc k) = option_or (headers_fault file k) (header_fault file k)

-- there is no loadable segment, or there are too many pages
unfoldable pub pages_fault : List Segment → Option ElfWhat
pages_fault segments =
    if length segments == 0 then Some Empty else
    if nat_lt page_limit (length (pages_in segments)) then Some TooLarge else
    None

-- the first rule that a file breaks, or nothing
unfoldable pub elf_fault : List ℕ → Option ElfFault
elf_fault file =
    option_or (option_map (fault_in 0) (file_fault file))
    (option_or (headers_fault file (header_count file))
    (option_map (fault_in 0) (pages_fault (segments_of file))))
