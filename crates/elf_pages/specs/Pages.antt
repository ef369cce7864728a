-- The pages of 4,096 bytes that segments take up in guest memory.
use Rattle.std.specs.Prelude.{ℕ, zero, suc, ◌+◌, ◌*◌, ◌/◌, nat_lt, ◌&&◌, Bool, if◌then◌else◌, List, [], ◌∷◌, ◌++◌, slice_index}
use Rattle.std.specs.List.{list_any}
use Rattle.elf_pages.specs.declared.segment.Segment.{Segment}
use Rattle.elf_pages.specs.Segments.{end_of, segments_of}

-- the page at an address holds one of the `bytes` bytes from another address on
abbrev pub meets : ℕ → ℕ → ℕ → Bool
meets page from bytes = nat_lt 0 bytes && nat_lt from (page + 4096) && nat_lt page (from + bytes)

-- the page at an address holds a byte of some segment
abbrev pub is_touched : List Segment → ℕ → Bool
is_touched segments page = list_any (λ s. meets page s.address s.memory_bytes) segments

-- the page at an address holds a byte that some segment has in the file
abbrev pub is_filled : List Segment → ℕ → Bool
is_filled segments page = list_any (λ s. meets page s.address s.file_bytes) segments

-- the addresses of those of the first n pages that hold a byte of some segment, in rising order
unfoldable pub pages_below : List Segment → ℕ → List ℕ
pages_below segments zero = []
pages_below segments (suc page) =
    pages_below segments page ++ (if is_touched segments (4096 * page) then 4096 * page ∷ [] else [])

-- the same of all pages below 2^52: 2^40 of them
unfoldable pub pages_in : List Segment → List ℕ
pages_in segments = pages_below segments 1099511627776

-- the addresses of the pages of a file, in rising order
abbrev pub pages_of : List ℕ → List ℕ
pages_of file = pages_in (segments_of file)

-- the address of page k of a file
abbrev pub page_address : List ℕ → ℕ → ℕ
page_address file k = slice_index (pages_of file) k

-- the number of the page that holds a segment's first byte
abbrev pub first_page : Segment → ℕ
first_page segment = segment.address / 4096

-- the number of the first page after a segment's last byte
abbrev pub end_page : Segment → ℕ
end_page segment = (end_of segment + 4095) / 4096
