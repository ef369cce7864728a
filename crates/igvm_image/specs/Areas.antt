-- Parameter areas, by their indices.
use Rattle.std.specs.Prelude.{ℕ, List, ◌==◌, Option, Some, None, find, unwrap_or}
use Rattle.std.specs.Option.{option_map}
use Rattle.std.specs.List.{filter_map}
use Rattle.igvm_headers.specs.HeaderFacts.{page_count}
use Rattle.igvm_headers.specs.declared.header.Header.{Header}
use Rattle.igvm_headers.specs.declared.header.Header.TheVariants.{Area, Insert}
use Rattle.igvm_image.specs.declared.area_table.AreaEntry.{AreaEntry}

-- the area that a header declares
abbrev pub area_entry : Header → Option AreaEntry
area_entry (Area bytes area offset) = Some (record { area = area; bytes = bytes })
area_entry _ = None

-- the areas that these headers declare, in order
abbrev pub areas_of : List Header → List AreaEntry
areas_of headers = filter_map area_entry headers

-- the size of the area of an index, in bytes
abbrev pub area_size : List AreaEntry → ℕ → Option ℕ
area_size areas area = option_map (λ entry. entry.bytes) (find (λ entry. entry.area == area) areas)

-- the size in bytes of the area that a header puts into the guest, and 0 for other headers
abbrev pub area_bytes_of : List AreaEntry → Header → ℕ
area_bytes_of areas (Insert gpa mask area) = unwrap_or (area_size areas area) 0
area_bytes_of areas _ = 0

-- how many pages of 4,096 bytes a header places: an insert as many as its area has
abbrev pub placed_pages : List AreaEntry → Header → ℕ
placed_pages areas header = page_count header (area_bytes_of areas header)
