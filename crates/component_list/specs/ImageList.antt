-- The list of an image: its version, and its headers in order with file offset 0, what they carry unread, and their data.
use Rattle.std.specs.Prelude.{ℕ, List, map, ◌==◌, if◌then◌else◌, is_some}
use Rattle.std.specs.List.{flat_map, range_with_len}
use Rattle.igvm_headers.specs.Fixed.{fixed_fields}
use Rattle.igvm_headers.specs.HeaderFacts.{data_offset, data_size, header_tail, with_offset}
use Rattle.igvm_headers.specs.declared.header.Header.{Header}
use Rattle.igvm_image.specs.Data.{Data, data_page}
use Rattle.igvm_image.specs.Headers.{PlacedHeader, placed_headers}
use Rattle.component_list.specs.declared.component.Component.{Component}
use Rattle.component_list.specs.declared.component.Content.{Content}
use Rattle.component_list.specs.declared.component.Content.TheVariants.{Nothing, Zero, Bytes}
use Rattle.component_list.specs.Lists.{ImageParts}

-- all bytes of the data, page by page
unfoldable pub data_bytes : Data → List ℕ
data_bytes data' = flat_map (data_page data') (range_with_len 0 data'.pages)

-- data at file offset 0 are zeros, and all others are their bytes
abbrev pub stored : ℕ → Data → Content
stored offset data' = if offset == 0 then Zero else Bytes (data_bytes data')

-- a header's data, where it has any
abbrev pub content_of : Header → Data → Content
content_of header data' = if is_some (data_size header) then stored (data_offset header) data' else Nothing

-- the component of a header in a file
abbrev pub component_of : PlacedHeader → Component
component_of placed = record {
  header = with_offset 0 placed.header;
  tail = header_tail placed.header placed.raw;
  content = content_of placed.header placed.content;
}

-- the components of a file's headers
abbrev pub components_in : List ℕ → List Component
components_in file = map component_of (placed_headers file)

-- the list of an accepted file, with the version of its format
abbrev pub list_of : List ℕ → ImageParts
list_of file = record { version = (fixed_fields file).version; parts = components_in file }
