-- The bytes of a parameter area behind some headers, by the rule for each byte: that of the last parameter whose value
-- covers it, else the area's own, which are the file's or zeros.
use Rattle.std.specs.Prelude.{ℕ, ◌+◌, ◌*◌, List, map, Option, Some, None}
use Rattle.std.specs.List.{filter_map, range_with_len}
use Rattle.igvm_headers.specs.declared.header.Header.{Header}
use Rattle.igvm_headers.specs.declared.header.Header.TheVariants.{Area, Insert, Param}
use Rattle.host_set.specs.Hosts.{HostValues, value_of}
use Rattle.igvm_image.specs.Data.{Data}
use Rattle.igvm_image.specs.Headers.{PlacedHeader}
use Rattle.param_areas.specs.Calls.{Call, Declare, Set, Take, byte_under, content_of, settings_of}

-- what a header tells the areas: to declare one with its content, to set the host's value in one, or to take one
abbrev pub header_call : HostValues → Header → Data → Option Call
header_call host (Area bytes area offset) content = Some (Declare area content)
header_call host (Param kind area byte_offset) content = Some (Set area byte_offset (value_of host kind))
header_call host (Insert gpa mask area) content = Some (Take area)
header_call host _ content = None

-- what these headers tell them
abbrev pub calls_of : HostValues → List PlacedHeader → List Call
calls_of host headers = filter_map (λ p. header_call host p.header p.content) headers

-- the byte at a place of an area behind these headers
abbrev pub filled_byte : HostValues → List PlacedHeader → ℕ → ℕ → ℕ
filled_byte host before area place =
    byte_under (content_of area (calls_of host before)) (settings_of area (calls_of host before)) place

-- page k of an area behind these headers
unfoldable pub filled_page : HostValues → List PlacedHeader → ℕ → ℕ → List ℕ
filled_page host before area k = map (λ j. filled_byte host before area (4096 * k + j)) (range_with_len 0 4096)
