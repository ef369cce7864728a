-- A host that asks for one header after the other.
use Rattle.std.specs.Prelude.{ℕ, suc, List, Option, Some, None}
use Rattle.std.specs.List.{slice_get}
use Rattle.igvm_image.specs.Headers.{PlacedHeader, placed_headers}
use Rattle.igvm_c.specs.declared.headers.Found.{Found}
use Rattle.igvm_c.specs.Headers.{last_header, with_next}

-- the file offset of a header, and 0 where there is none
abbrev pub offset_or_0 : Option PlacedHeader → ℕ
offset_or_0 (Some h) = h.at
offset_or_0 None = 0

-- header k of a file, and where header k + 1 stands
abbrev pub stop : List ℕ → ℕ → PlacedHeader → Found
stop file k h = with_next (last_header h) (offset_or_0 (slice_get (placed_headers file) (suc k)))
