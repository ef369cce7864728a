-- The headers of an image as C gets them.
use Rattle.std.specs.Prelude.{ℕ, ◌+◌, List, [], ◌∷◌, length, ◌==◌, ◌||◌, Option, Some, None, Result, cond}
use Rattle.std.specs.Option.{ok_or}
use Rattle.igvm_headers.specs.HeaderFacts.{header_type}
use Rattle.igvm_image.specs.Headers.{PlacedHeader, placed_headers}
use Rattle.igvm_c.specs.declared.headers.Found.{Found}
use Rattle.igvm_c.specs.declared.headers.HeaderFields.{HeaderFields}
use Rattle.igvm_c.specs.declared.refusal.Refusal.{Refusal}
use Rattle.igvm_c.specs.declared.refusal.Refusal.TheVariants.{NoHeader}
use Rattle.igvm_c.specs.Files.{file_refusal}
use Rattle.igvm_c.specs.Refusals.{unless}

-- a header that no other follows
abbrev pub last_header : PlacedHeader → Found
last_header h = record { header = h.header; number = h.index; at = h.at; length = length h.raw; next = 0 }

-- a header that one at a file offset follows
abbrev pub with_next : Found → ℕ → Found
with_next f place =
    record { header = f.header; number = f.number; at = f.at; length = f.length; next = place }

-- a header that the first of these follows
abbrev pub followed : Found → List PlacedHeader → Found
followed f [] = f
followed f (h ∷ rest) = with_next f h.at

-- the header at a file offset, and the first for 0
unfoldable pub found_in : ℕ → List PlacedHeader → Option Found
found_in at [] = None
found_in at (h ∷ rest) =
    cond ((at == 0) || (h.at == at)) (Some (followed (last_header h) rest)) (found_in at rest)

-- the header at a file offset of a file that isn't refused
abbrev pub header_at : List ℕ → ℕ → Result Found Refusal
header_at file at = ok_or (found_in at (placed_headers file)) NoHeader

-- the header at a file offset of a file
abbrev pub header_in : List ℕ → ℕ → Result Found Refusal
header_in file at = unless (file_refusal file) (header_at file at)

-- A header as C gets it: its content stands behind its type and its length, of four bytes each.
abbrev pub told_header : Found → HeaderFields
told_header f = record {
  at = f.at;
  content_at = f.at + 8;
  length = f.length;
  next = f.next;
  number = f.number;
  kind = header_type f.header;
}
