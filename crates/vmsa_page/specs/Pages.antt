-- The page of a VMSA, and the VMSA of a page. All numbers stand with their low byte first.
use Rattle.std.specs.Prelude.{ℕ, ◌+◌, ◌-◌, ◌&&◌, ◌==◌, not, if◌then◌else◌, List, [], ◌∷◌, ◌++◌, map, slice_index}
use Rattle.std.specs.List.{range_with_len}
use Rattle.byteorder.specs.Endian.{little_bytes, little_from}
use Rattle.vmsa_page.specs.declared.other_byte.OtherByte.{OtherByte}
use Rattle.vmsa_page.specs.declared.segment.Segment.{Segment}
use Rattle.vmsa_page.specs.Fields.{Field, segments, numbers, fields, is_within, is_named}
use Rattle.vmsa_page.specs.Vmsas.{VmsaParts}

-- ---- from a VMSA to its page

-- the 16 bytes of a segment
abbrev pub segment_bytes : Segment → List ℕ
segment_bytes s =
    little_bytes 2 s.selector ++ little_bytes 2 s.attributes ++ little_bytes 4 s.limit ++ little_bytes 8 s.base

-- the bytes of each field, in the order of the fields
abbrev pub field_bytes : VmsaParts → List (List ℕ)
field_bytes v = map segment_bytes v.segments ++ map (little_bytes 8) v.numbers

-- the byte at a place by the first field that it lies within, where the fields have these bytes; or
-- else another
abbrev pub byte_by : List Field → List (List ℕ) → ℕ → ℕ → ℕ
byte_by [] bytes at else_ = else_
byte_by (f ∷ fs) [] at else_ = else_
byte_by (f ∷ fs) (bytes ∷ more) at else_ =
    if is_within f at then slice_index bytes (at - f.offset) else byte_by fs more at else_

-- the other byte at a place, or 0
abbrev pub other_at : List OtherByte → ℕ → ℕ
other_at [] at = 0
other_at (o ∷ os) at = if o.at == at then o.byte else other_at os at

-- the byte at a place of the page
unfoldable pub byte_of : VmsaParts → ℕ → ℕ
byte_of v at = byte_by fields (field_bytes v) at (other_at v.other at)

-- the 4,096 bytes
unfoldable pub page_of : VmsaParts → List ℕ
page_of v = map (byte_of v) (range_with_len 0 4096)

-- ---- from a page to its VMSA; where the page ends early, zeros follow

-- the segment that a field holds
abbrev pub segment_of : List ℕ → Field → Segment
segment_of page f =
    record {
      selector = little_from f.offset 2 page;
      attributes = little_from (f.offset + 2) 2 page;
      limit = little_from (f.offset + 4) 4 page;
      base = little_from (f.offset + 8) 8 page;
    }

-- a byte with its place, where it is not 0 and outside the named fields
abbrev pub other_here : ℕ → ℕ → List OtherByte
other_here at byte =
    if not (is_named at) && not (byte == 0) then record { at = at; byte = byte } ∷ [] else []

-- the same of bytes that stand from a place on
abbrev pub others_from : ℕ → List ℕ → List OtherByte
others_from at [] = []
others_from at (byte ∷ bytes) = other_here at byte ++ others_from (at + 1) bytes

-- what the fields hold, and all else
unfoldable pub vmsa_of : List ℕ → VmsaParts
vmsa_of page =
    record {
      segments = map (segment_of page) segments;
      numbers = map (λ f. little_from f.offset 8 page) numbers;
      other = others_from 0 page;
    }
