-- What holds of every file, in words that the reader does not share.
use Rattle.std.specs.Prelude.{◌≡◌, ℕ, ◌+◌, List, take, sum_by, nat_lt, if◌then◌else◌, Some, None, Ok}
use Rattle.std.specs.List.{slice_get}
use Rattle.igvm_headers.specs.Fixed.{fixed_fields, fault_at}
use Rattle.igvm_headers.specs.Pages.{file_body}
use Rattle.igvm_headers.specs.HeaderForm.{header_form}
use Rattle.igvm_headers.specs.declared.header.Header.{Header}
use Rattle.igvm_headers.specs.declared.fault.ReadFault.{ReadFault}
use Rattle.igvm_headers.specs.declared.fault.ReadWhat.TheVariants.{TooShort, TotalSize}
use Rattle.igvm_image.specs.Data.{data_of, data_in}
use Rattle.igvm_image.specs.Pieces.{Piece, size_of}
use Rattle.igvm_image.specs.HeaderRules.{seen_of, rule_fault}
use Rattle.igvm_image.specs.Headers.{PlacedHeader, pieces_of, placed_headers, headers_of}

-- the file offset of piece k: the section's offset and the padded sizes of the pieces before
abbrev pub place_of : List ℕ → ℕ → ℕ
place_of file k = (fixed_fields file).var_offset + sum_by size_of (take k (pieces_of file))

-- header k, which piece p spells, at its place and with its data
abbrev pub header_at : List ℕ → ℕ → Piece → Header → PlacedHeader
header_at file k p header = record {
  index = k;
  at = place_of file k;
  header = header;
  raw = p.content;
  content = data_of file header;
}

-- piece k spells a header, and it is header k of the file
pub record Spells (file : List ℕ) (k : ℕ) (p : Piece) (header : Header) : Type 0 where
  pub form : header_form p.kind p.content ≡ Ok header
  pub placed : slice_get (placed_headers file) k ≡ Some (header_at file k p header)

-- the fault of the first n bytes of an accepted file of more bytes, whose fixed header has that size
abbrev pub cut_fault : ℕ → ℕ → ReadFault
cut_fault size n = if nat_lt n size then fault_at n TooShort else fault_at 16 TotalSize

-- A header of a file of this total size and with this body, as the reader accepts it: it has the form of its type, has
-- its own data, and breaks no rule behind the headers before it.
pub record IsAcceptedHeader (total : ℕ) (body : List ℕ) (before : List Header) (placed : PlacedHeader) : Type 0 where
  pub kind : ℕ
  pub form : header_form kind placed.raw ≡ Ok placed.header
  pub content : placed.content ≡ data_in body placed.header
  pub rules : rule_fault total (seen_of before) placed.header ≡ None

-- header k of a file, behind the k headers before it
abbrev pub IsHeaderOf : List ℕ → ℕ → PlacedHeader → Type 0
IsHeaderOf file k placed =
    IsAcceptedHeader (fixed_fields file).total (file_body file) (take k (headers_of file)) placed
