-- The headers of a file, in file order.
use Rattle.std.specs.Prelude.{◌≡◌, ℕ, suc, ◌+◌, List, [], ◌∷◌, map, None, Result, Ok, Err}
use Rattle.igvm_headers.specs.Pages.{file_body}
use Rattle.igvm_headers.specs.HeaderForm.{header_form}
use Rattle.igvm_headers.specs.Fixed.{fixed_fields}
use Rattle.igvm_headers.specs.declared.header.Header.{Header}
use Rattle.igvm_headers.specs.declared.fault.HeaderFault.{HeaderFault}
use Rattle.igvm_image.specs.Data.{Data, data_in}
use Rattle.igvm_image.specs.Pieces.{Piece, size_of, pieces}
use Rattle.igvm_image.specs.FileFault.{fault_of, section_of}

-- a file that breaks no rule
abbrev pub IsAccepted : List ℕ → Type 0
IsAccepted file = fault_of file ≡ None

-- a header, its number, its file offset, its content in the file, and its data
pub record PlacedHeader : Type 0 where
  pub index : ℕ
  pub at : ℕ
  pub header : Header
  pub raw : List ℕ
  pub content : Data

abbrev pub placed_header : List ℕ → ℕ → ℕ → Piece → Header → PlacedHeader
placed_header body index at p header = record {
  index = index;
  at = at;
  header = header;
  raw = p.content;
  content = data_in body header;
}

abbrev pub placed_before : (Header → PlacedHeader) → Result Header HeaderFault → List PlacedHeader → List PlacedHeader
placed_before place (Ok header) others = place header ∷ others
placed_before place (Err fault) others = []

-- these headers in a file's body, the first of them with this number and at this file offset
unfoldable pub placed_from : List ℕ → ℕ → ℕ → List Piece → List PlacedHeader
placed_from body index at [] = []
placed_from body index at (p ∷ ps) =
    placed_before (placed_header body index at p) (header_form p.kind p.content)
    (placed_from body (suc index) (at + size_of p) ps)

-- the headers of these pieces, as far as they decode
abbrev pub decoded_before : Result Header HeaderFault → List Header → List Header
decoded_before (Ok header) others = header ∷ others
decoded_before (Err fault) others = []

unfoldable pub decoded : List Piece → List Header
decoded [] = []
decoded (p ∷ ps) = decoded_before (header_form p.kind p.content) (decoded ps)

-- the pieces of a file's section
abbrev pub pieces_of : List ℕ → List Piece
pieces_of file = pieces (section_of file (fixed_fields file))

-- the headers of a file
abbrev pub placed_headers : List ℕ → List PlacedHeader
placed_headers file = placed_from (file_body file) 0 (fixed_fields file).var_offset (pieces_of file)

abbrev pub headers_of : List ℕ → List Header
headers_of file = map (λ placed. placed.header) (placed_headers file)
