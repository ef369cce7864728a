-- A variable header section as headers in a row: type, length, content, and padding to a multiple of 8.
use Rattle.std.specs.Prelude.{ℕ, zero, suc, ◌+◌, ◌*◌, ◌/◌, List, [], ◌∷◌, length, drop, nat_le, ◌&&◌, Bool, if◌then◌else◌, Option, Some, None}
use Rattle.igvm_headers.specs.Numbers.{number_at, slice}

-- a type and a content
pub record Piece : Type 0 where
  pub kind : ℕ
  pub content : List ℕ

-- the bytes behind which the next header begins: 8 and the content, raised to a multiple of 8
abbrev pub padded_size : ℕ → ℕ
padded_size n = (8 + n + 7) / 8 * 8

abbrev pub size_of : Piece → ℕ
size_of p = padded_size (length p.content)

-- a whole type, length and content stand at the front
abbrev pub begins : List ℕ → Bool
begins section = nat_le 8 (length section) && nat_le (8 + number_at 4 4 section) (length section)

-- the first type and content
abbrev pub first_piece : List ℕ → Piece
first_piece section = record { kind = number_at 4 0 section; content = slice section 8 (number_at 4 4 section) }

-- the first header, and what stands behind its padding
unfoldable pub piece_at : List ℕ → Option (Piece × List ℕ)
piece_at section =
    if begins section then Some (first_piece section, drop (padded_size (number_at 4 4 section)) section) else None

-- the headers in a row, as many as stand whole; a number bounds how many are looked for
abbrev pub piece_before : Option (Piece × List ℕ) → (List ℕ → List Piece) → List Piece
piece_before None others = []
piece_before (Some found) others = found.0 ∷ others found.1

unfoldable pub pieces_within : ℕ → List ℕ → List Piece
pieces_within zero section = []
pieces_within (suc n) section = piece_before (piece_at section) (pieces_within n)

abbrev pub cut_before : List ℕ → Option (Piece × List ℕ) → (List ℕ → List ℕ) → List ℕ
cut_before section None others = section
cut_before section (Some found) others = others found.1

unfoldable pub cut_within : ℕ → List ℕ → List ℕ
cut_within zero section = section
cut_within (suc n) section = cut_before section (piece_at section) (cut_within n)

-- the headers of a section, and what is left where no whole header stands; a header takes at least 8 bytes
abbrev pub pieces : List ℕ → List Piece
pieces section = pieces_within (length section) section

abbrev pub cut : List ℕ → List ℕ
cut section = cut_within (length section) section
