-- The numbers of a file's headers fit their fields where the file is bytes.
use Rattle.std.proofs.Common.{◌≡◌, ℕ, zero, suc, ◌+◌, ◌<◌, ◌^◌, List, [], ◌∷◌, length, take, drop, refl, arith, Bool, true, false, Some, None, Result, Ok, Err}
use Rattle.std.specs.Prelude.{if◌then◌else◌}
use Rattle.std.specs.List.{AllByRecursion}
use Rattle.std.proofs.lemmas.List.{get_or-drop, length-take}
use Rattle.byteorder.specs.Numbers.{little_from-lt}
use Rattle.igvm_headers.specs.Numbers.{number_at}
use Rattle.igvm_headers.specs.Fixed.{fixed_fields}
use Rattle.igvm_headers.specs.Pages.{file_body}
use Rattle.igvm_headers.specs.HeaderForm.{header_form}
use Rattle.igvm_headers.specs.HeaderFacts.{header_tail}
use Rattle.igvm_headers.specs.SpellingConditions.{IsRead, IsSpellable, NumbersFit}
use Rattle.igvm_headers.specs.declared.header.Header.{Header}
use Rattle.igvm_headers.specs.declared.fault.HeaderFault.{HeaderFault}
use Rattle.igvm_image.specs.PagesFit.{AreBytes}
use Rattle.igvm_image.specs.Pieces.{Piece, begins, first_piece, padded_size, size_of, piece_at, piece_before, pieces_within}
use Rattle.igvm_image.specs.FileFault.{section_of}
use Rattle.igvm_image.specs.Headers.{placed_from, placed_before, placed_header, placed_headers}

taken : (n : ℕ) (xs : List ℕ) → AreBytes xs → AreBytes (take n xs)
taken zero xs bytes k = omega arith
taken (suc n) [] bytes k = bytes k
taken (suc n) (x ∷ xs) bytes zero = bytes 0
taken (suc n) (x ∷ xs) bytes (suc k) = taken n xs (λ j. bytes (suc j)) k

dropped : (n : ℕ) (xs : List ℕ) → AreBytes xs → AreBytes (drop n xs)
dropped n xs bytes k = rw get_or-drop (bytes (n + k))

number_fits : (n at : ℕ) (xs : List ℕ) → AreBytes xs → number_at n at xs < 256 ^ n
number_fits n at xs bytes = little_from-lt 0 n (drop at xs) (dropped at xs bytes)

-- a piece of a section of bytes
record IsBytePiece (p : Piece) : Type 0 where
  pub kind : p.kind < 2 ^ 32
  pub size : length p.content < 2 ^ 32
  pub bytes : AreBytes p.content

first_bytes : (section : List ℕ) → AreBytes section → IsBytePiece (first_piece section)
first_bytes section bytes =
    let n = number_at 4 4 section in
    let fits : n < 2 ^ 32 = number_fits 4 4 section bytes in
    record {
      kind = number_fits 4 0 section bytes;
      size = omega (arith, length-take n (drop 8 section));
      bytes = taken n (drop 8 section) (dropped 8 section bytes);
    }

pieces_bytes : (n : ℕ) (section : List ℕ) → AreBytes section → AllByRecursion IsBytePiece (pieces_within n section)
unfolding pieces_within piece_at
pieces_bytes zero section bytes = tt
pieces_bytes (suc n) section bytes =
    cases (begins section) (pieces_bytes n (drop (padded_size (number_at 4 4 section)) section) (dropped _ section bytes))
  where
    cases : (b : Bool) → AllByRecursion IsBytePiece (pieces_within n (drop (padded_size (number_at 4 4 section)) section))
        → AllByRecursion IsBytePiece (piece_before (if b then Some (first_piece section, drop (padded_size (number_at 4 4 section)) section) else None) (pieces_within n))
    cases true others = (first_bytes section bytes, others)
    cases false others = tt

abbrev ReadIsSpellable : Type 0
ReadIsSpellable = (kind : ℕ) (content : List ℕ) (h : Header) → IsRead kind content h → IsSpellable h (header_tail h content)

placed_numbers : ReadIsSpellable → (body : List ℕ) (index at : ℕ) (ps : List Piece) → AllByRecursion IsBytePiece ps
    → AllByRecursion (λ p. NumbersFit p.header) (placed_from body index at ps)
unfolding placed_from
placed_numbers law body index at [] all = tt
placed_numbers law body index at (p ∷ ps) all =
    cases (header_form p.kind p.content) refl (placed_numbers law body (suc index) (at + size_of p) ps all.1)
  where
    cases : (form : Result Header HeaderFault) → header_form p.kind p.content ≡ form
        → AllByRecursion (λ p. NumbersFit p.header) (placed_from body (suc index) (at + size_of p) ps)
        → AllByRecursion (λ p. NumbersFit p.header) (placed_before (placed_header body index at p) form (placed_from body (suc index) (at + size_of p) ps))
    cases (Ok header) is others =
        ((law p.kind p.content header (record { kind_fits = all.0.kind; size_fits = all.0.size; bytes = all.0.bytes; form = is })).numbers, others)
    cases (Err fault) is others = tt

pub numbers_fit : ReadIsSpellable → (file : List ℕ) → AreBytes file → AllByRecursion (λ p. NumbersFit p.header) (placed_headers file)
numbers_fit law file bytes =
    let fixed = fixed_fields file in
    placed_numbers law (file_body file) 0 fixed.var_offset _
    (pieces_bytes _ (section_of file fixed) (taken fixed.var_size (drop fixed.var_offset file) (dropped fixed.var_offset file bytes)))
