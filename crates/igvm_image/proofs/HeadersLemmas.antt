-- The headers of a section, one after the other.
use Rattle.std.proofs.Common.{◌≡◌, ℕ, zero, suc, ◌+◌, ◌-◌, ◌*◌, ◌<◌, ◌≤◌, List, [], ◌∷◌, length, map, refl, sym, ◌∙◌, ap, add-one, arith, Option, Some, None, Result, Ok, Err}
use Rattle.std.proofs.lemmas.List.{length-drop}
use Rattle.igvm_headers.specs.HeaderForm.{header_form}
use Rattle.igvm_headers.specs.Fixed.{fixed_form, fixed_fields}
use Rattle.igvm_headers.specs.Pages.{file_body}
use Rattle.igvm_headers.specs.declared.header.Header.{Header}
use Rattle.igvm_headers.specs.declared.fault.HeaderFault.{HeaderFault}
use Rattle.igvm_headers.specs.declared.fixed.FixedHeader.{FixedHeader}
use Rattle.igvm_image.specs.Pieces.{Piece, piece_at, pieces, pieces_within, size_of}
use Rattle.igvm_image.specs.Headers.{placed_from, placed_before, placed_header, decoded, decoded_before, headers_of, pieces_of}
use Rattle.igvm_image.specs.AcceptedLaws.{fixed_form-fields}
use Rattle.igvm_image.proofs.PiecesLemmas.{pieces-end, pieces-step, piece_at-shorter, piece_at-empty, pieces_within-none, pieces_within-some}
use Rattle.igvm_image.specs.FileFault.{fault_of, fields_fault, faults_behind, fault_or, section_fault, section_of}
use Rattle.igvm_image.proofs.Walking.{piece_at-behind}

-- no more headers than pieces
placed_from-few : (body : List ℕ) (index at : ℕ) (ps : List Piece) → length (placed_from body index at ps) ≤ length ps
unfolding placed_from
placed_from-few body index at [] = omega arith
placed_from-few body index at (p ∷ ps) =
    cases (header_form p.kind p.content) (placed_from-few body (suc index) (at + size_of p) ps)
  where
    cases : (form : Result Header HeaderFault) → length (placed_from body (suc index) (at + size_of p) ps) ≤ length ps
        → length (placed_before (placed_header body index at p) form (placed_from body (suc index) (at + size_of p) ps)) ≤ suc (length ps)
    cases (Ok header) h = omega arith
    cases (Err fault) h = omega arith

-- a piece takes at least 8 bytes
pieces_within-few : (n : ℕ) (s : List ℕ) (found : Option (Piece × List ℕ)) → piece_at s ≡ found → 8 * length (pieces_within n s) ≤ length s
unfolding pieces_within
pieces_within-few zero s found h = omega arith
pieces_within-few (suc n) s None h = let none = ap length (pieces_within-none (suc n) s h) in omega arith
pieces_within-few (suc n) s (Some (p, r)) h =
    let less = piece_at-shorter s p r h in
    let some = ap length (pieces_within-some n s p r h) in
    let rest = pieces_within-few n r (piece_at r) refl in
    omega arith

-- a section's headers are at most an eighth of its bytes
pub placed_few : (body : List ℕ) (index at : ℕ) (s : List ℕ) → 8 * length (placed_from body index at (pieces s)) ≤ length s
placed_few body index at s =
    let fewer = placed_from-few body index at (pieces s) in
    let few = pieces_within-few (length s) s (piece_at s) refl in
    omega arith

-- where no piece stands whole
pub placed_end : (body : List ℕ) (index at : ℕ) (s : List ℕ) → piece_at s ≡ None → placed_from body index at (pieces s) ≡ []
unfolding placed_from
placed_end body index at s none = ap (placed_from body index at) (pieces-end s none)

pub placed_nothing : (body : List ℕ) (index at : ℕ) → placed_from body index at (pieces []) ≡ []
placed_nothing body index at = placed_end body index at [] piece_at-empty

-- where a piece is no header
pub placed_stop : (body : List ℕ) (index at : ℕ) (s : List ℕ) (p : Piece) (r : List ℕ) (fault : HeaderFault)
    → piece_at s ≡ Some (p, r) → header_form p.kind p.content ≡ Err fault → placed_from body index at (pieces s) ≡ []
unfolding placed_from
placed_stop body index at s p r fault found bad =
    ap (placed_from body index at) (pieces-step s p r found)
    ∙ ap (λ form. placed_before (placed_header body index at p) form (placed_from body (suc index) (at + size_of p) (pieces r))) bad

-- the place does not matter where nothing is left
placed_at : (body : List ℕ) (index at at' : ℕ) (s : List ℕ) → (0 < length s → at ≡ at')
    → placed_from body index at (pieces s) ≡ placed_from body index at' (pieces s)
placed_at body index at at' [] h = placed_nothing body index at ∙ sym (placed_nothing body index at')
placed_at body index at at' (b ∷ s) h = ap (λ a. placed_from body index a (pieces (b ∷ s))) (h (omega arith))

-- one header, and those behind it
pub placed_step : (body : List ℕ) (index at : ℕ) (s : List ℕ) (p : Piece) (r : List ℕ) (header : Header)
    → piece_at s ≡ Some (p, r) → header_form p.kind p.content ≡ Ok header
    → placed_from body index at (pieces s) ≡ placed_header body index at p header ∷ placed_from body (index + 1) (at + (length s - length r)) (pieces r)
unfolding placed_from
placed_step body index at s p r header found good =
    let shorter = piece_at-shorter s p r found in
    let behind = ap length (piece_at-behind s p r found) ∙ length-drop (size_of p) s in
    ap (placed_from body index at) (pieces-step s p r found)
    ∙ ap (λ form. placed_before (placed_header body index at p) form (placed_from body (suc index) (at + size_of p) (pieces r))) good
    ∙ ap (λ hs. placed_header body index at p header ∷ hs)
    (ap (λ i. placed_from body i (at + size_of p) (pieces r)) (sym (add-one index)) ∙ placed_at body (index + 1) (at + size_of p) (at + (length s - length r)) r (λ some. omega arith))

-- the placed headers are those that decode
pub map-placed_from : (body : List ℕ) (index at : ℕ) (ps : List Piece) → map (λ placed. placed.header) (placed_from body index at ps) ≡ decoded ps
unfolding placed_from decoded
map-placed_from body index at [] = refl
map-placed_from body index at (p ∷ ps) =
    cases (header_form p.kind p.content) (map-placed_from body (suc index) (at + size_of p) ps)
  where
    cases : (form : Result Header HeaderFault) → map (λ placed. placed.header) (placed_from body (suc index) (at + size_of p) ps) ≡ decoded ps
        → map (λ placed. placed.header) (placed_before (placed_header body index at p) form (placed_from body (suc index) (at + size_of p) ps))
        ≡ decoded_before form (decoded ps)
    cases (Ok header) h = ap (λ hs. header ∷ hs) h
    cases (Err fault) h = refl

-- the fault of a file whose fixed header keeps the rules is that of its headers
pub fault_of-section : (file : List ℕ) (fixed : FixedHeader) → fixed_form file ≡ Ok fixed → fields_fault file fixed ≡ None
    → fault_of file ≡ section_fault fixed.total fixed.var_offset (section_of file fixed)
unfolding fault_of
fault_of-section file fixed read kept =
    ap (faults_behind file) read ∙ ap (λ first. fault_or first (section_fault fixed.total fixed.var_offset (section_of file fixed))) kept

-- the headers of a file are those that its section's pieces decode to
pub decoded-headers_of : (file section : List ℕ) (fixed : FixedHeader) → fixed_form file ≡ Ok fixed → section ≡ section_of file fixed
    → decoded (pieces section) ≡ headers_of file
decoded-headers_of file section fixed read same =
    ap (λ s. decoded (pieces s)) same
    ∙ ap (λ f. decoded (pieces (section_of file f))) (fixed_form-fields file fixed read)
    ∙ sym (map-placed_from (file_body file) 0 (fixed_fields file).var_offset (pieces_of file))
