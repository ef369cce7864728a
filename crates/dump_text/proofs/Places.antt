-- Where a header stands among those of a file: its number counts the headers before it.
use Rattle.std.proofs.Common.{◌≡◌, ℕ, suc, ◌+◌, List, [], ◌∷◌, ◌++◌, length, map, take, refl, sym, ap, ◌∙◌, add-zero, arith, Result, Ok, Err}
use Rattle.std.proofs.lemmas.List.{length-map, map-append}
use Rattle.std.proofs.Math.Seq.{take-append_seam}
use Rattle.igvm_headers.specs.HeaderForm.{header_form}
use Rattle.igvm_headers.specs.declared.header.Header.{Header}
use Rattle.igvm_headers.specs.declared.fault.HeaderFault.{HeaderFault}
use Rattle.igvm_image.specs.Pieces.{Piece, size_of}
use Rattle.igvm_image.specs.Headers.{PlacedHeader, placed_header, placed_before, placed_from, placed_headers, headers_of}

index_step : (place : Header → PlacedHeader) (index : ℕ) (form : Result Header HeaderFault) (others before : List PlacedHeader) (p : PlacedHeader) (left : List PlacedHeader)
    → ((h : Header) → (place h).index ≡ index)
    → ((xs : List PlacedHeader) → others ≡ xs ++ p ∷ left → p.index ≡ suc index + length xs)
    → placed_before place form others ≡ before ++ p ∷ left → p.index ≡ index + length before
index_step place index (Err fault) others [] p left here later e = cc
index_step place index (Err fault) others (x ∷ xs) p left here later e = cc
index_step place index (Ok h) others [] p left here later e =
    let same : place h ≡ p = cc in
    sym (ap (λ (q : PlacedHeader). q.index) same) ∙ here h ∙ sym (add-zero index)
index_step place index (Ok h) others (x ∷ xs) p left here later e =
    let tail : others ≡ xs ++ p ∷ left = cc in
    omega (arith, later xs tail)

index_from : (body : List ℕ) (index at : ℕ) (ps : List Piece) (before : List PlacedHeader) (p : PlacedHeader) (left : List PlacedHeader)
    → placed_from body index at ps ≡ before ++ p ∷ left → p.index ≡ index + length before
unfolding placed_from
index_from body index at [] [] p left e = cc
index_from body index at [] (x ∷ xs) p left e = cc
index_from body index at (q ∷ qs) before p left e =
    index_step (placed_header body index at q) index (header_form q.kind q.content) (placed_from body (suc index) (at + size_of q) qs) before p left
    (λ h. refl) (λ xs h. index_from body (suc index) (at + size_of q) qs xs p left h) e

-- a header's number is that of the headers before it
pub index_is : (file : List ℕ) (before : List PlacedHeader) (p : PlacedHeader) (left : List PlacedHeader)
    → before ++ p ∷ left ≡ placed_headers file → p.index ≡ length before
index_is file before p left e = omega (arith, index_from _ 0 _ _ before p left (sym e))

taken : (f : PlacedHeader → Header) (before : List PlacedHeader) (p : PlacedHeader) (left : List PlacedHeader)
    → take (length before) (map f (before ++ p ∷ left)) ≡ map f before
taken f before p left =
    ap (λ hs. take (length before) hs) (map-append f before (p ∷ left))
    ∙ ap (λ n. take n (map f before ++ map f (p ∷ left))) (sym (length-map before f))
    ∙ take-append_seam (map f before) (map f (p ∷ left))

-- the headers of lower numbers
pub lower_headers : (file : List ℕ) (before : List PlacedHeader) (p : PlacedHeader) (left : List PlacedHeader)
    → before ++ p ∷ left ≡ placed_headers file → take p.index (headers_of file) ≡ map (λ q. q.header) before
lower_headers file before p left e =
    ap (λ n. take n (headers_of file)) (index_is file before p left e)
    ∙ ap (λ ps. take (length before) (map (λ q. q.header) ps)) (sym e)
    ∙ taken (λ q. q.header) before p left
