-- Each piece of an accepted file is a header.
use Rattle.std.proofs.Common.{◌≡◌, ℕ, zero, suc, ◌+◌, List, [], ◌∷◌, ◌++◌, length, refl, ◌∙◌, ap, ap₂, subst, arith, Some, None, Result, Ok, Err, take}
use Rattle.std.specs.Prelude.{sum_by}
use Rattle.std.specs.List.{slice_get}
use Rattle.std.proofs.lemmas.List.Sums.{sum_by-cons}
use Rattle.igvm_headers.specs.Fixed.{fixed_fields}
use Rattle.igvm_headers.specs.Pages.{file_body}
use Rattle.igvm_headers.specs.HeaderForm.{header_form}
use Rattle.igvm_headers.specs.declared.header.Header.{Header}
use Rattle.igvm_headers.specs.declared.fault.ReadWhat.{ReadWhat}
use Rattle.igvm_image.specs.Pieces.{Piece, size_of, cut}
use Rattle.igvm_image.specs.HeaderRules.{seen_of}
use Rattle.igvm_image.specs.FileFault.{judged, headers_fault, unless_fault, section_of}
use Rattle.igvm_image.specs.Headers.{IsAccepted, placed_from, placed_before, placed_header, placed_headers, pieces_of}
use Rattle.igvm_image.specs.HeadersOfFile.{Spells}
use Rattle.igvm_image.specs.AcceptedLaws.{accepted_is, judged_ok}

-- each of these pieces decodes
unfoldable AllDecode : List Piece → Type 0
AllDecode [] = Unit {0}
AllDecode (p ∷ ps) = ((header : Header) × (header_form p.kind p.content ≡ Ok header)) × AllDecode ps

-- pieces among which the reader finds no fault decode
no_fault-decode : (total start at : ℕ) (before : List Header) (ps : List Piece) (rest : List ℕ)
    → headers_fault total start at before ps rest ≡ None → AllDecode ps
unfolding AllDecode headers_fault
no_fault-decode total start at before [] rest h = tt
no_fault-decode total start at before (p ∷ ps) rest h =
    cases (judged total (seen_of before) p) refl h
    (λ header. no_fault-decode total start (at + size_of p) (before ++ header ∷ []) ps rest)
  where
    cases : (j : Result Header ReadWhat) → judged total (seen_of before) p ≡ j
        → unless_fault at j (λ header. headers_fault total start (at + size_of p) (before ++ header ∷ []) ps rest) ≡ None
        → ((header : Header) → headers_fault total start (at + size_of p) (before ++ header ∷ []) ps rest ≡ None → AllDecode ps)
        → AllDecode (p ∷ ps)
    cases (Err what) same h later = cc
    cases (Ok header) same h later = ((header, (judged_ok total (seen_of before) p header same).form), later header h)

-- the list of the placed headers, where the first decodes
placed_from-cons : (body : List ℕ) (index at : ℕ) (p : Piece) (ps : List Piece) (header : Header) → header_form p.kind p.content ≡ Ok header
    → placed_from body index at (p ∷ ps) ≡ placed_header body index at p header ∷ placed_from body (suc index) (at + size_of p) ps
unfolding placed_from
placed_from-cons body index at p ps header good =
    ap (λ form. placed_before (placed_header body index at p) form (placed_from body (suc index) (at + size_of p) ps)) good

placed_from-length : (body : List ℕ) (index at : ℕ) (ps : List Piece) → AllDecode ps → length (placed_from body index at ps) ≡ length ps
unfolding AllDecode placed_from
placed_from-length body index at [] all = refl
placed_from-length body index at (p ∷ ps) all =
    ap length (placed_from-cons body index at p ps all.0.0 all.0.1)
    ∙ ap suc (placed_from-length body (suc index) (at + size_of p) ps all.1)

-- piece k decodes, and is placed there
placed_from-at : (body : List ℕ) (index at : ℕ) (ps : List Piece) (k : ℕ) (p : Piece) → AllDecode ps → slice_get ps k ≡ Some p
    → (header : Header) × (header_form p.kind p.content ≡ Ok header)
    × (slice_get (placed_from body index at ps) k ≡ Some (placed_header body (index + k) (at + sum_by size_of (take k ps)) p header))
unfolding AllDecode placed_from
placed_from-at body index at [] k p all h = cc
placed_from-at body index at (q ∷ ps) zero p all h =
    let same : q ≡ p = cc in
    let header = all.0.0 in (
      header,
      subst (λ (r : Piece). header_form r.kind r.content ≡ Ok header) same all.0.1,
      ap (λ hs. slice_get hs 0) (placed_from-cons body index at q ps header all.0.1)
          ∙ ap (λ r. Some (placed_header body index at r header)) same
          ∙ ap₂ (λ i a. Some (placed_header body i a p header)) (omega arith) (omega arith),
    )
placed_from-at body index at (q ∷ ps) (suc k) p all h =
    let later = placed_from-at body (suc index) (at + size_of q) ps k p all.1 h in (
      later.0,
      later.1,
      ap (λ hs. slice_get hs (suc k)) (placed_from-cons body index at q ps all.0.0 all.0.1)
          ∙ later.2
          ∙ ap₂ (λ i a. Some (placed_header body i a p later.0)) (omega arith) (omega (arith, sum_by-cons size_of q (take k ps))),
    )

decode : (file : List ℕ) → IsAccepted file → AllDecode (pieces_of file)
decode file h =
    no_fault-decode (fixed_fields file).total (fixed_fields file).var_offset (fixed_fields file).var_offset []
    (pieces_of file) (cut (section_of file (fixed_fields file))) (accepted_is file h).headers

pub headers_as_many : (file : List ℕ) → IsAccepted file → length (placed_headers file) ≡ length (pieces_of file)
headers_as_many file h =
    placed_from-length (file_body file) 0 (fixed_fields file).var_offset (pieces_of file) (decode file h)

pub headers_each : (file : List ℕ) (k : ℕ) (p : Piece) → IsAccepted file → slice_get (pieces_of file) k ≡ Some p
    → (header : Header) × Spells file k p header
headers_each file k p h here =
    let placed = placed_from-at (file_body file) 0 (fixed_fields file).var_offset (pieces_of file) k p (decode file h) here in (
      placed.0,
      record {
        form = placed.1;
        placed = placed.2 ∙ ap (λ i. Some (placed_header (file_body file) i ((fixed_fields file).var_offset + sum_by size_of (take k (pieces_of file))) p placed.0)) (omega arith);
      },
    )
