-- A walk from header to header sees each once.
use Rattle.std.proofs.Common.{◌≡◌, ℕ, zero, suc, ◌+◌, ◌<◌, ◌≤◌, List, [], ◌∷◌, refl, ◌∙◌, sym, ap, arith, true, false, Some, Result, Ok, Err}
use Rattle.std.specs.Prelude.{◌==◌, ◌||◌, cond}
use Rattle.std.specs.List.{slice_get}
use Rattle.std.specs.Option.{ok_or}
use Rattle.igvm_headers.specs.Fixed.{fixed_fields}
use Rattle.igvm_headers.specs.Pages.{file_body}
use Rattle.igvm_headers.specs.HeaderForm.{header_form}
use Rattle.igvm_headers.specs.declared.header.Header.{Header}
use Rattle.igvm_headers.specs.declared.fault.HeaderFault.{HeaderFault}
use Rattle.igvm_image.specs.Pieces.{Piece, size_of}
use Rattle.igvm_image.specs.Headers.{PlacedHeader, placed_from, placed_before, placed_header, placed_headers, pieces_of}
use Rattle.igvm_c.specs.declared.refusal.Refusal.TheVariants.{NoHeader}
use Rattle.igvm_c.specs.Headers.{found_in, followed, header_at, last_header, with_next}
use Rattle.igvm_c.specs.Walk.{offset_or_0, stop}

has_size : (p : Piece) → 0 < size_of p
has_size p = grind arith

-- these headers stand where the first does, or behind it
behind : (body : List ℕ) (index at : ℕ) (ps : List Piece) (k : ℕ) (h : PlacedHeader)
    → slice_get (placed_from body index at ps) k ≡ Some h → at ≤ h.at
unfolding placed_from
behind body index at [] k h is = cc
behind body index at (p ∷ ps) k h is =
    cases k (header_form p.kind p.content) is (λ j there. behind body (suc index) (at + size_of p) ps j h there)
  where
    cases : (k : ℕ) (form : Result Header HeaderFault)
        → slice_get (placed_before (placed_header body index at p) form (placed_from body (suc index) (at + size_of p) ps)) k ≡ Some h
        → ((j : ℕ) → slice_get (placed_from body (suc index) (at + size_of p) ps) j ≡ Some h → at + size_of p ≤ h.at)
        → at ≤ h.at
    cases k (Err fault) is others = cc
    cases zero (Ok header) is others =
        let same : placed_header body index at p header ≡ h = cc in
        let place : at ≡ h.at = ap (λ g. g.at) same in omega (arith, place)
    cases (suc j) (Ok header) is others = omega (arith, others j is)

-- all but the first stand behind it
pub further : (body : List ℕ) (index at : ℕ) (ps : List Piece) (k : ℕ) (h : PlacedHeader)
    → slice_get (placed_from body index at ps) (suc k) ≡ Some h → at < h.at
unfolding placed_from
further body index at [] k h is = cc
further body index at (p ∷ ps) k h is = cases (header_form p.kind p.content) is
  where
    cases : (form : Result Header HeaderFault)
        → slice_get (placed_before (placed_header body index at p) form (placed_from body (suc index) (at + size_of p) ps)) (suc k) ≡ Some h
        → at < h.at
    cases (Err fault) is = cc
    cases (Ok header) is =
        omega (arith, has_size p, behind body (suc index) (at + size_of p) ps k h is)

-- header k has number k, behind the first one's
pub numbered : (body : List ℕ) (index at : ℕ) (ps : List Piece) (k : ℕ) (h : PlacedHeader)
    → slice_get (placed_from body index at ps) k ≡ Some h → h.index ≡ index + k
unfolding placed_from
numbered body index at [] k h is = cc
numbered body index at (p ∷ ps) k h is =
    cases k (header_form p.kind p.content) is (λ j there. numbered body (suc index) (at + size_of p) ps j h there)
  where
    cases : (k : ℕ) (form : Result Header HeaderFault)
        → slice_get (placed_before (placed_header body index at p) form (placed_from body (suc index) (at + size_of p) ps)) k ≡ Some h
        → ((j : ℕ) → slice_get (placed_from body (suc index) (at + size_of p) ps) j ≡ Some h → h.index ≡ suc index + j)
        → h.index ≡ index + k
    cases k (Err fault) is others = cc
    cases zero (Ok header) is others =
        let same : placed_header body index at p header ≡ h = cc in
        let number : index ≡ h.index = ap (λ g. g.index) same in omega (arith, number)
    cases (suc j) (Ok header) is others = omega (arith, others j is)

followed_is : (h : PlacedHeader) (rest : List PlacedHeader)
    → followed (last_header h) rest ≡ with_next (last_header h) (offset_or_0 (slice_get rest 0))
followed_is h [] = refl
followed_is h (g ∷ rest) = refl

found_first : (at : ℕ) (h : PlacedHeader) (rest : List PlacedHeader) → ((at == 0) || (h.at == at)) ≡ true
    → found_in at (h ∷ rest) ≡ Some (followed (last_header h) rest)
unfolding found_in
found_first at h rest here = ap (λ b. cond b (Some (followed (last_header h) rest)) (found_in at rest)) here

found_later : (at : ℕ) (h : PlacedHeader) (rest : List PlacedHeader) → ((at == 0) || (h.at == at)) ≡ false
    → found_in at (h ∷ rest) ≡ found_in at rest
unfolding found_in
found_later at h rest there = ap (λ b. cond b (Some (followed (last_header h) rest)) (found_in at rest)) there

here_is : (at : ℕ) → ((at == 0) || (at == at)) ≡ true
here_is at = grind arith

there_is : (at place : ℕ) → place < at → ((at == 0) || (place == at)) ≡ false
there_is at place past = grind (arith, past)

-- each header is found at its place
found_at : (body : List ℕ) (index at : ℕ) (ps : List Piece) (k : ℕ) (h : PlacedHeader)
    → slice_get (placed_from body index at ps) k ≡ Some h
    → found_in h.at (placed_from body index at ps)
    ≡ Some (with_next (last_header h) (offset_or_0 (slice_get (placed_from body index at ps) (suc k))))
unfolding placed_from
found_at body index at [] k h is = cc
found_at body index at (p ∷ ps) k h is =
    cases k (header_form p.kind p.content) is (λ j there. found_at body (suc index) (at + size_of p) ps j h there)
  where
    others : List PlacedHeader
    others = placed_from body (suc index) (at + size_of p) ps

    all : Result Header HeaderFault → List PlacedHeader
    all form = placed_before (placed_header body index at p) form others

    cases : (k : ℕ) (form : Result Header HeaderFault) → slice_get (all form) k ≡ Some h
        → ((j : ℕ) → slice_get others j ≡ Some h
        → found_in h.at others ≡ Some (with_next (last_header h) (offset_or_0 (slice_get others (suc j)))))
        → found_in h.at (all form) ≡ Some (with_next (last_header h) (offset_or_0 (slice_get (all form) (suc k))))
    cases k (Err fault) is later = cc
    cases zero (Ok header) is later =
        let same : placed_header body index at p header ≡ h = cc in
        ap (λ g. found_in h.at (g ∷ others)) same ∙ found_first h.at h others (here_is h.at) ∙ ap Some (followed_is h others)
    cases (suc j) (Ok header) is later =
        found_later h.at (placed_header body index at p header) others
        (there_is h.at at (omega (arith, has_size p, behind body (suc index) (at + size_of p) ps j h is)))
        ∙ later j is

pub walk_first : (file : List ℕ) (h : PlacedHeader) → slice_get (placed_headers file) 0 ≡ Some h
    → header_at file 0 ≡ header_at file h.at
walk_first file h is = ap (λ f. ok_or f NoHeader) (cases (placed_headers file) is)
  where
    cases : (hs : List PlacedHeader) → slice_get hs 0 ≡ Some h → found_in 0 hs ≡ found_in h.at hs
    cases [] is = cc
    cases (g ∷ rest) is =
        let same : g ≡ h = cc in
        found_first 0 g rest refl
        ∙ sym (ap (λ f. found_in h.at (f ∷ rest)) same ∙ found_first h.at h rest (here_is h.at) ∙ ap (λ f. Some (followed (last_header f) rest)) (sym same))

pub walk_each : (file : List ℕ) (k : ℕ) (h : PlacedHeader) → slice_get (placed_headers file) k ≡ Some h
    → header_at file h.at ≡ Ok (stop file k h)
walk_each file k h is =
    ap (λ f. ok_or f NoHeader) (found_at (file_body file) 0 (fixed_fields file).var_offset (pieces_of file) k h is)

pub walk_more : (file : List ℕ) (k : ℕ) (h : PlacedHeader) → slice_get (placed_headers file) (suc k) ≡ Some h → 0 < h.at
walk_more file k h is =
    omega (arith, further (file_body file) 0 (fixed_fields file).var_offset (pieces_of file) k h is)

pub walk_numbers : (file : List ℕ) (k : ℕ) (h : PlacedHeader) → slice_get (placed_headers file) k ≡ Some h → h.index ≡ k
walk_numbers file k h is =
    omega (arith, numbered (file_body file) 0 (fixed_fields file).var_offset (pieces_of file) k h is)
