-- The headers of an accepted file fit.
use Rattle.std.proofs.Common.{◌≡◌, ℕ, suc, ◌+◌, ◌%◌, ◌^◌, ◌≤◌, List, [], ◌∷◌, ◌++◌, refl, sym, ◌∙◌, ap, subst, append_assoc, arith, Bool, true, false, cond, not, Option, Some, None, Result, Ok, Err}
use Rattle.std.specs.Prelude.{if◌then◌else◌, ◌==◌, unwrap_or, is_none, find}
use Rattle.std.specs.List.{AllByRecursion}
use Rattle.std.specs.Option.{option_map, option_to_list}
use Rattle.std.proofs.lemmas.Bool.{ltb-false}
use Rattle.igvm_headers.specs.HeaderForm.{header_form}
use Rattle.igvm_headers.specs.declared.header.Header.{Header}
use Rattle.igvm_headers.specs.declared.header.Header.TheVariants.{Page, Insert}
use Rattle.igvm_headers.specs.declared.fault.HeaderFault.{HeaderFault}
use Rattle.igvm_headers.specs.declared.fault.ReadFault.{ReadFault}
use Rattle.igvm_headers.specs.Fixed.{fixed_fields}
use Rattle.igvm_headers.specs.Pages.{file_body}
use Rattle.igvm_headers.specs.declared.fault.ReadWhat.{ReadWhat}
use Rattle.igvm_image.specs.declared.area_table.AreaEntry.{AreaEntry}
use Rattle.igvm_image.specs.Areas.{areas_of, area_entry, area_size}
use Rattle.igvm_image.specs.Pieces.{Piece, size_of, cut}
use Rattle.igvm_image.specs.HeaderRules.{Seen, seen_of}
use Rattle.igvm_image.specs.FileFault.{judged, headers_fault, unless_fault, section_of}
use Rattle.igvm_image.specs.Headers.{PlacedHeader, IsAccepted, placed_from, placed_before, placed_header, decoded, decoded_before, headers_of, placed_headers, pieces_of}
use Rattle.igvm_image.specs.PagesFit.{PagesFit}
use Rattle.igvm_image.specs.RulesLaws.{KeepsRules, keeps_rules}
use Rattle.igvm_image.specs.AcceptedLaws.{accepted_is, judged_ok}
use Rattle.igvm_image.proofs.HeadersLemmas.{map-placed_from}
use Rattle.igvm_image.proofs.RulesLemmas.{areas_of-push, areas_of-cons}

-- an area that is declared keeps its size where more are
area_size-append : (areas more : List AreaEntry) (area : ℕ) → is_none (area_size areas area) ≡ false → area_size (areas ++ more) area ≡ area_size areas area
area_size-append [] more area known = cc
area_size-append (entry ∷ areas) more area known =
    by_test (entry.area == area) known (λ rest. area_size-append areas more area rest)
  where
    by_test : (b : Bool)
        → is_none (option_map (λ (e : AreaEntry). e.bytes) (cond b (Some entry) (find (λ e. e.area == area) areas))) ≡ false
        → (is_none (area_size areas area) ≡ false → area_size (areas ++ more) area ≡ area_size areas area)
        → option_map (λ (e : AreaEntry). e.bytes) (cond b (Some entry) (find (λ e. e.area == area) (areas ++ more)))
        ≡ option_map (λ (e : AreaEntry). e.bytes) (cond b (Some entry) (find (λ e. e.area == area) areas))
    by_test true known rest = refl
    by_test false known rest = rest known

is_zero : (n : ℕ) → not (n == 0) ≡ false → n ≡ 0
is_zero n h = grind arith

-- a header fits among all areas, the first of which stand before it
fits : (total : ℕ) (seen : Seen) (more : List AreaEntry) (h : Header) → KeepsRules total seen h → PagesFit (seen.areas ++ more) h
fits total seen more (Page gpa mask offset large unmeasured kind) rules = is_zero (gpa % (if large then 2097152 else 4096)) rules.align
fits total seen more (Insert gpa mask area) rules =
    let same = area_size-append seen.areas more area rules.unknown in
    let small = ltb-false (2 ^ 64) (gpa + unwrap_or (area_size seen.areas area) 0) rules.wrap in
    (is_zero (gpa % 4096) rules.align, subst (λ (size : Option ℕ). gpa + unwrap_or size 0 ≤ 2 ^ 64) (sym same) small)
fits total seen more _ rules = tt

-- one header, where those behind it fit
fits_next : (total at : ℕ) (before : List Header) (p : Piece) (ps : List Piece) (all : List AreaEntry) (body : List ℕ) (index place : ℕ)
    → (others : List PlacedHeader) (next : Header → Option ReadFault) (j : Result Header ReadWhat)
    → judged total (seen_of before) p ≡ j → unless_fault at j next ≡ None
    → areas_of before ++ areas_of (decoded (p ∷ ps)) ≡ all
    → ((h : Header) → next h ≡ None → areas_of (before ++ h ∷ []) ++ areas_of (decoded ps) ≡ all → AllByRecursion (λ placed. PagesFit all placed.header) others)
    → AllByRecursion (λ placed. PagesFit all placed.header) (placed_before (placed_header body index place p) (header_form p.kind p.content) others)
unfolding decoded
fits_next total at before p ps all body index place others next (Err what) is none same behind = cc
fits_next total at before p ps all body index place others next (Ok h) is none same behind =
    let accepted = judged_ok total (seen_of before) p h is in
    let headers : areas_of (decoded (p ∷ ps)) ≡ areas_of (h ∷ decoded ps) =
    ap (λ form. areas_of (decoded_before form (decoded ps))) accepted.form in
    let split : areas_of before ++ areas_of (h ∷ decoded ps) ≡ all = ap (λ a. areas_of before ++ a) (sym headers) ∙ same in
    let more : areas_of (before ++ h ∷ []) ++ areas_of (decoded ps) ≡ all =
    ap (λ a. a ++ areas_of (decoded ps)) (areas_of-push before h)
    ∙ append_assoc (areas_of before) (option_to_list (area_entry h)) (areas_of (decoded ps))
    ∙ ap (λ a. areas_of before ++ a) (sym (areas_of-cons h (decoded ps)))
    ∙ split in
    let here = fits total (seen_of before) (areas_of (h ∷ decoded ps)) h (keeps_rules total (seen_of before) h accepted.rules) in
    subst (λ (form : Result Header HeaderFault). AllByRecursion (λ placed. PagesFit all placed.header) (placed_before (placed_header body index place p) form others))
    (sym accepted.form)
    (subst (λ (areas : List AreaEntry). PagesFit areas h) split here, behind h none more)

-- one header after the other
fits_from : (total start at : ℕ) (before : List Header) (ps : List Piece) (rest : List ℕ) (all : List AreaEntry) (body : List ℕ) (index place : ℕ)
    → headers_fault total start at before ps rest ≡ None → areas_of before ++ areas_of (decoded ps) ≡ all
    → AllByRecursion (λ placed. PagesFit all placed.header) (placed_from body index place ps)
unfolding headers_fault placed_from
fits_from total start at before [] rest all body index place none same = tt
fits_from total start at before (p ∷ ps) rest all body index place none same =
    fits_next total at before p ps all body index place (placed_from body (suc index) (place + size_of p) ps)
    (λ h. headers_fault total start (at + size_of p) (before ++ h ∷ []) ps rest)
    (judged total (seen_of before) p) refl none same
    (λ h none' same'. fits_from total start (at + size_of p) (before ++ h ∷ []) ps rest all body (suc index) (place + size_of p) none' same')

-- the headers of an accepted file fit among its areas
pub headers_fit : (file : List ℕ) → IsAccepted file
    → AllByRecursion (λ placed. PagesFit (areas_of (headers_of file)) placed.header) (placed_headers file)
headers_fit file accepted =
    let fixed = fixed_fields file in
    fits_from fixed.total fixed.var_offset fixed.var_offset [] (pieces_of file) (cut (section_of file fixed)) (areas_of (headers_of file))
    (file_body file) 0 fixed.var_offset (accepted_is file accepted).headers
    (ap areas_of (sym (map-placed_from (file_body file) 0 fixed.var_offset (pieces_of file))))
