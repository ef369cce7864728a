-- The headers of an accepted file break no rule.
use Rattle.std.proofs.Common.{◌≡◌, ℕ, zero, suc, ◌+◌, ◌<◌, List, [], ◌∷◌, ◌++◌, length, map, take, refl, sym, ◌∙◌, ap, subst, append_assoc, append-nil, arith, Option, Some, None, Result, Ok, Err}
use Rattle.std.specs.Prelude.{if◌then◌else◌, ◌==◌}
use Rattle.std.specs.List.{slice_get}
use Rattle.igvm_headers.specs.Fixed.{fixed_form, fixed_fields, fault_at, fixed_fault, fixed_unless}
use Rattle.igvm_headers.specs.Pages.{file_body}
use Rattle.igvm_headers.specs.HeaderForm.{header_form}
use Rattle.igvm_headers.specs.declared.fixed.FixedHeader.{FixedHeader}
use Rattle.igvm_headers.specs.declared.header.Header.{Header}
use Rattle.igvm_headers.specs.declared.fault.HeaderFault.{HeaderFault}
use Rattle.igvm_headers.specs.declared.fault.ReadFault.{ReadFault}
use Rattle.igvm_headers.specs.declared.fault.ReadWhat.{ReadWhat}
use Rattle.igvm_headers.specs.declared.fault.ReadWhat.TheVariants.{NoPlatform}
use Rattle.platform_masks.specs.Platforms.{platforms_of}
use Rattle.igvm_image.specs.Pieces.{Piece, size_of, cut}
use Rattle.igvm_image.specs.HeaderRules.{Seen, seen_of, rule_fault}
use Rattle.igvm_image.specs.FileFault.{judged, judged_form, if_rules_hold, headers_fault, unless_fault, end_fault, section_fault, section_of, fault_of, fault_or, faults_behind, fields_fault}
use Rattle.igvm_image.specs.Headers.{PlacedHeader, IsAccepted, placed_from, placed_before, placed_header, placed_headers, headers_of, pieces_of}
use Rattle.igvm_image.specs.HeadersOfFile.{IsAcceptedHeader, IsHeaderOf}

-- ---- a piece that is judged to be a header

-- it has the header's form, and the header breaks no rule
pub record IsJudged (total : ℕ) (seen : Seen) (p : Piece) (h : Header) : Type 0 where
  pub form : header_form p.kind p.content ≡ Ok h
  pub rules : rule_fault total seen h ≡ None

rules_hold : (h g : Header) (fault : Option ReadWhat) → if_rules_hold h fault ≡ Ok g → (h ≡ g) × (fault ≡ None)
rules_hold h g None same = (cc, refl)
rules_hold h g (Some what) same = cc

form_holds : (total : ℕ) (seen : Seen) (form : Result Header HeaderFault) (h : Header)
    → judged_form total seen form ≡ Ok h → (form ≡ Ok h) × (rule_fault total seen h ≡ None)
form_holds total seen (Err e) h same = cc
form_holds total seen (Ok g) h same =
    let both = rules_hold g h (rule_fault total seen g) same in
    (ap (λ x. Ok x) both.0, sym (ap (rule_fault total seen) both.0) ∙ both.1)

pub judged_ok : (total : ℕ) (seen : Seen) (p : Piece) (h : Header)
    → judged total seen p ≡ Ok h → IsJudged total seen p h
unfolding judged
judged_ok total seen p h same =
    let both = form_holds total seen (header_form p.kind p.content) h same in
    record { form = both.0; rules = both.1 }

-- ---- an accepted file

-- its fixed header is read, the fields break no rule, and its headers have no fault
pub record Accepted (file : List ℕ) : Type 0 where
  pub read : fixed_form file ≡ Ok (fixed_fields file)
  pub kept : fields_fault file (fixed_fields file) ≡ None
  pub headers : section_fault (fixed_fields file).total (fixed_fields file).var_offset
      (section_of file (fixed_fields file)) ≡ None

unless_fields : (fault : Option ReadFault) (file : List ℕ) (fixed : FixedHeader) → fixed_unless fault file ≡ Ok fixed → fixed ≡ fixed_fields file
unless_fields None file fixed h = cc
unless_fields (Some fault) file fixed h = cc

-- the fields where the fixed header is read
pub fixed_form-fields : (file : List ℕ) (fixed : FixedHeader) → fixed_form file ≡ Ok fixed → fixed ≡ fixed_fields file
unfolding fixed_form
fixed_form-fields file fixed h = unless_fields (fixed_fault file) file fixed h

neither_fault : (first later : Option ReadFault) → fault_or first later ≡ None → (first ≡ None) × (later ≡ None)
neither_fault None later h = (refl, h)
neither_fault (Some first) later h = cc

accepted_form : (file : List ℕ) (form : Result FixedHeader ReadFault)
    → fixed_form file ≡ form → faults_behind file form ≡ None → Accepted file
accepted_form file (Err fault) read h = cc
accepted_form file (Ok fixed) read h =
    let same = fixed_form-fields file fixed read in
    let both = neither_fault (fields_fault file fixed) _ h in
    record {
      read = read ∙ ap (λ f. Ok f) same;
      kept = ap (fields_fault file) (sym same) ∙ both.0;
      headers = ap (λ (f : FixedHeader). section_fault f.total f.var_offset (section_of file f)) (sym same) ∙ both.1;
    }

pub accepted_is : (file : List ℕ) → IsAccepted file → Accepted file
unfolding fault_of
accepted_is file h = accepted_form file (fixed_form file) refl h

-- ---- its headers

-- these headers are accepted behind those before, each behind those before it, and one of all is a platform
record AreKept (total : ℕ) (body : List ℕ) (before : List Header) (placed : List PlacedHeader) : Type 0 where
  pub each : (k : ℕ) (found : PlacedHeader) → slice_get placed k ≡ Some found
      → IsAcceptedHeader total body (before ++ take k (map (λ q. q.header) placed)) found
  pub platform : 0 < length (platforms_of (before ++ map (λ q. q.header) placed))

-- behind the last header there is a platform
end_kept : (total start at : ℕ) (body : List ℕ) (before : List Header) (rest : List ℕ)
    → end_fault start at before rest ≡ None → AreKept total body before []
end_kept total start at body before [] none = record {
  each = λ k placed here. cc;
  platform = subst (λ hs. 0 < length (platforms_of hs)) (sym (append-nil before))
      (some (length (platforms_of before)) none);
}
  where
    some : (n : ℕ) → (if n == 0 then Some (fault_at start NoPlatform) else None) ≡ None → 0 < n
    some zero h = cc
    some (suc n) h = omega arith
end_kept total start at body before (byte ∷ rest) none = cc

-- a header and those behind it
next_kept : (total : ℕ) (body : List ℕ) (before : List Header) (placed : PlacedHeader) (others : List PlacedHeader)
    → IsAcceptedHeader total body before placed → AreKept total body (before ++ placed.header ∷ []) others
    → AreKept total body before (placed ∷ others)
next_kept total body before placed others here behind = record {
  each = each;
  platform = subst (λ hs. 0 < length (platforms_of hs))
      (append_assoc before (placed.header ∷ []) (map (λ q. q.header) others)) behind.platform;
}
  where
    each : (k : ℕ) (found : PlacedHeader) → slice_get (placed ∷ others) k ≡ Some found
        → IsAcceptedHeader total body (before ++ take k (map (λ q. q.header) (placed ∷ others))) found
    each zero found same =
        let is : placed ≡ found = cc in
        subst (λ hs. IsAcceptedHeader total body hs found) (sym (append-nil before))
        (subst (IsAcceptedHeader total body before) is here)
    each (suc k) found same =
        subst (λ hs. IsAcceptedHeader total body hs found)
        (append_assoc before (placed.header ∷ []) (take k (map (λ q. q.header) others)))
        (behind.each k found same)

-- the headers of pieces among which there is no fault
all_kept : (total start at : ℕ) (before : List Header) (ps : List Piece) (rest body : List ℕ) (index place : ℕ)
    → headers_fault total start at before ps rest ≡ None → AreKept total body before (placed_from body index place ps)
unfolding headers_fault placed_from
all_kept total start at before [] rest body index place none = end_kept total start at body before rest none
all_kept total start at before (p ∷ ps) rest body index place none =
    cases (judged total (seen_of before) p) refl none
    (λ h. all_kept total start (at + size_of p) (before ++ h ∷ []) ps rest body (suc index) (place + size_of p))
  where
    others : List PlacedHeader
    others = placed_from body (suc index) (place + size_of p) ps

    cases : (j : Result Header ReadWhat) → judged total (seen_of before) p ≡ j
        → unless_fault at j (λ h. headers_fault total start (at + size_of p) (before ++ h ∷ []) ps rest) ≡ None
        → ((h : Header) → headers_fault total start (at + size_of p) (before ++ h ∷ []) ps rest ≡ None
        → AreKept total body (before ++ h ∷ []) others)
        → AreKept total body before
        (placed_before (placed_header body index place p) (header_form p.kind p.content) others)
    cases (Err what) same h behind = cc
    cases (Ok h) same none behind =
        let judged = judged_ok total (seen_of before) p h same in
        subst (λ form. AreKept total body before (placed_before (placed_header body index place p) form others))
        (sym judged.form)
        (next_kept total body before (placed_header body index place p h) others
        (record { kind = p.kind; form = judged.form; content = refl; rules = judged.rules }) (behind h none))

headers_kept : (file : List ℕ) → IsAccepted file
    → AreKept (fixed_fields file).total (file_body file) [] (placed_headers file)
headers_kept file h =
    let fixed = fixed_fields file in
    all_kept fixed.total fixed.var_offset fixed.var_offset [] (pieces_of file) (cut (section_of file fixed)) (file_body file)
    0 fixed.var_offset (accepted_is file h).headers

pub header_kept : (file : List ℕ) (k : ℕ) (placed : PlacedHeader) → IsAccepted file
    → slice_get (placed_headers file) k ≡ Some placed → IsHeaderOf file k placed
header_kept file k placed h = (headers_kept file h).each k placed

pub has_platform : (file : List ℕ) → IsAccepted file → 0 < length (platforms_of (headers_of file))
has_platform file h = (headers_kept file h).platform
