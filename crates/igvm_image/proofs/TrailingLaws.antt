-- Bytes behind a file.
use Rattle.std.proofs.Common.{◌≡◌, ℕ, ◌+◌, ◌-◌, ◌≤◌, List, ◌++◌, length, refl, sym, subst, ◌∙◌, ap, ap₂, arith, inl, inr, ◌⊎◌, None, Ok, take, length-append}
use Rattle.std.specs.Prelude.{◌==◌, replicate}
use Rattle.std.proofs.lemmas.List.{take_at, take-append-le}
use Rattle.igvm_headers.specs.Numbers.{number_at, slice}
use Rattle.igvm_headers.specs.Checksum.{crc}
use Rattle.igvm_headers.specs.Fixed.{fixed_form, fixed_fields, fixed_size}
use Rattle.igvm_headers.specs.Pages.{file_body}
use Rattle.igvm_headers.specs.declared.fixed.FixedHeader.{FixedHeader}
use Rattle.igvm_image.specs.FileFault.{fields_fault, section_of, section_fault, after_checksum, checked_bytes}
use Rattle.igvm_image.specs.Pieces.{pieces}
use Rattle.igvm_image.specs.Headers.{IsAccepted, placed_headers, placed_from}
use Rattle.igvm_image.specs.AcceptedLaws.{accepted_is}
use Rattle.igvm_image.proofs.HeadersLemmas.{fault_of-section}
use Rattle.igvm_image.proofs.CutLaws.{HasAdded, HasFixed, HasFields, fixed_fits, fixed_size-least, has_fixed, has_fields, fixed_form-read, fields_fault-none, number_at-take, slice-take, fixed_fields-take}

-- the first bytes are the file's
front : (s t : List ℕ) → take (length s) (s ++ t) ≡ s
front s t = take_at s t (length s) refl

number_at-more : (n at : ℕ) (s t : List ℕ) → at + n ≤ length s → number_at n at (s ++ t) ≡ number_at n at s
number_at-more n at s t h = sym (number_at-take n at (length s) (s ++ t) h) ∙ ap (number_at n at) (front s t)

slice-more : (at n : ℕ) (s t : List ℕ) → at + n ≤ length s → slice (s ++ t) at n ≡ slice s at n
slice-more at n s t h = sym (slice-take at n (length s) (s ++ t) h) ∙ ap (λ bytes. slice bytes at n) (front s t)

fixed_fields-more : (s t : List ℕ) → fixed_size (number_at 4 4 s) ≤ length s → fixed_fields (s ++ t) ≡ fixed_fields s
fixed_fields-more s t h =
    let same = number_at-more 4 4 s t (omega (arith, fixed_size-least (number_at 4 4 s))) in
    sym (fixed_fields-take (length s) (s ++ t) (subst (λ v. fixed_size v ≤ length s) (sym same) h)) ∙ ap fixed_fields (front s t)

-- the rules on the fixed header hold with bytes behind it, too
fixed_more : (s t : List ℕ) → HasFixed s → HasFixed (s ++ t)
fixed_more s t was =
    let long = was.long in
    record {
      long = omega (arith, length-append s t);
      magic = number_at-more 4 0 s t (omega arith) ∙ was.magic;
      version = cases was.version (omega arith);
    }
  where
    cases : (number_at 4 4 s ≡ 1) ⊎ HasAdded s → 24 ≤ length s → (number_at 4 4 (s ++ t) ≡ 1) ⊎ HasAdded (s ++ t)
    cases (inl first) long = inl (number_at-more 4 4 s t (omega arith) ∙ first)
    cases (inr added) long =
        let whole = added.long in
        inr (record {
          version = number_at-more 4 4 s t (omega arith) ∙ added.version;
          long = omega (arith, length-append s t);
          architecture = number_at-more 4 24 s t (omega arith) ∙ added.architecture;
          page_size = number_at-more 4 28 s t (omega arith) ∙ added.page_size;
        })

-- What bytes behind an accepted file leave.
record Same (s t : List ℕ) : Type 0 where
  fixed : fixed_fields (s ++ t) ≡ fixed_fields s
  section : section_of (s ++ t) (fixed_fields (s ++ t)) ≡ section_of s (fixed_fields s)
  body : file_body (s ++ t) ≡ file_body s
  read : fixed_form (s ++ t) ≡ Ok (fixed_fields s)
  kept : fields_fault (s ++ t) (fixed_fields s) ≡ None

same : (s t : List ℕ) → IsAccepted s → Same s t
same s t h =
    let file = accepted_is s h in
    let was = has_fixed s (fixed_fields s) file.read in
    let fields = has_fields s (fixed_fields s) file.kept in
    let long = was.long in
    let there = fields.there in
    let within = fields.within in
    let fixed = fixed_fields-more s t (fixed_fits s was) in
    let size = fixed_fits s was in
    let least = fixed_size-least (number_at 4 4 s) in
    let section : section_of (s ++ t) (fixed_fields s) ≡ section_of s (fixed_fields s) =
    slice-more (fixed_fields s).var_offset (fixed_fields s).var_size s t (omega arith) in
    let has = fixed_more s t was in
    let checked : checked_bytes (s ++ t) (fixed_fields s) ≡ checked_bytes s (fixed_fields s) =
    ap₂ (λ front section. front ++ replicate 4 0 ++ after_checksum (s ++ t) (fixed_fields s) ++ section) (take-append-le 20 s t (omega arith)) section
    ∙ ap (λ added. take 20 s ++ replicate 4 0 ++ added ++ section_of s (fixed_fields s)) (slice-more 24 (fixed_size (number_at 4 4 s) - 24) s t (omega arith)) in
    let now : HasFields (s ++ t) (fixed_fields s) = record {
      total = fields.total;
      there = omega (arith, length-append s t);
      offset = fields.offset;
      within = fields.within;
      checked = ap (λ bytes. crc bytes == (fixed_fields s).checksum) checked ∙ fields.checked;
    } in
    record {
      fixed = fixed;
      section = ap (section_of (s ++ t)) fixed ∙ section;
      body = ap (λ (f : FixedHeader). take f.total (s ++ t)) fixed ∙ take-append-le (fixed_fields s).total s t there;
      read = fixed_form-read (s ++ t) has ∙ ap (λ f. Ok f) fixed;
      kept = fields_fault-none (s ++ t) (fixed_fields s) now;
    }

pub trailing_accepted : (s t : List ℕ) → IsAccepted s → IsAccepted (s ++ t)
trailing_accepted s t h =
    let all = same s t h in
    fault_of-section (s ++ t) (fixed_fields s) all.read all.kept
    ∙ ap (section_fault (fixed_fields s).total (fixed_fields s).var_offset) (ap (section_of (s ++ t)) (sym all.fixed) ∙ all.section)
    ∙ (accepted_is s h).headers

pub trailing_headers : (s t : List ℕ) → IsAccepted s → placed_headers (s ++ t) ≡ placed_headers s
trailing_headers s t h =
    let all = same s t h in
    ap (λ body. placed_from body 0 (fixed_fields (s ++ t)).var_offset (pieces (section_of (s ++ t) (fixed_fields (s ++ t))))) all.body
    ∙ ap (λ (f : FixedHeader). placed_from (file_body s) 0 f.var_offset (pieces (section_of (s ++ t) (fixed_fields (s ++ t))))) all.fixed
    ∙ ap (λ section. placed_from (file_body s) 0 (fixed_fields s).var_offset (pieces section)) all.section
