-- How many bytes a layout has.
use Rattle.std.proofs.Common.{◌≡◌, ℕ, ◌+◌, ◌*◌, ◌/◌, List, [], ◌∷◌, ◌++◌, length, refl, sym, ◌∙◌, ap, arith, length-append, Bool, true, false}
use Rattle.std.specs.Prelude.{sum_by, ◌==◌, if◌then◌else◌}
use Rattle.std.specs.List.{concat}
use Rattle.std.proofs.lemmas.List.Concat.{length-flat_map}
use Rattle.std.proofs.lemmas.List.Sums.{sum_by-cons}
use Rattle.byteorder.specs.Endian.{little_bytes}
use Rattle.igvm_headers.specs.Spelling.{spelled, header_fields, header_content}
use Rattle.igvm_headers.specs.declared.header.Header.{Header}
use Rattle.component_list.specs.declared.component.Component.{Component}
use Rattle.igvm_headers.specs.HeaderFacts.{with_offset}
use Rattle.igvm_headers.specs.Fixed.{fixed_size}
use Rattle.component_list.specs.Lists.{ImageParts}
use Rattle.image_builder.specs.Layout.{spelled_size, section_size, data_start, kept_contents, offset_among, written, section, data_bytes, fixed_front, fixed_rest, checksum_of, layout_size, layout}

-- how many bytes a header's spelling has, by the length of its content
abbrev pub HasPaddedSize : Type 0
HasPaddedSize = (h : Header) (tail : List ℕ) → length (spelled h tail) ≡ (8 + length (header_content h tail) + 7) / 8 * 8

-- a header's fields take as many bytes wherever its data stand
abbrev pub KeepsSize : Type 0
KeepsSize = (at : ℕ) (h : Header) → length (header_fields (with_offset at h)) ≡ length (header_fields h)

pub written_same : HasPaddedSize → KeepsSize → (start : ℕ) (kept : List (List ℕ)) (c : Component) → length (written start kept c) ≡ spelled_size c
written_same padded same start kept c =
    let at = offset_among start kept c.content in
    padded (with_offset at c.header) c.tail
    ∙ ap (λ n. (8 + n + 7) / 8 * 8)
    (length-append (header_fields (with_offset at c.header)) c.tail ∙ ap (λ n. n + length c.tail) (same at c.header) ∙ sym (length-append (header_fields c.header) c.tail))
    ∙ sym (padded c.header c.tail)

pub length-section : HasPaddedSize → KeepsSize → (list : ImageParts) → length (section list) ≡ section_size list.parts
unfolding section section_size
length-section padded same list =
    length-flat_map (written (data_start list) (kept_contents list.parts)) list.parts
    ∙ ap (λ f. sum_by f list.parts) (λ i c. written_same padded same (data_start list) (kept_contents list.parts) c i)

pub length-concat : (xs : List (List ℕ)) → length (concat xs) ≡ sum_by length xs
length-concat [] = refl
length-concat (x ∷ xs) = length-append x (concat xs) ∙ ap (λ n. length x + n) (length-concat xs) ∙ sym (sum_by-cons length x xs)

-- the fixed header's bytes around its checksum
pub rest_size : (version : ℕ) → 24 + length (fixed_rest version) ≡ fixed_size version
rest_size version = cases (version == 2)
  where
    cases : (b : Bool) → 24 + length (if b then little_bytes 4 0 ++ little_bytes 4 4096 else []) ≡ (if b then 32 else 24)
    cases true = refl
    cases false = refl

pub front_size : (version size total : ℕ) → length (fixed_front version size total) ≡ 20
front_size version size total = refl

pub together : (version : ℕ) (front headers bytes : List ℕ) (n : ℕ) → length front ≡ 20
    → length (front ++ little_bytes 4 n ++ fixed_rest version ++ headers ++ bytes) ≡ fixed_size version + (length headers + length bytes)
together version front headers bytes n size =
    let four : length (little_bytes 4 n) ≡ 4 = refl in
    let sealed = front ++ little_bytes 4 n in
    omega (
      arith,
      rest_size version,
      length-append (sealed ++ fixed_rest version ++ headers) bytes,
      length-append (sealed ++ fixed_rest version) headers,
      length-append sealed (fixed_rest version),
      length-append front (little_bytes 4 n),
    )

pub length-layout : HasPaddedSize → KeepsSize → (list : ImageParts) → length (layout list) ≡ layout_size list
unfolding layout layout_size data_bytes
length-layout padded same list =
    let front = fixed_front list.version (section_size list.parts) (layout_size list) in
    let bytes = concat (kept_contents list.parts) in
    let whole = together list.version front (section list) bytes (checksum_of list.version front (section list))
    (front_size list.version (section_size list.parts) (layout_size list)) in
    let headers = length-section padded same list in
    let contents = length-concat (kept_contents list.parts) in
    whole ∙ omega (arith, headers, contents)
