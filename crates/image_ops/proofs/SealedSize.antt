-- The image of a sealed list has as many bytes as that of the list.
use Rattle.std.proofs.Common.{◌≡◌, ℕ, ◌+◌, ◌*◌, ◌/◌, List, [], ◌∷◌, ◌++◌, length, map, refl, sym, ◌∙◌, ap, ap₂, arith, length-append, Bool, true, false}
use Rattle.std.specs.Prelude.{if◌then◌else◌, sum_by}
use Rattle.std.specs.List.{AllByRecursion}
use Rattle.std.proofs.lemmas.List.Sums.{sum_by-cons}
use Rattle.igvm_headers.specs.Fixed.{fixed_size}
use Rattle.igvm_headers.specs.Records.IdBlock.{id_block_fields}
use Rattle.igvm_headers.specs.Spelling.{header_content, header_fields, spelled}
use Rattle.igvm_headers.specs.SpellingConditions.{NumbersFit}
use Rattle.igvm_headers.specs.declared.header.Header.{Header}
use Rattle.igvm_headers.specs.declared.header.Header.TheVariants.{IdBlock}
use Rattle.platform_masks.specs.Masks.{applies}
use Rattle.component_list.specs.declared.component.Component.{Component}
use Rattle.component_list.specs.Lists.{ImageParts}
use Rattle.component_list.specs.Ranges.{IsComponent}
use Rattle.image_builder.specs.DistinctContents.{contents, distinct, stored}
use Rattle.image_builder.specs.Layout.{layout_size, section_size, spelled_size}
use Rattle.list_changes.specs.Changes.{with_digest}
use Rattle.image_ops.specs.Sealed.{sealed, sealed_part, sealed_parts}

-- ---- headers

-- the law of igvm_headers: how many bytes a header's spelling has, by the length of its content
abbrev pub IsPadded : Type 0
IsPadded = (h : Header) (tail : List ℕ) → length (spelled h tail) ≡ (8 + length (header_content h tail) + 7) / 8 * 8

fields_same : (digest : List ℕ) → length digest ≡ 48 → (h : Header) → NumbersFit h → length (header_fields (with_digest digest h)) ≡ length (header_fields h)
unfolding header_fields id_block_fields
fields_same digest size (IdBlock mask author_enabled ld family_id image_id version guest_svn id_algorithm author_algorithm) fit =
    let same : length digest ≡ length ld = size ∙ sym fit.2 in
    simp (length-append, same) (omega arith)
fields_same digest size h fit = refl

spelled_same : IsPadded → (digest : List ℕ) → length digest ≡ 48 → (h : Header) (tail : List ℕ) → NumbersFit h
    → length (spelled (with_digest digest h) tail) ≡ length (spelled h tail)
spelled_same padded digest size h tail fit =
    padded (with_digest digest h) tail
    ∙ ap (λ n. (8 + n + 7) / 8 * 8)
    (length-append (header_fields (with_digest digest h)) tail
    ∙ ap (λ n. n + length tail) (fields_same digest size h fit)
    ∙ sym (length-append (header_fields h) tail))
    ∙ sym (padded h tail)

part_same : IsPadded → (mask : ℕ) (digest : List ℕ) → length digest ≡ 48 → (c : Component) → IsComponent c → spelled_size (sealed_part mask digest c) ≡ spelled_size c
part_same padded mask digest size c is = cases (applies c.header mask)
  where
    cases : (b : Bool) → length (spelled (if b then with_digest digest c.header else c.header) c.tail) ≡ length (spelled c.header c.tail)
    cases true = spelled_same padded digest size c.header c.tail is.numbers
    cases false = refl

section_same : IsPadded → (mask : ℕ) (digest : List ℕ) → length digest ≡ 48 → (cs : List Component) → AllByRecursion IsComponent cs
    → section_size (sealed_parts mask digest cs) ≡ section_size cs
unfolding section_size sealed_parts
section_same padded mask digest size [] all = refl
section_same padded mask digest size (c ∷ cs) all =
    sum_by-cons spelled_size (sealed_part mask digest c) (map (sealed_part mask digest) cs)
    ∙ ap₂ (λ m n. m + n) (part_same padded mask digest size c all.0) (section_same padded mask digest size cs all.1)
    ∙ sym (sum_by-cons spelled_size c cs)

-- ---- contents

contents_same : (mask : ℕ) (digest : List ℕ) (cs : List Component) → contents (sealed_parts mask digest cs) ≡ contents cs
unfolding contents sealed_parts
contents_same mask digest [] = refl
contents_same mask digest (c ∷ cs) = ap (λ others. stored c.content ++ others) (contents_same mask digest cs)

-- ---- all

pub sealed_size : IsPadded → (mask : ℕ) (digest : List ℕ) (list : ImageParts) → length digest ≡ 48 → AllByRecursion IsComponent list.parts
    → layout_size (sealed mask digest list) ≡ layout_size list
unfolding layout_size
sealed_size padded mask digest list size all =
    ap₂ (λ headers bytes. fixed_size list.version + headers + sum_by length (distinct bytes)) (section_same padded mask digest size list.parts all)
    (contents_same mask digest list.parts)
