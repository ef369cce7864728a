-- A header's bytes, put together of their parts.
use Rattle.std.proofs.Common.{◌≡◌, ℕ, ◌+◌, ◌*◌, ◌/◌, ◌^◌, ◌<◌, List, ◌++◌, length, drop, replicate, refl, sym, ap, ◌∙◌, append_assoc, arith, lit<}
use Rattle.std.proofs.lemmas.List.{length-append, length-replicate}
use Rattle.std.proofs.Math.Seq.{take-append_seam, drop-append_seam}
use Rattle.byteorder.specs.Endian.{little_bytes}
use Rattle.byteorder.specs.Numbers.{little_number-reads_back}
use Rattle.igvm_headers.specs.Numbers.{number_at, slice}
use Rattle.igvm_headers.specs.Records.Platform.{platform_fields}
use Rattle.igvm_headers.specs.Records.Policy.{policy_fields}
use Rattle.igvm_headers.specs.Records.Area.{area_fields}
use Rattle.igvm_headers.specs.Records.Page.{page_fields}
use Rattle.igvm_headers.specs.Records.Insert.{insert_fields}
use Rattle.igvm_headers.specs.Records.Param.{param_fields}
use Rattle.igvm_headers.specs.Records.Context.{context_fields}
use Rattle.igvm_headers.specs.Records.Required.{required_fields}
use Rattle.igvm_headers.specs.Records.ErrorRange.{error_range_fields}
use Rattle.igvm_headers.specs.Records.IdBlock.{id_block_fields}
use Rattle.igvm_headers.specs.Spelling.{header_fields, header_content, padding_size, piece_bytes, spelled}
use Rattle.igvm_headers.specs.ParamKinds.{param_type}
use Rattle.igvm_headers.specs.HeaderFacts.{header_type, tail_size, content_size}
use Rattle.igvm_headers.specs.SpellingConditions.{NumbersFit, IsSpellable}
use Rattle.igvm_headers.specs.declared.param_kind.ParamKind.{ParamKind}
use Rattle.igvm_headers.specs.declared.param_kind.ParamKind.TheVariants as param
use Rattle.igvm_headers.specs.declared.header.Header.{Header}
use Rattle.igvm_headers.specs.declared.header.Header.TheVariants.{Platform, Policy, Area, Page, Insert, Param, Context, Required, ErrorRange, IdBlock, Carried}

-- type, length, fields, tail and zeros, each behind what is there
pub put_together : (out tail zeros : List ℕ) (h : Header) (n : ℕ) → length (header_content h tail) ≡ n → zeros ≡ replicate (padding_size n) 0
    → ((((out ++ little_bytes 4 (header_type h)) ++ little_bytes 4 n) ++ header_fields h) ++ tail) ++ zeros ≡ out ++ spelled h tail
unfolding spelled
put_together out tail zeros h n size padding = rw (padding, ← size) (simp append_assoc)

-- ---- the length of a content

param_type-fits : (kind : ParamKind) → param_type kind < 2 ^ 32
param_type-fits param.VpCount = lit< tt
param_type-fits param.Srat = lit< tt
param_type-fits param.Madt = lit< tt
param_type-fits param.MmioRanges = lit< tt
param_type-fits param.MemoryMap = lit< tt
param_type-fits param.CommandLine = lit< tt
param_type-fits param.Slit = lit< tt
param_type-fits param.Pptt = lit< tt
param_type-fits param.DeviceTree = lit< tt
param_type-fits param.EnvironmentInfo = lit< tt

header_type-fits : (h : Header) → NumbersFit h → header_type h < 2 ^ 32
header_type-fits (Platform mask highest_vtl kind version shared_gpa) fit = lit< tt
header_type-fits (Policy policy mask) fit = lit< tt
header_type-fits (Area bytes area offset) fit = lit< tt
header_type-fits (Page gpa mask offset large unmeasured kind) fit = lit< tt
header_type-fits (Insert gpa mask area) fit = lit< tt
header_type-fits (Param kind area byte_offset) fit = param_type-fits kind
header_type-fits (Context gpa mask offset vp) fit = lit< tt
header_type-fits (Required gpa mask bytes flags) fit = lit< tt
header_type-fits (ErrorRange gpa mask bytes) fit = lit< tt
header_type-fits (IdBlock mask author_enabled ld family_id image_id version guest_svn id_algorithm author_algorithm) fit = lit< tt
header_type-fits (Carried kind size) fit = fit.0

content_size-fits : (h : Header) → NumbersFit h → content_size h < 2 ^ 32
content_size-fits (Carried kind size) fit = fit.1
content_size-fits (Platform mask highest_vtl kind version shared_gpa) fit = lit< tt
content_size-fits (Policy policy mask) fit = lit< tt
content_size-fits (Area bytes area offset) fit = lit< tt
content_size-fits (Page gpa mask offset large unmeasured kind) fit = lit< tt
content_size-fits (Insert gpa mask area) fit = lit< tt
content_size-fits (Param kind area byte_offset) fit = lit< tt
content_size-fits (Context gpa mask offset vp) fit = lit< tt
content_size-fits (Required gpa mask bytes flags) fit = lit< tt
content_size-fits (ErrorRange gpa mask bytes) fit = lit< tt
content_size-fits (IdBlock mask author_enabled ld family_id image_id version guest_svn id_algorithm author_algorithm) fit = lit< tt

-- fields and tail together are as many as the record has
pub fields_size : (h : Header) → NumbersFit h → length (header_fields h) + tail_size h ≡ content_size h
unfolding header_fields platform_fields policy_fields area_fields page_fields insert_fields param_fields context_fields required_fields error_range_fields id_block_fields
fields_size (Carried kind size) fit = omega arith
fields_size (Platform mask highest_vtl kind version shared_gpa) fit = refl
fields_size (Policy policy mask) fit = refl
fields_size (Area bytes area offset) fit = refl
fields_size (Page gpa mask offset large unmeasured kind) fit = refl
fields_size (Insert gpa mask area) fit = refl
fields_size (Param kind area byte_offset) fit = refl
fields_size (Context gpa mask offset vp) fit = refl
fields_size (Required gpa mask bytes flags) fit = refl
fields_size (ErrorRange gpa mask bytes) fit = refl
fields_size (IdBlock mask author_enabled ld family_id image_id version guest_svn id_algorithm author_algorithm) fit =
    simp length-append (omega (arith, fit.2, fit.3, fit.4))

whole_length : (front content zeros : List ℕ) → length front ≡ 8 → length (front ++ content ++ zeros) ≡ 8 + length content + length zeros
whole_length front content zeros size = omega (arith, size, length-append front content, length-append (front ++ content) zeros)

-- the room that a header takes, by the length of its content
pub spelled_room : (h : Header) (tail : List ℕ) (n : ℕ) → length (header_content h tail) ≡ n → length (spelled h tail) ≡ 8 + n + padding_size n
unfolding spelled
spelled_room h tail n size =
    let content = header_content h tail in
    let zeros = replicate (padding_size (length content)) 0 in
    whole_length (little_bytes 4 (header_type h) ++ little_bytes 4 (length content)) content zeros refl
    ∙ ap (λ (k : ℕ). 8 + length content + k) (length-replicate (padding_size (length content)) 0)
    ∙ ap (λ (k : ℕ). 8 + k + padding_size k) size

pub content_length : (h : Header) (tail : List ℕ) → IsSpellable h tail → length (header_content h tail) ≡ content_size h
content_length h tail is = length-append (header_fields h) tail ∙ ap (λ (n : ℕ). length (header_fields h) + n) is.tail_fits ∙ fields_size h is.numbers

content_fits : (h : Header) (tail : List ℕ) → IsSpellable h tail → length (header_content h tail) < 2 ^ 32
content_fits h tail is = rw (content_length h tail is) (content_size-fits h is.numbers)

-- ---- a piece at the front of a section

-- the same bytes, each part in front of the next
in_turn : (kind : ℕ) (content rest : List ℕ) → piece_bytes kind content ++ rest
    ≡ little_bytes 4 kind ++ (little_bytes 4 (length content) ++ (content ++ (replicate (padding_size (length content)) 0 ++ rest)))
in_turn kind content rest = simp append_assoc

pub piece_kind : (h : Header) (tail rest : List ℕ) → IsSpellable h tail → number_at 4 0 (spelled h tail ++ rest) ≡ header_type h
unfolding spelled
piece_kind h tail rest is =
    let content = header_content h tail in
    ap (number_at 4 0) (in_turn (header_type h) content rest)
    ∙ little_number-reads_back 4 (header_type h) (little_bytes 4 (length content) ++ (content ++ (replicate (padding_size (length content)) 0 ++ rest))) (header_type-fits h is.numbers)

pub piece_size : (h : Header) (tail rest : List ℕ) → IsSpellable h tail → number_at 4 4 (spelled h tail ++ rest) ≡ length (header_content h tail)
unfolding spelled
piece_size h tail rest is =
    let content = header_content h tail in
    ap (number_at 4 4) (in_turn (header_type h) content rest)
    ∙ little_number-reads_back 4 (length content) (content ++ (replicate (padding_size (length content)) 0 ++ rest)) (content_fits h tail is)

pub piece_content : (h : Header) (tail rest : List ℕ) → slice (spelled h tail ++ rest) 8 (length (header_content h tail)) ≡ header_content h tail
unfolding spelled
piece_content h tail rest =
    let content = header_content h tail in
    ap (λ (s : List ℕ). slice s 8 (length content)) (in_turn (header_type h) content rest)
    ∙ take-append_seam content (replicate (padding_size (length content)) 0 ++ rest)

-- ---- the padding

-- with the bytes that are missing, a number is raised to a multiple of 8
raised : (n : ℕ) → 8 + n + padding_size n ≡ (8 + n + 7) / 8 * 8
raised n = omega arith

pub padding-few : (n : ℕ) → padding_size n < 8
padding-few n = omega arith

-- type and length, of 8 bytes, content and zeros
behind_content : (front content zeros : List ℕ) → length front ≡ 8 → drop (8 + length content) (front ++ content ++ zeros) ≡ zeros
behind_content front content zeros size =
    let place : 8 + length content ≡ length (front ++ content) = omega (arith, size, length-append front content) in
    ap (λ (m : ℕ). drop m (front ++ content ++ zeros)) place ∙ drop-append_seam (front ++ content) zeros

pub piece_padding : (h : Header) (tail : List ℕ) → drop (8 + length (header_content h tail)) (spelled h tail) ≡ replicate (padding_size (length (header_content h tail))) 0
unfolding spelled
piece_padding h tail =
    let content = header_content h tail in
    behind_content (little_bytes 4 (header_type h) ++ little_bytes 4 (length content)) content (replicate (padding_size (length content)) 0) refl

pub spelled_length : (h : Header) (tail : List ℕ) → length (spelled h tail) ≡ (8 + length (header_content h tail) + 7) / 8 * 8
unfolding spelled
spelled_length h tail =
    let content = header_content h tail in
    let zeros = replicate (padding_size (length content)) 0 in
    whole_length (little_bytes 4 (header_type h) ++ little_bytes 4 (length content)) content zeros refl
    ∙ ap (λ (k : ℕ). 8 + length content + k) (length-replicate (padding_size (length content)) 0)
    ∙ raised (length content)

pub piece_behind : (h : Header) (tail rest : List ℕ) → drop ((8 + length (header_content h tail) + 7) / 8 * 8) (spelled h tail ++ rest) ≡ rest
piece_behind h tail rest =
    ap (λ (m : ℕ). drop m (spelled h tail ++ rest)) (sym (spelled_length h tail)) ∙ drop-append_seam (spelled h tail) rest
