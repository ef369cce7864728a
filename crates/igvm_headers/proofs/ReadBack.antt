-- What is spelled is read again as the same header.
use Rattle.std.proofs.Common.{◌≡◌, ℕ, List, ◌++◌, length, Ok, refl, sym, ap, ◌∙◌}
use Rattle.std.proofs.lemmas.List.{append-nil, nil_from_length}
use Rattle.igvm_headers.specs.HeaderForm.{header_form}
use Rattle.igvm_headers.specs.Records.Platform.{platform_form}
use Rattle.igvm_headers.specs.Records.Policy.{policy_form}
use Rattle.igvm_headers.specs.Records.Area.{area_form}
use Rattle.igvm_headers.specs.Records.Page.{page_form}
use Rattle.igvm_headers.specs.Records.Insert.{insert_form}
use Rattle.igvm_headers.specs.Records.Param.{param_form}
use Rattle.igvm_headers.specs.Records.Context.{context_form}
use Rattle.igvm_headers.specs.Records.Required.{required_form}
use Rattle.igvm_headers.specs.Records.ErrorRange.{error_range_form}
use Rattle.igvm_headers.specs.Spelling.{header_fields, header_content}
use Rattle.igvm_headers.specs.HeaderFacts.{header_type, header_tail}
use Rattle.igvm_headers.specs.SpellingConditions.{IsSpellable}
use Rattle.igvm_headers.specs.declared.header.Header.{Header}
use Rattle.igvm_headers.specs.declared.header.Header.TheVariants.{Platform, Policy, Area, Page, Insert, Param, Context, Required, ErrorRange, IdBlock, Carried}
use Rattle.igvm_headers.proofs.PlatformRecord.{platform_again}
use Rattle.igvm_headers.proofs.PageRecord.{page_again}
use Rattle.igvm_headers.proofs.IdBlockRecord.{id_block_again, id_block_tail}
use Rattle.igvm_headers.proofs.CarriedRecord.{header_form-carried, carried_again}
use Rattle.igvm_headers.proofs.PolicyRecord.{policy_again}
use Rattle.igvm_headers.proofs.AreaRecord.{area_again}
use Rattle.igvm_headers.proofs.InsertRecord.{insert_again}
use Rattle.igvm_headers.proofs.ContextRecord.{context_again}
use Rattle.igvm_headers.proofs.RequiredRecord.{required_again}
use Rattle.igvm_headers.proofs.ErrorRangeRecord.{error_range_again}
use Rattle.igvm_headers.proofs.ParamRecord.{header_form-param, param_again}

-- fields with nothing behind them
bare : (header : Header) (tail : List ℕ) → length tail ≡ 0 → header_content header tail ≡ header_fields header
bare header tail none = ap (λ (t : List ℕ). header_fields header ++ t) (nil_from_length tail none) ∙ append-nil (header_fields header)

pub header_again : (header : Header) (tail : List ℕ) → IsSpellable header tail → header_form (header_type header) (header_content header tail) ≡ Ok header
unfolding header_form
header_again (Platform mask highest_vtl kind version shared_gpa) tail is =
    ap platform_form (bare (Platform mask highest_vtl kind version shared_gpa) tail is.tail_fits) ∙ platform_again mask highest_vtl kind version shared_gpa is.numbers
header_again (Policy policy mask) tail is =
    ap policy_form (bare (Policy policy mask) tail is.tail_fits) ∙ policy_again policy mask is.numbers
header_again (Area bytes area offset) tail is =
    ap area_form (bare (Area bytes area offset) tail is.tail_fits) ∙ area_again bytes area offset is.numbers
header_again (Page gpa mask offset large unmeasured kind) tail is =
    ap page_form (bare (Page gpa mask offset large unmeasured kind) tail is.tail_fits) ∙ page_again gpa mask offset large unmeasured kind is.numbers is.large_is_normal
header_again (Insert gpa mask area) tail is =
    ap insert_form (bare (Insert gpa mask area) tail is.tail_fits) ∙ insert_again gpa mask area is.numbers
header_again (Param kind area byte_offset) tail is =
    header_form-param kind (header_content (Param kind area byte_offset) tail) ∙ ap (param_form kind) (bare (Param kind area byte_offset) tail is.tail_fits) ∙ param_again kind area byte_offset is.numbers
header_again (Context gpa mask offset vp) tail is =
    ap context_form (bare (Context gpa mask offset vp) tail is.tail_fits) ∙ context_again gpa mask offset vp is.numbers
header_again (Required gpa mask bytes flags) tail is =
    ap required_form (bare (Required gpa mask bytes flags) tail is.tail_fits) ∙ required_again gpa mask bytes flags is.numbers
header_again (ErrorRange gpa mask bytes) tail is =
    ap error_range_form (bare (ErrorRange gpa mask bytes) tail is.tail_fits) ∙ error_range_again gpa mask bytes is.numbers
header_again (IdBlock mask author_enabled ld family_id image_id version guest_svn id_algorithm author_algorithm) tail is =
    id_block_again mask author_enabled ld family_id image_id version guest_svn id_algorithm author_algorithm tail is.numbers is.tail_fits
header_again (Carried kind size) tail is =
    header_form-carried kind (header_content (Carried kind size) tail) is.kind_is_carried ∙ carried_again kind size tail is.kind_is_carried is.tail_fits

-- what a header carries is found again behind its fields
pub tail_again : (header : Header) (tail : List ℕ) → IsSpellable header tail → header_tail header (header_content header tail) ≡ tail
unfolding header_fields
tail_again (IdBlock mask author_enabled ld family_id image_id version guest_svn id_algorithm author_algorithm) tail is =
    id_block_tail mask author_enabled ld family_id image_id version guest_svn id_algorithm author_algorithm tail is.numbers
tail_again (Carried kind size) tail is = refl
tail_again (Platform mask highest_vtl kind version shared_gpa) tail is = sym (nil_from_length tail is.tail_fits)
tail_again (Policy policy mask) tail is = sym (nil_from_length tail is.tail_fits)
tail_again (Area bytes area offset) tail is = sym (nil_from_length tail is.tail_fits)
tail_again (Page gpa mask offset large unmeasured kind) tail is = sym (nil_from_length tail is.tail_fits)
tail_again (Insert gpa mask area) tail is = sym (nil_from_length tail is.tail_fits)
tail_again (Param kind area byte_offset) tail is = sym (nil_from_length tail is.tail_fits)
tail_again (Context gpa mask offset vp) tail is = sym (nil_from_length tail is.tail_fits)
tail_again (Required gpa mask bytes flags) tail is = sym (nil_from_length tail is.tail_fits)
tail_again (ErrorRange gpa mask bytes) tail is = sym (nil_from_length tail is.tail_fits)
