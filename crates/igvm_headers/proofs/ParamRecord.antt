-- A parameter: what is spelled is read again, and what is read can be spelled.
use Rattle.std.proofs.Common.{◌≡◌, ℕ, List, Ok, refl, [], subst}
use Rattle.byteorder.specs.Endian.{little_bytes}
use Rattle.igvm_headers.specs.Numbers.{number_at}
use Rattle.igvm_headers.specs.HeaderForm.{header_form}
use Rattle.igvm_headers.specs.Records.Param.{param_form, param_fields}
use Rattle.igvm_headers.specs.Spelling.{header_fields}
use Rattle.igvm_headers.specs.ParamKinds.{param_type}
use Rattle.igvm_headers.specs.SpellingConditions.{NumbersFit}
use Rattle.igvm_headers.specs.declared.param_kind.ParamKind.{ParamKind}
use Rattle.igvm_headers.specs.declared.header.Header.{Header}
use Rattle.igvm_headers.specs.declared.header.Header.TheVariants.{Param}
use Rattle.igvm_headers.specs.declared.param_kind.ParamKind.TheVariants as param
use Rattle.igvm_headers.proofs.RecordFields.{number_again, Reads, number_fits, of_length_ok}

pub header_form-param : (kind : ParamKind) (content : List ℕ) → header_form (param_type kind) content ≡ param_form kind content
unfolding header_form
header_form-param param.VpCount content = refl
header_form-param param.Srat content = refl
header_form-param param.Madt content = refl
header_form-param param.MmioRanges content = refl
header_form-param param.MemoryMap content = refl
header_form-param param.CommandLine content = refl
header_form-param param.Slit content = refl
header_form-param param.Pptt content = refl
header_form-param param.DeviceTree content = refl
header_form-param param.EnvironmentInfo content = refl

pub param_again : (kind : ParamKind) (area byte_offset : ℕ) → NumbersFit (Param kind area byte_offset) → param_form kind (header_fields (Param kind area byte_offset)) ≡ Ok (Param kind area byte_offset)
unfolding header_fields param_fields param_form
param_again kind area byte_offset fit =
    let a = number_again 4 area (little_bytes 4 byte_offset) fit.0 in
    let o = number_again 4 byte_offset [] fit.1 in
    rw (a, o) refl

pub param_read : (kind : ParamKind) (content : List ℕ) (h : Header) → param_form kind content ≡ Ok h → Reads (param_type kind) content h
unfolding param_form
param_read kind content h e =
    let p = of_length_ok 8 content (Param kind (number_at 4 0 content) (number_at 4 4 content)) h e in
    subst (Reads (param_type kind) content) p.1 (record { type = refl; numbers = λ is. (number_fits 4 0 content is.bytes, number_fits 4 4 content is.bytes); tail_fits = refl; large_is_normal = tt; kind_is_carried = tt })
