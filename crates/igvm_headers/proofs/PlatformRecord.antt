-- A platform: what is spelled is read again, and what is read can be spelled.
use Rattle.std.proofs.Common.{◌≡◌, ℕ, List, ◌++◌, length, Ok, refl, ◌<◌, [], Some, None, lit<, Option, subst}
use Rattle.std.specs.Prelude.{◌==◌}
use Rattle.byteorder.specs.Endian.{little_bytes}
use Rattle.igvm_headers.specs.Numbers.{number_at}
use Rattle.igvm_headers.specs.Records.Platform.{platform_form, platform_fields, platform_with}
use Rattle.igvm_headers.specs.Spelling.{header_fields}
use Rattle.igvm_headers.specs.SpellingConditions.{NumbersFit}
use Rattle.igvm_headers.specs.declared.header.Header.{Header}
use Rattle.igvm_headers.specs.declared.header.Header.TheVariants.{Platform}
use Rattle.igvm_headers.specs.PlatformKinds.{kind_number, platform_kind_of}
use Rattle.igvm_headers.specs.declared.platform_kind.PlatformKind.{PlatformKind}
use Rattle.igvm_headers.specs.declared.platform_kind.PlatformKind.TheVariants as platform
use Rattle.igvm_headers.proofs.RecordFields.{number_again, Reads, number_fits, passed, ok, ok_is}

pub platform_kind_again : (kind : PlatformKind) → platform_kind_of (kind_number kind) ≡ Some kind
platform_kind_again platform.Native = refl
platform_kind_again platform.VsmIsolation = refl
platform_kind_again platform.SevSnp = refl
platform_kind_again platform.Tdx = refl
platform_kind_again platform.Sev = refl
platform_kind_again platform.SevEs = refl

kind_number-fits : (kind : PlatformKind) → kind_number kind < 256
kind_number-fits platform.Native = lit< tt
kind_number-fits platform.VsmIsolation = lit< tt
kind_number-fits platform.SevSnp = lit< tt
kind_number-fits platform.Tdx = lit< tt
kind_number-fits platform.Sev = lit< tt
kind_number-fits platform.SevEs = lit< tt

pub platform_again : (mask highest_vtl : ℕ) (kind : PlatformKind) (version shared_gpa : ℕ) → NumbersFit (Platform mask highest_vtl kind version shared_gpa)
    → platform_form (header_fields (Platform mask highest_vtl kind version shared_gpa)) ≡ Ok (Platform mask highest_vtl kind version shared_gpa)
unfolding header_fields platform_fields platform_form
platform_again mask highest_vtl kind version shared_gpa fit =
    let gpa_rest = little_bytes 8 shared_gpa in
    let version_rest = little_bytes 2 version ++ gpa_rest in
    let kind_rest = little_bytes 1 (kind_number kind) ++ version_rest in
    let m = number_again 4 mask (little_bytes 1 highest_vtl ++ kind_rest) fit.0 in
    let l = number_again 1 highest_vtl kind_rest fit.1 in
    let k = number_again 1 (kind_number kind) version_rest (kind_number-fits kind) in
    let v = number_again 2 version gpa_rest fit.2 in
    let g = number_again 8 shared_gpa [] fit.3 in
    rw (k, platform_kind_again kind, m, l, v, g) refl

pub platform_with_read : (content : List ℕ) (kind : Option PlatformKind) (h : Header) → platform_with content kind ≡ Ok h → Reads 0x1 content h
unfolding ok
platform_with_read content None h e = absurd cc
platform_with_read content (Some kind) h e =
    subst (Reads 0x1 content) (ok_is _ h e) (record { type = refl; numbers = λ is. (number_fits 4 0 content is.bytes, number_fits 1 4 content is.bytes, number_fits 2 6 content is.bytes, number_fits 8 8 content is.bytes); tail_fits = refl; large_is_normal = tt; kind_is_carried = tt })

pub platform_read : (content : List ℕ) (h : Header) → platform_form content ≡ Ok h → Reads 0x1 content h
unfolding platform_form
platform_read content h e =
    platform_with_read content (platform_kind_of (number_at 1 5 content)) h (passed (length content == 16) _ _ h e).1
