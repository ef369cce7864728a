-- An error range: what is spelled is read again, and what is read can be spelled.
use Rattle.std.proofs.Common.{◌≡◌, ℕ, List, ◌++◌, Ok, refl, [], subst}
use Rattle.byteorder.specs.Endian.{little_bytes}
use Rattle.igvm_headers.specs.Numbers.{number_at}
use Rattle.igvm_headers.specs.Records.ErrorRange.{error_range_form, error_range_fields}
use Rattle.igvm_headers.specs.Spelling.{header_fields}
use Rattle.igvm_headers.specs.SpellingConditions.{NumbersFit}
use Rattle.igvm_headers.specs.declared.header.Header.{Header}
use Rattle.igvm_headers.specs.declared.header.Header.TheVariants.{ErrorRange}
use Rattle.igvm_headers.proofs.RecordFields.{number_again, Reads, number_fits, of_length_ok}

pub error_range_again : (gpa mask bytes : ℕ) → NumbersFit (ErrorRange gpa mask bytes) → error_range_form (header_fields (ErrorRange gpa mask bytes)) ≡ Ok (ErrorRange gpa mask bytes)
unfolding header_fields error_range_fields error_range_form
error_range_again gpa mask bytes fit =
    let g = number_again 8 gpa (little_bytes 4 mask ++ little_bytes 4 bytes) fit.0 in
    let m = number_again 4 mask (little_bytes 4 bytes) fit.1 in
    let b = number_again 4 bytes [] fit.2 in
    rw (g, m, b) refl

pub error_range_read : (content : List ℕ) (h : Header) → error_range_form content ≡ Ok h → Reads 0x30D content h
unfolding error_range_form
error_range_read content h e =
    let p = of_length_ok 16 content (ErrorRange (number_at 8 0 content) (number_at 4 8 content) (number_at 4 12 content)) h e in
    subst (Reads 0x30D content) p.1 (record { type = refl; numbers = λ is. (number_fits 8 0 content is.bytes, number_fits 4 8 content is.bytes, number_fits 4 12 content is.bytes); tail_fits = refl; large_is_normal = tt; kind_is_carried = tt })
