-- A required: what is spelled is read again, and what is read can be spelled.
use Rattle.std.proofs.Common.{◌≡◌, ℕ, List, ◌++◌, Ok, refl, subst}
use Rattle.byteorder.specs.Endian.{little_bytes}
use Rattle.igvm_headers.specs.Numbers.{number_at}
use Rattle.igvm_headers.specs.Records.Required.{required_form, required_fields}
use Rattle.igvm_headers.specs.Spelling.{header_fields}
use Rattle.igvm_headers.specs.Records.Fields.{reserved}
use Rattle.igvm_headers.specs.SpellingConditions.{NumbersFit}
use Rattle.igvm_headers.specs.declared.header.Header.{Header}
use Rattle.igvm_headers.specs.declared.header.Header.TheVariants.{Required}
use Rattle.igvm_headers.proofs.RecordFields.{number_again, Reads, number_fits, of_length_ok}

pub required_again : (gpa mask bytes flags : ℕ) → NumbersFit (Required gpa mask bytes flags) → required_form (header_fields (Required gpa mask bytes flags)) ≡ Ok (Required gpa mask bytes flags)
unfolding header_fields required_fields required_form
required_again gpa mask bytes flags fit =
    let flags_rest = little_bytes 4 flags ++ reserved 4 in
    let g = number_again 8 gpa (little_bytes 4 mask ++ little_bytes 4 bytes ++ flags_rest) fit.0 in
    let m = number_again 4 mask (little_bytes 4 bytes ++ flags_rest) fit.1 in
    let b = number_again 4 bytes flags_rest fit.2 in
    let f = number_again 4 flags (reserved 4) fit.3 in
    rw (g, m, b, f) refl

pub required_read : (content : List ℕ) (h : Header) → required_form content ≡ Ok h → Reads 0x305 content h
unfolding required_form
required_read content h e =
    let p = of_length_ok 24 content (Required (number_at 8 0 content) (number_at 4 8 content) (number_at 4 12 content) (number_at 4 16 content)) h e in
    subst (Reads 0x305 content) p.1 (record { type = refl; numbers = λ is. (number_fits 8 0 content is.bytes, number_fits 4 8 content is.bytes, number_fits 4 12 content is.bytes, number_fits 4 16 content is.bytes); tail_fits = refl; large_is_normal = tt; kind_is_carried = tt })
