-- An area: what is spelled is read again, and what is read can be spelled.
use Rattle.std.proofs.Common.{◌≡◌, ℕ, List, ◌++◌, Ok, refl, [], subst}
use Rattle.byteorder.specs.Endian.{little_bytes}
use Rattle.igvm_headers.specs.Numbers.{number_at}
use Rattle.igvm_headers.specs.Records.Area.{area_form, area_fields}
use Rattle.igvm_headers.specs.Spelling.{header_fields}
use Rattle.igvm_headers.specs.SpellingConditions.{NumbersFit}
use Rattle.igvm_headers.specs.declared.header.Header.{Header}
use Rattle.igvm_headers.specs.declared.header.Header.TheVariants.{Area}
use Rattle.igvm_headers.proofs.RecordFields.{number_again, Reads, number_fits, of_length_ok}

pub area_again : (bytes area offset : ℕ) → NumbersFit (Area bytes area offset) → area_form (header_fields (Area bytes area offset)) ≡ Ok (Area bytes area offset)
unfolding header_fields area_fields area_form
area_again bytes area offset fit =
    let b = number_again 8 bytes (little_bytes 4 area ++ little_bytes 4 offset) fit.0 in
    let a = number_again 4 area (little_bytes 4 offset) fit.1 in
    let o = number_again 4 offset [] fit.2 in
    rw (b, a, o) refl

pub area_read : (content : List ℕ) (h : Header) → area_form content ≡ Ok h → Reads 0x301 content h
unfolding area_form
area_read content h e =
    let p = of_length_ok 16 content (Area (number_at 8 0 content) (number_at 4 8 content) (number_at 4 12 content)) h e in
    subst (Reads 0x301 content) p.1 (record { type = refl; numbers = λ is. (number_fits 8 0 content is.bytes, number_fits 4 8 content is.bytes, number_fits 4 12 content is.bytes); tail_fits = refl; large_is_normal = tt; kind_is_carried = tt })
