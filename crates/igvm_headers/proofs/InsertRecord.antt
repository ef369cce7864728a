-- An insert: what is spelled is read again, and what is read can be spelled.
use Rattle.std.proofs.Common.{◌≡◌, ℕ, List, ◌++◌, Ok, refl, [], subst}
use Rattle.byteorder.specs.Endian.{little_bytes}
use Rattle.igvm_headers.specs.Numbers.{number_at}
use Rattle.igvm_headers.specs.Records.Insert.{insert_form, insert_fields}
use Rattle.igvm_headers.specs.Spelling.{header_fields}
use Rattle.igvm_headers.specs.SpellingConditions.{NumbersFit}
use Rattle.igvm_headers.specs.declared.header.Header.{Header}
use Rattle.igvm_headers.specs.declared.header.Header.TheVariants.{Insert}
use Rattle.igvm_headers.proofs.RecordFields.{number_again, Reads, number_fits, of_length_ok}

pub insert_again : (gpa mask area : ℕ) → NumbersFit (Insert gpa mask area) → insert_form (header_fields (Insert gpa mask area)) ≡ Ok (Insert gpa mask area)
unfolding header_fields insert_fields insert_form
insert_again gpa mask area fit =
    let g = number_again 8 gpa (little_bytes 4 mask ++ little_bytes 4 area) fit.0 in
    let m = number_again 4 mask (little_bytes 4 area) fit.1 in
    let a = number_again 4 area [] fit.2 in
    rw (g, m, a) refl

pub insert_read : (content : List ℕ) (h : Header) → insert_form content ≡ Ok h → Reads 0x303 content h
unfolding insert_form
insert_read content h e =
    let p = of_length_ok 16 content (Insert (number_at 8 0 content) (number_at 4 8 content) (number_at 4 12 content)) h e in
    subst (Reads 0x303 content) p.1 (record { type = refl; numbers = λ is. (number_fits 8 0 content is.bytes, number_fits 4 8 content is.bytes, number_fits 4 12 content is.bytes); tail_fits = refl; large_is_normal = tt; kind_is_carried = tt })
