-- A policy: what is spelled is read again, and what is read can be spelled.
use Rattle.std.proofs.Common.{◌≡◌, ℕ, List, ◌++◌, Ok, refl, subst}
use Rattle.byteorder.specs.Endian.{little_bytes}
use Rattle.igvm_headers.specs.Numbers.{number_at}
use Rattle.igvm_headers.specs.Records.Policy.{policy_form, policy_fields}
use Rattle.igvm_headers.specs.Spelling.{header_fields}
use Rattle.igvm_headers.specs.Records.Fields.{reserved}
use Rattle.igvm_headers.specs.SpellingConditions.{NumbersFit}
use Rattle.igvm_headers.specs.declared.header.Header.{Header}
use Rattle.igvm_headers.specs.declared.header.Header.TheVariants.{Policy}
use Rattle.igvm_headers.proofs.RecordFields.{number_again, Reads, number_fits, of_length_ok}

pub policy_again : (policy mask : ℕ) → NumbersFit (Policy policy mask) → policy_form (header_fields (Policy policy mask)) ≡ Ok (Policy policy mask)
unfolding header_fields policy_fields policy_form
policy_again policy mask fit =
    let p = number_again 8 policy (little_bytes 4 mask ++ reserved 4) fit.0 in
    let m = number_again 4 mask (reserved 4) fit.1 in
    rw (p, m) refl

pub policy_read : (content : List ℕ) (h : Header) → policy_form content ≡ Ok h → Reads 0x101 content h
unfolding policy_form
policy_read content h e =
    let p = of_length_ok 16 content (Policy (number_at 8 0 content) (number_at 4 8 content)) h e in
    subst (Reads 0x101 content) p.1 (record { type = refl; numbers = λ is. (number_fits 8 0 content is.bytes, number_fits 4 8 content is.bytes); tail_fits = refl; large_is_normal = tt; kind_is_carried = tt })
