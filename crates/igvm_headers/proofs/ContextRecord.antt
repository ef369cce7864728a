-- A context: what is spelled is read again, and what is read can be spelled.
use Rattle.std.proofs.Common.{◌≡◌, ℕ, List, ◌++◌, Ok, refl, subst}
use Rattle.byteorder.specs.Endian.{little_bytes}
use Rattle.igvm_headers.specs.Numbers.{number_at}
use Rattle.igvm_headers.specs.Records.Context.{context_form, context_fields}
use Rattle.igvm_headers.specs.Spelling.{header_fields}
use Rattle.igvm_headers.specs.Records.Fields.{reserved}
use Rattle.igvm_headers.specs.SpellingConditions.{NumbersFit}
use Rattle.igvm_headers.specs.declared.header.Header.{Header}
use Rattle.igvm_headers.specs.declared.header.Header.TheVariants.{Context}
use Rattle.igvm_headers.proofs.RecordFields.{number_again, Reads, number_fits, passed, ok, ok_is}

pub context_again : (gpa mask offset vp : ℕ) → NumbersFit (Context gpa mask offset vp) → context_form (header_fields (Context gpa mask offset vp)) ≡ Ok (Context gpa mask offset vp)
unfolding header_fields context_fields context_form
context_again gpa mask offset vp fit =
    let vp_rest = little_bytes 2 vp ++ reserved 2 in
    let g = number_again 8 gpa (little_bytes 4 mask ++ little_bytes 4 offset ++ vp_rest) fit.0 in
    let m = number_again 4 mask (little_bytes 4 offset ++ vp_rest) fit.1 in
    let o = number_again 4 offset vp_rest fit.2 in
    let v = number_again 2 vp (reserved 2) fit.3 in
    rw (g, m, o, v) refl

pub context_read : (content : List ℕ) (h : Header) → context_form content ≡ Ok h → Reads 0x304 content h
unfolding context_form ok
context_read content h e =
    let p = passed _ (Ok (Context (number_at 8 0 content) (number_at 4 8 content) (number_at 4 12 content) (number_at 2 16 content))) _ h e in
    subst (Reads 0x304 content) (ok_is _ h p.1) (record { type = refl; numbers = λ is. (number_fits 8 0 content is.bytes, number_fits 4 8 content is.bytes, number_fits 4 12 content is.bytes, number_fits 2 16 content is.bytes); tail_fits = refl; large_is_normal = tt; kind_is_carried = tt })
