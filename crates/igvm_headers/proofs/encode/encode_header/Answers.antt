-- what was appended piece by piece is the header's bytes, for which room was reserved
use Rattle.std.proofs.Common.{◌≡◌, ◌∙◌, ap, arith, length, replicate}
use Rattle.std.specs.Prelude.{Result, Ok, Err, OnErr}
use Rattle.std.proofs.lemmas.List.{length-append, take-replicate}
use Rattle.igvm_headers.specs.Spelling.{header_content, header_fields}
use Rattle.igvm_headers.proofs.Spelled.{fields_size, put_together, spelled_room}
use Rattle.igvm_headers.proofs.encode.encode_header.Goals as goal

-- a fact holds after an error, too
after_error : {T E P : Type 0} (r : Result T E) → P → OnErr r P
after_error (Ok x) fact = tt
after_error (Err e) fact = fact

pub returns-clause-spelled : goal.returns-clause-spelled
returns-clause-spelled c =
    let size : length (header_content c.args.h.now c.args.tail.now) ≡ c.content_size-length.result =
    omega (arith, length-append (header_fields c.args.h.now) c.args.tail.now, fields_size c.args.h.now c.numbers_fit.ensures, c.requires.tail_fits, c.content_size-length.ensures) in
    rw (c.append-2.ensures.items, c.append.ensures.items, c.append_fields.ensures.items, c.append_u32-2.ensures.items, c.append_u32.ensures.items, c.reserve.ensures.items, c.header_type.ensures)
    (put_together _ _ _ _ _ size (take-replicate c.padding_of-padding.result 7 0 c.padding_of-padding.ensures.few ∙ ap (λ k. replicate k 0) c.padding_of-padding.ensures.value))

pub returns-in_err-reserve-clause-full : goal.returns-in_err-reserve-clause-full
returns-in_err-reserve-clause-full c =
    let size : length (header_content c.args.h.now c.args.tail.now) ≡ c.content_size-length.result =
    omega (arith, length-append (header_fields c.args.h.now) c.args.tail.now, fields_size c.args.h.now c.numbers_fit.ensures, c.requires.tail_fits, c.content_size-length.ensures) in
    after_error c.from_residual.result
    (omega (arith, spelled_room c.args.h.now c.args.tail.now c.content_size-length.result size, c.in_err-reserve.ensures.full, c.padding_of-padding.ensures.value))
