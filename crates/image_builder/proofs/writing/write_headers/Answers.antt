-- one header more at a time, each with its planned offset
use Rattle.std.proofs.Common.{◌<◌, ◌∙◌, length, ap, arith}
use Rattle.igvm_headers.specs.Spelling.{spelled}
use Rattle.igvm_headers.specs.HeaderFacts.{with_offset}
use Rattle.image_builder.specs.Plans.{in_version}
use Rattle.image_builder.proofs.Saturated.{offset_at, offset_within}
use Rattle.image_builder.proofs.Written.{headers_more, headers_done}
use Rattle.image_builder.proofs.writing.write_headers.Goals as goal

pub overflow_cast-offsets : goal.overflow_cast-offsets
overflow_cast-offsets c =
    let list = in_version c.args.plan.now.version c.args.parts.now in
    let item = c.index-parts-place.result in
    let inside : c.parts.place < length c.args.parts.now = omega arith in
    let planned = c.as_slice-offsets.ensures.value ∙ c.requires.planned.placed in
    let at = offset_at list c.as_slice-offsets.result.now c.parts.place item planned c.requires.within inside c.index-parts-place.is in
    omega (arith, at, offset_within list item.content)

pub parts-preserved : goal.parts-preserved
parts-preserved c =
    let list = in_version c.args.plan.now.version c.args.parts.now in
    let item = c.index-parts-place.result in
    let inside : c.parts.place < length c.args.parts.now = omega arith in
    let planned = c.as_slice-offsets.ensures.value ∙ c.requires.planned.placed in
    let at = offset_at list c.as_slice-offsets.result.now c.parts.place item planned c.requires.within inside c.index-parts-place.is in
    headers_more list c.args.image.now.items c.parts.image.items _ c.parts.place item _ c.parts.invariant inside c.index-parts-place.is
    (ap (λ n. spelled (with_offset n item.header) item.tail) at) c.in_ok-write_header.ensures

pub returns : goal.returns
returns c =
    headers_done (in_version c.args.plan.now.version c.args.parts.now) c.args.image.now.items c.parts.image.items c.parts.place c.parts.invariant (omega arith)
