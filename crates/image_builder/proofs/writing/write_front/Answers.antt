-- the numbers of the plan are exact within the limit
use Rattle.std.proofs.Common.{◌≡◌, ◌++◌, replicate, ap, ◌∙◌, arith}
use Rattle.image_builder.specs.Layout.{section_size, layout_size, section, data_bytes, fixed_front, fixed_rest}
use Rattle.image_builder.specs.Plans.{in_version}
use Rattle.image_builder.proofs.Saturated.{plan_end, section_within}
use Rattle.image_builder.proofs.Written.{whole, whole_layout}
use Rattle.image_builder.proofs.writing.write_front.Goals as goal

pub overflow_cast-plan : goal.overflow_cast-plan
overflow_cast-plan c =
    omega (arith, section_within (in_version c.args.plan.now.version c.args.parts.now), c.requires.planned.sized)

pub overflow_cast-total : goal.overflow_cast-total
overflow_cast-total c =
    let list = in_version c.args.plan.now.version c.args.parts.now in
    let end = c.end-total.ensures ∙ plan_end _ _ c.args.plan.now.contents list c.requires.planned in
    omega (arith, end)

pub returns : goal.returns
returns c =
    let version = c.args.plan.now.version in
    let list = in_version version c.args.parts.now in
    let section' = c.args.plan.now.section in
    let total' = c.end-total.result in
    let end = c.end-total.ensures ∙ plan_end _ _ c.args.plan.now.contents list c.requires.planned in
    let total : total' ≡ layout_size list = omega (arith, end) in
    let size : section' ≡ section_size list.parts = omega (arith, section_within list, c.requires.planned.sized) in
    let fixed = c.in_ok-write_fixed.ensures
    ∙ ap (λ old. old ++ (fixed_front version section' total' ++ replicate 4 0 ++ fixed_rest version)) c.in_ok-image.ensures.items in
    whole_layout list section' total' _ size total
    (whole version section' total' (section list) (data_bytes list.parts)
    c.write_fixed.new.image.items c.write_headers.new.image.items c.write_checksum.new.image.items
    fixed c.in_ok-write_headers.ensures c.write_checksum.ensures)
