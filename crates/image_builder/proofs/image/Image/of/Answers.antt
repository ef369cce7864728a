-- the end of the planned row is the layout's length, up to the greatest number of 64 bits
use Rattle.std.proofs.Common.{◌≡◌, ◌≤◌, ℕ, List, ap, ap₂, sym, ◌∙◌, ◌+◌, length, arith, true}
use Rattle.std.specs.Prelude.{sum_by}
use Rattle.igvm_headers.specs.Fixed.{is_version}
use Rattle.igvm_image.specs.FileFault.{fault_of}
use Rattle.component_list.specs.declared.component.Component.{Component}
use Rattle.component_list.specs.ImageList.{list_of}
use Rattle.component_list.specs.Lists.{ImageParts, IsList, IsValid}
use Rattle.image_builder.specs.ContentIndex.{Row, saturated}
use Rattle.image_builder.specs.Layout.{layout, layout_size}
use Rattle.image_builder.specs.Plans.{IsPlan, in_version}
use Rattle.image_builder.proofs.Saturated.{plan_end}
use Rattle.image_builder.proofs.image.Image.of.Goals as goal

-- what is planned is the list
planned_is : (plan version : ℕ) (parts : List Component) (list : ImageParts) → plan ≡ version → version ≡ list.version → parts ≡ list.parts
    → in_version plan parts ≡ list
planned_is plan version parts list same is all = ap₂ in_version (same ∙ is) all

-- the end of the row
end_is : (plan end section : ℕ) (offsets : List ℕ) (row : Row) (parts : List Component) (list : ImageParts) → IsPlan section offsets row (in_version plan parts)
    → end ≡ saturated (row.start + sum_by length row.kept) → in_version plan parts ≡ list → end ≡ saturated (layout_size list)
end_is plan end section offsets row parts list planned is same =
    is ∙ plan_end section offsets row (in_version plan parts) planned ∙ ap (λ l. saturated (layout_size l)) same

-- and keeps the rules
list_is : (version : ℕ) (list : ImageParts) → version ≡ list.version → is_version version ≡ true → IsValid list.parts → IsList list
list_is version list same known valid = record { known = ap is_version (sym same) ∙ known; valid = valid }

pub returns-then-bytes-gt-IMAGE_LIMIT-clause-too_large : goal.returns-then-bytes-gt-IMAGE_LIMIT-clause-too_large
returns-then-bytes-gt-IMAGE_LIMIT-clause-too_large c =
    let list = c.args.list.now in
    let same = planned_is _ _ _ list c.in-Ok.ensures.version c.version-version.ensures.value c.components-parts.ensures.value in
    let end = end_is _ _ _ _ c.in-Ok.plan.contents _ list c.in-Ok.ensures.planned c.end-bytes.ensures same in
    let size = c.layout_has_its_size.ensures.layout list in
    (omega (arith, end, size), end ∙ ap saturated (sym size))

pub planned-requires-clause-within : goal.planned-requires-clause-within
planned-requires-clause-within c =
    let end = c.end-bytes.ensures ∙ plan_end _ _ c.in-Ok.plan.contents (in_version c.in-Ok.plan.version c.components-parts.result.now) c.in-Ok.ensures.planned in
    omega (arith, end)

pub returns-in-Ok-planned-clause-within : goal.returns-in-Ok-planned-clause-within
returns-in-Ok-planned-clause-within c =
    let list = c.args.list.now in
    let same = planned_is _ _ _ list c.in-Ok.ensures.version c.version-version.ensures.value c.components-parts.ensures.value in
    let end = end_is _ _ _ _ c.in-Ok.plan.contents _ list c.in-Ok.ensures.planned c.end-bytes.ensures same in
    omega (arith, end, c.layout_has_its_size.ensures.layout list)

-- a layout within the limit is read back
pub returns-in-Ok-planned-clause-accepted : goal.returns-in-Ok-planned-clause-accepted
returns-in-Ok-planned-clause-accepted c =
    let list = c.args.list.now in
    let same = planned_is _ _ _ list c.in-Ok.ensures.version c.version-version.ensures.value c.components-parts.ensures.value in
    let end = end_is _ _ _ _ c.in-Ok.plan.contents _ list c.in-Ok.ensures.planned c.end-bytes.ensures same in
    let within : layout_size list ≤ 536870912 = omega (arith, end) in
    let is = list_is _ list c.version-version.ensures.value c.version-version.ensures.known c.components-parts.ensures.valid in
    ap fault_of (c.in-Ok-planned.ensures ∙ ap layout same) ∙ c.built_is_read_back.ensures.accepted list is within

pub returns-in-Ok-planned-clause-list : goal.returns-in-Ok-planned-clause-list
returns-in-Ok-planned-clause-list c =
    let list = c.args.list.now in
    let same = planned_is _ _ _ list c.in-Ok.ensures.version c.version-version.ensures.value c.components-parts.ensures.value in
    let end = end_is _ _ _ _ c.in-Ok.plan.contents _ list c.in-Ok.ensures.planned c.end-bytes.ensures same in
    let within : layout_size list ≤ 536870912 = omega (arith, end) in
    let is = list_is _ list c.version-version.ensures.value c.version-version.ensures.known c.components-parts.ensures.valid in
    ap list_of (c.in-Ok-planned.ensures ∙ ap layout same) ∙ c.built_is_read_back.ensures.list list is within
