use Rattle.std.proofs.Common.{◌≡◌, ◌∙◌, ap, sym, set, get_or}
use Rattle.std.proofs.lemmas.List.Edits.{map_over_more}
use Rattle.igvm_headers.specs.declared.header.Header.{Header}
use Rattle.component_list.specs.declared.component.Component.{Component}
use Rattle.list_changes.specs.Changes.{changed, changed_part, same}
use Rattle.joined_list.specs.NewNumbers.{area_by, mask_by}
use Rattle.joined_list.proofs.Renamed.{changed_twice}
use Rattle.joined_list.proofs.renaming.rename.Goals as goal

pub parts-preserved : goal.parts-preserved
parts-preserved c =
    let parts = c.parts.parts in
    let place = c.parts.component-index in
    let mask_to = mask_by c.args.masks.now in
    let area_to = area_by c.args.areas.now in
    let here = get_or parts place c.component-item.result in
    let header : c.with_new_area-component.result ≡ changed mask_to area_to here.header =
    c.with_new_area-component.ensures ∙ ap (changed same area_to) c.with_new_mask-header.ensures ∙ changed_twice mask_to area_to here.header in
    ap (λ (h : Header). set parts place (record { header = h; tail = here.tail; content = here.content })) header
    ∙ ap (λ (x : Component). set parts place (changed_part mask_to area_to x)) (sym c.component-item.is)
    ∙ map_over_more (changed_part mask_to area_to) c.args.parts.now parts place c.component-item.result c.parts-test.true c.parts.invariant c.component-item.is
