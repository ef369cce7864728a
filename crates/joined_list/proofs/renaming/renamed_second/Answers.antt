use Rattle.std.proofs.Common.{◌∙◌, ap, ap₂, map}
use Rattle.list_changes.specs.Changes.{changed_part}
use Rattle.joined_list.specs.NewNumbers.{area_by, mask_by}
use Rattle.joined_list.proofs.Renamed.{second_renamed}
use Rattle.joined_list.proofs.renaming.renamed_second.Goals as goal

pub returns : goal.returns
returns c = λ first are.
    second_renamed first c.args.list.items c.rename.new.parts c.args.list.len c.in_ok-masks.masks.items c.in_ok-areas.areas.items _ _ _ _
    c.in_ok-masks.ensures (c.as_slice.ensures.value ∙ c.requires.masks) (c.as_slice-2.ensures.value ∙ are.masks)
    c.in_ok-areas.ensures (c.as_slice-3.ensures.value ∙ c.requires.areas) (c.as_slice-4.ensures.value ∙ are.areas)
    c.args.list.ok.0
    (c.rename.ensures ∙ ap₂ (λ masks areas. map (changed_part (mask_by masks) (area_by areas)) c.as_mut_slice.result.now) c.as_slice-5.ensures.value c.as_slice-6.ensures.value
    ∙ ap (map (changed_part (mask_by c.in_ok-masks.masks.items) (area_by c.in_ok-areas.areas.items))) c.as_mut_slice.ensures.value)
