-- Components under new numbers.
use Rattle.std.proofs.Common.{◌≡◌, ℕ, List, ◌++◌, drop, length, map, refl, sym, ◌∙◌, ap, ap₂, take}
use Rattle.std.specs.List.{range_with_len}
use Rattle.std.proofs.lemmas.List.{length-map}
use Rattle.std.proofs.Math.Seq.{take-append_seam}
use Rattle.igvm_headers.specs.declared.header.Header.{Header}
use Rattle.igvm_headers.specs.declared.header.Header.TheVariants.{Platform, Policy, Area, Page, Insert, Param, Context, Required, ErrorRange, IdBlock, Carried}
use Rattle.igvm_image.specs.HeaderRules.{one_bit_masks}
use Rattle.component_list.specs.declared.component.Component.{Component}
use Rattle.list_changes.specs.Changes.{changed, changed_part, same}
use Rattle.list_changes.specs.ListPlatforms.{masks_in}
use Rattle.joined_list.specs.declared.moves.Move.{Move}
use Rattle.joined_list.specs.Joined.{of_second}
use Rattle.joined_list.specs.NewNumbers.{area_by, areas_in, free, mask_by, moves, second_areas, second_masks}

-- a change of masks and one of areas, one after the other, are one change
pub changed_twice : (mask_to area_to : ℕ → ℕ) (h : Header) → changed same area_to (changed mask_to same h) ≡ changed mask_to area_to h
changed_twice mask_to area_to (Platform mask highest_vtl kind version shared_gpa) = refl
changed_twice mask_to area_to (Policy policy mask) = refl
changed_twice mask_to area_to (Area bytes area offset) = refl
changed_twice mask_to area_to (Page gpa mask offset large unmeasured kind) = refl
changed_twice mask_to area_to (Insert gpa mask area) = refl
changed_twice mask_to area_to (Param kind area byte_offset) = refl
changed_twice mask_to area_to (Context gpa mask offset vp) = refl
changed_twice mask_to area_to (Required gpa mask bytes flags) = refl
changed_twice mask_to area_to (ErrorRange gpa mask bytes) = refl
changed_twice mask_to area_to (IdBlock mask author_enabled ld family_id image_id version guest_svn id_algorithm author_algorithm) = refl
changed_twice mask_to area_to (Carried kind length) = refl

-- what is written over all elements of a list is the list
written_over : (old new : List Component) (n : ℕ) → n ≡ length old → length new ≡ length old → take n (new ++ drop (length new) old) ≡ new
written_over old new n whole same_length =
    ap (λ k. take k (new ++ drop (length new) old)) (whole ∙ sym same_length) ∙ take-append_seam new (drop (length new) old)

-- the moves to numbers that are free beside those of the first list
pub second_renamed : (a b renamed : List Component) (n : ℕ) (masks areas : List Move) (second_numbers first_numbers indices taken : List ℕ)
    → masks ≡ moves second_numbers (free first_numbers one_bit_masks) → second_numbers ≡ masks_in b → first_numbers ≡ masks_in a
    → areas ≡ moves indices (free taken (range_with_len 0 256)) → indices ≡ areas_in b → taken ≡ areas_in a
    → n ≡ length b → renamed ≡ map (changed_part (mask_by masks) (area_by areas)) b
    → take n (renamed ++ drop (length renamed) b) ≡ map (of_second a b) b
unfolding second_masks second_areas
second_renamed a b renamed n masks areas second_numbers first_numbers indices taken masks_are olds kept areas_are old_indices kept_indices whole is =
    written_over b renamed n whole (ap length is ∙ length-map b (changed_part (mask_by masks) (area_by areas)))
    ∙ is
    ∙ ap₂ (λ ms ns. map (changed_part (mask_by ms) (area_by ns)) b)
    (masks_are ∙ ap₂ (λ os ts. moves os (free ts one_bit_masks)) olds kept)
    (areas_are ∙ ap₂ (λ os ts. moves os (free ts (range_with_len 0 256))) old_indices kept_indices)
