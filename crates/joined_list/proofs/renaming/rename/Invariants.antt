use Rattle.std.proofs.Common.{◌≡◌, ◌++◌, map, take, drop}
use Rattle.list_changes.specs.Changes.{changed_part}
use Rattle.joined_list.specs.NewNumbers.{area_by, mask_by}
use Rattle.joined_list.proofs.renaming.rename.Given as goal

abbrev pub invariant-parts : goal.invariant-parts
invariant-parts l =
    l.parts ≡ map (changed_part (mask_by l.masks) (area_by l.areas)) (take l.component-index l.fn.parts) ++ drop l.component-index l.fn.parts
