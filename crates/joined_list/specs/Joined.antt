-- Two lists joined into one.
use Rattle.std.specs.Prelude.{ℕ, ◌+◌, ◌≤◌, List, ◌++◌, length, map}
use Rattle.igvm_image.specs.HeaderRules.{named_pages}
use Rattle.component_list.specs.FirstFault.{headers_in}
use Rattle.component_list.specs.Lists.{ImageParts}
use Rattle.component_list.specs.declared.component.Component.{Component}
use Rattle.list_changes.specs.Changes.{changed_part, same}
use Rattle.list_changes.specs.ListPlatforms.{platforms_in}
use Rattle.joined_list.specs.NewNumbers.{area_by, first_masks, list_areas, mask_by, second_areas, second_masks}
use Rattle.joined_list.specs.Parts.{first_part, second_part, third_part}

-- how many platforms two lists have together, how many areas, and how many pages they name
abbrev pub all_platforms : List Component → List Component → ℕ
all_platforms a b = length (platforms_in a) + length (platforms_in b)

abbrev pub all_areas : List Component → List Component → ℕ
all_areas a b = length (list_areas a) + length (list_areas b)

abbrev pub all_pages : List Component → List Component → ℕ
all_pages a b = named_pages (headers_in a) + named_pages (headers_in b)

-- they are no more than one list may have
pub record FitTogether (a b : List Component) : Type 0 where
  pub platforms : all_platforms a b ≤ 32
  pub areas : all_areas a b ≤ 256
  pub pages : all_pages a b ≤ 4194304

-- a component of the first list: its mask keeps the bits of the list's platforms alone
abbrev pub of_first : List Component → Component → Component
of_first a c = changed_part (mask_by (first_masks a)) same c

-- a component of the second: its mask has the new bits of those platforms whose old bits it had, and its area's index is new
abbrev pub of_second : List Component → List Component → Component → Component
of_second a b c = changed_part (mask_by (second_masks a b)) (area_by (second_areas a b)) c

-- the parts of both by turns
unfoldable pub joined_parts : List Component → List Component → List Component
joined_parts a b =
    map (of_first a) (first_part a) ++ map (of_second a b) (first_part b)
    ++ map (of_first a) (second_part a) ++ map (of_second a b) (second_part b)
    ++ map (of_first a) (third_part a) ++ map (of_second a b) (third_part b)

-- the joined list has the first's version
abbrev pub joined : ImageParts → ImageParts → ImageParts
joined first second = record { version = first.version; parts = joined_parts first.parts second.parts }
