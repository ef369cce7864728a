-- New numbers for old ones: those of the second list's masks and areas, which keep apart from the first's.
use Rattle.std.specs.Prelude.{ℕ, List, [], ◌∷◌, map, filter, ◌==◌, not, if◌then◌else◌, bit_and, bit_or}
use Rattle.std.specs.List.{list_any, range_with_len}
use Rattle.igvm_image.specs.Areas.{areas_of}
use Rattle.igvm_image.specs.HeaderRules.{one_bit_masks}
use Rattle.igvm_image.specs.declared.area_table.AreaEntry.{AreaEntry}
use Rattle.component_list.specs.FirstFault.{headers_in}
use Rattle.component_list.specs.declared.component.Component.{Component}
use Rattle.list_changes.specs.ListPlatforms.{masks_in}
use Rattle.joined_list.specs.declared.moves.Move.{Move}

-- each old number with the next of the new ones
abbrev pub moves : List ℕ → List ℕ → List Move
moves [] news = []
moves (old ∷ olds) [] = []
moves (old ∷ olds) (new ∷ news) = record { old = old; new = new } ∷ moves olds news

-- those of these numbers that are not taken, in their order
abbrev pub free : List ℕ → List ℕ → List ℕ
free taken numbers = filter (λ n. not (list_any (λ t. t == n) taken)) numbers

-- the new bits of those whose old bits a mask has: all other bits are dropped
abbrev pub mask_by : List Move → ℕ → ℕ
mask_by [] mask = 0
mask_by (move ∷ others) mask = bit_or (if bit_and mask move.old == 0 then 0 else move.new) (mask_by others mask)

-- the new number of an old one
abbrev pub area_by : List Move → ℕ → ℕ
area_by [] area = area
area_by (move ∷ others) area = if move.old == area then move.new else area_by others area

-- the areas that a list declares
abbrev pub list_areas : List Component → List AreaEntry
list_areas parts = areas_of (headers_in parts)

-- their indices
abbrev pub areas_in : List Component → List ℕ
areas_in parts = map (λ entry. entry.area) (list_areas parts)

-- the platforms of the first list keep their bits
abbrev pub first_masks : List Component → List Move
first_masks a = moves (masks_in a) (masks_in a)

-- platform j of the second has the j-th least bit that no platform of the first has
unfoldable pub second_masks : List Component → List Component → List Move
second_masks a b = moves (masks_in b) (free (masks_in a) one_bit_masks)

-- Area j of the second has the j-th least index that no area of the first has. Together they are at most 256, so the
-- first 256 numbers suffice.
unfoldable pub second_areas : List Component → List Component → List Move
second_areas a b = moves (areas_in b) (free (areas_in a) (range_with_len 0 256))
