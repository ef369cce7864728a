-- What areas were told: the declared content and the values set since. Each byte is that of the
-- last value that covers its place, else the declared content's.
use Rattle.std.specs.Prelude.{ℕ, ◌+◌, ◌-◌, ◌*◌, ◌/◌, ◌%◌, ◌≡◌, ◌&&◌, ◌==◌, List, [], ◌∷◌, ◌++◌, Bool, true, false, Option, Some, None, length, slice_index, map, find, reverse, nat_lt, nat_le}
use Rattle.std.specs.List.{range_with_len}
use Rattle.igvm_image.specs.Data.{Data, data_page}
use Rattle.param_areas.specs.AreaBytes.{Area, Space, change_first}

-- a value that was set, and the place of its first byte
pub record Setting : Type 0 where
  pub place : ℕ
  pub value : List ℕ

-- an area's index, its declared content, the values set since in order, and whether it is taken
pub record Told : Type 0 where
  pub index : ℕ
  pub content : Data
  pub settings : List Setting
  pub taken : Bool

-- a value covers a place
abbrev pub covers : ℕ → Setting → Bool
covers place setting =
    nat_le setting.place place && nat_lt place (setting.place + length setting.value)

-- the last of the values that covers a place
abbrev pub last_over : ℕ → List Setting → Option Setting
last_over place settings = find (covers place) (reverse settings)

-- a value's byte at a place of the area, or this byte where there is no value
abbrev pub byte_or : ℕ → ℕ → Option Setting → ℕ
byte_or byte place None = byte
byte_or byte place (Some setting) = slice_index setting.value (place - setting.place)

-- the byte at a place of the pages of the content
unfoldable pub content_byte : Data → ℕ → ℕ
content_byte content place = slice_index (data_page content (place / 4096)) (place % 4096)

-- the byte at a place: that of the last value that covers it, else the declared content's
unfoldable pub area_byte : Data → List Setting → ℕ → ℕ
area_byte content settings place =
    byte_or (content_byte content place) place (last_over place settings)

-- all bytes of an area, in order
unfoldable pub area_bytes : Data → List Setting → List ℕ
area_bytes content settings =
    map (area_byte content settings) (range_with_len 0 (4096 * content.pages))

-- all bytes of the content, page by page
unfoldable pub content_bytes : Data → List ℕ
content_bytes content = map (content_byte content) (range_with_len 0 (4096 * content.pages))

-- what an area is that was told this
abbrev pub shown : Told → Area
shown told =
    record { index = told.index; bytes = area_bytes told.content told.settings; taken = told.taken }

-- these areas were told this, one by one
abbrev pub Shows : Space → List Told → Type 0
Shows space told = space.areas ≡ map shown told

-- an area as it is declared
abbrev pub declared : ℕ → Data → Told
declared area content = record { index = area; content = content; settings = []; taken = false }

-- one more value is set
abbrev pub told_value : ℕ → List ℕ → Told → Told
told_value place value told =
    record told { settings = told.settings ++ (record { place = place; value = value }) ∷ [] }

-- the area is taken
abbrev pub told_taken : Told → Told
told_taken told = record told { taken = true }

-- what is told of the area of an index changes, and of no other
abbrev pub told_change : (Told → Told) → ℕ → List Told → List Told
told_change change area told = change_first (λ t. t.index == area) change told

-- a byte of what was told, or 0 of nothing
abbrev pub byte_in : ℕ → Option Told → ℕ
byte_in place None = 0
byte_in place (Some told) = area_byte told.content told.settings place

-- what the area of an index was told
abbrev pub told_at : List Told → ℕ → Option Told
told_at told area = find (λ t. t.index == area) told

-- the size of an area by its content, in bytes, or 0 where there is none
abbrev pub told_size : Option Told → ℕ
told_size None = 0
told_size (Some told) = 4096 * told.content.pages

-- the byte at a place of the area of an index
abbrev pub told_byte : List Told → ℕ → ℕ → ℕ
told_byte told area place = byte_in place (told_at told area)
