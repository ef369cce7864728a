-- How the areas stand in one buffer, one behind the other.
use Rattle.std.specs.Prelude.{ℕ, true, ◌+◌, ◌≡◌, ◌≤◌, List, [], ◌∷◌, map}
use Rattle.igvm_headers.specs.Numbers.{slice}
use Rattle.param_areas.specs.AreaBytes.{Area, Space}
use Rattle.param_areas.specs.declared.slot.Slot.{Slot}

-- the area whose bytes a slot has in the buffer
abbrev pub area_in : List ℕ → Slot → Area
area_in bytes slot =
    record { index = slot.area; bytes = slice bytes slot.start slot.size; taken = slot.taken }

-- the slots follow one another from a place on, up to an end
abbrev pub LaidOut : ℕ → List Slot → ℕ → Type 0
LaidOut place [] end = place ≡ end
LaidOut place (slot ∷ slots) end = (slot.start ≡ place) × LaidOut (place + slot.size) slots end

-- a slot of an area that is taken
abbrev pub marked : Slot → Slot
marked slot = record slot { taken = true }

-- the areas of slots in a buffer of so many bytes
abbrev pub space_in : ℕ → List ℕ → List Slot → Space
space_in total bytes slots = record { total = total; areas = map (area_in bytes) slots }

-- so many slots, one behind the other from the buffer's start, and within it
pub record AreInBuffer (total count used : ℕ) (slots : List Slot) : Type 0 where
  pub few : count ≤ 256
  pub within : used ≤ total
  pub small : total ≤ 67108864
  pub laid : LaidOut 0 slots used
