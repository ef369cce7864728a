-- Slots one behind the other in a buffer, and what a value written to it changes.
use Rattle.std.proofs.Common.{◌≡◌, ℕ, ◌+◌, ◌≤◌, List, [], ◌∷◌, ◌++◌, Bool, true, false, cond, Option, Some, None, length, map, find, refl, ap, sym, ◌∙◌, arith, ◌==◌, IsSome}
use Rattle.std.proofs.lemmas.List.Sums.{sum_by-cons}
use Rattle.igvm_headers.specs.Numbers.{slice}
use Rattle.std.specs.Option.{option_map}
use Rattle.std.proofs.lemmas.List.{map-append, length-map}
use Rattle.param_areas.specs.AreaBytes.{Area, Space, IsOpen, area_at, bytes_in, bytes_of, change_first, with_area, with_change, with_taken, with_value, written, size_of_all}
use Rattle.param_areas.specs.Slots.{area_in, LaidOut}
use Rattle.param_areas.specs.declared.slot.Slot.{Slot}
use Rattle.param_areas.proofs.Written.{slice_written_before, slice_written_behind, slice_written_in, slice_written_same, length_slice, slice_of_slice}
use Rattle.param_areas.proofs.Changes.{find_shown, change_shown}

-- they go on to the end
pub end_behind : (slots : List Slot) (place end : ℕ) → LaidOut place slots end → place ≤ end
end_behind [] place end laid = omega arith
end_behind (slot ∷ slots) place end laid = omega (arith, end_behind slots (place + slot.size) end laid.1)

-- what is found stands between them
pub found_within : (test : Slot → Bool) (slots : List Slot) (place end : ℕ) (found : Slot) → LaidOut place slots end → find test slots ≡ Some found → (place ≤ found.start) × (found.start + found.size ≤ end)
found_within test [] place end found laid is = cc
found_within test (slot ∷ slots) place end found laid is =
    elim (test slot) as (λ b. cond b (Some slot) (find test slots) ≡ Some found → (place ≤ found.start) × (found.start + found.size ≤ end)) [
      | true ↦ λ here.
          let same : slot ≡ found = cc in
          let start : slot.start ≡ found.start = ap (λ s. s.start) same in
          let size : slot.size ≡ found.size = ap (λ s. s.size) same in
          (omega arith, omega (arith, end_behind slots (place + slot.size) end laid.1))
      | false ↦ λ there.
          let rest = found_within test slots (place + slot.size) end found laid.1 there in
          (omega (arith, rest.0), rest.1)
    ] is

-- an area whose bytes are the same
same_area : (slot : Slot) (before after : List ℕ) → slice after slot.start slot.size ≡ slice before slot.start slot.size → area_in after slot ≡ area_in before slot
same_area slot before after same =
    ap (λ (bytes : List ℕ). let area : Area = record { index = slot.area; bytes = bytes; taken = slot.taken } in area) same

-- all stand before the value
pub kept_before : (bytes value : List ℕ) (at : ℕ) (slots : List Slot) (place end : ℕ) → LaidOut place slots end → end ≤ at → at + length value ≤ length bytes → map (area_in (written at value bytes)) slots ≡ map (area_in bytes) slots
kept_before bytes value at [] place end laid before within = refl
kept_before bytes value at (slot ∷ slots) place end laid before within =
    let behind = end_behind slots (place + slot.size) end laid.1 in
    ap (λ (a : Area). a ∷ map (area_in (written at value bytes)) slots) (same_area slot bytes (written at value bytes) (slice_written_before bytes value at slot.start slot.size within (omega (arith, behind))))
    ∙ ap (λ areas. area_in bytes slot ∷ areas) (kept_before bytes value at slots (place + slot.size) end laid.1 before within)

-- all stand behind the value
pub kept_behind : (bytes value : List ℕ) (at : ℕ) (slots : List Slot) (place end : ℕ) → LaidOut place slots end → at + length value ≤ place → end ≤ length bytes → map (area_in (written at value bytes)) slots ≡ map (area_in bytes) slots
kept_behind bytes value at [] place end laid behind within = refl
kept_behind bytes value at (slot ∷ slots) place end laid behind within =
    let rest = end_behind slots (place + slot.size) end laid.1 in
    ap (λ (a : Area). a ∷ map (area_in (written at value bytes)) slots) (same_area slot bytes (written at value bytes) (slice_written_behind bytes value at slot.start slot.size (omega arith) (omega (arith, rest))))
    ∙ ap (λ areas. area_in bytes slot ∷ areas) (kept_behind bytes value at slots (place + slot.size) end laid.1 (omega arith) within)

value_in_slot : (bytes value : List ℕ) (at : ℕ) (slot found : Slot) → slot.start ≡ found.start → at + length value ≤ slot.size → slot.start + slot.size ≤ length bytes → area_in (written (found.start + at) value bytes) slot ≡ with_value at value (area_in bytes slot)
value_in_slot bytes value at slot found start fits within =
    ap (λ (k : ℕ). area_in (written (k + at) value bytes) slot) (sym start)
    ∙ ap (λ (part : List ℕ). let area : Area = record { index = slot.area; bytes = part; taken = slot.taken } in area) (slice_written_in bytes value slot.start slot.size at fits within)

-- a value within one of them changes that one
pub value_in_slots : (bytes value : List ℕ) (area at : ℕ) (slots : List Slot) (place end : ℕ) (found : Slot) → LaidOut place slots end → end ≤ length bytes → find (λ s. s.area == area) slots ≡ Some found → at + length value ≤ found.size → map (area_in (written (found.start + at) value bytes)) slots ≡ change_first (λ a. a.index == area) (with_value at value) (map (area_in bytes) slots)
value_in_slots bytes value area at [] place end found laid within is fits = refl
value_in_slots bytes value area at (slot ∷ slots) place end found laid within is fits =
    let after : List ℕ = written (found.start + at) value bytes in
    elim (slot.area == area) as (λ b. cond b (Some slot) (find (λ s. s.area == area) slots) ≡ Some found → area_in after slot ∷ map (area_in after) slots ≡ cond b (with_value at value (area_in bytes slot) ∷ map (area_in bytes) slots) (area_in bytes slot ∷ change_first (λ a. a.index == area) (with_value at value) (map (area_in bytes) slots))) [
      | true ↦ λ here.
          let same : slot ≡ found = cc in
          let start : slot.start ≡ found.start = ap (λ s. s.start) same in
          let size : slot.size ≡ found.size = ap (λ s. s.size) same in
          let rest = end_behind slots (place + slot.size) end laid.1 in
          ap (λ (areas : List Area). area_in after slot ∷ areas) (kept_behind bytes value (found.start + at) slots (place + slot.size) end laid.1 (omega arith) within)
          ∙ ap (λ (a : Area). a ∷ map (area_in bytes) slots) (value_in_slot bytes value at slot found start (omega arith) (omega (arith, rest)))
      | false ↦ λ there.
          let further = found_within (λ s. s.area == area) slots (place + slot.size) end found laid.1 there in
          ap (λ (a : Area). a ∷ map (area_in after) slots) (same_area slot bytes after (slice_written_before bytes value (found.start + at) slot.start slot.size (omega (arith, further.0, further.1)) (omega (arith, further.0))))
          ∙ ap (λ (areas : List Area). area_in bytes slot ∷ areas) (value_in_slots bytes value area at slots (place + slot.size) end found laid.1 within there fits)
    ] is

-- the sizes add up
pub sizes_add_up : (bytes : List ℕ) (slots : List Slot) (place end : ℕ) → LaidOut place slots end → end ≤ length bytes → place + size_of_all (map (area_in bytes) slots) ≡ end
sizes_add_up bytes [] place end laid within = omega arith
sizes_add_up bytes (slot ∷ slots) place end laid within =
    let rest = end_behind slots (place + slot.size) end laid.1 in
    let here : length (slice bytes slot.start slot.size) ≡ slot.size = length_slice bytes slot.start slot.size (omega (arith, rest)) in
    omega (arith, here, sum_by-cons (λ (a : Area). length a.bytes) (area_in bytes slot) (map (area_in bytes) slots), sizes_add_up bytes slots (place + slot.size) end laid.1 within)

-- one more behind them
pub laid_push : (slots : List Slot) (slot : Slot) (place end : ℕ) → LaidOut place slots end → slot.start ≡ end → LaidOut place (slots ++ slot ∷ []) (end + slot.size)
laid_push [] slot place end laid start = (start ∙ sym laid, ap (λ k. k + slot.size) laid)
laid_push (s ∷ slots) slot place end laid start = (laid.0, laid_push slots slot (place + s.size) end laid.1 start)

-- a mark moves nothing
pub laid_taken : (test : Slot → Bool) (slots : List Slot) (place end : ℕ) → LaidOut place slots end → LaidOut place (change_first test (λ s. record s { taken = true }) slots) end
laid_taken test [] place end laid = laid
laid_taken test (slot ∷ slots) place end laid =
    elim (test slot) as (λ b. LaidOut place (cond b (record slot { taken = true } ∷ slots) (slot ∷ change_first test (λ s. record s { taken = true }) slots)) end) [
      | true ↦ laid
      | false ↦ (laid.0, laid_taken test slots (place + slot.size) end laid.1)
    ]

there : (g : Slot → Area) (o : Option Slot) → option_map (λ (a : Area). a.taken) (option_map g o) ≡ Some false → IsSome o
there g None h = cc
there g (Some s) h = refl

declared_slot : (bytes content : List ℕ) (slot : Slot) (area used : ℕ) → used + length content ≤ length bytes → slot ≡ (record { area = area; start = used; size = length content; taken = false }) → area_in (written used content bytes) slot ≡ (record { index = area; bytes = content; taken = false })
declared_slot bytes content slot area used within made =
    ap (area_in (written used content bytes)) made
    ∙ ap (λ (b : List ℕ). let a : Area = record { index = area; bytes = b; taken = false } in a) (slice_written_same bytes content used within)

-- an area that is declared has a slot
pub slot_where_open : (bytes : List ℕ) (slots : List Slot) (space : Space) (total area : ℕ) → IsOpen space.areas area → (record { total = total; areas = map (area_in bytes) slots }) ≡ space → IsSome (find (λ s. s.area == area) slots)
slot_where_open bytes slots space total area here is =
    let same : option_map (λ (a : Area). a.taken) (option_map (area_in bytes) (find (λ s. s.area == area) slots)) ≡ Some false =
    sym (ap (option_map (λ (a : Area). a.taken)) (find_shown (area_in bytes) (λ s. s.area == area) (λ a. a.index == area) (λ s. refl) slots)) ∙ ap (λ (s : Space). option_map (λ a. a.taken) (area_at s.areas area)) is ∙ here in
    there (area_in bytes) (find (λ s. s.area == area) slots) same

-- its bytes are the slot's
pub bytes_of_slot : (bytes : List ℕ) (slots : List Slot) (space : Space) (total area : ℕ) (found : Slot) → find (λ s. s.area == area) slots ≡ Some found → (record { total = total; areas = map (area_in bytes) slots }) ≡ space → bytes_of space.areas area ≡ slice bytes found.start found.size
bytes_of_slot bytes slots space total area found is same =
    sym (ap (λ (s : Space). bytes_of s.areas area) same)
    ∙ ap bytes_in (find_shown (area_in bytes) (λ s. s.area == area) (λ a. a.index == area) (λ s. refl) slots)
    ∙ ap (λ o. bytes_in (option_map (area_in bytes) o)) is

-- the buffer has them all
pub slot_within : (slots : List Slot) (area end : ℕ) (found : Slot) → find (λ s. s.area == area) slots ≡ Some found → LaidOut 0 slots end → found.start + found.size ≤ end
slot_within slots area end found is laid = (found_within (λ s. s.area == area) slots 0 end found laid is).1

pub space_set : (bytes after value : List ℕ) (slots : List Slot) (space : Space) (total area at end : ℕ) (found : Slot) → find (λ s. s.area == area) slots ≡ Some found → LaidOut 0 slots end → end ≤ length bytes → at + length value ≤ found.size → after ≡ written (found.start + at) value bytes → (record { total = total; areas = map (area_in bytes) slots }) ≡ space → (record { total = total; areas = map (area_in after) slots }) ≡ with_change (with_value at value) area space
space_set bytes after value slots space total area at end found is laid within fits same view =
    ap (λ (b : List ℕ). let s : Space = record { total = total; areas = map (area_in b) slots } in s) same
    ∙ ap (λ (areas : List Area). let s : Space = record { total = total; areas = areas } in s) (value_in_slots bytes value area at slots 0 end found laid within is fits)
    ∙ ap (with_change (with_value at value) area) view

pub space_declared : (bytes after content : List ℕ) (slots more : List Slot) (slot : Slot) (space : Space) (total area used : ℕ) → LaidOut 0 slots used → used + length content ≤ length bytes → after ≡ written used content bytes → more ≡ slots ++ slot ∷ [] → slot ≡ (record { area = area; start = used; size = length content; taken = false }) → (record { total = total; areas = map (area_in bytes) slots }) ≡ space → (record { total = total; areas = map (area_in after) more }) ≡ with_area space area content
space_declared bytes after content slots more slot space total area used laid within same pushed made view =
    ap (λ (b : List ℕ). let s : Space = record { total = total; areas = map (area_in b) more } in s) same
    ∙ ap (λ (areas : List Area). let s : Space = record { total = total; areas = areas } in s)
    (ap (map (area_in (written used content bytes))) pushed ∙ map-append (area_in (written used content bytes)) slots (slot ∷ [])
    ∙ ap (λ (areas : List Area). areas ++ area_in (written used content bytes) slot ∷ []) (kept_before bytes content used slots 0 used laid (omega arith) within)
    ∙ ap (λ (a : Area). map (area_in bytes) slots ++ a ∷ []) (declared_slot bytes content slot area used within made))
    ∙ ap (λ (s : Space). with_area s area content) view

pub space_taken : (bytes : List ℕ) (slots after : List Slot) (space : Space) (total area : ℕ) → after ≡ change_first (λ s. s.area == area) (λ s. record s { taken = true }) slots → (record { total = total; areas = map (area_in bytes) slots }) ≡ space → (record { total = total; areas = map (area_in bytes) after }) ≡ with_change with_taken area space
space_taken bytes slots after space total area same view =
    ap (λ (l : List Slot). let s : Space = record { total = total; areas = map (area_in bytes) l } in s) same
    ∙ ap (λ (areas : List Area). let s : Space = record { total = total; areas = areas } in s)
    (sym (change_shown (area_in bytes) (λ s. s.area == area) (λ a. a.index == area) (λ s. record s { taken = true }) with_taken (λ s. refl) slots (λ s is. refl)))
    ∙ ap (with_change with_taken area) view

-- a part of an area's bytes is within its slot, and the slot within the buffer
pub part_within : (bytes : List ℕ) (slots : List Slot) (space : Space) (total area end n : ℕ) (found : Slot) → find (λ s. s.area == area) slots ≡ Some found → LaidOut 0 slots end → end ≤ length bytes → (record { total = total; areas = map (area_in bytes) slots }) ≡ space → n ≤ length (bytes_of space.areas area) → (n ≤ found.size) × (found.start + found.size ≤ length bytes)
part_within bytes slots space total area end n found is laid within view fits =
    let behind = slot_within slots area end found is laid in
    let same = ap length (bytes_of_slot bytes slots space total area found is view) in
    let size : length (slice bytes found.start found.size) ≡ found.size = length_slice bytes found.start found.size (omega (arith, behind)) in
    (omega (arith, same, size), omega (arith, behind))

-- a page of an area's bytes
pub lent_bytes : (bytes : List ℕ) (slots : List Slot) (space : Space) (total area end place n : ℕ) (found : Slot) → find (λ s. s.area == area) slots ≡ Some found → LaidOut 0 slots end → end ≤ length bytes → (record { total = total; areas = map (area_in bytes) slots }) ≡ space → place + n ≤ length (bytes_of space.areas area) → slice bytes (found.start + place) n ≡ slice (bytes_of space.areas area) place n
lent_bytes bytes slots space total area end place n found is laid within view fits =
    let room = part_within bytes slots space total area end (place + n) found is laid within view fits in
    sym (slice_of_slice bytes found.start found.size place n room.0 room.1)
    ∙ ap (λ part. slice part place n) (sym (bytes_of_slot bytes slots space total area found is view))

-- what is used is what all areas have together, and the buffer is the whole
pub used_is : (bytes : List ℕ) (slots : List Slot) (space : Space) (total end : ℕ) → LaidOut 0 slots end → end ≤ length bytes → (record { total = total; areas = map (area_in bytes) slots }) ≡ space → (size_of_all space.areas ≡ end) × (total ≡ space.total) × (length space.areas ≡ length slots)
used_is bytes slots space total end laid within view =
    let sizes = sizes_add_up bytes slots 0 end laid within in
    let same : size_of_all (map (area_in bytes) slots) ≡ size_of_all space.areas = ap (λ (s : Space). size_of_all s.areas) view in
    let count : length (map (area_in bytes) slots) ≡ length space.areas = ap (λ (s : Space). length s.areas) view in
    (omega (arith, sizes, same), ap (λ (s : Space). s.total) view, sym count ∙ length-map slots (area_in bytes))
