-- Bytes of an area by the values that were set, after one more value, and lists of areas by what they were told.
use Rattle.std.proofs.Common.{◌≡◌, ℕ, ◌+◌, ◌-◌, ◌*◌, ◌/◌, ◌%◌, ◌<◌, ◌≤◌, List, [], ◌∷◌, ◌++◌, Bool, true, false, cond, ◌&&◌, Option, Some, None, length, get_or, map, find, reverse, refl, ap, sym, ◌∙◌, arith, suc, inl, inr, ◌==◌, slice_index, nat_lt}
use Rattle.std.specs.Option.{option_map}
use Rattle.std.proofs.lemmas.List.{reverse-append, map-append}
use Rattle.std.proofs.lemmas.List.FromFn.{length-map-range_with_len, get_or-map-range_with_len, fill_by_all}
use Rattle.std.proofs.lemmas.Bool.Decides.{leb_tells}
use Rattle.igvm_image.specs.Data.{Data, data_page}
use Rattle.igvm_headers.specs.Numbers.{slice}
use Rattle.param_areas.specs.AreaBytes.{Area, Space, bytes_of, bytes_in, change_first, with_value, with_taken, with_change, with_area, written}
use Rattle.param_areas.specs.AreaHistory.{Shows, Setting, Told, covers, byte_or, content_byte, area_byte, area_bytes, content_bytes, shown, declared, told_value, told_taken, told_change, told_byte, byte_in}
use Rattle.param_areas.proofs.Written.{length_written, get_or_written_in, get_or_written_before, get_or_written_behind, get_or_slice}
use Rattle.param_areas.proofs.Changes.{find_shown, change_shown}

pub length_area_bytes : (content : Data) (settings : List Setting) → length (area_bytes content settings) ≡ 4096 * content.pages
unfolding area_bytes
length_area_bytes content settings = length-map-range_with_len (area_byte content settings) 0 (4096 * content.pages)

pub get_or_area_bytes : (content : Data) (settings : List Setting) (q : ℕ) → q < 4096 * content.pages → get_or (area_bytes content settings) q 0 ≡ area_byte content settings q
unfolding area_bytes
get_or_area_bytes content settings q h = get_or-map-range_with_len (area_byte content settings) 0 (4096 * content.pages) q q 0 h (omega arith)

pub length_content_bytes : (content : Data) → length (content_bytes content) ≡ 4096 * content.pages
unfolding content_bytes
length_content_bytes content = length-map-range_with_len (content_byte content) 0 (4096 * content.pages)

-- nothing was set
pub area_bytes_declared : (content : Data) → area_bytes content [] ≡ content_bytes content
unfolding area_bytes content_bytes area_byte
area_bytes_declared content = refl

-- the byte after one more value
area_byte_push : (content : Data) (settings : List Setting) (setting : Setting) (q : ℕ) → area_byte content (settings ++ setting ∷ []) q ≡ cond (covers q setting) (slice_index setting.value (q - setting.place)) (area_byte content settings q)
unfolding area_byte
area_byte_push content settings setting q =
    ap (λ l. byte_or (content_byte content q) q (find (covers q) l)) (reverse-append settings (setting ∷ []))
    ∙ elim (covers q setting) as (λ b. byte_or (content_byte content q) q (cond b (Some setting) (find (covers q) (reverse settings))) ≡ cond b (slice_index setting.value (q - setting.place)) (byte_or (content_byte content q) q (find (covers q) (reverse settings)))) [
      | true ↦ refl
      | false ↦ refl
    ]

both : {a b : Bool} → a ≡ true → b ≡ true → a && b ≡ true
both {a} {b} p q = ap (λ x. x && b) p ∙ q

second : {a b : Bool} → a ≡ true → b ≡ false → a && b ≡ false
second {a} {b} p q = ap (λ x. x && b) p ∙ q

byte_after : (content : Data) (settings : List Setting) (place : ℕ) (value : List ℕ) (q : ℕ) → place + length value ≤ 4096 * content.pages → q < 4096 * content.pages → get_or (written place value (area_bytes content settings)) q 0 ≡ area_byte content (settings ++ (record { place = place; value = value }) ∷ []) q
byte_after content settings place value q fits h =
    let setting : Setting = record { place = place; value = value } in
    let within : place + length value ≤ length (area_bytes content settings) = omega (arith, length_area_bytes content settings) in
    let old = get_or_area_bytes content settings q h in
    let push = area_byte_push content settings setting q in
    elim (leb_tells place q) [
      | inl from ↦ elim (leb_tells (suc q) (place + length value)) [
        | inl to ↦ get_or_written_in place value (area_bytes content settings) q within from.1 to.1
            ∙ sym (push ∙ ap (λ b. cond b (slice_index value (q - place)) (area_byte content settings q)) (both from.0 to.0))
        | inr past ↦ get_or_written_behind place value (area_bytes content settings) q within (let behind : place + length value ≤ q = omega (arith, past.1) in behind) ∙ old
            ∙ sym (push ∙ ap (λ b. cond b (slice_index value (q - place)) (area_byte content settings q)) (second from.0 past.0))
      ]
      | inr before ↦ get_or_written_before place value (area_bytes content settings) q within before.1 ∙ old
          ∙ sym (push ∙ ap (λ b. cond (b && nat_lt q (place + length value)) (slice_index value (q - place)) (area_byte content settings q)) before.0)
    ]

-- all bytes after one more value
pub area_bytes_push : (content : Data) (settings : List Setting) (place : ℕ) (value : List ℕ) → place + length value ≤ 4096 * content.pages → written place value (area_bytes content settings) ≡ area_bytes content (settings ++ (record { place = place; value = value }) ∷ [])
unfolding area_bytes
area_bytes_push content settings place value fits =
    let within : place + length value ≤ length (area_bytes content settings) = omega (arith, length_area_bytes content settings) in
    fill_by_all (area_byte content (settings ++ (record { place = place; value = value }) ∷ [])) (written place value (area_bytes content settings)) (4096 * content.pages) 0
    (length_written place value (area_bytes content settings) within ∙ length_area_bytes content settings)
    (λ q h. byte_after content settings place value q fits h)

-- the bytes of an area that was told
pub bytes_of_shown : (told : List Told) (area : ℕ) → bytes_of (map shown told) area ≡ bytes_in (option_map shown (find (λ t. t.index == area) told))
bytes_of_shown told area = ap bytes_in (find_shown shown (λ t. t.index == area) (λ a. a.index == area) (λ t. refl) told)

pub value_shown : (told : Told) (place : ℕ) (value : List ℕ) → place + length value ≤ 4096 * told.content.pages → with_value place value (shown told) ≡ shown (told_value place value told)
value_shown told place value fits =
    ap (λ (bytes : List ℕ). let area : Area = record { index = told.index; bytes = bytes; taken = told.taken } in area) (area_bytes_push told.content told.settings place value fits)

-- one more value is told
pub value_told : (told : List Told) (area place : ℕ) (value : List ℕ) → place + length value ≤ length (bytes_of (map shown told) area) → change_first (λ a. a.index == area) (with_value place value) (map shown told) ≡ map shown (told_change (told_value place value) area told)
value_told told area place value fits =
    change_shown shown (λ t. t.index == area) (λ a. a.index == area) (told_value place value) (with_value place value) (λ t. refl) told
    (λ t is. value_shown t place value
    (let same : bytes_of (map shown told) area ≡ area_bytes t.content t.settings = bytes_of_shown told area ∙ ap (λ o. bytes_in (option_map shown o)) is in
    omega (arith, ap length same, length_area_bytes t.content t.settings)))

-- the area is taken
pub taken_told : (told : List Told) (area : ℕ) → change_first (λ a. a.index == area) with_taken (map shown told) ≡ map shown (told_change told_taken area told)
taken_told told area =
    change_shown shown (λ t. t.index == area) (λ a. a.index == area) told_taken with_taken (λ t. refl) told (λ t is. refl)

found_byte : (found : Option Told) (q : ℕ) → q < length (bytes_in (option_map shown found)) → get_or (bytes_in (option_map shown found)) q 0 ≡ byte_in q found
found_byte None q h = absurd (omega arith)
found_byte (Some told) q h = get_or_area_bytes told.content told.settings q (omega (arith, length_area_bytes told.content told.settings))

-- a byte of a page
pub page_told : (told : List Told) (area k j : ℕ) → 4096 * k + 4096 ≤ length (bytes_of (map shown told) area) → j < 4096 → get_or (slice (bytes_of (map shown told) area) (4096 * k) 4096) j 0 ≡ told_byte told area (4096 * k + j)
page_told told area k j within few =
    get_or_slice (bytes_of (map shown told) area) (4096 * k) 4096 j few
    ∙ ap (λ bytes. get_or bytes (4096 * k + j) 0) (bytes_of_shown told area)
    ∙ found_byte (find (λ t. t.index == area) told) (4096 * k + j) (omega (arith, ap length (bytes_of_shown told area)))

-- told as the calls tell it
pub declare_told : (space : Space) (told : List Told) (area : ℕ) (content : Data) → Shows space told → Shows (with_area space area (content_bytes content)) (told ++ declared area content ∷ [])
declare_told space told area content shows =
    ap (λ (areas : List Area). areas ++ (record { index = area; bytes = content_bytes content; taken = false }) ∷ []) shows
    ∙ ap (λ (bytes : List ℕ). map shown told ++ (record { index = area; bytes = bytes; taken = false }) ∷ []) (sym (area_bytes_declared content))
    ∙ sym (map-append shown told (declared area content ∷ []))

pub set_told : (space : Space) (told : List Told) (area place : ℕ) (value : List ℕ) → place + length value ≤ length (bytes_of space.areas area) → Shows space told → Shows (with_change (with_value place value) area space) (told_change (told_value place value) area told)
set_told space told area place value fits shows =
    ap (change_first (λ a. a.index == area) (with_value place value)) shows
    ∙ value_told told area place value (omega (arith, fits, ap (λ areas. length (bytes_of areas area)) shows))

pub take_told : (space : Space) (told : List Told) (area : ℕ) → Shows space told → Shows (with_change with_taken area space) (told_change told_taken area told)
take_told space told area shows = ap (change_first (λ a. a.index == area) with_taken) shows ∙ taken_told told area

pub lent_told : (space : Space) (told : List Told) (area k j : ℕ) → 4096 * k + 4096 ≤ length (bytes_of space.areas area) → Shows space told → j < 4096 → get_or (slice (bytes_of space.areas area) (4096 * k) 4096) j 0 ≡ told_byte told area (4096 * k + j)
lent_told space told area k j within shows few =
    ap (λ areas. get_or (slice (bytes_of areas area) (4096 * k) 4096) j 0) shows
    ∙ page_told told area k j (omega (arith, within, ap (λ areas. length (bytes_of areas area)) shows)) few

-- a byte of the content is one of its page
content_byte_at : (content : Data) (k j : ℕ) → j < 4096 → content_byte content (4096 * k + j) ≡ get_or (data_page content k) j 0
unfolding content_byte
content_byte_at content k j few =
    let page : (4096 * k + j) / 4096 ≡ k = omega arith in
    let place : (4096 * k + j) % 4096 ≡ j = omega arith in
    ap (λ p. get_or (data_page content p) ((4096 * k + j) % 4096) 0) page ∙ ap (λ i. get_or (data_page content k) i 0) place

-- one more page of the content is written
pub page_filled : (content : Data) (out page : List ℕ) (k : ℕ) → length page ≡ 4096 → 4096 * k + 4096 ≤ length out → page ≡ data_page content k → ((q : ℕ) → q < 4096 * k → get_or out q 0 ≡ content_byte content q) → (q : ℕ) → q < 4096 * (k + 1) → get_or (written (4096 * k) page out) q 0 ≡ content_byte content q
page_filled content out page k size within same before q h =
    let fits : 4096 * k + length page ≤ length out = omega arith in
    elim (leb_tells (4096 * k) q) [
      | inl from ↦
          let few : q - 4096 * k < 4096 = omega (arith, from.1) in
          let place : 4096 * k + (q - 4096 * k) ≡ q = omega (arith, from.1) in
          get_or_written_in (4096 * k) page out q fits from.1 (omega (arith, from.1))
          ∙ ap (λ l. get_or l (q - 4096 * k) 0) same
          ∙ sym (content_byte_at content k (q - 4096 * k) few)
          ∙ ap (content_byte content) place
      | inr below ↦
          let lower : q < 4096 * k = omega (arith, below.1) in
          get_or_written_before (4096 * k) page out q fits lower ∙ before q lower
    ]

-- all pages are written
pub pages_filled : (content : Data) (out : List ℕ) → length out ≡ 4096 * content.pages → ((q : ℕ) → q < 4096 * content.pages → get_or out q 0 ≡ content_byte content q) → out ≡ content_bytes content
unfolding content_bytes
pages_filled content out size each = fill_by_all (content_byte content) out (4096 * content.pages) 0 size each
