-- A value written over bytes, byte by byte.
use Rattle.std.proofs.Common.{◌≡◌, ℕ, ◌+◌, ◌-◌, ◌<◌, ◌≤◌, List, length, get_or, drop, arith, ◌∙◌, ap, sym, inl, inr}
use Rattle.std.proofs.lemmas.List.{get_or-take, get_or-drop}
use Rattle.std.proofs.lemmas.Grind.{common_steps, same_number_lists}
use Rattle.std.proofs.lemmas.Bool.Decides.{leb_tells}
use borrow.Rule.Slice.PartMut.{put_mid}
use Rattle.igvm_headers.specs.Numbers.{slice}
use Rattle.param_areas.specs.AreaBytes.{written}

pub length_written : (place : ℕ) (value bytes : List ℕ) → place + length value ≤ length bytes → length (written place value bytes) ≡ length bytes
unfolding written
length_written place value bytes h = grind (arith, common_steps)

pub get_or_written_in : (place : ℕ) (value bytes : List ℕ) (q : ℕ) → place + length value ≤ length bytes → place ≤ q → q < place + length value → get_or (written place value bytes) q 0 ≡ get_or value (q - place) 0
unfolding written
get_or_written_in place value bytes q h from to = grind (arith, common_steps)

pub get_or_written_before : (place : ℕ) (value bytes : List ℕ) (q : ℕ) → place + length value ≤ length bytes → q < place → get_or (written place value bytes) q 0 ≡ get_or bytes q 0
unfolding written
get_or_written_before place value bytes q h before = grind (arith, common_steps)

pub get_or_written_behind : (place : ℕ) (value bytes : List ℕ) (q : ℕ) → place + length value ≤ length bytes → place + length value ≤ q → get_or (written place value bytes) q 0 ≡ get_or bytes q 0
unfolding written
get_or_written_behind place value bytes q h behind = grind (arith, common_steps)

pub length_slice : (bytes : List ℕ) (start size : ℕ) → start + size ≤ length bytes → length (slice bytes start size) ≡ size
length_slice bytes start size h = grind (arith, common_steps)

pub get_or_slice : (bytes : List ℕ) (start size q : ℕ) → q < size → get_or (slice bytes start size) q 0 ≡ get_or bytes (start + q) 0
get_or_slice bytes start size q h = get_or-take size (drop start bytes) q 0 h ∙ get_or-drop start bytes q 0

-- a part that ends before the value
pub slice_written_before : (bytes value : List ℕ) (place start size : ℕ) → place + length value ≤ length bytes → start + size ≤ place → slice (written place value bytes) start size ≡ slice bytes start size
slice_written_before bytes value place start size h before =
    let long : start + size ≤ length (written place value bytes) = omega (arith, length_written place value bytes h) in
    same_number_lists _ _ (length_slice (written place value bytes) start size long ∙ sym (length_slice bytes start size (omega arith)))
    (λ q below.
    let few : q < size = omega (arith, length_slice (written place value bytes) start size long) in
    get_or_slice (written place value bytes) start size q few ∙ get_or_written_before place value bytes (start + q) h (omega arith) ∙ sym (get_or_slice bytes start size q few))

-- a part that begins behind the value
pub slice_written_behind : (bytes value : List ℕ) (place start size : ℕ) → place + length value ≤ start → start + size ≤ length bytes → slice (written place value bytes) start size ≡ slice bytes start size
slice_written_behind bytes value place start size behind within =
    let h : place + length value ≤ length bytes = omega arith in
    let long : start + size ≤ length (written place value bytes) = omega (arith, length_written place value bytes h) in
    same_number_lists _ _ (length_slice (written place value bytes) start size long ∙ sym (length_slice bytes start size within))
    (λ q below.
    let few : q < size = omega (arith, length_slice (written place value bytes) start size long) in
    get_or_slice (written place value bytes) start size q few ∙ get_or_written_behind place value bytes (start + q) h (omega arith) ∙ sym (get_or_slice bytes start size q few))

-- the value itself
pub slice_written_same : (bytes value : List ℕ) (place : ℕ) → place + length value ≤ length bytes → slice (written place value bytes) place (length value) ≡ value
unfolding written
slice_written_same bytes value place h = grind (arith, common_steps)

byte_in_part : (bytes value : List ℕ) (start size place q : ℕ) → place + length value ≤ size → start + size ≤ length bytes → q < size → get_or (written (start + place) value bytes) (start + q) 0 ≡ get_or (written place value (slice bytes start size)) q 0
byte_in_part bytes value start size place q fits within few =
    let h : start + place + length value ≤ length bytes = omega arith in
    let fits_part : place + length value ≤ length (slice bytes start size) = omega (arith, length_slice bytes start size within) in
    let same : get_or (slice bytes start size) q 0 ≡ get_or bytes (start + q) 0 = get_or_slice bytes start size q few in
    elim (leb_tells place q) [
      | inl from ↦ elim (leb_tells (place + length value) q) [
        | inl past ↦ get_or_written_behind (start + place) value bytes (start + q) h (omega arith) ∙ sym same ∙ sym (get_or_written_behind place value (slice bytes start size) q fits_part past.1)
        | inr to ↦ get_or_written_in (start + place) value bytes (start + q) h (omega arith) (omega arith)
            ∙ ap (λ k. get_or value k 0) (let k : start + q - (start + place) ≡ q - place = omega arith in k)
            ∙ sym (get_or_written_in place value (slice bytes start size) q fits_part from.1 to.1)
      ]
      | inr before ↦ get_or_written_before (start + place) value bytes (start + q) h (omega arith) ∙ sym same ∙ sym (get_or_written_before place value (slice bytes start size) q fits_part before.1)
    ]

-- the part that the value lies in
pub slice_written_in : (bytes value : List ℕ) (start size place : ℕ) → place + length value ≤ size → start + size ≤ length bytes → slice (written (start + place) value bytes) start size ≡ written place value (slice bytes start size)
slice_written_in bytes value start size place fits within =
    let h : start + place + length value ≤ length bytes = omega arith in
    let fits_part : place + length value ≤ length (slice bytes start size) = omega (arith, length_slice bytes start size within) in
    let long : start + size ≤ length (written (start + place) value bytes) = omega (arith, length_written (start + place) value bytes h) in
    same_number_lists _ _
    (length_slice (written (start + place) value bytes) start size long ∙ sym (length_slice bytes start size within) ∙ sym (length_written place value (slice bytes start size) fits_part))
    (λ q below.
    let few : q < size = omega (arith, length_slice (written (start + place) value bytes) start size long) in
    get_or_slice (written (start + place) value bytes) start size q few ∙ byte_in_part bytes value start size place q fits within few)

-- what a write to a part leaves
pub put_mid_written : (place size : ℕ) (bytes value : List ℕ) → size ≡ length value → put_mid place size bytes value ≡ written place value bytes
unfolding written
put_mid_written place size bytes value same = grind (arith, common_steps)

-- a part of a part
pub slice_of_slice : (bytes : List ℕ) (start size place n : ℕ) → place + n ≤ size → start + size ≤ length bytes → slice (slice bytes start size) place n ≡ slice bytes (start + place) n
slice_of_slice bytes start size place n fits within =
    let part : place + n ≤ length (slice bytes start size) = omega (arith, length_slice bytes start size within) in
    let inner : length (slice (slice bytes start size) place n) ≡ n = length_slice (slice bytes start size) place n part in
    same_number_lists _ _ (inner ∙ sym (length_slice bytes (start + place) n (omega arith)))
    (λ q below.
    let few : q < n = omega arith in
    get_or_slice (slice bytes start size) place n q few
    ∙ get_or_slice bytes start size (place + q) (omega arith)
    ∙ ap (λ i. get_or bytes i 0) (let same : start + (place + q) ≡ start + place + q = omega arith in same)
    ∙ sym (get_or_slice bytes (start + place) n q few))
