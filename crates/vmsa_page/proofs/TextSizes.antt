-- How long the text of a VMSA is at most.
use Rattle.std.proofs.Common.{◌≡◌, ◌≤◌, ◌<◌, ◌^◌, ◌+◌, ◌-◌, ◌*◌, ℕ, List, [], ◌∷◌, ◌++◌, Bool, true, false, cond, length, get_or, slice_index, nat_lt, nat_le, codes, Option, Some, None, inl, inr, refl, arith, length-append}
use Rattle.std.proofs.lemmas.Bool.{cases_lt, cases_eq, lt-ltb, leb-true, ne_eqb}
use Rattle.std.proofs.lemmas.Bool.Decides.{nat_tests}
use Rattle.std.proofs.lemmas.Fmt.{length-decimal-le}
use Rattle.std.proofs.lemmas.List.{get_or_past}
use Rattle.json.specs.Print.{escape_letter, escape_byte, escape, quoted}
use Rattle.serde_json.specs.Data.{Data, Members, no_members, member}
use Rattle.serde_json.specs.Written.{comma_if, compact_text, items_text, members_text}
use Rattle.vmsa_page.proofs.Booleans.{bool_cases}
use Rattle.vmsa_page.specs.declared.other_byte.OtherByte.{OtherByte}
use Rattle.vmsa_page.specs.declared.segment.Segment.{Segment}
use Rattle.vmsa_page.specs.Fields.{key_name, key_names}
use Rattle.vmsa_page.specs.Vmsas.{VmsaParts, IsSegment, AreOther, IsVmsa}
use Rattle.vmsa_page.specs.Texts.{address_text, address_data, number_data, zero_segment, is_zero, segment_data, segment_part, number_part, other_data, other_items, other_part, key_order, part_of, member_if, members_of, vmsa_data, vmsa_json}
use Rattle.vmsa_page.proofs.AddressTexts.{hex_length}
use Rattle.vmsa_page.proofs.KeyOrder.{all_below, below_all}
use Rattle.vmsa_page.proofs.PrintedForms.{all_by_index, zero_is}

-- ---- strings and numbers

-- an escape is at most six bytes
byte_size : (x : ℕ) → length (escape_byte x) ≤ 6
unfolding escape_byte
byte_size x = elim (bool_cases (nat_lt 0 (escape_letter x))) [
  | inl letter ↦ rw letter (omega arith)
  | inr plain ↦ rw plain (elim (bool_cases (nat_lt x 32)) [ inl low ↦ rw low (omega arith) | inr high ↦ rw high (omega arith) ])
]

escape_size : (s : List ℕ) → length (escape s) ≤ 6 * length s
escape_size [] = omega arith
escape_size (x ∷ s) = omega (arith, length-append (escape_byte x) (escape s), byte_size x, escape_size s)

quoted_size : (s : List ℕ) → length (quoted s) ≤ 6 * length s + 2
quoted_size s = omega (arith, length-append (escape s) (34 ∷ []), escape_size s)

address_size : (n : ℕ) → n < 2 ^ 64 → length (compact_text (address_data n)) ≤ 110
unfolding address_text
address_size n h = omega (arith, quoted_size (address_text n), hex_length n (omega (arith, h)))

number_size : (k n : ℕ) → 0 < k → n < 10 ^ k → n < 2 ^ 64 → length (compact_text (number_data n)) ≤ k
number_size = length-decimal-le

-- ---- members

comma_size : (later : Bool) → length (comma_if later) ≤ 1
comma_size true = omega arith
comma_size false = omega arith

member_size : (later : Bool) (key : List ℕ) (json : Data) (ms : Members) → length (members_text later (member key json ms)) ≤ 2 + length (quoted key) + length (compact_text json) + length (members_text true ms)
member_size later key json ms =
    let value = compact_text json in
    let rest = members_text true ms in
    omega (arith, comma_size later, length-append (comma_if later) (quoted key ++ 58 ∷ (value ++ rest)), length-append (quoted key) (58 ∷ (value ++ rest)), length-append value rest)

segment_size : (s : Segment) → IsSegment s → length (compact_text (segment_data s)) ≤ 200
unfolding escape_byte
segment_size s h =
    let selector : Members = member (codes "selector") (number_data s.selector) no_members in
    let limit : Members = member (codes "limit") (number_data s.limit) selector in
    let base : Members = member (codes "base") (address_data s.base) limit in
    omega (
      arith,
      member_size false (codes "attributes") (number_data s.attributes) base,
      number_size 5 s.attributes (omega arith) (omega (arith, h.attributes)) (omega (arith, h.attributes)),
      member_size true (codes "base") (address_data s.base) limit,
      address_size s.base h.base,
      member_size true (codes "limit") (number_data s.limit) selector,
      number_size 10 s.limit (omega arith) (omega (arith, h.limit)) (omega (arith, h.limit)),
      member_size true (codes "selector") (number_data s.selector) no_members,
      number_size 5 s.selector (omega arith) (omega (arith, h.selector)) (omega (arith, h.selector)),
    )

other_size : (o : OtherByte) → o.at < 4096 → o.byte < 256 → length (compact_text (other_data o)) ≤ 23
unfolding escape_byte
other_size o h k =
    let byte : Members = member (codes "byte") (number_data o.byte) no_members in
    omega (
      arith,
      member_size false (codes "at") (number_data o.at) byte,
      number_size 4 o.at (omega arith) (omega (arith, h)) (omega (arith, h)),
      member_size true (codes "byte") (number_data o.byte) no_members,
      number_size 3 o.byte (omega arith) (omega (arith, k)) (omega (arith, k)),
    )

items_size : (low : ℕ) (later : Bool) (os : List OtherByte) → AreOther low os → length (items_text later (other_items os)) ≤ 24 * length os + 1
items_size low later [] h = omega arith
items_size low later (o ∷ os) h =
    let entry = compact_text (other_data o) in
    let rest = items_text true (other_items os) in
    omega (arith, comma_size later, length-append (comma_if later) (entry ++ rest), length-append entry rest, other_size o h.1 h.4, items_size (o.at + 1) true os h.5)

-- there are no more other bytes than places, since the places rise
few_others : (low : ℕ) (os : List OtherByte) → AreOther low os → low ≤ 4096 → low + length os ≤ 4096
few_others low [] h fits = omega (arith, fits)
few_others low (o ∷ os) h fits = omega (arith, h.0, few_others (o.at + 1) os h.5 (omega (arith, h.1)))

-- ---- what stands at a key

-- the length of what stands at a key, or 0
size_of : Option Data → ℕ
size_of None = 0
size_of (Some json) = length (compact_text json)

-- a bound of that length, by the number of the key: `other` has up to 4,096 entries of 24 bytes
room_at : ℕ → ℕ
room_at key = cond (nat_lt key 23) 200 98306

segment_room : (s : Segment) → IsSegment s → size_of (segment_part s) ≤ 200
unfolding size_of
segment_room s h = elim (bool_cases (is_zero s)) [ inl none ↦ rw none (omega arith) | inr some ↦ rw some (segment_size s h) ]

number_room : (n : ℕ) → n < 2 ^ 64 → size_of (number_part n) ≤ 200
unfolding size_of
number_room n h = elim (cases_eq n 0) [ inl none ↦ rw none (omega arith) | inr some ↦ rw (ne_eqb n 0 some) (omega (arith, address_size n h)) ]

other_room : (os : List OtherByte) → AreOther 0 os → size_of (other_part os) ≤ 98306
unfolding size_of
other_room [] h = omega arith
other_room (o ∷ os) h = omega (arith, items_size 0 false (o ∷ os) h, few_others 0 (o ∷ os) h (omega arith))

later_room : (v : VmsaParts) → IsVmsa v → (k : ℕ) → size_of (cond (nat_lt k 23) (number_part (slice_index v.numbers (k - 10))) (other_part v.other)) ≤ room_at k
unfolding room_at
later_room v h k = elim (bool_cases (nat_lt k 23)) [
  | inl low ↦ rw low (number_room (get_or v.numbers (k - 10) 0) (all_by_index (λ n. n < 2 ^ 64) v.numbers (k - 10) 0 h.numbers (omega arith)))
  | inr high ↦ rw high (other_room v.other h.other)
]

part_room : (v : VmsaParts) → IsVmsa v → (k : ℕ) → size_of (part_of v k) ≤ room_at k
unfolding part_of room_at
part_room v h k = elim (cases_lt k 10) [
  | inl low ↦ rw (lt-ltb k 10 low, lt-ltb k 23 (omega (arith, low))) (segment_room (get_or v.segments k zero_segment) (all_by_index IsSegment v.segments k zero_segment h.segments zero_is))
  | inr high ↦
      let not_low : nat_lt k 10 ≡ false = grind (arith, nat_tests) in
      rw not_low (later_room v h k)
]

-- ---- all members

short_name : (k : ℕ) → all_below 24 (λ i. nat_le (length (quoted (key_name i))) 14) ≡ true → k < 24 → length (quoted (key_name k)) ≤ 14
short_name k all h = leb-true _ _ (below_all 24 (λ i. nat_le (length (quoted (key_name i))) 14) all k h)

name_size : (k : ℕ) → length (quoted (key_name k)) ≤ 14
unfolding escape_byte
name_size k = elim (cases_lt k 24) [
  | inl below ↦ short_name k refl below
  | inr past ↦ rw (get_or_past key_names k [] past) (omega arith)
]

member_if_size : (o : Option Data) (later : Bool) (key : List ℕ) (ms : Members) (rest : ℕ) → length (quoted key) ≤ 14 → ((b : Bool) → length (members_text b ms) ≤ rest) → length (members_text later (member_if key o ms)) ≤ 16 + size_of o + rest
unfolding size_of
member_if_size None later key ms rest short fits = omega (arith, fits later)
member_if_size (Some json) later key ms rest short fits = omega (arith, member_size later key json ms, short, fits true)

-- a bound of the length of the members of these keys, with the closing bracket
room_of : List ℕ → ℕ
room_of [] = 1
room_of (k ∷ ks) = 16 + room_at k + room_of ks

members_size : (v : VmsaParts) → IsVmsa v → (ks : List ℕ) (later : Bool) → length (members_text later (members_of v ks)) ≤ room_of ks
unfolding room_of
members_size v h [] later = omega arith
members_size v h (k ∷ ks) later =
    omega (arith, member_if_size (part_of v k) later (key_name k) (members_of v ks) (room_of ks) (name_size k) (members_size v h ks), part_room v h k)

all_room : room_of key_order ≤ 131071
unfolding room_of room_at
all_room = omega arith

-- the text of a VMSA is short
pub short_text : (v : VmsaParts) → IsVmsa v → length (vmsa_json v) ≤ 131072
unfolding vmsa_json vmsa_data
short_text v h = omega (arith, members_size v h key_order false, all_room)
