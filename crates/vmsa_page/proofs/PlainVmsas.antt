-- What is printed of a VMSA is plain, so its text is read as that VMSA.
use Rattle.std.proofs.Common.{◌≡◌, ◌≤◌, ◌<◌, ◌^◌, ◌+◌, ◌-◌, ◌&&◌, ℕ, List, [], ◌∷◌, Bool, true, false, cond, get_or, slice_index, nat_lt, Option, Some, None, Ok, IsUtf8, inl, inr, refl, arith}
use Rattle.std.proofs.lemmas.Bool.{and_parts, cases_lt, cases_eq, lt-ltb, ltb-true, ne_eqb}
use Rattle.std.proofs.lemmas.Bool.Decides.{nat_tests}
use Rattle.json.proofs.Printed.Utf8.{are_ascii, IsUtf8-are_ascii}
use Rattle.serde_json.specs.Data.{Data, Members, depth, items_depth, members_depth}
use Rattle.vmsa_page.proofs.Booleans.{bool_cases}
use Rattle.vmsa_page.specs.declared.other_byte.OtherByte.{OtherByte}
use Rattle.vmsa_page.specs.declared.segment.Segment.{Segment}
use Rattle.serde_json.specs.Written.{compact_text}
use Rattle.json_forms.specs.Texts.{json_of}
use Rattle.json_forms.specs.Plain.{IsMade, AreMade, HasMade, IsPlain}
use Rattle.vmsa_page.specs.Fields.{key_name}
use Rattle.vmsa_page.specs.Vmsas.{VmsaParts, IsSegment, AreOther, IsVmsa}
use Rattle.vmsa_page.specs.Texts.{zero_segment, is_zero, segment_part, number_part, other_data, other_items, other_part, key_order, part_of, member_if, members_of, vmsa_data, vmsa_json}
use Rattle.vmsa_page.specs.Sources.{vmsa_source}
use Rattle.vmsa_page.proofs.AddressTexts.{address_utf8}
use Rattle.vmsa_page.proofs.KeyOrder.{all_below, below_all, members_rise}
use Rattle.vmsa_page.proofs.PrintedForms.{all_by_index, zero_is, data_is_read}

number_utf8 : (k : ℕ) → all_below 24 (λ i. are_ascii (key_name i)) ≡ true → k < 24 → IsUtf8 (key_name k)
number_utf8 k all h = IsUtf8-are_ascii (key_name k) (below_all 24 (λ i. are_ascii (key_name i)) all k h)

name_utf8 : (k : ℕ) → k < 24 → IsUtf8 (key_name k)
name_utf8 k h = number_utf8 k refl h

-- what may stand at a key
abbrev IsPart : Option Data → Type 0
IsPart None = Unit {0}
IsPart (Some d) = IsMade d × (depth d ≤ 2)

word_utf8 : (s : List ℕ) → are_ascii s ≡ true → IsUtf8 s
word_utf8 = IsUtf8-are_ascii

segment_made : (s : Segment) → IsSegment s → IsPart (segment_part s)
segment_made s h = elim (bool_cases (is_zero s)) [
  | inl zero_ ↦ rw zero_ tt
  | inr some ↦ rw some (
    (
      ((refl, (refl, (refl, tt))), ((refl, (refl, tt)), ((refl, tt), (tt, tt)))),
      (word_utf8 _ refl, omega (arith, h.attributes), (word_utf8 _ refl, address_utf8 s.base h.base, (word_utf8 _ refl, omega (arith, h.limit), (word_utf8 _ refl, omega (arith, h.selector), tt)))),
    ),
    omega arith,
  )
]

number_made : (n : ℕ) → n < 2 ^ 64 → IsPart (number_part n)
number_made n h = elim (cases_eq n 0) [
  | inl none ↦ rw none tt
  | inr some ↦ rw (ne_eqb n 0 some) (address_utf8 n h, omega arith)
]

other_made : (o : OtherByte) → o.at < 4096 → o.byte < 256 → IsMade (other_data o)
other_made o h k = (((refl, tt), (tt, tt)), (word_utf8 _ refl, omega (arith, h), (word_utf8 _ refl, omega (arith, k), tt)))

others_made : (low : ℕ) (os : List OtherByte) → AreOther low os → AreMade (other_items os)
others_made low [] h = tt
others_made low (o ∷ os) h = (other_made o h.1 h.4, others_made (o.at + 1) os h.5)

others_depth : (os : List OtherByte) → items_depth (other_items os) ≤ 1
others_depth [] = omega arith
others_depth (o ∷ os) = omega (arith, others_depth os)

others_part : (os : List OtherByte) → AreOther 0 os → IsPart (other_part os)
others_part [] h = tt
others_part (o ∷ os) h = (others_made 0 (o ∷ os) h, omega (arith, others_depth (o ∷ os)))

later_part : (v : VmsaParts) → IsVmsa v → (k : ℕ) → IsPart (cond (nat_lt k 23) (number_part (slice_index v.numbers (k - 10))) (other_part v.other))
later_part v h k = elim (bool_cases (nat_lt k 23)) [
  | inl low ↦ rw low (number_made (get_or v.numbers (k - 10) 0) (all_by_index (λ n. n < 2 ^ 64) v.numbers (k - 10) 0 h.numbers (omega arith)))
  | inr high ↦ rw high (others_part v.other h.other)
]

is_part : (v : VmsaParts) → IsVmsa v → (k : ℕ) → IsPart (part_of v k)
unfolding part_of
is_part v h k = elim (cases_lt k 10) [
  | inl low ↦ rw (lt-ltb k 10 low) (segment_made (get_or v.segments k zero_segment) (all_by_index IsSegment v.segments k zero_segment h.segments zero_is))
  | inr high ↦
      let not_low : nat_lt k 10 ≡ false = grind (arith, nat_tests) in
      rw not_low (later_part v h k)
]

made_if : (o : Option Data) (key : List ℕ) (ms : Members) → IsUtf8 key → IsPart o → HasMade ms → HasMade (member_if key o ms)
made_if None key ms u h rest = rest
made_if (Some d) key ms u h rest = (u, h.0, rest)

depth_if : (o : Option Data) (key : List ℕ) (ms : Members) → IsPart o → members_depth ms ≤ 2 → members_depth (member_if key o ms) ≤ 2
depth_if None key ms h rest = rest
depth_if (Some d) key ms h rest = omega (arith, h.1, rest)

-- each number has a key
few_keys : List ℕ → Bool
few_keys [] = true
few_keys (k ∷ ks) = nat_lt k 24 && few_keys ks

made_members : (v : VmsaParts) → IsVmsa v → (ks : List ℕ) → few_keys ks ≡ true → HasMade (members_of v ks)
unfolding few_keys
made_members v h [] few = tt
made_members v h (k ∷ ks) few =
    let p = and_parts (nat_lt k 24) (few_keys ks) few in
    made_if (part_of v k) (key_name k) (members_of v ks) (name_utf8 k (ltb-true k 24 p.0)) (is_part v h k) (made_members v h ks p.1)

depth_members : (v : VmsaParts) → IsVmsa v → (ks : List ℕ) → members_depth (members_of v ks) ≤ 2
depth_members v h [] = omega arith
depth_members v h (k ∷ ks) = depth_if (part_of v k) (key_name k) (members_of v ks) (is_part v h k) (depth_members v h ks)

pub is_plain : (v : VmsaParts) → IsVmsa v → IsPlain (vmsa_data v)
unfolding vmsa_data few_keys
is_plain v h = ((members_rise v, made_members v h key_order refl), omega (arith, depth_members v h key_order))

-- what `plain_reads_back` ensures
abbrev ReadsBack : Type 0
ReadsBack = (json : Data) → IsPlain json → json_of (compact_text json) ≡ Some json

pub text_is_read : ReadsBack → (v : VmsaParts) → IsVmsa v → vmsa_source (vmsa_json v) ≡ Ok v
unfolding vmsa_source vmsa_json
text_is_read law v h = rw (law (vmsa_data v) (is_plain v h)) (data_is_read v h)
