-- What is printed of a VMSA has the forms that are read, and is read as that VMSA.
use Rattle.std.proofs.Common.{◌≡◌, ◌≤◌, ◌<◌, ◌^◌, ◌+◌, ◌-◌, ◌&&◌, ◌==◌, ℕ, zero, suc, List, [], ◌∷◌, true, false, cond, length, get_or, nat_lt, codes, Option, Some, None, Ok, option_and_then, inl, inr, refl, ap, ◌∙◌, arith}
use Rattle.std.proofs.lemmas.Bool.{and_parts, cases_eq, le-leb, lt-ltb, ne_eqb}
use Rattle.std.proofs.lemmas.Bool.Decides.{nat_tests}
use Rattle.std.specs.List.{AllByRecursion}
use Rattle.serde_json.specs.Data.{Data}
use Rattle.json_forms.specs.Forms.{address, below, optional, or_default}
use Rattle.vmsa_page.proofs.Booleans.{bool_cases}
use Rattle.vmsa_page.proofs.FieldsInPages.{same_segment}
use Rattle.vmsa_page.specs.declared.other_byte.OtherByte.{OtherByte}
use Rattle.vmsa_page.specs.declared.segment.Segment.{Segment}
use Rattle.vmsa_page.specs.Fields.{Field, segments, numbers, is_named, key_name}
use Rattle.vmsa_page.specs.Vmsas.{VmsaParts, IsSegment, AreOther, is_placed, IsVmsa}
use Rattle.vmsa_page.specs.Texts.{zero_segment, is_zero, segment_data, segment_part, number_part, other_data, other_items, other_part, part_of, vmsa_data}
use Rattle.vmsa_page.specs.Sources.{segment_form, all_at, other_form, other_from, and_rest, others_in, others_form, parts_of, vmsa_from}
use Rattle.vmsa_page.proofs.AddressTexts.{address_back}
use Rattle.vmsa_page.proofs.KeyOrder.{get_part, known}

short_back : (n : ℕ) → n < 65536 → below 65536 n ≡ Some n
short_back n h = rw (lt-ltb n 65536 h) refl

is_0 : (n : ℕ) → (n == 0) ≡ true → 0 ≡ n
is_0 n h = grind (arith, nat_tests)

zero_back : (s : Segment) → is_zero s ≡ true → zero_segment ≡ s
zero_back s h =
    let r = and_parts ((s.selector == 0) && (s.attributes == 0) && (s.limit == 0)) (s.base == 0) h in
    let q = and_parts ((s.selector == 0) && (s.attributes == 0)) (s.limit == 0) r.0 in
    let p = and_parts (s.selector == 0) (s.attributes == 0) q.0 in
    same_segment 0 0 0 0 s (is_0 s.selector p.0) (is_0 s.attributes p.1) (is_0 s.limit q.1) (is_0 s.base r.1)

segment_back : (s : Segment) → IsSegment s → segment_form (segment_data s) ≡ Some s
unfolding segment_form
segment_back s h =
    rw (lt-ltb s.selector 65536 h.selector, lt-ltb s.attributes 65536 h.attributes, lt-ltb s.limit 4294967296 h.limit, address_back s.base h.base) refl

segment_there : (s : Segment) → IsSegment s → or_default segment_form zero_segment (segment_part s) ≡ Some s
segment_there s h = elim (bool_cases (is_zero s)) [
  | inl zero_ ↦ rw zero_ (ap Some (zero_back s zero_))
  | inr some ↦ rw some (segment_back s h)
]

number_there : (n : ℕ) → n < 2 ^ 64 → or_default address 0 (number_part n) ≡ Some n
number_there n h = elim (cases_eq n 0) [
  | inl none ↦ rw none refl
  | inr some ↦ rw (ne_eqb n 0 some) (address_back n h)
]

other_back : (o : OtherByte) → o.at < 4096 → o.byte < 256 → other_form (other_data o) ≡ Some o
unfolding other_form
other_back o h k = rw (lt-ltb o.at 65536 (omega (arith, h)), lt-ltb o.byte 256 k) refl

fits : (low : ℕ) (o : OtherByte) → low ≤ o.at → o.at < 4096 → is_named o.at ≡ false → 0 < o.byte → is_placed low o ≡ true
fits low o a b c d = rw (le-leb low o.at a, lt-ltb o.at 4096 b, c, lt-ltb 0 o.byte d) refl

others_back : (low : ℕ) (os : List OtherByte) → AreOther low os → others_in low (other_items os) ≡ Some os
others_back low [] h = refl
others_back low (o ∷ os) h =
    let found : other_from low (other_data o) ≡ Some o =
    ap (option_and_then (λ (x : OtherByte). cond (is_placed low x) (Some x) None)) (other_back o h.1 h.4) ∙ ap (λ b. cond b (Some o) None) (fits low o h.0 h.1 h.2 h.3) in
    ap (option_and_then (λ (x : OtherByte). and_rest x (others_in (x.at + 1) (other_items os)))) found
    ∙ ap (and_rest o) (others_back (o.at + 1) os h.5)

others_there : (os : List OtherByte) → AreOther 0 os → or_default others_form [] (other_part os) ≡ Some os
others_there [] h = refl
others_there (o ∷ os) h = others_back 0 (o ∷ os) h

-- ---- all fields

-- fields have the names of the keys from a number on
abbrev NamesAt : ℕ → List Field → Type 0
NamesAt i [] = Unit {0}
NamesAt i (f ∷ fs) = (f.name ≡ key_name i) × NamesAt (suc i) fs

-- fields that are each read as printed are read together
all_back : {A : Type 0} (form : Data → Option A) (default : A) (json : Data) (place i : ℕ) (fs : List Field) (xs : List A) → NamesAt i fs → length xs ≡ length fs
    → ((k a : ℕ) → k < length fs → a ≡ i + k → optional form default (key_name a) json ≡ Some (get_or xs k default)) → all_at form default json place fs ≡ Ok xs
all_back form default json place i [] [] named count each = refl
all_back form default json place i [] (x ∷ xs) named count each = absurd (omega (arith, count))
all_back form default json place i (f ∷ fs) [] named count each = absurd (omega (arith, count))
all_back form default json place i (f ∷ fs) (x ∷ xs) named count each =
    let here : optional form default f.name json ≡ Some x = ap (λ key. optional form default key json) named.0 ∙ each 0 i (omega arith) (omega arith) in
    let rest = all_back form default json (suc place) (suc i) fs xs named.1 (omega (arith, count)) (λ k a below_ is. each (suc k) a (omega (arith, below_)) (omega (arith, is))) in
    rw (here, rest) refl

pub all_by_index : {A : Type 0} (P : A → Type 0) (xs : List A) (k : ℕ) (d : A) → AllByRecursion P xs → P d → P (get_or xs k d)
all_by_index P [] k d h z = z
all_by_index P (x ∷ xs) zero d h z = h.0
all_by_index P (x ∷ xs) (suc k) d h z = all_by_index P xs k d h.1 z

pub zero_is : IsSegment zero_segment
zero_is = record { selector = omega arith; attributes = omega arith; limit = omega arith; base = omega arith }

part_segment : (v : VmsaParts) (k : ℕ) → k < 10 → part_of v k ≡ segment_part (get_or v.segments k zero_segment)
unfolding part_of
part_segment v k h = rw (lt-ltb k 10 h) refl

pub part_number : (v : VmsaParts) (k a : ℕ) → k < 13 → a ≡ 10 + k → part_of v a ≡ number_part (get_or v.numbers k 0)
unfolding part_of
part_number v k a h is =
    let high : nat_lt a 10 ≡ false = grind (arith, nat_tests) in
    let low : nat_lt a 23 ≡ true = lt-ltb a 23 (omega (arith, is, h)) in
    let back : a - 10 ≡ k = omega (arith, is) in
    rw (high, low, back) refl

segments_back : (v : VmsaParts) → IsVmsa v → all_at segment_form zero_segment (vmsa_data v) 1 segments ≡ Ok v.segments
segments_back v h =
    all_back segment_form zero_segment (vmsa_data v) 1 0 segments v.segments (refl, (refl, (refl, (refl, (refl, (refl, (refl, (refl, (refl, (refl, tt)))))))))) h.ten
    (λ k a below_ is.
    let small : a < 10 = omega (arith, below_, is) in
    let same : a ≡ k = omega (arith, is) in
    ap (or_default segment_form zero_segment) (get_part v a (omega (arith, small)) ∙ part_segment v a small)
    ∙ segment_there (get_or v.segments a zero_segment) (all_by_index IsSegment v.segments a zero_segment h.segments zero_is)
    ∙ ap (λ (x : ℕ). Some (get_or v.segments x zero_segment)) same)

numbers_back : (v : VmsaParts) → IsVmsa v → all_at address 0 (vmsa_data v) 11 numbers ≡ Ok v.numbers
numbers_back v h =
    all_back address 0 (vmsa_data v) 11 10 numbers v.numbers (refl, (refl, (refl, (refl, (refl, (refl, (refl, (refl, (refl, (refl, (refl, (refl, (refl, tt))))))))))))) h.thirteen
    (λ k a below_ is.
    ap (or_default address 0) (get_part v a (omega (arith, below_, is)) ∙ part_number v k a below_ is)
    ∙ number_there (get_or v.numbers k 0) (all_by_index (λ n. n < 2 ^ 64) v.numbers k 0 h.numbers (omega arith)))

other_read : (v : VmsaParts) → IsVmsa v → optional others_form [] (codes "other") (vmsa_data v) ≡ Some v.other
unfolding part_of
other_read v h = ap (or_default others_form []) (get_part v 23 (omega arith)) ∙ others_there v.other h.other

pub data_is_read : (v : VmsaParts) → IsVmsa v → vmsa_from (vmsa_data v) ≡ Ok v
unfolding vmsa_from parts_of
data_is_read v h = rw (known v, segments_back v h, numbers_back v h, other_read v h) refl
