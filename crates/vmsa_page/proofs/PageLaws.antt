-- A VMSA's page is read as that VMSA, and the VMSA that is read of a page has that page.
use Rattle.std.proofs.Common.{◌≡◌, ◌≤◌, ◌<◌, ◌+◌, ◌-◌, ℕ, zero, suc, List, [], ◌∷◌, ◌++◌, Bool, true, false, cond, length, replicate, map, length-append, slice_index, All, inl, inr, refl, sym, ap, ap₂, ◌∙◌, arith}
use Rattle.std.proofs.lemmas.Bool.{cases_lt}
use Rattle.std.proofs.lemmas.List.{get_or_past}
use Rattle.std.proofs.lemmas.List.FromFn.{get_or-map-range_with_len, fill_by_all}
use Rattle.byteorder.specs.Endian.{little_bytes}
use Rattle.vmsa_page.specs.declared.other_byte.OtherByte.{OtherByte}
use Rattle.vmsa_page.specs.declared.segment.Segment.{Segment}
use Rattle.vmsa_page.specs.Fields.{segments, numbers, fields, is_in, is_named}
use Rattle.vmsa_page.specs.Vmsas.{VmsaParts, IsVmsa}
use Rattle.vmsa_page.specs.Pages.{segment_bytes, field_bytes, other_at, byte_of, page_of, others_from, vmsa_of}
use Rattle.vmsa_page.proofs.LittleNumbers.{IsBytes}
use Rattle.vmsa_page.proofs.FieldsInPages.{AreThere, found, read_numbers, read_segments, covered, there_numbers, there_segments}
use Rattle.vmsa_page.proofs.OthersInPages.{others_read, later_found, others_found}

page_at : (v : VmsaParts) (i : ℕ) → i < 4096 → slice_index (page_of v) i ≡ byte_of v i
unfolding page_of
page_at v i below = get_or-map-range_with_len (byte_of v) 0 4096 i i 0 below (omega arith)

length_map : {X : Type 0} (f : X → List ℕ) (xs : List X) → length (map f xs) ≡ length xs
length_map f [] = refl
length_map f (x ∷ xs) = ap suc (length_map f xs)

length_field_bytes : (v : VmsaParts) → length v.segments ≡ 10 → length v.numbers ≡ 13 → length (field_bytes v) ≡ 23
length_field_bytes v ten thirteen =
    omega (arith, length-append (map segment_bytes v.segments) (map (little_bytes 8) v.numbers), length_map segment_bytes v.segments, length_map (little_bytes 8) v.numbers, ten, thirteen)

all_there : (v : VmsaParts) → AreThere (page_of v) fields (field_bytes v)
unfolding byte_of
all_there v = found fields (field_bytes v) 0 (page_of v) (λ i. other_at v.other i) refl (λ i low high. page_at v i high)

named_or_other : (v : VmsaParts) → IsVmsa v → (i : ℕ) → is_named i ≡ false → byte_of v i ≡ other_at v.other i
unfolding byte_of is_named
named_or_other v h i isnt =
    covered fields (field_bytes v) (page_of v) i (other_at v.other i) (length_field_bytes v h.ten h.thirteen) (all_there v) ∙ rw isnt refl

-- a VMSA of these parts
parts : List Segment → List ℕ → List OtherByte → VmsaParts
parts ss ns os = record { segments = ss; numbers = ns; other = os }

others_of_page : (v : VmsaParts) → IsVmsa v → others_from 0 (page_of v) ≡ v.other
unfolding page_of
others_of_page v h = others_read 4096 0 v.other (byte_of v) h.other refl (λ i low high. named_or_other v h i)

either_way : (b : Bool) (x : ℕ) → cond b x (cond b 0 x) ≡ x
either_way true x = refl
either_way false x = refl

pub vmsa_of_page : (v : VmsaParts) → IsVmsa v → vmsa_of (page_of v) ≡ v
unfolding vmsa_of parts
vmsa_of_page v h =
    let p = page_of v in
    let ss = read_segments segments numbers v.segments (map (little_bytes 8) v.numbers) p refl (h.ten) h.segments (all_there v) in
    let ns = read_numbers numbers v.numbers p refl h.thirteen h.numbers ss.1 in
    let os : others_from 0 p ≡ v.other = others_of_page v h in
    ap₂ (λ (x : List Segment) (y : List ℕ). parts x y (others_from 0 p)) ss.0 ns ∙ ap (parts v.segments v.numbers) os

pub page_of_vmsa : (p : List ℕ) → length p ≡ 4096 → IsBytes p → page_of (vmsa_of p) ≡ p
unfolding page_of vmsa_of byte_of is_named
page_of_vmsa p size bytes =
    let v = vmsa_of p in
    let ns = there_numbers numbers p refl bytes in
    let all = there_segments segments numbers p (map (little_bytes 8) v.numbers) refl bytes ns in
    let same : (i : ℕ) → i < 4096 → slice_index p i ≡ byte_of v i = λ i below.
    let o : other_at (others_from 0 p) i ≡ cond (is_in fields i) 0 (slice_index p i) = others_found 0 i p i (omega (arith, below, size)) (omega arith) in
    sym (covered fields (field_bytes v) p i (other_at (others_from 0 p) i) refl all ∙ ap (cond (is_in fields i) (slice_index p i)) o ∙ either_way (is_in fields i) (slice_index p i)) in
    sym (fill_by_all (byte_of v) p 4096 0 size same)

-- past the end there are zeros
pub bytes_by : (p : List ℕ) → All (λ byte. byte < 256) p → IsBytes p
bytes_by p all i = elim (cases_lt i (length p)) [
  | inl below ↦ all i 0 below
  | inr past ↦ let none : slice_index p i ≡ 0 = get_or_past p i 0 past in omega (arith, none)
]

-- ---- a page that ends early

others_behind : (a i : ℕ) (bytes : List ℕ) → a + length bytes ≤ i → other_at (others_from a bytes) i ≡ 0
others_behind a i [] h = refl
others_behind a i (x ∷ bytes) h = later_found a x i bytes (omega (arith, h)) ∙ others_behind (a + 1) i bytes (omega (arith, h))

zeros_at : (n i : ℕ) → slice_index (replicate n 0) i ≡ 0
zeros_at zero i = refl
zeros_at (suc n) zero = refl
zeros_at (suc n) (suc i) = zeros_at n i

padded_at : (p : List ℕ) (n i : ℕ) → slice_index (p ++ replicate n 0) i ≡ slice_index p i
padded_at [] n i = zeros_at n i
padded_at (x ∷ p) n zero = refl
padded_at (x ∷ p) n (suc i) = padded_at p n i

length_zeros : (n : ℕ) → length (replicate {A = ℕ} n 0) ≡ n
length_zeros zero = refl
length_zeros (suc n) = ap suc (length_zeros n)

both_none : (b : Bool) (x y : ℕ) → x ≡ 0 → y ≡ 0 → cond b x y ≡ x
both_none true x y p q = refl
both_none false x y p q = q ∙ sym p

pub short_page : (p : List ℕ) → length p ≤ 4096 → IsBytes p → page_of (vmsa_of p) ≡ p ++ replicate (4096 - length p) 0
unfolding page_of vmsa_of byte_of is_named
short_page p size bytes =
    let v = vmsa_of p in
    let n : ℕ = 4096 - length p in
    let ns = there_numbers numbers p refl bytes in
    let all = there_segments segments numbers p (map (little_bytes 8) v.numbers) refl bytes ns in
    let whole : length (p ++ replicate n 0) ≡ 4096 = omega (arith, length-append p (replicate n 0), length_zeros n, size) in
    let same : (i : ℕ) → slice_index p i ≡ byte_of v i = λ i.
    elim (cases_lt i (length p)) [
      | inl below ↦
          let o : other_at (others_from 0 p) i ≡ cond (is_in fields i) 0 (slice_index p i) = others_found 0 i p i below (omega arith) in
          sym (covered fields (field_bytes v) p i (other_at (others_from 0 p) i) refl all ∙ ap (cond (is_in fields i) (slice_index p i)) o ∙ either_way (is_in fields i) (slice_index p i))
      | inr past ↦
          sym (covered fields (field_bytes v) p i (other_at (others_from 0 p) i) refl all ∙ both_none (is_in fields i) (slice_index p i) (other_at (others_from 0 p) i) (get_or_past p i 0 past) (others_behind 0 i p (omega (arith, past))))
    ] in
    sym (fill_by_all (byte_of v) (p ++ replicate n 0) 4096 0 whole (λ i below. padded_at p n i ∙ same i))
