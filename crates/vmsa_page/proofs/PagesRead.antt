-- Pages read a byte at a time.
use Rattle.std.proofs.Common.{◌≡◌, ◌≤◌, ◌<◌, ◌^◌, ◌+◌, ◌-◌, ◌*◌, ℕ, suc, List, [], ◌∷◌, ◌++◌, length, drop, map, get_or, slice_index, refl, sym, ap, ap₂, ◌∙◌, subst, arith, append_assoc, lit<, not, ◌&&◌, ◌==◌, inl, inr}
use Rattle.std.proofs.Math.Nat.{pow-succ', pow-le-pow_right}
use Rattle.std.proofs.lemmas.List.{drop_more}
use Rattle.std.proofs.lemmas.Bool.{and_parts}
use Rattle.std.specs.List.{AllByRecursion}
use Rattle.byteorder.specs.Endian.{little_from}
use Rattle.byteorder.specs.Numbers.{little_from-lt}
use Rattle.vmsa_page.proofs.Booleans.{bool_cases, not_true, above_zero}
use Rattle.vmsa_page.specs.declared.segment.Segment.{Segment}
use Rattle.vmsa_page.specs.Fields.{Field, segments, numbers, is_named}
use Rattle.vmsa_page.specs.Vmsas.{IsSegment, AreOther, IsVmsa}
use Rattle.vmsa_page.proofs.LittleNumbers.{IsBytes}
use Rattle.vmsa_page.specs.Pages.{other_here, others_from, segment_of, vmsa_of}
use Rattle.vmsa_page.specs.declared.other_byte.OtherByte.{OtherByte}

-- one byte more in front of a number
pub little_more : (at left width number byte : ℕ) (p : List ℕ) → 0 < left → left ≤ width → byte ≡ slice_index p (at + (left - 1)) → number ≡ little_from (at + left) (width - left) p
    → number * 256 + byte ≡ little_from (at + (left - 1)) (width - (left - 1)) p
little_more at left width number byte p some within is same =
    let size : width - (left - 1) ≡ suc (width - left) = omega (arith, some, within) in
    let next : suc (at + (left - 1)) ≡ at + left = omega (arith, some) in
    let step : little_from (at + (left - 1)) (suc (width - left)) p ≡ byte + 256 * number =
    ap₂ (λ (x y : ℕ). x + 256 * y) (sym is) (ap (λ (i : ℕ). little_from i (width - left) p) next ∙ sym same) in
    let turned : number * 256 + byte ≡ byte + 256 * number = omega arith in
    turned ∙ sym (ap (λ (w : ℕ). little_from (at + (left - 1)) w p) size ∙ step)

pub room_more : (left width number byte : ℕ) → 0 < left → left ≤ width → byte < 256 → number < 256 ^ (width - left) → number * 256 + byte < 256 ^ (width - (left - 1))
room_more left width number byte some within small less =
    let size : width - (left - 1) ≡ suc (width - left) = omega (arith, some, within) in
    let more : 256 ^ suc (width - left) ≡ 256 * 256 ^ (width - left) = pow-succ' 256 (width - left) in
    subst (λ (w : ℕ). number * 256 + byte < 256 ^ w) (sym size) (omega (arith, more, small, less))

pub others_more : (at : ℕ) (page : List ℕ) (old new : List OtherByte) (byte : ℕ) → at < length page → byte ≡ get_or page at byte → new ≡ old ++ other_here at byte → old ++ others_from at (drop at page) ≡ others_from 0 page
    → new ++ others_from (at + 1) (drop (at + 1) page) ≡ others_from 0 page
others_more at page old new byte below is changed same =
    ap (λ l. l ++ others_from (at + 1) (drop (at + 1) page)) changed ∙ append_assoc old (other_here at byte) (others_from (at + 1) (drop (at + 1) page))
    ∙ ap (λ l. old ++ others_from at l) (sym (drop_more page at byte below ∙ ap (λ b. b ∷ drop (at + 1) page) (sym is))) ∙ same

-- eight bytes have room in 64 bits
pub room_within : (left width number byte : ℕ) → 0 < left → left ≤ width → width ≤ 8 → byte < 256 → number < 256 ^ (width - left) → number * 256 + byte < 18446744073709551616
room_within left width number byte some within few small less =
    let exponent : width - (left - 1) ≤ 8 = omega (arith, within, few, some) in
    let most : 256 ^ (width - (left - 1)) ≤ 256 ^ 8 = pow-le-pow_right {n = 256} (lit< tt) exponent in
    omega (arith, room_more left width number byte some within small less, most)

-- ---- what is read of bytes is a VMSA

segments_fit : (p : List ℕ) (fs : List Field) → IsBytes p → AllByRecursion IsSegment (map (segment_of p) fs)
segments_fit p [] bytes = tt
segments_fit p (f ∷ fs) bytes = (
  record {
    selector = little_from-lt f.offset 2 p bytes;
    attributes = little_from-lt (f.offset + 2) 2 p bytes;
    limit = little_from-lt (f.offset + 4) 4 p bytes;
    base = little_from-lt (f.offset + 8) 8 p bytes;
  },
  segments_fit p fs bytes,
)

numbers_fit : (p : List ℕ) (fs : List Field) → IsBytes p → AllByRecursion (λ n. n < 2 ^ 64) (map (λ f. little_from f.offset 8 p) fs)
numbers_fit p [] bytes = tt
numbers_fit p (f ∷ fs) bytes = (little_from-lt f.offset 8 p bytes, numbers_fit p fs bytes)

lower : (a : ℕ) (os : List OtherByte) → AreOther (a + 1) os → AreOther a os
lower a [] h = tt
lower a (o ∷ os) h = (omega (arith, h.0), h.1, h.2, h.3, h.4, h.5)

others_fit : (a : ℕ) (bytes : List ℕ) → IsBytes bytes → a + length bytes ≤ 4096 → AreOther a (others_from a bytes)
others_fit a [] small size = tt
others_fit a (x ∷ bytes) small size =
    let rest : AreOther (a + 1) (others_from (a + 1) bytes) = others_fit (a + 1) bytes (λ i. small (suc i)) (omega (arith, size)) in
    elim (bool_cases (not (is_named a) && not (x == 0))) [
      | inl both ↦
          let p = and_parts (not (is_named a)) (not (x == 0)) both in
          rw both (omega arith, omega (arith, size), not_true (is_named a) p.0, above_zero x (not_true (x == 0) p.1), small 0, rest)
      | inr none ↦ rw none (lower a (others_from (a + 1) bytes) rest)
    ]

pub vmsa_fits : (p : List ℕ) (ss : List Segment) (ns : List ℕ) (os : List OtherByte) → ss ≡ map (segment_of p) segments → ns ≡ map (λ f. little_from f.offset 8 p) numbers → os ≡ others_from 0 p
    → IsBytes p → length p ≤ 4096 → IsVmsa (record { segments = ss; numbers = ns; other = os })
vmsa_fits p ss ns os x y z bytes size =
    record {
      ten = ap (λ (l : List Segment). length l) x;
      segments = subst (AllByRecursion IsSegment) (sym x) (segments_fit p segments bytes);
      thirteen = ap (λ (l : List ℕ). length l) y;
      numbers = subst (AllByRecursion (λ n. n < 2 ^ 64)) (sym y) (numbers_fit p numbers bytes);
      other = subst (AreOther 0) (sym z) (others_fit 0 p bytes (omega (arith, size)));
    }

-- the whole of a page
pub page_fits : (p : List ℕ) → IsBytes p → length p ≤ 4096 → IsVmsa (vmsa_of p)
unfolding vmsa_of
page_fits p bytes size = vmsa_fits p (map (segment_of p) segments) (map (λ f. little_from f.offset 8 p) numbers) (others_from 0 p) refl refl refl bytes size
