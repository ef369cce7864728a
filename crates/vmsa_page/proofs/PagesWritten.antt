-- Pages written field by field.
use Rattle.std.proofs.Common.{◌≡◌, ◌<◌, ◌+◌, ◌-◌, ◌&&◌, ◌==◌, ℕ, zero, suc, List, [], ◌∷◌, ◌++◌, true, cond, length, drop, map, get_or, slice_index, nat_le, nat_lt, refl, sym, ap, ap₂, ◌∙◌, subst, arith}
use Rattle.std.proofs.Math.Seq.{drop-cons}
use Rattle.std.proofs.lemmas.Bool.{and_parts}
use Rattle.std.proofs.lemmas.List.FromFn.{fill_by_all}
use Rattle.std.specs.List.{AllByRecursion}
use Rattle.byteorder.specs.Endian.{little_bytes}
use Rattle.vmsa_page.proofs.Booleans.{eqb_eq}
use Rattle.vmsa_page.specs.declared.other_byte.OtherByte.{OtherByte}
use Rattle.vmsa_page.specs.Fields.{Field, segments, numbers, is_within}
use Rattle.vmsa_page.specs.Vmsas.{VmsaParts, AreOther}
use Rattle.vmsa_page.specs.Pages.{segment_bytes, byte_by, other_at, byte_of, page_of}
use Rattle.vmsa_page.specs.Overlays.{IsOverlay, run_or, other_or}
use Rattle.vmsa_page.proofs.FieldsInPages.{are_wide}

pub wide_at : (w : ℕ) (fs : List Field) (k : ℕ) (d : Field) → are_wide w fs ≡ true → k < length fs → (get_or fs k d).width ≡ w
wide_at w [] k d h below = absurd (omega (arith, below))
wide_at w (f ∷ fs) zero d h below = eqb_eq f.width w (and_parts (f.width == w) (are_wide w fs) h).0
wide_at w (f ∷ fs) (suc k) d h below = wide_at w fs k d (and_parts (f.width == w) (are_wide w fs) h).1 (omega (arith, below))

one_more : (f : Field) (fs : List Field) (bytes : List ℕ) (more : List (List ℕ)) (i d : ℕ) → f.width ≡ length bytes → run_or f.offset bytes i (byte_by fs more i d) ≡ byte_by (f ∷ fs) (bytes ∷ more) i d
one_more f fs bytes more i d wide = ap (λ (w : ℕ). cond (nat_le f.offset i && nat_lt i (f.offset + w)) (slice_index bytes (i - f.offset)) (byte_by fs more i d)) (sym wide)

-- one field more over those behind it
pub overlay_more : (fs : List Field) (more : List (List ℕ)) (k left at : ℕ) (d : Field) (e bytes old mid new : List ℕ) → left ≡ suc k → k < length fs → k < length more → at ≡ (get_or fs k d).offset → bytes ≡ get_or more k e
    → (get_or fs k d).width ≡ length bytes → IsOverlay (byte_by (drop left fs) (drop left more)) old mid → IsOverlay (run_or at bytes) mid new → IsOverlay (byte_by (drop k fs) (drop k more)) old new
overlay_more fs more k left at d e bytes old mid new next in_fs in_more place is wide before after =
    let f = get_or fs k d in
    let first : drop k fs ≡ f ∷ drop left fs = drop-cons fs k d in_fs ∙ ap (λ (m : ℕ). f ∷ drop m fs) (sym next) in
    let here : drop k more ≡ bytes ∷ drop left more = drop-cons more k e in_more ∙ ap₂ (λ (b : List ℕ) (m : ℕ). b ∷ drop m more) (sym is) (sym next) in (
      after.0 ∙ before.0,
      λ i below.
          after.1 i (omega (arith, below, before.0)) ∙ ap₂ (λ (a x : ℕ). run_or a bytes i x) place (before.1 i below)
          ∙ one_more f (drop left fs) bytes (drop left more) i (slice_index old i) wide
          ∙ ap₂ (λ (l : List Field) (m : List (List ℕ)). byte_by l m i (slice_index old i)) (sym first) (sym here),
    )

other_zero : (os : List OtherByte) (i : ℕ) → other_or os i 0 ≡ other_at os i
other_zero [] i = refl
other_zero (o ∷ os) i = ap (λ (x : ℕ). cond (o.at == i) o.byte x) (other_zero os i)

-- the byte by two rows of fields
count_by : (fs : List Field) (more : List (List ℕ)) → length more ≡ length fs → (gs : List Field) (rest : List (List ℕ)) (i d : ℕ) → byte_by (fs ++ gs) (more ++ rest) i d ≡ byte_by fs more i (byte_by gs rest i d)
count_by [] [] h gs rest i d = refl
count_by [] (bytes ∷ more) h gs rest i d = absurd (omega (arith, h))
count_by (f ∷ fs) [] h gs rest i d = absurd (omega (arith, h))
count_by (f ∷ fs) (bytes ∷ more) h gs rest i d = ap (λ (x : ℕ). cond (is_within f i) (slice_index bytes (i - f.offset)) x) (count_by fs more (omega (arith, h)) gs rest i d)

pub others_over : (seen os : List OtherByte) (old new : List ℕ) → seen ≡ os → IsOverlay (other_or seen) old new → IsOverlay (other_or os) old new
others_over seen os old new same h = subst (λ (l : List OtherByte). IsOverlay (other_or l) old new) same h

-- zeros, other bytes, numbers and segments, each over those before, are the page
pub page_written : (v : VmsaParts) (start zeros one two new : List ℕ) → length start ≡ 4096 → IsOverlay (λ _ _. 0) start zeros → length (map segment_bytes v.segments) ≡ 10
    → IsOverlay (other_or v.other) zeros one → IsOverlay (byte_by numbers (map (little_bytes 8) v.numbers)) one two → IsOverlay (byte_by segments (map segment_bytes v.segments)) two new → new ≡ page_of v
unfolding page_of byte_of
page_written v start zeros one two new whole clear ten a b c =
    let size : length zeros ≡ 4096 = clear.0 ∙ whole in
    fill_by_all (byte_of v) new 4096 0 (c.0 ∙ b.0 ∙ a.0 ∙ size) (λ i below.
    let x : slice_index one i ≡ other_at v.other i = a.1 i (omega (arith, below, size)) ∙ ap (other_or v.other i) (clear.1 i (omega (arith, below, whole))) ∙ other_zero v.other i in
    let y : slice_index two i ≡ byte_by numbers (map (little_bytes 8) v.numbers) i (other_at v.other i) = b.1 i (omega (arith, below, size, a.0)) ∙ ap (byte_by numbers (map (little_bytes 8) v.numbers) i) x in
    c.1 i (omega (arith, below, size, a.0, b.0)) ∙ ap (byte_by segments (map segment_bytes v.segments) i) y
    ∙ sym (count_by segments (map segment_bytes v.segments) ten numbers (map (little_bytes 8) v.numbers) i (other_at v.other i)))

others_within : (os : List OtherByte) (low n : ℕ) → AreOther low os → n ≡ 4096 → AllByRecursion (λ o. o.at < n) os
others_within [] low n h size = tt
others_within (o ∷ os) low n h size = (omega (arith, h.1, size), others_within os (o.at + 1) n h.5 size)

-- other bytes lie in the page
pub others_in_page : (os seen : List OtherByte) (n : ℕ) → seen ≡ os → AreOther 0 os → n ≡ 4096 → AllByRecursion (λ o. o.at < n) seen
others_in_page os seen n same h size = subst (AllByRecursion (λ o. o.at < n)) (sym same) (others_within os 0 n h size)
