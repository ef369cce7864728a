-- A file is accepted exactly where it keeps the rules on the file header and those on its loadable segments.
use Rattle.std.proofs.Common.{◌≡◌, ℕ, zero, suc, ◌+◌, ◌-◌, ◌<◌, ◌≤◌, ◌≢◌, ◌↔◌, nat_lt, true, false, cond, List, [], ◌∷◌, ◌++◌, length, get_or, refl, sym, ap, ◌∙◌, subst, arith, None, length-append, append-nil, append_assoc}
use Rattle.std.specs.Prelude.{◌==◌}
use Rattle.std.specs.List.{list_any}
use Rattle.std.specs.Option.{option_map}
use Rattle.std.proofs.lemmas.Bool.Decides.{nat_tests}
use Rattle.std.proofs.lemmas.List.{get_or_append_left, get_or_at, get_or_default}
use Rattle.std.proofs.lemmas.List.Folds.{list_any_none}
use Rattle.elf_pages.specs.declared.segment.Segment.{Segment}
use Rattle.elf_pages.specs.AcceptedFile.{KeepsSegmentRules}
use Rattle.elf_pages.specs.Faults.{elf_fault, fault_in, file_fault, header_fault, is_outside, pages_fault, segment_fault}
use Rattle.elf_pages.specs.FileHeader.{header_count, header_offset}
use Rattle.elf_pages.specs.Pages.{pages_in}
use Rattle.elf_pages.specs.SegmentFacts.{IsSound, ShareByte, no_segment, segment_number}
use Rattle.elf_pages.specs.Segments.{end_of, is_loadable, overlaps, segment_at, segments_before, segments_of}
use Rattle.elf_pages.proofs.AcceptedSegments.{AreApart, headers_apart, no_front, no_map, overlap_is, shared}
use Rattle.elf_pages.proofs.FaultOrder.{at_pages}
use Rattle.elf_pages.proofs.FirstHeaderLaws.{none_all}
use Rattle.elf_pages.proofs.SegmentFaults.{later, le_of}
use Rattle.elf_pages.proofs.HeaderSteps.{fault_loadable, fault_other, more_loadable}

-- ---- from no fault to the rules

not_zero : (n : ℕ) → (n == 0) ≡ false → 0 < n
not_zero n h = grind (arith, nat_tests)

pages_kept : (segments : List Segment) → pages_fault segments ≡ None → (0 < length segments) × (length (pages_in segments) ≤ 131072)
unfolding pages_fault
pages_kept segments none =
    let a = later _ _ _ none in
    let b = later _ _ _ a.1 in
    (not_zero _ a.0, le_of _ _ b.0)

not_shared : (s t : Segment) → 0 < s.memory_bytes → 0 < t.memory_bytes → overlaps t s ≡ false → ShareByte s t → ⊥
not_shared s t some other apart both =
    let again : ShareByte t s = record { x = both.x; one = both.other; other = both.one } in
    let is = (overlap_is t s other some).1 again in
    cc

pub kept : (file : List ℕ) → elf_fault file ≡ None → (file_fault file ≡ None) × KeepsSegmentRules file
unfolding elf_fault
kept file none =
    let front = no_front _ _ none in
    let rest = no_front _ _ front.1 in
    let are = headers_apart file (header_count file) rest.0 in
    let pages = pages_kept (segments_of file) (no_map 0 _ rest.1) in (
      no_map 0 _ front.0,
      record {
        some = pages.0;
        number = are.few;
        each = λ n less. are.each n no_segment less;
        apart = λ first later less few. not_shared (segment_number file first) (segment_number file later)
            (are.each first no_segment (omega arith)).some (are.each later no_segment few).some (are.apart first later no_segment less few);
        pages = pages.1;
      },
    )

-- ---- from the rules to no fault

-- the segments of more program headers begin with those of fewer
pub front_of : (file : List ℕ) (k n : ℕ) → (rest : List Segment) × (segments_before file (k + n) ≡ segments_before file k ++ rest)
unfolding segments_before
front_of file k zero = let same : k + 0 ≡ k = omega arith in ([], ap (segments_before file) same ∙ sym (append-nil (segments_before file k)))
front_of file k (suc n) =
    let next : k + suc n ≡ suc (k + n) = omega arith in
    let front = front_of file k n in
    let last = cond (is_loadable file (header_offset file (k + n))) (segment_at file (header_offset file (k + n)) ∷ []) [] in
    (front.0 ++ last, ap (segments_before file) next ∙ ap (λ xs. xs ++ last) front.1 ∙ append_assoc (segments_before file k) front.0 last)

not_equal : (a b : ℕ) → a ≢ b → (a == b) ≡ false
not_equal a b h = grind (arith, nat_tests)

not_below : (a b : ℕ) → b ≤ a → nat_lt a b ≡ false
not_below a b h = grind (arith, nat_tests)

not_outside : (size : ℕ) (s : Segment) → IsSound size s → is_outside size s ≡ false
not_outside size s sound = let inside = sound.inside in grind (arith, nat_tests)

no_rule : (size : ℕ) (before : List Segment) (s : Segment) → length before < 64 → IsSound size s → list_any (overlaps s) before ≡ false → segment_fault size before s ≡ None
unfolding segment_fault
no_rule size before s room sound apart =
    let a : (length before == 64) ≡ false = not_equal (length before) 64 (λ (e : length before ≡ 64). omega arith) in
    let b = not_below s.memory_bytes s.file_bytes sound.sizes in
    let d = not_outside size s sound in
    let e = not_below 4503599627370496 (end_of s) sound.ends in
    rw (a, b, d, e, apart) refl

-- the segment that a program header adds breaks no rule where all of them keep the rules together
no_header : (file : List ℕ) (count k : ℕ) → AreApart (length file) (segments_before file count) → k < count → is_loadable file (header_offset file k) ≡ true
    → segment_fault (length file) (segments_before file k) (segment_at file (header_offset file k)) ≡ None
no_header file count k are less is =
    let s = segment_at file (header_offset file k) in
    let before = segments_before file k in
    let rest = front_of file (k + 1) (count - (k + 1)) in
    let same : (k + 1) + (count - (k + 1)) ≡ count = omega arith in
    let whole : segments_before file count ≡ before ++ s ∷ rest.0 =
    ap (segments_before file) (sym same) ∙ rest.1 ∙ ap (λ xs. xs ++ rest.0) (more_loadable file k is) ∙ append_assoc before (s ∷ []) rest.0 in
    let all : AreApart (length file) (before ++ s ∷ rest.0) = subst (AreApart (length file)) whole are in
    let within : length before < length (before ++ s ∷ rest.0) = omega (arith, length-append before (s ∷ rest.0)) in
    let here : (d : Segment) → get_or (before ++ s ∷ rest.0) (length before) d ≡ s = λ d. get_or_at before s rest.0 d (length before) refl in
    no_rule (length file) before s (let few = all.few in omega arith) (subst (IsSound (length file)) (here no_segment) (all.each (length before) no_segment within))
    (list_any_none (overlaps s) before (λ j d few.
    ap (λ t. overlaps t (get_or before j d)) (sym (here d))
    ∙ ap (overlaps (get_or (before ++ s ∷ rest.0) (length before) d)) (sym (get_or_append_left before (s ∷ rest.0) d j few))
    ∙ all.apart j (length before) d few within))

none_at_header : (file : List ℕ) (count k : ℕ) → AreApart (length file) (segments_before file count) → k < count → header_fault file k ≡ None
none_at_header file count k are less = elim (is_loadable file (header_offset file k)) as (λ b. is_loadable file (header_offset file k) ≡ b → header_fault file k ≡ None) [
  | true ↦ λ is. fault_loadable file k is ∙ ap (option_map (fault_in k)) (no_header file count k are less is)
  | false ↦ λ is. fault_other file k is
] refl

no_overlap : (s t : Segment) → 0 < s.memory_bytes → 0 < t.memory_bytes → (ShareByte s t → ⊥) → overlaps t s ≡ false
no_overlap s t some other apart = elim (overlaps t s) as (λ b. overlaps t s ≡ b → b ≡ false) [
  | true ↦ λ is.
      let both = shared t s other some is in
      absurd (apart (record { x = both.x; one = both.other; other = both.one }))
  | false ↦ λ is. refl
] refl

apart_from : (file : List ℕ) → KeepsSegmentRules file → AreApart (length file) (segments_of file)
apart_from file rules = record {
  each = λ n d less. subst (IsSound (length file)) (get_or_default (segments_of file) n no_segment d less) (rules.each n less);
  apart = λ first later d less few.
      let a = get_or_default (segments_of file) first d no_segment (omega arith) in
      let b = get_or_default (segments_of file) later d no_segment few in
      ap (λ t. overlaps t (get_or (segments_of file) first d)) b ∙ ap (overlaps (segment_number file later)) a
      ∙ no_overlap (segment_number file first) (segment_number file later) (rules.each first (omega arith)).some (rules.each later few).some (rules.apart first later less few);
  few = rules.number;
}

no_pages_fault : (segments : List Segment) → 0 < length segments → length (pages_in segments) ≤ 131072 → pages_fault segments ≡ None
unfolding pages_fault
no_pages_fault segments some few =
    let a : (length segments == 0) ≡ false = not_equal (length segments) 0 (λ (e : length segments ≡ 0). omega arith) in
    rw (a, not_below 131072 (length (pages_in segments)) few) refl

pub accepted : (file : List ℕ) → file_fault file ≡ None → KeepsSegmentRules file → elf_fault file ≡ None
accepted file none rules =
    at_pages file None none (none_all file (header_count file) (λ k less. none_at_header file (header_count file) k (apart_from file rules) less))
    (no_pages_fault (segments_of file) rules.some rules.pages)

pub accepted_is : (file : List ℕ) → (elf_fault file ≡ None) ↔ ((file_fault file ≡ None) × KeepsSegmentRules file)
accepted_is file = (kept file, λ h. accepted file h.0 h.1)
