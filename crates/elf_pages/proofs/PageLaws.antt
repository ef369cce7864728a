-- The pages of a file are those that are touched, in rising order.
use Rattle.std.proofs.Common.{◌≡◌, ℕ, zero, suc, ◌+◌, ◌-◌, ◌*◌, ◌/◌, ◌<◌, ◌≤◌, ◌↔◌, Bool, ◌||◌, true, false, max, List, [], ◌∷◌, ◌++◌, length, get_or, refl, sym, ap, ◌∙◌, subst, arith, inl, inr, None, length-append}
use Rattle.std.specs.List.{list_any}
use Rattle.std.proofs.lemmas.Bool.{cases_lt}
use Rattle.std.proofs.lemmas.Bool.Decides.{nat_tests}
use Rattle.std.proofs.lemmas.List.{get_or_append_left, get_or_push}
use Rattle.std.proofs.lemmas.List.Folds.{list_any_at}
use Rattle.elf_pages.specs.declared.segment.Segment.{Segment}
use Rattle.elf_pages.specs.Faults.{elf_fault}
use Rattle.elf_pages.specs.PageFacts.{IsFilled, IsPage}
use Rattle.elf_pages.specs.Pages.{is_filled, is_touched, meets, pages_below, pages_in, pages_of}
use Rattle.elf_pages.specs.SegmentFacts.{no_segment, segment_number}
use Rattle.elf_pages.specs.Segments.{segments_of}
use Rattle.elf_pages.proofs.TouchedPages.{one_none, one_more, page_of_rank, goes_on}
use Rattle.elf_pages.proofs.AcceptedSegments.{accepted_apart}

-- pages below a number: each is touched, and they rise
pub record PagesAre (segments : List Segment) (most : ℕ) (pages : List ℕ) : Type 0 where
  pub each : (k : ℕ) → k < length pages → (page : ℕ) × (page < most) × (get_or pages k 0 ≡ 4096 * page) × (is_touched segments (4096 * page) ≡ true)
  pub rising : (j k : ℕ) → j < k → k < length pages → get_or pages j 0 < get_or pages k 0

push_page : (segments : List Segment) (most : ℕ) (pages : List ℕ) → PagesAre segments most pages → is_touched segments (4096 * most) ≡ true → PagesAre segments (suc most) (pages ++ 4096 * most ∷ [])
push_page segments most pages are touched =
    let grown : length (pages ++ 4096 * most ∷ []) ≡ length pages + 1 = length-append pages (4096 * most ∷ []) in
    record {
      each = λ k less. elim (cases_lt k (length pages)) [
        | inl before ↦ let old = are.each k before in (old.0, omega (arith, old.1), get_or_append_left pages (4096 * most ∷ []) 0 k before ∙ old.2, old.3)
        | inr behind ↦
            let last : length pages ≡ k = omega arith in
            (most, omega arith, get_or_push pages (4096 * most) 0 k last, touched)
      ];
      rising = λ j k less few. elim (cases_lt k (length pages)) [
        | inl before ↦ omega (arith, get_or_append_left pages (4096 * most ∷ []) 0 k before, get_or_append_left pages (4096 * most ∷ []) 0 j (omega arith), are.rising j k less before)
        | inr behind ↦
            let last : length pages ≡ k = omega arith in
            let old = are.each j (omega arith) in
            omega (arith, get_or_push pages (4096 * most) 0 k last, get_or_append_left pages (4096 * most ∷ []) 0 j (omega arith), old.1, old.2)
      ];
    }

stay_pages : (segments : List Segment) (most : ℕ) (pages : List ℕ) → PagesAre segments most pages → PagesAre segments (suc most) pages
stay_pages segments most pages are = record {
  each = λ k less. let old = are.each k less in (old.0, omega (arith, old.1), old.2, old.3);
  rising = are.rising;
}

below_are : (segments : List Segment) (most : ℕ) → PagesAre segments most (pages_below segments most)
unfolding pages_below
below_are segments zero = record { each = λ k less. absurd (omega arith); rising = λ j k less few. absurd (omega arith) }
below_are segments (suc most) = elim (is_touched segments (4096 * most)) as (λ b. is_touched segments (4096 * most) ≡ b → PagesAre segments (suc most) (pages_below segments (suc most))) [
  | true ↦ λ is. subst (PagesAre segments (suc most)) (sym (one_more segments most is)) (push_page segments most (pages_below segments most) (below_are segments most) is)
  | false ↦ λ is. subst (PagesAre segments (suc most)) (sym (one_none segments most is)) (stay_pages segments most (pages_below segments most) (below_are segments most))
] refl

pages_are : (segments : List Segment) → PagesAre segments 1099511627776 (pages_in segments)
unfolding pages_in
pages_are segments = below_are segments 1099511627776

pub rising_pages : (file : List ℕ) (j k : ℕ) → j < k → k < length (pages_of file) → get_or (pages_of file) j 0 < get_or (pages_of file) k 0
rising_pages file j k less few = (pages_are (segments_of file)).rising j k less few

some_at : (test : Segment → Bool) (segments : List Segment) (d : Segment) → list_any test segments ≡ true → (n : ℕ) × (n < length segments) × (test (get_or segments n d) ≡ true)
some_at test [] d h = absurd cc
some_at test (s ∷ ss) d h = elim (test s) as (λ b. test s ≡ b → (n : ℕ) × (n < length (s ∷ ss)) × (test (get_or (s ∷ ss) n d) ≡ true)) [
  | true ↦ λ is. (0, omega arith, is)
  | false ↦ λ is.
      let rest = some_at test ss d (sym (ap (λ b. b || list_any test ss) is) ∙ h) in
      (suc rest.0, omega (arith, rest.1), rest.2)
] refl

meets_facts : (gpa from bytes : ℕ) → meets gpa from bytes ≡ true → (0 < bytes) × (from < gpa + 4096) × (gpa < from + bytes)
meets_facts gpa from bytes h = (grind (arith, nat_tests), grind (arith, nat_tests), grind (arith, nat_tests))

meets_from : (gpa from bytes x : ℕ) → gpa ≤ x → x < gpa + 4096 → from ≤ x → x < from + bytes → meets gpa from bytes ≡ true
meets_from gpa from bytes x a b d e = grind (arith, nat_tests)

pub each_page : (file : List ℕ) (k : ℕ) → k < length (pages_of file) → IsPage file (get_or (pages_of file) k 0)
each_page file k less =
    let is = (pages_are (segments_of file)).each k less in
    let held = some_at (λ s. meets (4096 * is.0) s.address s.memory_bytes) (segments_of file) no_segment is.3 in
    let s = segment_number file held.0 in
    let facts = meets_facts (4096 * is.0) s.address s.memory_bytes held.2 in
    let same : get_or (pages_of file) k 0 ≡ 4096 * is.0 = is.2 in
    record {
      whole = omega (arith, same);
      n = held.0;
      within = held.1;
      x = max (4096 * is.0) s.address;
      byte = record { low = omega arith; high = omega (arith, facts.0, facts.2) };
      from = omega (arith, same);
      to = omega (arith, same, facts.1);
    }

rank_within : (segments : List Segment) (page most : ℕ) → is_touched segments (4096 * page) ≡ true → page < most → length (pages_below segments page) < length (pages_below segments most)
rank_within segments page most touched less =
    let same : suc page + (most - suc page) ≡ most = omega arith in
    let rest = goes_on segments (suc page) (most - suc page) in
    omega (
      arith,
      ap (λ n. length (pages_below segments n)) same,
      ap (length {A = ℕ}) rest.1,
      length-append (pages_below segments (suc page)) rest.0,
      ap (length {A = ℕ}) (one_more segments page touched),
      length-append (pages_below segments page) (4096 * page ∷ []),
    )

found_page : (segments : List Segment) (page : ℕ) → is_touched segments (4096 * page) ≡ true → page < 1099511627776 → (k : ℕ) × (k < length (pages_in segments)) × (get_or (pages_in segments) k 0 ≡ 4096 * page)
unfolding pages_in
found_page segments page touched less = (length (pages_below segments page), rank_within segments page 1099511627776 touched less, page_of_rank segments page 1099511627776 touched less)

pub all_pages : (file : List ℕ) (gpa : ℕ) → elf_fault file ≡ None → IsPage file gpa → (k : ℕ) × (k < length (pages_of file)) × (get_or (pages_of file) k 0 ≡ gpa)
all_pages file gpa none is =
    let page = gpa / 4096 in
    let whole = is.whole in
    let same : gpa ≡ 4096 * page = omega arith in
    let s = segment_number file is.n in
    let from = is.from in
    let to = is.to in
    let low = is.byte.low in
    let high = is.byte.high in
    let ends = ((accepted_apart file none).each is.n no_segment is.within).ends in
    let touched : is_touched (segments_of file) (4096 * page) ≡ true =
    list_any_at (λ t. meets (4096 * page) t.address t.memory_bytes) (segments_of file) is.n no_segment is.within (meets_from (4096 * page) s.address s.memory_bytes is.x (omega arith) (omega arith) low high) in
    let found = found_page (segments_of file) page touched (omega arith) in
    (found.0, found.1, found.2 ∙ sym same)

-- ---- filled pages

filled_in : (file : List ℕ) (gpa : ℕ) → is_filled (segments_of file) gpa ≡ true → IsFilled file gpa
filled_in file gpa h =
    let held = some_at (λ s. meets gpa s.address s.file_bytes) (segments_of file) no_segment h in
    let s = segment_number file held.0 in
    let facts = meets_facts gpa s.address s.file_bytes held.2 in
    record {
      n = held.0;
      within = held.1;
      x = max gpa s.address;
      byte = record { low = omega arith; high = omega (arith, facts.0, facts.2) };
      from = omega arith;
      to = omega (arith, facts.1);
    }

filled_from : (file : List ℕ) (gpa : ℕ) → IsFilled file gpa → is_filled (segments_of file) gpa ≡ true
filled_from file gpa is =
    let s = segment_number file is.n in
    list_any_at (λ t. meets gpa t.address t.file_bytes) (segments_of file) is.n no_segment is.within (meets_from gpa s.address s.file_bytes is.x is.from is.to is.byte.low is.byte.high)

pub filled_is : (file : List ℕ) (gpa : ℕ) → (is_filled (segments_of file) gpa ≡ true) ↔ IsFilled file gpa
filled_is file gpa = (filled_in file gpa, filled_from file gpa)
