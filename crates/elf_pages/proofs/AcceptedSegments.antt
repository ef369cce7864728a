-- What the loadable segments of an accepted file keep, in the order of the file.
use Rattle.std.proofs.Common.{◌≡◌, ℕ, zero, suc, ◌+◌, ◌<◌, ◌≤◌, ◌≢◌, ◌↔◌, nat_lt, ◌&&◌, true, false, max, List, [], ◌∷◌, ◌++◌, length, get_or, refl, sym, ap, ◌∙◌, subst, arith, inl, inr, Option, None, Some, length-append, add-one}
use Rattle.std.specs.List.{list_any}
use Rattle.std.specs.Option.{option_or, option_map}
use Rattle.std.proofs.lemmas.Bool.{cases_lt}
use Rattle.std.proofs.lemmas.Bool.Decides.{nat_tests}
use Rattle.std.proofs.lemmas.List.{get_or_append_left, get_or_push}
use Rattle.elf_pages.specs.declared.fault.ElfWhat.{ElfWhat}
use Rattle.elf_pages.specs.declared.segment.Segment.{Segment}
use Rattle.elf_pages.specs.Faults.{elf_fault, fault_in, header_fault, headers_fault}
use Rattle.elf_pages.specs.FileHeader.{header_count, header_offset}
use Rattle.elf_pages.specs.SegmentFacts.{ShareByte}
use Rattle.elf_pages.specs.SegmentFacts.{IsSound}
use Rattle.elf_pages.specs.Segments.{end_of, is_loadable, overlaps, segment_at, segments_before, segments_of}
use Rattle.elf_pages.proofs.SortedTables.{none_at}
use Rattle.elf_pages.proofs.SegmentFaults.{room_left, passes, sound_from}
use Rattle.elf_pages.proofs.HeaderSteps.{loadable_some, more_loadable, more_other, fault_loadable}

both_less : (a b d e : ℕ) → (nat_lt a b && nat_lt d e) ≡ true → (a < b) × (d < e)
both_less a b d e h = (grind (arith, nat_tests), grind (arith, nat_tests))

pub shared : (s t : Segment) → 0 < s.memory_bytes → 0 < t.memory_bytes → overlaps s t ≡ true → ShareByte s t
shared s t some other h =
    let less = both_less s.address (end_of t) t.address (end_of s) h in
    record {
      x = max s.address t.address;
      one = record { low = omega arith; high = omega (arith, less.1) };
      other = record { low = omega arith; high = omega (arith, less.0) };
    }

overlapping : (s t : Segment) → s.address < end_of t → t.address < end_of s → overlaps s t ≡ true
overlapping s t a b = grind (arith, nat_tests)

pub overlap_is : (s t : Segment) → 0 < s.memory_bytes → 0 < t.memory_bytes → (overlaps s t ≡ true) ↔ ShareByte s t
overlap_is s t a b = (shared s t a b, λ h. overlapping s t (let one = h.one in let other = h.other in omega arith) (let one = h.one in let other = h.other in omega arith))

-- ---- segments of headers without a fault

-- sound segments, none of which overlap, and no more than 64
pub record AreApart (size : ℕ) (segments : List Segment) : Type 0 where
  pub each : (n : ℕ) (d : Segment) → n < length segments → IsSound size (get_or segments n d)
  pub apart : (first later : ℕ) (d : Segment) → first < later → later < length segments → overlaps (get_or segments later d) (get_or segments first d) ≡ false
  pub few : length segments ≤ 64

push_apart : (size : ℕ) (segments : List Segment) (s : Segment) → AreApart size segments → IsSound size s → list_any (overlaps s) segments ≡ false → length segments ≢ 64 → AreApart size (segments ++ s ∷ [])
push_apart size segments s are sound none room =
    let grown : length (segments ++ s ∷ []) ≡ length segments + 1 = length-append segments (s ∷ []) in
    record {
      each = λ n d less. elim (cases_lt n (length segments)) [
        | inl before ↦ subst (IsSound size) (sym (get_or_append_left segments (s ∷ []) d n before)) (are.each n d before)
        | inr behind ↦
            let last : length segments ≡ n = omega arith in
            subst (IsSound size) (sym (get_or_push segments s d n last)) sound
      ];
      apart = λ first later d less few. elim (cases_lt later (length segments)) [
        | inl before ↦
            let a = get_or_append_left segments (s ∷ []) d later before in
            let b = get_or_append_left segments (s ∷ []) d first (omega arith) in
            ap (λ t. overlaps t (get_or (segments ++ s ∷ []) first d)) a ∙ ap (overlaps (get_or segments later d)) b ∙ are.apart first later d less before
        | inr behind ↦
            let last : length segments ≡ later = omega arith in
            let a = get_or_push segments s d later last in
            let b = get_or_append_left segments (s ∷ []) d first (omega arith) in
            ap (λ t. overlaps t (get_or (segments ++ s ∷ []) first d)) a ∙ ap (overlaps s) b ∙ none_at (overlaps s) segments first d none (omega arith)
      ];
      few = let most = are.few in omega arith;
    }

pub no_front : {A : Type 0} (a b : Option A) → option_or a b ≡ None → (a ≡ None) × (b ≡ None)
no_front None b h = (refl, h)
no_front (Some x) b h = absurd cc

pub no_map : (k : ℕ) (o : Option ElfWhat) → option_map (fault_in k) o ≡ None → o ≡ None
no_map k None h = refl
no_map k (Some what) h = absurd cc

pub headers_apart : (file : List ℕ) (k : ℕ) → headers_fault file k ≡ None → AreApart (length file) (segments_before file k)
unfolding headers_fault segments_before
headers_apart file zero none = record { each = λ n d less. absurd (omega arith); apart = λ first later d less few. absurd (omega arith); few = omega arith }
headers_apart file (suc k) none =
    let parts = no_front (headers_fault file k) (header_fault file k) none in
    let before = headers_apart file k parts.0 in
    elim (is_loadable file (header_offset file k)) as (λ b. is_loadable file (header_offset file k) ≡ b → AreApart (length file) (segments_before file (suc k))) [
      | true ↦ λ is.
          let s = segment_at file (header_offset file k) in
          let passed = passes (length file) (segments_before file k) s (no_map k _ (sym (fault_loadable file k is) ∙ parts.1)) in
          let sound = sound_from (length file) (segments_before file k) s (loadable_some file (header_offset file k) s (sym is) refl) passed in
          subst (AreApart (length file)) (sym (more_loadable file k is) ∙ ap (segments_before file) (add-one k)) (push_apart (length file) (segments_before file k) s before sound passed.apart (room_left (length file) (segments_before file k) s passed))
      | false ↦ λ is. subst (AreApart (length file)) (sym (more_other file k is) ∙ ap (segments_before file) (add-one k)) before
    ] refl

pub accepted_apart : (file : List ℕ) → elf_fault file ≡ None → AreApart (length file) (segments_of file)
unfolding elf_fault
accepted_apart file none = headers_apart file (header_count file) (no_front _ _ (no_front _ _ none).1).0
