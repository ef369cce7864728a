-- One program header more.
use Rattle.std.proofs.Common.{◌≡◌, ℕ, zero, suc, ◌+◌, ◌-◌, ◌*◌, ◌<◌, ◌≤◌, ◌≢◌, ◌&&◌, nat_lt, true, false, cond, List, [], ◌∷◌, ◌++◌, length, get_or, refl, sym, ap, ◌∙◌, subst, arith, Option, None, Some, append-nil, add-one}
use Rattle.std.specs.List.{insert}
use Rattle.std.specs.Option.{option_or, option_map}
use Rattle.std.specs.Prelude.{◌==◌}
use Rattle.std.proofs.lemmas.Bool.Decides.{nat_tests}
use Rattle.igvm_headers.specs.Numbers.{number_at}
use Rattle.elf_pages.specs.declared.fault.ElfWhat.{ElfWhat}
use Rattle.elf_pages.specs.declared.fault.ElfFault.{ElfFault}
use Rattle.elf_pages.specs.declared.segment.Segment.{Segment}
use Rattle.elf_pages.specs.Faults.{fault_in, header_fault, headers_fault, segment_fault}
use Rattle.elf_pages.specs.FileHeader.{header_offset, table_offset}
use Rattle.elf_pages.specs.SegmentTables.{AreSorted, HasSame}
use Rattle.elf_pages.specs.Segments.{is_loadable, segment_at, segments_before}
use Rattle.elf_pages.proofs.SortedTables.{IsPlace, place_from, insert_sorted}
use Rattle.elf_pages.proofs.SegmentFaults.{passes, room_left, sound_from, same_fault}
use Rattle.elf_pages.proofs.TableMembers.{insert_same}

-- ---- faults header by header

pub fault_stays : (file : List ℕ) (k n : ℕ) (e : ElfFault) → headers_fault file k ≡ Some e → headers_fault file (k + n) ≡ Some e
unfolding headers_fault
fault_stays file k zero e h = let same : k + 0 ≡ k = omega arith in ap (headers_fault file) same ∙ h
fault_stays file k (suc n) e h =
    let next : k + suc n ≡ suc (k + n) = omega arith in
    ap (headers_fault file) next ∙ ap (λ o. option_or o (header_fault file (k + n))) (fault_stays file k n e h)

pub none_more : (file : List ℕ) (k : ℕ) → headers_fault file k ≡ None → header_fault file k ≡ None → headers_fault file (k + 1) ≡ None
unfolding headers_fault
none_more file k none here = rw add-one (ap (λ o. option_or o (header_fault file k)) none ∙ here)

pub first_fault : (file : List ℕ) (k : ℕ) (e : ElfFault) → headers_fault file k ≡ None → header_fault file k ≡ Some e → headers_fault file (k + 1) ≡ Some e
unfolding headers_fault
first_fault file k e none here = rw add-one (ap (λ o. option_or o (header_fault file k)) none ∙ here)

-- ---- the segments of one program header more

pub more_loadable : (file : List ℕ) (k : ℕ) → is_loadable file (header_offset file k) ≡ true → segments_before file (k + 1) ≡ segments_before file k ++ segment_at file (header_offset file k) ∷ []
unfolding segments_before
more_loadable file k is = rw add-one (ap (λ b. segments_before file k ++ cond b (segment_at file (header_offset file k) ∷ []) []) is)

pub more_other : (file : List ℕ) (k : ℕ) → is_loadable file (header_offset file k) ≡ false → segments_before file (k + 1) ≡ segments_before file k
unfolding segments_before
more_other file k is = rw add-one (ap (λ b. segments_before file k ++ cond b (segment_at file (header_offset file k) ∷ []) []) is ∙ append-nil _)

pub fault_loadable : (file : List ℕ) (k : ℕ) → is_loadable file (header_offset file k) ≡ true → header_fault file k ≡ option_map (fault_in k) (segment_fault (length file) (segments_before file k) (segment_at file (header_offset file k)))
unfolding header_fault
fault_loadable file k is = ap (λ b. cond b (option_map (fault_in k) (segment_fault (length file) (segments_before file k) (segment_at file (header_offset file k)))) None) is

pub fault_other : (file : List ℕ) (k : ℕ) → is_loadable file (header_offset file k) ≡ false → header_fault file k ≡ None
unfolding header_fault
fault_other file k is = ap (λ b. cond b (option_map (fault_in k) (segment_fault (length file) (segments_before file k) (segment_at file (header_offset file k)))) None) is

-- ---- what `take_header` comes to

loadable_bytes : (kind bytes : ℕ) → ((kind == 1) && nat_lt 0 bytes) ≡ true → 0 < bytes
loadable_bytes kind bytes h = grind (arith, nat_tests)

pub loadable_some : (file : List ℕ) (at : ℕ) (s : Segment) → true ≡ is_loadable file at → s ≡ segment_at file at → 0 < s.memory_bytes
unfolding is_loadable
loadable_some file at s is same =
    let some : 0 < number_at 8 (at + 40) file = loadable_bytes (number_at 4 at file) (number_at 8 (at + 40) file) (sym is) in
    let bytes = ap (λ (t : Segment). t.memory_bytes) same in
    omega (arith, some, bytes)

-- a program header that isn't loadable breaks no rule, and adds no segment
pub not_taken : (file : List ℕ) (k at : ℕ) (table : List Segment) → at ≡ header_offset file k → false ≡ is_loadable file at → HasSame file (segments_before file k) table
    → (header_fault file k ≡ None) × HasSame file (segments_before file (k + 1)) table
not_taken file k at table place other same =
    let is = sym (other ∙ ap (is_loadable file) place) in
    (fault_other file k is, subst (λ segments. HasSame file segments table) (sym (more_other file k is)) same)

-- the fault of a loadable program header is that of its segment after those of the table
pub judged : (file : List ℕ) (k at : ℕ) (table : List Segment) (s : Segment) (fault : Option ElfWhat) → at ≡ header_offset file k → true ≡ is_loadable file at → s ≡ segment_at file at
    → fault ≡ segment_fault (length file) table s → HasSame file (segments_before file k) table → header_fault file k ≡ option_map (fault_in k) fault
judged file k at table s fault place loadable is found same =
    let here = ap (segment_at file) place in
    fault_loadable file k (sym (loadable ∙ ap (is_loadable file) place))
    ∙ sym (ap (option_map (fault_in k)) (found ∙ same_fault file (segments_before file k) table (length file) s same ∙ ap (segment_fault (length file) (segments_before file k)) (is ∙ here)))

-- the table with a segment that breaks no rule
pub record Taken (file : List ℕ) (k place : ℕ) (table : List Segment) (s : Segment) : Type 0 where
  pub room : length table ≢ 64
  pub sorted : AreSorted (length file) (insert table place s)
  pub same : HasSame file (segments_before file (k + 1)) (insert table place s)

pub taken : (file : List ℕ) (k at place : ℕ) (table : List Segment) (s : Segment) → at ≡ header_offset file k → true ≡ is_loadable file at → s ≡ segment_at file at
    → segment_fault (length file) table s ≡ None → AreSorted (length file) table → HasSame file (segments_before file k) table → IsPlace table place s → Taken file k place table s
taken file k at place table s here loadable is none sorted same spot =
    let passed = passes (length file) table s none in
    let sound = sound_from (length file) table s (loadable_some file at s loadable is) passed in
    record {
      room = room_left (length file) table s passed;
      sorted = insert_sorted (length file) table place s sorted spot sound passed.apart;
      same = subst (λ segments. HasSame file segments (insert table place s))
          (ap (λ t. segments_before file k ++ t ∷ []) (is ∙ ap (segment_at file) here) ∙ sym (more_loadable file k (sym (loadable ∙ ap (is_loadable file) here))))
          (insert_same file (segments_before file k) table (length file) place s same sorted sound passed.apart spot.within);
    }

pub place_is : (file : List ℕ) (start from k : ℕ) → start ≡ table_offset file → from ≡ k → start + 56 * from ≡ header_offset file k
place_is file start from k a b = omega arith

pub taken_by : (file : List ℕ) (start from k place : ℕ) (table segments : List Segment) (s : Segment) → start ≡ table_offset file → from ≡ k → segments ≡ table
    → true ≡ is_loadable file (start + 56 * from) → s ≡ segment_at file (start + 56 * from) → segment_fault (length file) segments s ≡ None
    → AreSorted (length file) table → HasSame file (segments_before file k) table → place ≤ length segments
    → ((n : ℕ) (d : Segment) → n < place → (get_or segments n d).address ≤ s.address)
    → ((d : Segment) → place < length segments → s.address < (get_or segments place d).address)
    → Taken file k place table s
taken_by file start from k place table segments s a b seen loadable is none sorted same within before after =
    let known = subst (AreSorted (length file)) (sym seen) sorted in
    let spot = place_from (length file) segments place s known within before after in
    subst (λ (t : List Segment). Taken file k place t s) seen
    (taken file k (start + 56 * from) place segments s (place_is file start from k a b) loadable is none known (subst (HasSame file (segments_before file k)) (sym seen) same) spot)

pub none_first : (file : List ℕ) → headers_fault file 0 ≡ None
unfolding headers_fault
none_first file = refl

pub same_first : (file : List ℕ) → HasSame file (segments_before file 0) []
unfolding segments_before
same_first file = record { size = refl; any = λ test. refl; bytes = λ x. refl }

pub sorted_first : (size : ℕ) → AreSorted size []
sorted_first size = record { each = λ place d few. absurd (omega arith); order = λ first later d less few. absurd (omega arith) }

pub fault_found : (file : List ℕ) (k count : ℕ) (e : ElfFault) → headers_fault file k ≡ None → header_fault file k ≡ Some e → k < count → headers_fault file count ≡ Some e
fault_found file k count e none here less =
    let rest : (k + 1) + (count - (k + 1)) ≡ count = omega arith in
    ap (headers_fault file) (sym rest) ∙ fault_stays file (k + 1) (count - (k + 1)) e (first_fault file k e none here)
