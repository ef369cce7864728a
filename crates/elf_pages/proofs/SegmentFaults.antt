-- What a segment keeps that breaks no rule.
use Rattle.std.proofs.Common.{◌≡◌, ℕ, ◌+◌, ◌<◌, ◌≤◌, ◌≢◌, ◌&&◌, not, Bool, nat_lt, true, false, cond, List, length, refl, arith, Option, None, Some}
use Rattle.std.specs.List.{list_any}
use Rattle.std.specs.Prelude.{◌==◌}
use Rattle.std.proofs.lemmas.Bool.Decides.{nat_tests}
use Rattle.elf_pages.specs.declared.segment.Segment.{Segment}
use Rattle.elf_pages.specs.Faults.{segment_fault}
use Rattle.elf_pages.specs.SegmentFacts.{IsSound}
use Rattle.elf_pages.specs.SegmentTables.{HasSame}
use Rattle.elf_pages.specs.Segments.{end_of, overlaps}

pub later : {A : Type 0} (b : Bool) (e : A) (rest : Option A) → cond b (Some e) rest ≡ None → (b ≡ false) × (rest ≡ None)
later true e rest h = absurd cc
later false e rest h = (refl, h)

pub record Passes (size : ℕ) (before : List Segment) (s : Segment) : Type 0 where
  pub room : (length before == 64) ≡ false
  pub sizes : nat_lt s.memory_bytes s.file_bytes ≡ false
  pub inside : (not (s.file_bytes == 0) && nat_lt size (s.offset + s.file_bytes)) ≡ false
  pub ends : nat_lt 4503599627370496 (end_of s) ≡ false
  pub apart : list_any (overlaps s) before ≡ false

pub passes : (size : ℕ) (before : List Segment) (s : Segment) → segment_fault size before s ≡ None → Passes size before s
unfolding segment_fault
passes size before s none =
    let a = later _ _ _ none in
    let b = later _ _ _ a.1 in
    let d = later _ _ _ b.1 in
    let e = later _ _ _ d.1 in
    let f = later _ _ _ e.1 in
    record { room = a.0; sizes = b.0; inside = d.0; ends = e.0; apart = f.0 }

pub room_left : (size : ℕ) (before : List Segment) (s : Segment) → Passes size before s → length before ≢ 64
room_left size before s p = let h = p.room in grind (arith, nat_tests)

inside_of : (size offset bytes : ℕ) → (not (bytes == 0) && nat_lt size (offset + bytes)) ≡ false → 0 < bytes → offset + bytes ≤ size
inside_of size offset bytes h some = grind (arith, nat_tests)

pub le_of : (a b : ℕ) → nat_lt a b ≡ false → b ≤ a
le_of a b h = grind (arith, nat_tests)

pub sound_from : (size : ℕ) (before : List Segment) (s : Segment) → 0 < s.memory_bytes → Passes size before s → IsSound size s
sound_from size before s some p = record {
  some = some;
  sizes = le_of _ _ p.sizes;
  inside = inside_of size s.offset s.file_bytes p.inside;
  ends = le_of _ _ p.ends;
}

-- ---- a table judges as the list does

pub same_fault : (file : List ℕ) (segments table : List Segment) (size : ℕ) (s : Segment) → HasSame file segments table → segment_fault size table s ≡ segment_fault size segments s
unfolding segment_fault
same_fault file segments table size s same = rw (same.size, same.any (overlaps s)) refl
