-- What a table of segments keeps: sound segments in the order of their addresses.
use Rattle.std.specs.Prelude.{ℕ, ◌<◌, ◌≤◌, ◌≡◌, Bool, List, length, slice_index_or}
use Rattle.std.specs.List.{list_any}
use Rattle.elf_pages.specs.declared.segment.Segment.{Segment}
use Rattle.elf_pages.specs.GuestBytes.{byte_in}
use Rattle.elf_pages.specs.SegmentFacts.{IsSound}
use Rattle.elf_pages.specs.Segments.{end_of}

-- sound segments in the order of their addresses, none of which overlap
pub record AreSorted (size : ℕ) (table : List Segment) : Type 0 where
  pub each : (place : ℕ) (d : Segment) → place < length table → IsSound size (slice_index_or table place d)
  pub order : (first later : ℕ) (d : Segment) → first < later → later < length table
      → end_of (slice_index_or table first d) ≤ (slice_index_or table later d).address

-- a table has the segments of a list, in whatever order
pub record HasSame (file : List ℕ) (segments table : List Segment) : Type 0 where
  pub size : length table ≡ length segments
  pub any : (test : Segment → Bool) → list_any test table ≡ list_any test segments
  pub bytes : (x : ℕ) → byte_in file table x ≡ byte_in file segments x
