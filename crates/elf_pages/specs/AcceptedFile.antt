-- What an accepted file keeps, in the words of the format: the rules on all its loadable segments.
use Rattle.std.specs.Prelude.{ℕ, ◌<◌, ◌≤◌, List, length}
use Rattle.elf_pages.specs.Limits.{segment_limit, page_limit}
use Rattle.elf_pages.specs.Pages.{pages_of}
use Rattle.elf_pages.specs.SegmentFacts.{segment_number, IsSound, ShareByte}
use Rattle.elf_pages.specs.Segments.{segments_of}

-- there are loadable segments, but not too many; each keeps the rules of its own, no two share a byte of
-- memory, and their pages are not too many
pub record KeepsSegmentRules (file : List ℕ) : Type 0 where
  pub some : 0 < length (segments_of file)
  pub number : length (segments_of file) ≤ segment_limit
  pub each : (n : ℕ) → n < length (segments_of file) → IsSound (length file) (segment_number file n)
  pub apart : (first later : ℕ) → first < later → later < length (segments_of file)
      → ShareByte (segment_number file first) (segment_number file later) → ⊥
  pub pages : length (pages_of file) ≤ page_limit
