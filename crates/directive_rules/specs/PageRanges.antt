-- Ranges of page numbers, each a start and the number after the last.
use Rattle.std.specs.Prelude.{◌≡◌, ℕ, ◌+◌, ◌/◌, ◌<◌, ◌≤◌, ◌&&◌, nat_lt, Bool, List, Some}
use Rattle.std.specs.BTreeMap.{BTreeMap, get}
use Rattle.std.specs.Ordering.{nat_cmp}
use Rattle.igvm_headers.specs.HeaderFacts.{gpa_of}
use Rattle.igvm_headers.specs.declared.header.Header.{Header}
use Rattle.igvm_image.specs.Areas.{placed_pages}
use Rattle.igvm_image.specs.declared.area_table.AreaEntry.{AreaEntry}

-- a range has a number in common with that from `start` on and before `end`
abbrev pub meets : ℕ → ℕ → ℕ × ℕ → Bool
meets start end range = nat_lt range.0 end && nat_lt start range.1

-- each range of a map by starts has a number, and a later one begins where it ends or after that
pub record AreApart (m : BTreeMap ℕ ℕ) : Type 0 where
  pub some : (start end : ℕ) → get nat_cmp m start ≡ Some end → start < end
  pub apart : (first end later last : ℕ) → get nat_cmp m first ≡ Some end → get nat_cmp m later ≡ Some last
      → first < later → end ≤ later

-- the numbers of a header's pages
abbrev pub pages_range : List AreaEntry → Header → ℕ × ℕ
pages_range areas header = (gpa_of header / 4096, gpa_of header / 4096 + placed_pages areas header)

-- a header places pages, and their range passes a test
abbrev pub range_passes : List AreaEntry → (ℕ × ℕ → Bool) → Header → Bool
range_passes areas test header = nat_lt 0 (placed_pages areas header) && test (pages_range areas header)
