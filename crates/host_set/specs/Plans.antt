-- Memory plans: which lists of ranges are one, and which bytes they cover.
use Rattle.std.specs.Prelude.{ℕ, zero, suc, ◌+◌, ◌%◌, ◌==◌, ◌<◌, ◌≤◌, ◌≡◌, nat_lt, nat_le, ◌&&◌, Bool, true, if◌then◌else◌, List, [], ◌∷◌, length, take, slice_index_or, Option, Some, None}
use Rattle.std.specs.List.{list_any}
use Rattle.host_set.specs.declared.range.PlanRange.{PlanRange}

-- the address behind a range's last byte
abbrev pub end_of : PlanRange → ℕ
end_of range = range.start + range.bytes

-- a range is of whole pages, has some, ends at 2^52 at most, and begins at `before` or behind it
unfoldable pub is_placed : ℕ → PlanRange → Bool
is_placed before range =
    (range.start % 4096 == 0) && (range.bytes % 4096 == 0) && nat_lt 0 range.bytes
    && nat_le (end_of range) 4503599627370496 && nat_le before range.start

-- how many ranges from the front on are placed, each behind the one before it
abbrev pub placed_behind : ℕ → List PlanRange → ℕ
placed_behind before [] = 0
placed_behind before (range ∷ ranges) =
    if is_placed before range then suc (placed_behind (end_of range) ranges) else 0

-- the same of the first 64
abbrev pub placed_count : List PlanRange → ℕ
placed_count ranges = placed_behind 0 (take 64 ranges)

-- nothing where so many are placed as are wanted, and that is one or more; else how many are
abbrev pub unless_all : ℕ → ℕ → Option ℕ
unless_all wanted placed = if nat_lt 0 placed && (placed == wanted) then None else Some placed

-- the number of the first range that breaks a rule: 0 of no range, and 64 where 64 are placed and
-- more follow
unfoldable pub bad_range : List PlanRange → Option ℕ
bad_range ranges = unless_all (length ranges) (placed_count ranges)

-- an address lies in a range
abbrev pub lies_in : ℕ → PlanRange → Bool
lies_in address range = nat_le range.start address && nat_lt address (end_of range)

-- it lies in some range
abbrev pub is_in_some : List PlanRange → ℕ → Bool
is_in_some ranges address = list_any (lies_in address) ranges

-- every byte from `gpa` on, so many of them, lies in some range
abbrev pub Covers : List PlanRange → ℕ → ℕ → Type 0
Covers ranges gpa bytes =
    (address : ℕ) → gpa ≤ address → address < gpa + bytes → is_in_some ranges address ≡ true

-- the same as a test
unfoldable pub is_covered : List PlanRange → ℕ → ℕ → Bool
is_covered ranges gpa zero = true
is_covered ranges gpa (suc bytes) = is_in_some ranges (gpa + bytes) && is_covered ranges gpa bytes

-- what a plan keeps: no range ends past 2^52, nor behind the start of a later one
pub record ArePlaced (ranges : List PlanRange) : Type 0 where
  pub ends : (place : ℕ) (d : PlanRange) → place < length ranges
      → end_of (slice_index_or ranges place d) ≤ 4503599627370496
  pub order : (first later : ℕ) (d : PlanRange) → first < later → later < length ranges
      → end_of (slice_index_or ranges first d) ≤ (slice_index_or ranges later d).start

-- the end of a range, from an address in it; another address as it is
abbrev pub past : ℕ → PlanRange → ℕ
past address range = if lies_in address range then end_of range else address
