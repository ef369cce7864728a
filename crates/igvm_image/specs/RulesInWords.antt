-- What each rule on a header asks of the headers before it, in words that the reader's summary of them does not share.
use Rattle.std.specs.Prelude.{◌≡◌, ◌⊎◌, ℕ, ◌+◌, ◌^◌, ◌<◌, ◌≤◌, List, length, take, slice_get, Any, find, sum_by, count_by, ◌==◌, Bool, false, is_some, IsSome, IsSomeAnd, Option, Some, None}
use Rattle.std.specs.List.{range_with_len}
use Rattle.std.specs.Option.{option_map_or}
use Rattle.igvm_headers.specs.HeaderFacts.{class_of, gpa_of, inserted_area, page_count}
use Rattle.igvm_headers.specs.declared.header.Header.{Header}
use Rattle.igvm_headers.specs.declared.header.Header.TheVariants.{Platform, Area, Insert, Param}

-- ---- what one header says

-- the mask of a platform
abbrev pub platform_mask : Header → Option ℕ
platform_mask (Platform mask highest_vtl kind version shared_gpa) = Some mask
platform_mask _ = None

-- the index of the area that it declares
abbrev pub declared_area : Header → Option ℕ
declared_area (Area bytes area offset) = Some area
declared_area _ = None

-- the size in bytes of that area
abbrev pub declared_bytes : Header → ℕ
declared_bytes (Area bytes area offset) = bytes
declared_bytes _ = 0

-- the index of the area that it fills or puts into the guest
abbrev pub named_area : Header → Option ℕ
named_area (Insert gpa mask area) = Some area
named_area (Param kind area byte_offset) = Some area
named_area _ = None

-- it declares an area of this index
abbrev pub declares : ℕ → Header → Bool
declares area header = option_map_or (λ index. index == area) (declared_area header) false

-- ---- what the headers before it say

-- one of them declares an area of this index
abbrev pub IsDeclared : List Header → ℕ → Type 0
IsDeclared before area = Any (λ h. declared_area h ≡ Some area) before

-- the size in bytes that the first of them gives that declares this index, and 0 where none does
abbrev pub bytes_of_area : List Header → ℕ → ℕ
bytes_of_area before area = option_map_or declared_bytes (find (declares area) before) 0

-- the size in bytes of the area that a header behind them puts into the guest, and 0 for other headers
abbrev pub inserted_bytes : List Header → Header → ℕ
inserted_bytes before header = option_map_or (bytes_of_area before) (inserted_area header) 0

-- how many pages of 4,096 bytes a header behind them places
abbrev pub pages_behind : List Header → Header → ℕ
pages_behind before header = page_count header (inserted_bytes before header)

-- how many header k of them places, behind the k headers before it
abbrev pub pages_at : List Header → ℕ → ℕ
pages_at headers k = option_map_or (pages_behind (take k headers)) (slice_get headers k) 0

-- how many they place together
abbrev pub all_pages : List Header → ℕ
all_pages headers = sum_by (pages_at headers) (range_with_len 0 (length headers))

-- ---- how a header breaks a rule behind them

-- it has a class, and one of them has a later class
abbrev pub FollowsLater : List Header → Header → Type 0
FollowsLater before header = (0 < class_of header) × Any (λ h. class_of header < class_of h) before

-- a mask is one of 32 bits
abbrev pub IsOneBit : ℕ → Type 0
IsOneBit mask = (k : ℕ) × (k < 32) × (mask ≡ 2 ^ k)

-- it is a platform whose mask is not one bit, or is that of a platform among them
abbrev pub LacksOwnBit : List Header → Header → Type 0
LacksOwnBit before header =
    IsSomeAnd (platform_mask header)
    (λ mask. (¬ IsOneBit mask) ⊎ Any (λ h. platform_mask h ≡ Some mask) before)

-- it declares an area, and at least 256 of them do
abbrev pub DeclaresTooMany : List Header → Header → Type 0
DeclaresTooMany before header =
    IsSome (declared_area header) × (256 ≤ count_by (λ h. is_some (declared_area h)) before)

-- it declares an area whose index one of them declares
abbrev pub DeclaresAgain : List Header → Header → Type 0
DeclaresAgain before header = IsSomeAnd (declared_area header) (IsDeclared before)

-- it names an area whose index none of them declares
abbrev pub NamesUndeclared : List Header → Header → Type 0
NamesUndeclared before header = IsSomeAnd (named_area header) (λ area. ¬ IsDeclared before area)

-- it puts an area into the guest that passes the end of the address space
abbrev pub InsertsPastEnd : List Header → Header → Type 0
InsertsPastEnd before header =
    IsSome (inserted_area header) × (2 ^ 64 < gpa_of header + inserted_bytes before header)

-- the pages that they and it place are more than 4,194,304
abbrev pub PlacesTooMany : List Header → Header → Type 0
PlacesTooMany before header = 4194304 < all_pages before + pages_behind before header
