-- The rules on a header among those before it: docs/FORMAT.md has them in words, in this order.
use Rattle.std.specs.Prelude.{◌≡◌, ℕ, ◌+◌, ◌%◌, ◌^◌, max, List, [], ◌∷◌, ◌++◌, length, map, fold, ◌==◌, ◌&&◌, ◌||◌, nat_lt, nat_le, not, is_some, is_none, unwrap_or, if◌then◌else◌, Bool, false, Option, Some, None}
use Rattle.std.specs.List.{list_any, range_with_len}
use Rattle.igvm_headers.specs.HeaderFacts.{class_of}
use Rattle.igvm_headers.specs.Pages.{page_bytes}
use Rattle.igvm_headers.specs.declared.header.Header.{Header}
use Rattle.igvm_headers.specs.declared.header.Header.TheVariants.{Platform, Area, Page, Insert, Param, Context}
use Rattle.igvm_headers.specs.declared.fault.ReadWhat.{ReadWhat}
use Rattle.igvm_headers.specs.declared.fault.ReadWhat.TheVariants.{Order, Mask, Align, AreaLimit, AreaRepeated, AreaUnknown, AreaSize, Wrap, DataOutside, TooManyPages}
use Rattle.platform_masks.specs.declared.platform.Platform as platform
use Rattle.platform_masks.specs.Platforms.{platform_of, platforms_of}
use Rattle.igvm_image.specs.declared.area_table.AreaEntry.{AreaEntry}
use Rattle.igvm_image.specs.Areas.{areas_of, area_entry, area_size, placed_pages}
use Rattle.std.specs.Option.{option_to_list}

-- the latest class among these headers
abbrev pub latest_class : List Header → ℕ
latest_class headers = fold (λ latest header. max latest (class_of header)) 0 headers

-- the masks with exactly one of 32 bits set
abbrev pub one_bit_masks : List ℕ
one_bit_masks = map (λ bit. 2 ^ bit) (range_with_len 0 32)

-- a mask has exactly one bit set
unfoldable pub is_one_bit : ℕ → Bool
is_one_bit mask = list_any (λ bit. bit == mask) one_bit_masks

-- how many pages these headers name together, where each knows the areas before it
abbrev pub named_from : List AreaEntry → List Header → ℕ
named_from areas [] = 0
named_from areas (header ∷ headers) =
    placed_pages areas header + named_from (areas ++ option_to_list (area_entry header)) headers

abbrev pub named_pages : List Header → ℕ
named_pages headers = named_from [] headers

-- what the rules ask of the headers before one
pub record Seen : Type 0 where
  pub latest : ℕ
  pub platforms : List platform.Platform
  pub areas : List AreaEntry
  pub pages : ℕ

abbrev pub seen_of : List Header → Seen
seen_of before = record {
  latest = latest_class before;
  platforms = platforms_of before;
  areas = areas_of before;
  pages = named_pages before;
}

-- the same with one header more
abbrev pub seen_after : Seen → Header → Seen
seen_after seen header = record {
  latest = max seen.latest (class_of header);
  platforms = seen.platforms ++ platform_of (length seen.platforms) header;
  areas = seen.areas ++ option_to_list (area_entry header);
  pages = seen.pages + placed_pages seen.areas header;
}

-- an earlier header has a later class
abbrev pub breaks_order : Seen → Header → Bool
breaks_order seen header = not (class_of header == 0) && nat_lt (class_of header) seen.latest

-- a platform's mask is not one bit, or is that of an earlier platform
abbrev pub breaks_mask : Seen → Header → Bool
breaks_mask seen (Platform mask highest_vtl kind version shared_gpa) =
    not (is_one_bit mask) || list_any (λ p. p.mask == mask) seen.platforms
breaks_mask seen _ = false

-- a guest physical address is no multiple of the page's size
abbrev pub breaks_align : Header → Bool
breaks_align (Page gpa mask offset large unmeasured kind) = not (gpa % page_bytes large == 0)
breaks_align (Insert gpa mask area) = not (gpa % 4096 == 0)
breaks_align (Context gpa mask offset vp) = not (gpa % 4096 == 0)
breaks_align _ = false

-- 256 areas are declared before
abbrev pub breaks_area_limit : Seen → Header → Bool
breaks_area_limit seen (Area bytes area offset) = nat_le 256 (length seen.areas)
breaks_area_limit seen _ = false

-- an area's index is declared before
abbrev pub breaks_area_repeated : Seen → Header → Bool
breaks_area_repeated seen (Area bytes area offset) = is_some (area_size seen.areas area)
breaks_area_repeated seen _ = false

-- an area that is named is not declared before
abbrev pub breaks_area_unknown : Seen → Header → Bool
breaks_area_unknown seen (Insert gpa mask area) = is_none (area_size seen.areas area)
breaks_area_unknown seen (Param kind area byte_offset) = is_none (area_size seen.areas area)
breaks_area_unknown seen _ = false

-- an area's size is 0, no multiple of 4,096, or above 67,108,864
abbrev pub breaks_area_size : Header → Bool
breaks_area_size (Area bytes area offset) = (bytes == 0) || not (bytes % 4096 == 0) || nat_lt 67108864 bytes
breaks_area_size _ = false

-- an inserted area passes the end of the address space
abbrev pub breaks_wrap : Seen → Header → Bool
breaks_wrap seen (Insert gpa mask area) = nat_lt (2 ^ 64) (gpa + unwrap_or (area_size seen.areas area) 0)
breaks_wrap seen _ = false

-- data at an offset other than 0 pass the total size; a context's offset alone counts
abbrev pub passes : ℕ → ℕ → ℕ → Bool
passes total offset size = not (offset == 0) && nat_lt total (offset + size)

abbrev pub breaks_data : ℕ → Header → Bool
breaks_data total (Page gpa mask offset large unmeasured kind) = passes total offset (page_bytes large)
breaks_data total (Area bytes area offset) = passes total offset bytes
breaks_data total (Context gpa mask offset vp) = nat_lt total offset
breaks_data total _ = false

-- the pages named so far, with this header's, are more than 4,194,304
abbrev pub breaks_pages : Seen → Header → Bool
breaks_pages seen header = nat_lt 4194304 (seen.pages + placed_pages seen.areas header)

-- the first of these rules that a header breaks, in a file of this total size and behind these headers
unfoldable pub rule_fault : ℕ → Seen → Header → Option ReadWhat
rule_fault total seen header =
    if breaks_order seen header then Some Order else
    if breaks_mask seen header then Some Mask else
    if breaks_align header then Some Align else
    if breaks_area_limit seen header then Some AreaLimit else
    if breaks_area_repeated seen header then Some AreaRepeated else
    if breaks_area_unknown seen header then Some AreaUnknown else
    if breaks_area_size header then Some AreaSize else
    if breaks_wrap seen header then Some Wrap else
    if breaks_data total header then Some DataOutside else
    if breaks_pages seen header then Some TooManyPages else
    None

-- a header breaks none of these rules behind those, in a file of some total size
abbrev pub MayFollow : Seen → Header → Type 0
MayFollow seen header = (total : ℕ) × (rule_fault total seen header ≡ None)
