-- The pages of a header have the bytes that the rule for each byte says.
use Rattle.std.proofs.Common.{◌≡◌, ℕ, ◌+◌, ◌*◌, ◌<◌, ◌≤◌, List, [], length, map, drop, Option, Some, None, refl, sym, ap, ◌∙◌, arith, length-take, length-drop, slice_index}
use Rattle.std.specs.List.{range_with_len}
use Rattle.std.proofs.lemmas.List.{same_lists}
use Rattle.std.proofs.lemmas.List.FromFn.{fill_by_all, get_or-map-range_with_len, length-map-range_with_len}
use Rattle.igvm_headers.specs.HeaderFacts.{gpa_of}
use Rattle.igvm_headers.specs.Numbers.{slice}
use Rattle.igvm_headers.specs.declared.header.Header.{Header}
use Rattle.igvm_headers.specs.declared.header.Header.TheVariants.{Insert}
use Rattle.igvm_headers.specs.declared.tag.Tag.{Tag}
use Rattle.directive_rules.specs.Tags.{tag_of}
use Rattle.igvm_image.specs.Areas.{placed_pages}
use Rattle.igvm_image.specs.Data.{Data}
use Rattle.igvm_image.specs.Headers.{PlacedHeader}
use Rattle.param_areas.specs.AreaBytes.{Space, bytes_of}
use Rattle.param_areas.specs.AreaHistory.{Told, Shows, told_byte}
use Rattle.param_areas.specs.Calls.{AreInOrder, Call, byte_under, content_of, settings_of, told_by}
use Rattle.image_loader.specs.FilledAreas.{calls_of, filled_byte, filled_page}
use Rattle.image_loader.specs.Fitting.{AreasAreBehind, InsertsFit, page_in}
use Rattle.image_loader.specs.Loads.{Load, areas_in}
use Rattle.image_loader.specs.PlacedPages.{header_pages, added_by, is_extended, page_at, page_bytes, page_with, tagged_pages}

-- each byte of a page is the one that was told
abbrev pub PagesAreTold : Type 0
PagesAreTold = (space : Space) (told : List Told) (area k j : ℕ) → Shows space told
    → 4096 * k + 4096 ≤ length (bytes_of space.areas area) → j < 4096
    → slice_index (slice (bytes_of space.areas area) (4096 * k) 4096) j ≡ told_byte told area (4096 * k + j)

-- a byte that was told is that of the last value that covers it, else the content's
abbrev pub BytesAreTold : Type 0
BytesAreTold = (calls : List Call) (area place : ℕ) → AreInOrder [] calls
    → told_byte (told_by calls) area place ≡ byte_under (content_of area calls) (settings_of area calls) place

-- a page of an area
page_filled : PagesAreTold → BytesAreTold → (load : Load) (before : List PlacedHeader) (space : Space) (area k : ℕ)
    → AreasAreBehind load before space → 4096 * k + 4096 ≤ length (bytes_of space.areas area)
    → page_in space area k ≡ filled_page load.host before area k
unfolding filled_page
page_filled pages bytes load before space area k behind within =
    let all = bytes_of space.areas area in
    let calls = calls_of load.host before in
    let size : length (page_in space area k) ≡ 4096 =
    omega (arith, length-take 4096 (drop (4096 * k) all), length-drop (4096 * k) all) in
    fill_by_all (λ j. filled_byte load.host before area (4096 * k + j)) (page_in space area k) 4096 0 size
    (λ j few.
    pages space (told_by calls) area k j behind.told within few ∙ bytes calls area (4096 * k + j) behind.order)

-- the bytes of a page of a header
bytes_filled : PagesAreTold → BytesAreTold → (load : Load) (before : List PlacedHeader) (space : Space) (h : Header)
    → (content : Data) (k : ℕ) → AreasAreBehind load before space → InsertsFit load space h
    → k < placed_pages (areas_in load) h
    → page_bytes load.host (page_in space) h content k ≡ page_bytes load.host (filled_page load.host before) h content k
bytes_filled pages bytes load before space (Insert gpa mask area) content k behind fits few =
    page_filled pages bytes load before space area k behind (omega (arith, fits.size, few))
bytes_filled pages bytes load before space _ content k behind fits few = refl

-- two functions that agree make one list
map_agree : {X : Type 0} (f g : ℕ → X) (n : ℕ) → ((k : ℕ) → k < n → f k ≡ g k)
    → map f (range_with_len 0 n) ≡ map g (range_with_len 0 n)
map_agree f g n agree =
    same_lists (map f (range_with_len 0 n)) (map g (range_with_len 0 n))
    (length-map-range_with_len f 0 n ∙ sym (length-map-range_with_len g 0 n))
    (λ k d within.
    let few : k < n = omega (arith, within, length-map-range_with_len f 0 n) in
    get_or-map-range_with_len f 0 n k k d few (omega arith) ∙ agree k few
    ∙ sym (get_or-map-range_with_len g 0 n k k d few (omega arith)))

-- pages whose bytes agree
pages_agree : (load : Load) (one other : ℕ → ℕ → List ℕ) (p : PlacedHeader) (tag : Option Tag) (count : ℕ)
    → ((k : ℕ) → k < count
    → page_bytes load.host one p.header p.content k ≡ page_bytes load.host other p.header p.content k)
    → tagged_pages load one p tag count ≡ tagged_pages load other p tag count
pages_agree load one other p None count agree = refl
pages_agree load one other p (Some tag) count agree =
    map_agree (page_at load one p tag) (page_at load other p tag) count
    (λ k few.
    ap (λ bytes. page_with (gpa_of p.header + 4096 * k) bytes (added_by load.platform.kind tag)
    (is_extended load.platform.kind tag)) (agree k few))

-- all pages of a header
pub header_filled : PagesAreTold → BytesAreTold → (load : Load) (before : List PlacedHeader) (p : PlacedHeader)
    → (space : Space) → AreasAreBehind load before space → InsertsFit load space p.header
    → header_pages load (page_in space) p ≡ header_pages load (filled_page load.host before) p
unfolding header_pages
header_filled pages bytes load before p space behind fits =
    pages_agree load (page_in space) (filled_page load.host before) p (tag_of p.header load.platform.kind load.options)
    (placed_pages (areas_in load) p.header)
    (λ k few. bytes_filled pages bytes load before space p.header p.content k behind fits few)
