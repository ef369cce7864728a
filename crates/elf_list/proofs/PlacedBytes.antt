-- The page of a file among those that a load places.
use Rattle.std.proofs.Common.{◌≡◌, ℕ, ◌+◌, ◌-◌, ◌*◌, ◌<◌, ◌≤◌, List, [], ◌∷◌, ◌++◌, length, get_or, refl, sym, ◌∙◌, ap, subst, arith, true, false, cond, Some, append_assoc, append-nil}
use Rattle.std.specs.Prelude.{slice_get}
use Rattle.std.proofs.lemmas.List.Elements.{filter-append}
use Rattle.igvm_headers.specs.declared.header.Header.{Header}
use Rattle.igvm_headers.specs.declared.header.Header.TheVariants.{Page}
use Rattle.igvm_headers.specs.declared.page_kind.PageKind.TheVariants.{Normal}
use Rattle.igvm_headers.specs.declared.tag.Tag.{Tag}
use Rattle.igvm_headers.specs.declared.options.Options.{Options}
use Rattle.platform_masks.specs.Masks.{applies, shares_bit}
use Rattle.platform_masks.specs.declared.platform.Platform.{Platform}
use Rattle.host_set.specs.Hosts.{HostValues}
use Rattle.directive_rules.specs.FirstMisfit.{headers_for}
use Rattle.directive_rules.specs.Tags.{is_native_zero, normal_tag}
use Rattle.igvm_image.specs.Data.{data_page}
use Rattle.igvm_image.specs.Headers.{PlacedHeader, placed_headers}
use Rattle.elf_pages.specs.GuestBytes.{elf_byte}
use Rattle.elf_pages.specs.Pages.{page_address, pages_of}
use Rattle.component_list.specs.Lists.{ImageParts, IsList}
use Rattle.image_builder.specs.Layout.{layout, layout_size}
use Rattle.image_loader.specs.FilledAreas.{filled_page}
use Rattle.image_loader.specs.Loads.{Load, directives, load_of}
use Rattle.image_loader.specs.PlacedPages.{PlacedPage, added_by, header_pages, is_extended, page_with, pages_behind, placed}
use Rattle.elf_list.specs.GuestMemory.{IsGuestByte}
use Rattle.elf_list.specs.ElfParts.{with_elf_pages}
use Rattle.elf_list.proofs.ElfHeaders.{IsElfHeader, Laws, has_elf_header}
use Rattle.elf_list.proofs.Splits.{element_at}

-- ---- the page of the header

-- how a page of a file enters a launch
abbrev pub tag_at : Load → ℕ → Tag
tag_at load offset = normal_tag false (is_native_zero load.platform.kind offset load.options)

-- the page that a header like this places
abbrev pub only_page : Load → ℕ → ℕ → PlacedHeader → PlacedPage
only_page load gpa offset p =
    page_with (gpa + 4096 * 0) (data_page p.content 0) (added_by load.platform.kind (tag_at load offset))
    (is_extended load.platform.kind (tag_at load offset))

one_page : (load : Load) (area_page : ℕ → ℕ → List ℕ) (p : PlacedHeader) (gpa mask offset : ℕ) → p.header ≡ Page gpa mask offset false false Normal
    → header_pages load area_page p ≡ only_page load gpa offset p ∷ []
unfolding header_pages
one_page load area_page p gpa mask offset same =
    subst (λ (h : Header). header_pages load area_page (record p { header = h }) ≡ only_page load gpa offset p ∷ []) (sym same) refl

-- ---- the headers that count

-- a header that counts, among those that count
pub counted_split : (mask : ℕ) (all before : List PlacedHeader) (p : PlacedHeader) (behind : List PlacedHeader) → all ≡ before ++ p ∷ behind
    → applies p.header mask ≡ true → headers_for mask all ≡ headers_for mask before ++ p ∷ headers_for mask behind
counted_split mask all before p behind whole counts =
    ap (headers_for mask) whole
    ∙ filter-append (λ (q : PlacedHeader). applies q.header mask) before (p ∷ behind)
    ∙ ap (λ b. headers_for mask before ++ cond b (p ∷ headers_for mask behind) (headers_for mask behind)) counts

pub counts_for : (file : List ℕ) (mask k own : ℕ) (p : PlacedHeader) → IsElfHeader file mask k p → shares_bit (Some mask) own ≡ true → applies p.header own ≡ true
counts_for file mask k own p is shares = ap (λ (h : Header). applies h own) is.header ∙ shares

-- ---- the pages before it and behind it

pages_joined : (load : Load) (before ps qs : List PlacedHeader)
    → pages_behind load before (ps ++ qs) ≡ pages_behind load before ps ++ pages_behind load (before ++ ps) qs
pages_joined load before [] qs = ap (λ hs. pages_behind load hs qs) (sym (append-nil before))
pages_joined load before (p ∷ ps) qs =
    let here = header_pages load (filled_page load.host before) p in
    ap (λ pages. here ++ pages) (pages_joined load (before ++ p ∷ []) ps qs)
    ∙ ap (λ hs. here ++ (pages_behind load (before ++ p ∷ []) ps ++ pages_behind load hs qs)) (append_assoc before (p ∷ []) ps)
    ∙ sym (append_assoc here (pages_behind load (before ++ p ∷ []) ps) (pages_behind load (before ++ p ∷ ps) qs))

-- the page of a file, with the headers that count before it and behind it
pub record PlacesElfPage (load : Load) (file : List ℕ) (mask k : ℕ) : Type 0 where
  pub before : List PlacedHeader
  pub p : PlacedHeader
  pub behind : List PlacedHeader
  pub whole : directives load ≡ before ++ p ∷ behind
  pub is : IsElfHeader file mask k p

pub places_elf_page : Laws → (list : ImageParts) (file : List ℕ) (mask k : ℕ) (platform : Platform) (options : Options) (host : HostValues)
    → IsList (with_elf_pages list file mask) → layout_size (with_elf_pages list file mask) ≤ 536870912 → shares_bit (Some mask) platform.mask ≡ true
    → k < length (pages_of file) → PlacesElfPage (load_of (layout (with_elf_pages list file mask)) platform options host) file mask k
places_elf_page laws list file mask k platform options host is size names within =
    let h = has_elf_header laws list file mask k is size within in
    let image = layout (with_elf_pages list file mask) in
    record {
      before = headers_for platform.mask h.before;
      p = h.p;
      behind = headers_for platform.mask h.behind;
      whole = counted_split platform.mask (placed_headers image) h.before h.p h.behind h.whole (counts_for file mask k platform.mask h.p h.is names);
      is = h.is;
    }

abbrev pub elf_page_of : (load : Load) (file : List ℕ) (mask k : ℕ) → PlacesElfPage load file mask k → PlacedPage
elf_page_of load file mask k e = only_page load (page_address file k) e.is.offset e.p

abbrev pub pages_before : (load : Load) (file : List ℕ) (mask k : ℕ) → PlacesElfPage load file mask k → List PlacedPage
pages_before load file mask k e = pages_behind load [] e.before

abbrev pub pages_after : (load : Load) (file : List ℕ) (mask k : ℕ) → PlacesElfPage load file mask k → List PlacedPage
pages_after load file mask k e = pages_behind load (e.before ++ e.p ∷ []) e.behind

pub placed_split : (load : Load) (file : List ℕ) (mask k : ℕ) (e : PlacesElfPage load file mask k)
    → placed load ≡ pages_before load file mask k e ++ elf_page_of load file mask k e ∷ pages_after load file mask k e
placed_split load file mask k e =
    ap (pages_behind load []) e.whole
    ∙ pages_joined load [] e.before (e.p ∷ e.behind)
    ∙ ap (λ pages. pages_behind load [] e.before ++ (pages ++ pages_behind load (e.before ++ e.p ∷ []) e.behind))
    (one_page load (filled_page load.host e.before) e.p (page_address file k) mask e.is.offset e.is.header)

-- ---- its bytes

pub byte_of_page : (load : Load) (file : List ℕ) (mask k i : ℕ) (e : PlacesElfPage load file mask k) → i < 4096
    → get_or (elf_page_of load file mask k e).page (page_address file k + i - (elf_page_of load file mask k e).gpa) 0 ≡ elf_byte file (page_address file k + i)
byte_of_page load file mask k i e within =
    let place : page_address file k + i - (page_address file k + 4096 * 0) ≡ i = omega arith in
    ap (λ n. get_or (data_page e.p.content 0) n 0) place ∙ e.is.bytes i within

pub byte_is_placed : (load : Load) (file : List ℕ) (mask k i : ℕ) → PlacesElfPage load file mask k → i < 4096
    → IsGuestByte load (page_address file k + i) (elf_byte file (page_address file k + i))
byte_is_placed load file mask k i e within =
    let front = pages_before load file mask k e in
    let page = elf_page_of load file mask k e in
    let back = pages_after load file mask k e in
    record {
      n = length front;
      page = page;
      there = ap (λ (pages : List PlacedPage). slice_get pages (length front)) (placed_split load file mask k e) ∙ element_at front page back;
      from = omega arith;
      to = omega arith;
      value = byte_of_page load file mask k i e within;
    }
