-- The header of a page of a file in the image of a list that has the file's pages, and the page's bytes there.
use Rattle.std.proofs.Common.{◌≡◌, ◌↔◌, ℕ, suc, ◌+◌, ◌*◌, ◌<◌, ◌≤◌, List, ◌∷◌, ◌++◌, length, map, get_or, take, drop, refl, sym, ◌∙◌, ap, arith, Bool, true, false, Some, append_assoc, append-nil}
use Rattle.std.specs.Prelude.{◌==◌, if◌then◌else◌, is_some, replicate, slice_get}
use Rattle.std.specs.List.{flat_map, range_with_len}
use Rattle.std.proofs.lemmas.List.{get_or-replicate}
use Rattle.std.proofs.lemmas.List.FromFn.{get_or-map-range_with_len, length-map-range_with_len}
use Rattle.igvm_headers.specs.HeaderFacts.{data_offset, data_pages, data_size, with_offset}
use Rattle.igvm_headers.specs.Numbers.{slice}
use Rattle.igvm_headers.specs.Pages.{body_page, padded_page}
use Rattle.igvm_headers.specs.declared.header.Header.{Header}
use Rattle.igvm_headers.specs.declared.header.Header.TheVariants.{Area, Page, Context}
use Rattle.igvm_headers.specs.declared.page_kind.PageKind.TheVariants.{Normal}
use Rattle.igvm_image.specs.Data.{Data, data_page}
use Rattle.igvm_image.specs.Headers.{IsAccepted, PlacedHeader, placed_headers}
use Rattle.igvm_image.specs.HeadersOfFile.{IsHeaderOf}
use Rattle.elf_pages.specs.GuestBytes.{elf_byte}
use Rattle.elf_pages.specs.PageFacts.{IsFilled}
use Rattle.elf_pages.specs.Pages.{is_filled, page_address, pages_of}
use Rattle.elf_pages.specs.SegmentFacts.{IsInFile, segment_number}
use Rattle.elf_pages.specs.Segments.{segments_of}
use Rattle.component_list.specs.declared.component.Component.{Component}
use Rattle.component_list.specs.declared.component.Content.TheVariants.{Nothing, Zero, Bytes}
use Rattle.component_list.specs.ImageList.{component_of, content_of, data_bytes, list_of, stored}
use Rattle.component_list.specs.Lists.{ImageParts, IsList}
use Rattle.image_builder.specs.Layout.{layout, layout_size}
use Rattle.elf_list.specs.ElfParts.{elf_page, elf_parts, page_bytes, page_content, with_elf_pages}
use Rattle.elf_list.proofs.Splits.{element_at, split_at, split_back}

-- the laws of the crates below that this stands on: what is built is accepted and read back, each header has its own
-- data, and what the bytes of a file are
pub record Laws : Type 0 where
  pub accepted : (list : ImageParts) → IsList list → layout_size list ≤ 536870912 → IsAccepted (layout list)
  pub back : (list : ImageParts) → IsList list → layout_size list ≤ 536870912 → list_of (layout list) ≡ list
  pub headers : (file : List ℕ) (k : ℕ) (placed : PlacedHeader) → IsAccepted file → slice_get (placed_headers file) k ≡ Some placed
      → IsHeaderOf file k placed
  pub filled : (file : List ℕ) (gpa : ℕ) → (is_filled (segments_of file) gpa ≡ true) ↔ IsFilled file gpa
  pub zero : (file : List ℕ) (x : ℕ) → ((n : ℕ) → n < length (segments_of file) → IsInFile x (segment_number file n) → ⊥) → elf_byte file x ≡ 0

-- the header of page k of a file, with the page's bytes as its data
pub record IsElfHeader (file : List ℕ) (mask k : ℕ) (p : PlacedHeader) : Type 0 where
  pub offset : ℕ
  pub header : p.header ≡ Page (page_address file k) mask offset false false Normal
  pub bytes : (i : ℕ) → i < 4096 → get_or (data_page p.content 0) i 0 ≡ elf_byte file (page_address file k + i)

-- ---- the page's bytes

-- a page that no segment has a byte of in the file is zeros
zero_bytes : Laws → (file : List ℕ) (k i : ℕ) → is_filled (segments_of file) (page_address file k) ≡ false → i < 4096 → elf_byte file (page_address file k + i) ≡ 0
zero_bytes laws file k i none within =
    laws.zero file (page_address file k + i) (λ n few here.
    let some = (laws.filled file (page_address file k)).1 (record {
      n = n;
      within = few;
      x = page_address file k + i;
      byte = here;
      from = omega arith;
      to = omega arith;
    }) in
    cc)

zero_page : (d : Data) (i : ℕ) → (d.offset == 0) ≡ true → i < 4096 → get_or (data_page d 0) i 0 ≡ 0
unfolding body_page
zero_page d i zero within =
    ap (λ b. get_or (if b then replicate 4096 0 else padded_page (slice d.body (d.offset + 4096 * 0) 4096)) i 0) zero
    ∙ get_or-replicate 4096 i 0 0 within

whole_page : (d : Data) → d.pages ≡ 1 → data_bytes d ≡ data_page d 0
unfolding data_bytes
whole_page d one = ap (λ n. flat_map (data_page d) (range_with_len 0 n)) one ∙ append-nil (data_page d 0)

byte_of_page : (file : List ℕ) (k i : ℕ) → i < 4096 → get_or (page_bytes file k) i 0 ≡ elf_byte file (page_address file k + i)
unfolding page_bytes
byte_of_page file k i within =
    get_or-map-range_with_len (λ (j : ℕ). elf_byte file (page_address file k + j)) 0 4096 i i 0 within (omega arith)

-- data of one page that are stored as a page of the file are its bytes
stored_bytes : Laws → (file : List ℕ) (k : ℕ) (d : Data) → d.pages ≡ 1 → stored d.offset d ≡ page_content file k
    → (i : ℕ) → i < 4096 → get_or (data_page d 0) i 0 ≡ elf_byte file (page_address file k + i)
stored_bytes laws file k d one same i within = cases (is_filled (segments_of file) (page_address file k)) (d.offset == 0) refl refl same
  where
    cases : (b z : Bool) → is_filled (segments_of file) (page_address file k) ≡ b → (d.offset == 0) ≡ z
        → (if z then Zero else Bytes (data_bytes d)) ≡ (if b then Bytes (page_bytes file k) else Zero)
        → get_or (data_page d 0) i 0 ≡ elf_byte file (page_address file k + i)
    cases true true filled zero same = cc
    cases true false filled zero same =
        let bytes : data_bytes d ≡ page_bytes file k = cc in
        ap (λ (page : List ℕ). get_or page i 0) (sym (whole_page d one) ∙ bytes) ∙ byte_of_page file k i within
    cases false true filled zero same = zero_page d i zero within ∙ sym (zero_bytes laws file k i filled within)
    cases false false filled zero same = cc

-- ---- its header

header_back : (h : Header) (gpa mask : ℕ) → with_offset 0 h ≡ Page gpa mask 0 false false Normal → h ≡ Page gpa mask (data_offset h) false false Normal
header_back (Page gpa' mask' offset large unmeasured kind) gpa mask same = cc
header_back (Area bytes area offset) gpa mask same = cc
header_back (Context gpa' mask' offset vp) gpa mask same = cc
header_back h gpa mask same = cc

is_elf_header : Laws → (list : ImageParts) (file : List ℕ) (mask k at : ℕ) (p : PlacedHeader) → IsHeaderOf (layout list) at p
    → component_of p ≡ elf_page file mask k → IsElfHeader file mask k p
unfolding elf_page
is_elf_header laws list file mask k at p own same =
    let header = header_back p.header (page_address file k) mask (ap (λ (c : Component). c.header) same) in
    let pages : p.content.pages ≡ 1 = ap (λ (d : Data). d.pages) own.content ∙ ap data_pages header in
    let offset : p.content.offset ≡ data_offset p.header = ap (λ (d : Data). d.offset) own.content in
    let content : content_of p.header p.content ≡ page_content file k = ap (λ (c : Component). c.content) same in
    let kept : content_of p.header p.content ≡ stored (data_offset p.header) p.content =
    ap (λ (h : Header). if is_some (data_size h) then stored (data_offset p.header) p.content else Nothing) header in
    record {
      offset = data_offset p.header;
      header = header;
      bytes = stored_bytes laws file k p.content pages (ap (λ n. stored n p.content) offset ∙ sym kept ∙ content);
    }

-- ---- its place

-- the headers of an image, with that of a page of the file among them
pub record HasElfHeader (list : ImageParts) (file : List ℕ) (mask k : ℕ) : Type 0 where
  pub before : List PlacedHeader
  pub p : PlacedHeader
  pub behind : List PlacedHeader
  pub whole : placed_headers (layout (with_elf_pages list file mask)) ≡ before ++ p ∷ behind
  pub is : IsElfHeader file mask k p

page_among : (list : ImageParts) (file : List ℕ) (mask k : ℕ) → k < length (pages_of file)
    → list.parts ++ elf_parts file mask ≡ (list.parts ++ take k (elf_parts file mask)) ++ elf_page file mask k ∷ drop (suc k) (elf_parts file mask)
page_among list file mask k within =
    let n = length (pages_of file) in
    let count = length-map-range_with_len (elf_page file mask) 0 n in
    let here = get_or-map-range_with_len (elf_page file mask) 0 n k k (elf_page file mask k) within (omega arith) in
    ap (λ ps. list.parts ++ ps) (split_at (elf_parts file mask) k (elf_page file mask k) (omega arith) here)
    ∙ sym (append_assoc list.parts (take k (elf_parts file mask)) (elf_page file mask k ∷ drop (suc k) (elf_parts file mask)))

pub has_elf_header : Laws → (list : ImageParts) (file : List ℕ) (mask k : ℕ) → IsList (with_elf_pages list file mask)
    → layout_size (with_elf_pages list file mask) ≤ 536870912 → k < length (pages_of file) → HasElfHeader list file mask k
has_elf_header laws list file mask k valid size within =
    let all = with_elf_pages list file mask in
    let back : map component_of (placed_headers (layout all)) ≡ list.parts ++ elf_parts file mask = ap (λ (l : ImageParts). l.parts) (laws.back all valid size) in
    let split = split_back component_of (placed_headers (layout all)) (list.parts ++ take k (elf_parts file mask)) (elf_page file mask k)
    (drop (suc k) (elf_parts file mask)) (back ∙ page_among list file mask k within) in
    let found = ap (λ (ps : List PlacedHeader). slice_get ps (length split.before)) split.whole ∙ element_at split.before split.x split.behind in
    let own = laws.headers (layout all) (length split.before) split.x (laws.accepted all valid size) found in
    record {
      before = split.before;
      p = split.x;
      behind = split.behind;
      whole = split.whole;
      is = is_elf_header laws all file mask k (length split.before) split.x own split.is;
    }
