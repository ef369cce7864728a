-- Contents that stand in a file are within it, and are read back from it.
use Rattle.std.proofs.Common.{◌≡◌, ℕ, ◌+◌, ◌*◌, ◌/◌, ◌%◌, ◌^◌, ◌<◌, ◌≤◌, List, length, take, drop, refl, ◌∙◌, ap, arith, Bool, true, false}
use Rattle.std.specs.Prelude.{if◌then◌else◌, ◌==◌, ◌||◌, nat_lt, not}
use Rattle.std.proofs.lemmas.Bool.{and_right, or_parts, le-ltb, eqb-true, cond-false, ne_eqb, not-false}
use Rattle.igvm_headers.specs.declared.header.Header.{Header}
use Rattle.igvm_headers.specs.declared.header.Header.TheVariants.{Area, Page, Context}
use Rattle.igvm_image.specs.Data.{data_in}
use Rattle.igvm_image.specs.HeaderRules.{breaks_data, breaks_area_size}
use Rattle.component_list.specs.declared.component.Content.{Content}
use Rattle.component_list.specs.declared.component.Content.TheVariants.{Nothing, Zero, Bytes}
use Rattle.component_list.specs.Components.{fits_content, is_nothing}
use Rattle.igvm_headers.specs.HeaderFacts.{with_offset}
use Rattle.igvm_headers.specs.Pages.{page_bytes, small_pages}
use Rattle.component_list.specs.ImageList.{data_bytes, content_of}
use Rattle.image_builder.specs.DistinctContents.{place_of}
use Rattle.image_builder.specs.ContentIndex.{is_kept}
use Rattle.image_builder.specs.Layout.{offset_among}
use Rattle.image_builder.proofs.ReadBackContents.{IsAmong}
use Rattle.image_builder.proofs.ReadBackPages.{data_whole}

-- a file's contents stand in its body, where their places say
pub record HasContents (total start : ℕ) (kept : List (List ℕ)) (body : List ℕ) : Type 0 where
  pub front : 24 ≤ start
  pub small : total < 2 ^ 32
  pub whole : total ≤ length body
  pub ends : (bytes : List ℕ) → is_kept bytes kept ≡ true → start + place_of bytes kept + length bytes ≤ total
  pub stands : (bytes : List ℕ) → is_kept bytes kept ≡ true → take (length bytes) (drop (start + place_of bytes kept) body) ≡ bytes

pub offset_fits : (total start : ℕ) (kept : List (List ℕ)) (body : List ℕ) (content : Content) → HasContents total start kept body → IsAmong kept content
    → offset_among start kept content < 2 ^ 32
offset_fits total start kept body Nothing has among = omega arith
offset_fits total start kept body Zero has among = omega arith
offset_fits total start kept body (Bytes bytes) has among = omega (arith, has.ends bytes among, has.small)

-- data that end within the file break no rule
inside_bytes : (total at : ℕ) (h : Header) (bytes : List ℕ) → fits_content h (Bytes bytes) ≡ true → at + length bytes ≤ total
    → breaks_data total (with_offset at h) ≡ false
inside_bytes total at (Area size area offset) bytes fits within =
    let same = eqb-true (length bytes) size fits in
    and_right (not (at == 0)) (nat_lt total (at + size)) (le-ltb total (at + size) (omega arith))
inside_bytes total at (Page gpa mask offset large unmeasured kind) bytes fits within =
    let size = page_bytes large in
    let same = eqb-true (length bytes) size fits in
    and_right (not (at == 0)) (nat_lt total (at + size)) (le-ltb total (at + size) (omega arith))
inside_bytes total at (Context gpa mask offset vp) bytes fits within = le-ltb total at (omega arith)
inside_bytes total at h bytes fits within = refl

pub inside : (total start : ℕ) (kept : List (List ℕ)) (body : List ℕ) (h : Header) (content : Content) → HasContents total start kept body
    → ((h : Header) → breaks_data total (with_offset 0 h) ≡ false)
    → IsAmong kept content → fits_content h content ≡ true → breaks_data total (with_offset (offset_among start kept content) h) ≡ false
inside total start kept body h Nothing has law among fits = law h
inside total start kept body h Zero has law among fits = law h
inside total start kept body h (Bytes bytes) has law among fits =
    inside_bytes total (start + place_of bytes kept) h bytes fits (has.ends bytes among)

-- a header without data has no content
no_content : (content : Content) → is_nothing content ≡ true → Nothing ≡ content
no_content Nothing told = refl
no_content Zero told = absurd (cc)
no_content (Bytes bytes) told = absurd (cc)

-- whole pages
area_pages : (size area offset : ℕ) → breaks_area_size (Area size area offset) ≡ false → size ≡ 4096 * (size / 4096)
area_pages size area offset kept =
    let first = or_parts ((size == 0) || not (size % 4096 == 0)) (nat_lt 67108864 size) kept in
    let second = or_parts (size == 0) (not (size % 4096 == 0)) first.0 in
    let whole = eqb-true (size % 4096) 0 (not-false (size % 4096 == 0) second.1) in
    omega arith

page_pages : (large : Bool) → page_bytes large ≡ 4096 * small_pages large
page_pages true = refl
page_pages false = refl

-- the data at an offset of a content that is kept
kept_data : (total start : ℕ) (kept : List (List ℕ)) (body bytes : List ℕ) (pages : ℕ) → HasContents total start kept body
    → is_kept bytes kept ≡ true → length bytes ≡ 4096 * pages
    → (if start + place_of bytes kept == 0 then Zero else Bytes (data_bytes (record { body = body; offset = start + place_of bytes kept; pages = pages }))) ≡ Bytes bytes
kept_data total start kept body bytes pages has among size =
    let front = has.front in
    let some : (start + place_of bytes kept == 0) ≡ false = ne_eqb (start + place_of bytes kept) 0 (λ same. omega arith) in
    cond-false (start + place_of bytes kept == 0) Zero _ some
    ∙ ap (λ b. Bytes b) (data_whole body bytes (start + place_of bytes kept) pages some size (has.stands bytes among) (omega (arith, has.ends bytes among, has.whole)))

pub content_back : (total start : ℕ) (kept : List (List ℕ)) (body : List ℕ) (h : Header) (content : Content) → HasContents total start kept body
    → IsAmong kept content → fits_content h content ≡ true → breaks_area_size h ≡ false
    → content_of (with_offset (offset_among start kept content) h) (data_in body (with_offset (offset_among start kept content) h)) ≡ content
content_back total start kept body (Area size area offset) Nothing has among fits area' = absurd (cc)
content_back total start kept body (Area size area offset) Zero has among fits area' = refl
content_back total start kept body (Area size area offset) (Bytes bytes) has among fits area' =
    let same = eqb-true (length bytes) size fits in
    let pages = area_pages size area offset area' in
    kept_data total start kept body bytes (size / 4096) has among (same ∙ pages)
content_back total start kept body (Page gpa mask offset large unmeasured kind) Nothing has among fits area' = absurd (cc)
content_back total start kept body (Page gpa mask offset large unmeasured kind) Zero has among fits area' = refl
content_back total start kept body (Page gpa mask offset large unmeasured kind) (Bytes bytes) has among fits area' =
    kept_data total start kept body bytes (small_pages large) has among (eqb-true (length bytes) (page_bytes large) fits ∙ page_pages large)
content_back total start kept body (Context gpa mask offset vp) Nothing has among fits area' = absurd (cc)
content_back total start kept body (Context gpa mask offset vp) Zero has among fits area' = refl
content_back total start kept body (Context gpa mask offset vp) (Bytes bytes) has among fits area' =
    kept_data total start kept body bytes 1 has among (eqb-true (length bytes) 4096 fits)
content_back total start kept body h content has among fits area' = no_content content fits
