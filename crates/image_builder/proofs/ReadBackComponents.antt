-- A component of a valid list, with its content in the file: it is read back as it was.
use Rattle.std.proofs.Common.{◌≡◌, ℕ, List, length, Bool, true, false, None}
use Rattle.std.specs.Prelude.{◌==◌, ◌&&◌, not}
use Rattle.std.proofs.lemmas.Bool.{and_parts, not-false}
use Rattle.igvm_headers.specs.SpellingConditions.{IsSpellable}
use Rattle.igvm_headers.specs.declared.header.Header.{Header}
use Rattle.igvm_headers.specs.declared.fault.ReadWhat.TheVariants.{UnknownType, Length, DataType, Order, Mask, Align, AreaLimit, AreaRepeated, AreaUnknown, AreaSize}
use Rattle.igvm_image.specs.Data.{data_in}
use Rattle.igvm_image.specs.HeaderRules.{Seen, rule_fault, breaks_data, breaks_order, breaks_mask, breaks_align, breaks_area_limit, breaks_area_repeated, breaks_area_unknown, breaks_area_size}
use Rattle.component_list.specs.declared.component.Component.{Component}
use Rattle.component_list.specs.Components.{is_unknown, carried_kind, fits_content, breaks_length, breaks_data_type}
use Rattle.igvm_headers.specs.HeaderFacts.{with_offset, tail_size}
use Rattle.component_list.specs.Ranges.{IsComponent}
use Rattle.component_list.specs.Lists.{component_fault}
use Rattle.component_list.specs.ImageList.{content_of}
use Rattle.image_builder.specs.Layout.{offset_among}
use Rattle.image_builder.proofs.Writes.{writes, spellable, skipped}
use Rattle.image_builder.proofs.ReadBackContents.{IsAmong}
use Rattle.image_builder.proofs.ReadBackPieces.{set_header}
use Rattle.image_builder.proofs.ReadBackOffsets.{OffsetKeeps, offset_gone}
use Rattle.image_builder.proofs.ReadBackData.{HasContents, offset_fits, inside, content_back}

fits_from : (size : ℕ) (tail : List ℕ) (b : Bool) → not ((length tail == size) && b) ≡ false → b ≡ true
fits_from size tail b told = (and_parts (length tail == size) b (not-false ((length tail == size) && b) told)).1

-- the reader's rules hold, the content is of the header's size, and an area has whole pages
pub record IsJudged (seen : Seen) (c : Component) : Type 0 where
  pub rules : rule_fault 0 seen c.header ≡ None
  pub fits : fits_content c.header c.content ≡ true
  pub area : breaks_area_size c.header ≡ false

area_kept : (seen : Seen) (h : Header) → rule_fault 0 seen h ≡ None → breaks_area_size h ≡ false
unfolding rule_fault
area_kept seen h none =
    let order = skipped (breaks_order seen h) Order _ none in
    let mask = skipped (breaks_mask seen h) Mask _ order.1 in
    let align = skipped (breaks_align h) Align _ mask.1 in
    let limit = skipped (breaks_area_limit seen h) AreaLimit _ align.1 in
    let repeated = skipped (breaks_area_repeated seen h) AreaRepeated _ limit.1 in
    let unknown = skipped (breaks_area_unknown seen h) AreaUnknown _ repeated.1 in
    (skipped (breaks_area_size h) AreaSize _ unknown.1).0

pub judged_component : (seen : Seen) (c : Component) → component_fault seen c ≡ None → IsJudged seen c
unfolding component_fault
judged_component seen c none =
    let known = skipped (is_unknown c.header) (UnknownType (carried_kind c.header)) _ none in
    let sized = skipped (breaks_length c) Length _ known.1 in
    let normal = skipped (breaks_data_type c.header) DataType (rule_fault 0 seen c.header) sized.1 in
    record {
      rules = normal.1;
      fits = fits_from (tail_size c.header) c.tail (fits_content c.header c.content) sized.0;
      area = area_kept seen c.header normal.1;
    }

-- a component whose header is written, is kept by the rules, and is read back with the same content
pub record ReadsBack (total start : ℕ) (kept : List (List ℕ)) (body : List ℕ) (c : Component) : Type 0 where
  pub spells : IsSpellable (set_header start kept c) c.tail
  pub inside : breaks_data total (set_header start kept c) ≡ false
  pub header : with_offset 0 (set_header start kept c) ≡ c.header
  pub content : content_of (set_header start kept c) (data_in body (set_header start kept c)) ≡ c.content

pub reads_back : (total start : ℕ) (kept : List (List ℕ)) (body : List ℕ) (seen : Seen) (c : Component) → OffsetKeeps → HasContents total start kept body
    → ((h : Header) → breaks_data total (with_offset 0 h) ≡ false)
    → component_fault seen c ≡ None → IsComponent c → IsAmong kept c.content → ReadsBack total start kept body c
reads_back total start kept body seen c keeps has law none is among =
    let judged = judged_component seen c none in
    let fits = offset_fits total start kept body c.content has among in
    record {
      spells = keeps.spellable (offset_among start kept c.content) c.header c.tail fits (spellable c.header c.tail (writes seen c none) is.numbers);
      inside = inside total start kept body c.header c.content has law among judged.fits;
      header = offset_gone keeps (offset_among start kept c.content) c.header is.offset;
      content = content_back total start kept body c.header c.content has among judged.fits judged.area;
    }
