-- A layout is read back as the list that it was built from.
use Rattle.std.proofs.Common.{◌≡◌, ℕ, ◌≤◌, List, [], ◌++◌, length, map, take, drop, refl, sym, ◌∙◌, ap, ap₂, arith, None, length-append}
use Rattle.std.specs.List.{AllByRecursion, concat}
use Rattle.std.proofs.lemmas.List.{drop_at, drop-drop}
use Rattle.byteorder.specs.Endian.{little_bytes}
use Rattle.igvm_headers.specs.Fixed.{fixed_fields, fixed_size}
use Rattle.igvm_image.specs.Pieces.{Piece, pieces, cut}
use Rattle.igvm_image.specs.SectionSplit.{Split}
use Rattle.igvm_image.specs.FileFault.{fault_of, headers_fault}
use Rattle.igvm_image.specs.Headers.{placed_from}
use Rattle.component_list.specs.ImageList.{component_of, components_in, list_of}
use Rattle.component_list.specs.Lists.{ImageParts, IsList}
use Rattle.image_builder.specs.DistinctContents.{place_of}
use Rattle.image_builder.specs.Layout.{section_size, data_start, kept_contents, section, data_bytes, fixed_front, fixed_rest, checksum_of, layout_size, layout}
use Rattle.image_builder.specs.Plans.{in_version}
use Rattle.image_builder.proofs.Lengths.{rest_size, length-section, length-layout, length-concat}
use Rattle.image_builder.proofs.ReadBackContents.{content_at, content_ends, contents_among}
use Rattle.image_builder.proofs.ReadBackOffsets.{OffsetKeeps}
use Rattle.image_builder.proofs.ReadBackChecksum.{SpelledIsBytes, checksum_fits}
use Rattle.image_builder.proofs.ReadBackFront.{IsMade, fault_made, placed_made, version_made}
use Rattle.image_builder.proofs.ReadBackPieces.{SpelledIsAPiece, set_piece, split_written}
use Rattle.image_builder.proofs.ReadBackData.{HasContents}
use Rattle.image_builder.proofs.ReadBackComponents.{ReadsBack}
use Rattle.image_builder.proofs.ReadBackHeaders.{SpelledIsRead, OffsetsDoNotCount, all_read_back, all_spell, headers_kept, list_back}

-- what is known of headers, sections and rules
pub record Laws : Type 0 where
  pub piece : SpelledIsAPiece
  pub read : SpelledIsRead
  pub bytes : SpelledIsBytes
  pub keeps : OffsetKeeps
  pub offsets : OffsetsDoNotCount
  pub split : (s rest : List ℕ) (ps : List Piece) → Split s ps rest → (ps ≡ pieces s) × (rest ≡ cut s)

-- a list whose layout is within the limit
pub record IsBuilt (list : ImageParts) : Type 0 where
  pub is : IsList list
  pub within : layout_size list ≤ 536870912

abbrev seal_of : ImageParts → ℕ
seal_of list = checksum_of list.version (fixed_front list.version (section_size list.parts) (layout_size list)) (section list)

-- ---- the contents stand in the layout

contents_behind : (list : ImageParts) → length (section list) ≡ section_size list.parts → drop (data_start list) (layout list) ≡ concat (kept_contents list.parts)
unfolding layout data_bytes
contents_behind list sized =
    let front = fixed_front list.version (section_size list.parts) (layout_size list) ++ little_bytes 4 (seal_of list) in
    let short : length front ≡ 24 = refl in
    drop_at (front ++ fixed_rest list.version ++ section list) (concat (kept_contents list.parts)) (data_start list)
    (omega (arith, short, rest_size list.version, length-append (front ++ fixed_rest list.version) (section list), length-append front (fixed_rest list.version)))

has_contents : Laws → (list : ImageParts) → IsBuilt list → HasContents (layout_size list) (data_start list) (kept_contents list.parts) (layout list)
unfolding layout_size
has_contents law list built =
    let within = built.within in
    let start = data_start list in
    let kept = kept_contents list.parts in
    let behind = contents_behind list (length-section law.piece.padded law.keeps.size list) in
    record {
      front = omega (arith, rest_size list.version);
      small = omega arith;
      whole = omega (arith, length-layout law.piece.padded law.keeps.size list);
      ends = λ bytes among. omega (arith, content_ends bytes kept among);
      stands = λ bytes among.
          ap (take (length bytes)) (sym (drop-drop (place_of bytes kept) start (layout list)) ∙ ap (drop (place_of bytes kept)) behind)
          ∙ content_at bytes kept among;
    }

-- ---- the parts of the layout

is_made : Laws → (list : ImageParts) → IsBuilt list
    → IsMade list.version (section_size list.parts) (layout_size list) (seal_of list) (section list) (data_bytes list.parts)
unfolding layout_size data_bytes section
is_made law list built =
    let within = built.within in
    record {
      known = built.is.known;
      sized = length-section law.piece.padded law.keeps.size list;
      whole = omega (arith, length-concat (kept_contents list.parts));
      small = omega arith;
      sealed = refl;
      seal_fits = checksum_fits law.bytes law.keeps list.version (section_size list.parts) (layout_size list) (data_start list) (kept_contents list.parts) list.parts built.is.valid.fits.each;
    }

-- each component is read back
all_back : Laws → (list : ImageParts) → IsBuilt list
    → AllByRecursion (ReadsBack (layout_size list) (data_start list) (kept_contents list.parts) (layout list)) list.parts
all_back law list built =
    all_read_back (layout_size list) (data_start list) (kept_contents list.parts) (layout list) [] list.parts law.keeps (has_contents law list built) (law.offsets.inside (layout_size list))
    built.is.valid.kept built.is.valid.fits.each (contents_among list.parts)

-- the section is the written headers, and nothing is left
pieces_are : Laws → (list : ImageParts) → IsBuilt list
    → (map (set_piece (data_start list) (kept_contents list.parts)) list.parts ≡ pieces (section list)) × ([] ≡ cut (section list))
unfolding section
pieces_are law list built =
    let start = data_start list in
    let kept = kept_contents list.parts in
    law.split (section list) [] (map (set_piece start kept) list.parts)
    (split_written law.piece start kept list.parts (all_spell (layout_size list) start kept (layout list) list.parts (all_back law list built)))

-- ---- the layout is read back

pub accepted_back : Laws → (list : ImageParts) → IsBuilt list → fault_of (layout list) ≡ None
unfolding layout
accepted_back law list built =
    let total = layout_size list in
    let start = fixed_size list.version in
    let split = pieces_are law list built in
    fault_made list.version (section_size list.parts) total (seal_of list) (section list) (data_bytes list.parts) (is_made law list built)
    ∙ ap₂ (λ ps rest. headers_fault total start start [] ps rest) (sym split.0) (sym split.1)
    ∙ headers_kept law.read law.offsets law.keeps total (data_start list) (kept_contents list.parts) (layout list) start start [] [] list.parts (all_back law list built) refl
    built.is.valid.kept

parts_back : Laws → (list : ImageParts) → IsBuilt list → components_in (layout list) ≡ list.parts
unfolding layout
parts_back law list built =
    let total = layout_size list in
    let start = fixed_size list.version in
    let split = pieces_are law list built in
    ap (map component_of) (placed_made list.version (section_size list.parts) total (seal_of list) (section list) (data_bytes list.parts) (is_made law list built))
    ∙ ap (λ ps. map component_of (placed_from (layout list) 0 start ps)) (sym split.0)
    ∙ list_back law.read total (data_start list) (kept_contents list.parts) (layout list) 0 start list.parts (all_back law list built)

version_back : Laws → (list : ImageParts) → IsBuilt list → (fixed_fields (layout list)).version ≡ list.version
unfolding layout
version_back law list built =
    version_made list.version (section_size list.parts) (layout_size list) (seal_of list) (section list) (data_bytes list.parts) (is_made law list built)

pub list_is_back : Laws → (list : ImageParts) → IsBuilt list → list_of (layout list) ≡ list
list_is_back law list built = ap₂ in_version (version_back law list built) (parts_back law list built)
