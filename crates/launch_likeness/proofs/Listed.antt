-- The headers of a file beside those of its component list, and a component beside a changed one: they say the same.
use Rattle.std.proofs.Common.{◌≡◌, ℕ, suc, ◌+◌, ◌<◌, List, [], ◌∷◌, map, refl, sym, ◌∙◌, ap, subst, arith, Bool, true, false, Result, Ok, Err}
use Rattle.std.specs.Prelude.{if◌then◌else◌, ◌==◌, unwrap_or}
use Rattle.std.specs.List.{AllByRecursion}
use Rattle.igvm_headers.specs.Fixed.{fixed_fields}
use Rattle.igvm_headers.specs.HeaderFacts.{data_offset, data_pages, mask_of, with_offset}
use Rattle.igvm_headers.specs.HeaderForm.{header_form}
use Rattle.igvm_headers.specs.Pages.{file_body}
use Rattle.igvm_headers.specs.declared.header.Header.{Header}
use Rattle.igvm_headers.specs.declared.header.Header.TheVariants.{Platform, Policy, Area, Page, Insert, Param, Context, Required, ErrorRange, IdBlock, Carried}
use Rattle.igvm_headers.specs.declared.fault.HeaderFault.{HeaderFault}
use Rattle.platform_masks.specs.Masks.{applies}
use Rattle.igvm_image.specs.Data.{Data, data_in, data_page}
use Rattle.igvm_image.specs.Headers.{PlacedHeader, placed_from, placed_before, placed_header, placed_headers, pieces_of}
use Rattle.igvm_image.specs.Pieces.{Piece, size_of}
use Rattle.component_list.specs.declared.component.Component.{Component}
use Rattle.component_list.specs.declared.component.Content.{Content}
use Rattle.component_list.specs.declared.component.Content.TheVariants.{Nothing, Zero, Bytes}
use Rattle.component_list.specs.ImageList.{component_of, components_in, content_of, data_bytes, stored}
use Rattle.list_changes.specs.Changes.{changed, changed_part, with_digest, with_header}
use Rattle.launch_likeness.proofs.Steps.{Step, Both, Change, KeepsApart, NamesOwn, IsSame, AreSteps, AreOld, firsts, seconds, same_areas}
use Rattle.launch_likeness.proofs.Alike.{Alike}
use Rattle.launch_likeness.proofs.ListData.{as_data, stored_page}
use Rattle.launch_likeness.proofs.StepMeasures.{snp_same, tdx_same, contexts_same}
use Rattle.launch_likeness.proofs.StepSevs.{sev_same}
use Rattle.launch_likeness.proofs.StepPages.{placed_same}

-- where a component's data stand, as a header says it: 0 for zeros and for none, 1 for bytes
abbrev pub place_of_content : Content → ℕ
place_of_content (Bytes bytes) = 1
place_of_content _ = 0

-- a component as a header of a file
abbrev pub as_placed : Component → PlacedHeader
as_placed c = record {
  index = 0;
  at = 0;
  header = with_offset (place_of_content c.content) c.header;
  raw = c.tail;
  content = as_data (data_pages c.header) c.content;
}

abbrev pub listed : List Component → List PlacedHeader
listed parts = map as_placed parts

-- ---- headers set side by side

-- they say the same for their platforms
pub steps_alike : (ch : Change) → KeepsApart ch → (steps : List Step) → AreSteps ch steps → Alike ch.old (firsts steps) ch.new (seconds steps)
steps_alike ch apart steps are = record {
  snp = snp_same ch apart steps are;
  tdx = tdx_same ch apart steps are;
  sev = sev_same ch steps are;
  contexts = contexts_same ch steps are;
  placed = placed_same ch apart steps are;
}

-- ---- what a header has of its own

own_mask : Header → ℕ
own_mask header = unwrap_or (mask_of header) 0

-- the digest that it wants, where it is an ID block
own_digest : Header → List ℕ
own_digest (IdBlock mask author_enabled ld family_id image_id version guest_svn id_algorithm author_algorithm) = ld
own_digest _ = []

own_wanted : (h : Header) → with_digest (own_digest h) h ≡ h
unfolding own_digest
own_wanted (IdBlock mask author_enabled ld family_id image_id version guest_svn id_algorithm author_algorithm) = refl
own_wanted h = refl

-- changed to its own mask, with its areas as they are
own_changed : (h : Header) → changed (λ old. own_mask h) (λ area. area) h ≡ h
unfolding own_mask
own_changed (Platform mask highest_vtl kind version shared_gpa) = refl
own_changed (Policy policy mask) = refl
own_changed (Area bytes area offset) = refl
own_changed (Page gpa mask offset large unmeasured kind) = refl
own_changed (Insert gpa mask area) = refl
own_changed (Param kind area byte_offset) = refl
own_changed (Context gpa mask offset vp) = refl
own_changed (Required gpa mask bytes flags) = refl
own_changed (ErrorRange gpa mask bytes) = refl
own_changed (IdBlock mask author_enabled ld family_id image_id version guest_svn id_algorithm author_algorithm) = refl
own_changed (Carried kind length) = refl

-- ---- a header with data that stand elsewhere

offset_twice : (at off : ℕ) (h : Header) → with_offset at (with_offset off h) ≡ with_offset at h
offset_twice at off (Area bytes area offset) = refl
offset_twice at off (Page gpa mask offset large unmeasured kind) = refl
offset_twice at off (Context gpa mask offset vp) = refl
offset_twice at off h = refl

pub offset_applies : (at : ℕ) (h : Header) (mask : ℕ) → applies (with_offset at h) mask ≡ applies h mask
offset_applies at (Area bytes area offset) mask = refl
offset_applies at (Page gpa own offset large unmeasured kind) mask = refl
offset_applies at (Context gpa own offset vp) mask = refl
offset_applies at h mask = refl

offset_pages : (at : ℕ) (h : Header) → data_pages (with_offset at h) ≡ data_pages h
offset_pages at (Area bytes area offset) = refl
offset_pages at (Page gpa mask offset large unmeasured kind) = refl
offset_pages at (Context gpa mask offset vp) = refl
offset_pages at h = refl

offset_named : (own : ℕ → Bool) (at : ℕ) (h : Header) → NamesOwn own h → NamesOwn own (with_offset at h)
offset_named own at (Area bytes area offset) named = named
offset_named own at (Page gpa mask offset large unmeasured kind) named = tt
offset_named own at (Context gpa mask offset vp) named = tt
offset_named own at h named = named

-- ---- a file beside its list

-- a header's data are those of its file
abbrev HasItsData : List ℕ → PlacedHeader → Type 0
HasItsData body p = p.content ≡ data_in body p.header

placed_from-data : (body : List ℕ) (index at : ℕ) (ps : List Piece) → AllByRecursion (HasItsData body) (placed_from body index at ps)
unfolding placed_from
placed_from-data body index at [] = tt
placed_from-data body index at (p ∷ ps) =
    cases (header_form p.kind p.content) (placed_from-data body (suc index) (at + size_of p) ps)
  where
    cases : (form : Result Header HeaderFault)
        → AllByRecursion (HasItsData body) (placed_from body (suc index) (at + size_of p) ps)
        → AllByRecursion (HasItsData body)
        (placed_before (placed_header body index at p) form (placed_from body (suc index) (at + size_of p) ps))
    cases (Ok header) h = (refl, h)
    cases (Err fault) h = tt

-- all areas are named
pub all_named : (h : Header) → NamesOwn (λ area. true) h
all_named (Area bytes area offset) = refl
all_named (Insert gpa mask area) = refl
all_named (Param kind area byte_offset) = refl
all_named (Platform mask highest_vtl kind version shared_gpa) = tt
all_named (Policy policy mask) = tt
all_named (Page gpa mask offset large unmeasured kind) = tt
all_named (Context gpa mask offset vp) = tt
all_named (Required gpa mask bytes flags) = tt
all_named (ErrorRange gpa mask bytes) = tt
all_named (IdBlock mask author_enabled ld family_id image_id version guest_svn id_algorithm author_algorithm) = tt
all_named (Carried kind length) = tt

-- data that a list stores stand at 0 where those of the file do
stored_zero : (d : Data) → (place_of_content (stored d.offset d) == 0) ≡ (d.offset == 0)
stored_zero d = cases (d.offset == 0)
  where
    cases : (b : Bool) → (place_of_content (if b then Zero else Bytes (data_bytes d)) == 0) ≡ b
    cases true = refl
    cases false = refl

placed_zero : (body : List ℕ) (h : Header) → (place_of_content (content_of h (data_in body h)) == 0) ≡ (data_offset h == 0)
placed_zero body (Area bytes area offset) = stored_zero (data_in body (Area bytes area offset))
placed_zero body (Page gpa mask offset large unmeasured kind) = stored_zero (data_in body (Page gpa mask offset large unmeasured kind))
placed_zero body (Context gpa mask offset vp) = stored_zero (data_in body (Context gpa mask offset vp))
placed_zero body h = refl

-- the pages of its data
placed_data : (body : List ℕ) (h : Header) (k : ℕ) → k < data_pages h
    → data_page (as_data (data_pages h) (content_of h (data_in body h))) k ≡ data_page (data_in body h) k
placed_data body (Area bytes area offset) k below = stored_page (data_in body (Area bytes area offset)) k below
placed_data body (Page gpa mask offset large unmeasured kind) k below = stored_page (data_in body (Page gpa mask offset large unmeasured kind)) k below
placed_data body (Context gpa mask offset vp) k below = stored_page (data_in body (Context gpa mask offset vp)) k below
placed_data body h k below = absurd (omega arith)

-- as many pages
data_count : (n : ℕ) (content : Content) → (as_data n content).pages ≡ n
data_count n Nothing = refl
data_count n Zero = refl
data_count n (Bytes bytes) = refl

placed_count : (h : Header) (d : Data) → (as_data (data_pages (with_offset 0 h)) (content_of h d)).pages ≡ data_pages h
placed_count h d = data_count (data_pages (with_offset 0 h)) (content_of h d) ∙ offset_pages 0 h

-- its component's header says the same
placed_same_as_part : (body : List ℕ) (mask : ℕ) (p : PlacedHeader) → HasItsData body p → IsSame (same_areas mask mask) p (as_placed (component_of p))
placed_same_as_part body mask p has =
    let at = place_of_content (content_of p.header p.content) in
    record {
      mask = own_mask p.header;
      offset = at;
      wanted = own_digest p.header;
      header = offset_twice at 0 p.header
          ∙ ap (with_offset at) (sym (ap (changed (λ old. own_mask p.header) (λ area. area)) (own_wanted p.header) ∙ own_changed p.header));
      zero = subst (λ (d : Data). (place_of_content (content_of p.header d) == 0) ≡ (data_offset p.header == 0)) (sym has) (placed_zero body p.header);
      own_count = ap (λ (d : Data). d.pages) has;
      count = placed_count p.header p.content;
      pages = λ k below.
          ap (λ n. data_page (as_data n (content_of p.header p.content)) k) (offset_pages 0 p.header)
          ∙ subst (λ (d : Data). data_page (as_data (data_pages p.header) (content_of p.header d)) k ≡ data_page d k) (sym has) (placed_data body p.header k below);
      counts = offset_applies at (with_offset 0 p.header) mask ∙ offset_applies 0 p.header mask;
      named = all_named p.header;
    }

-- headers beside those of their components
abbrev pub beside_parts : List PlacedHeader → List Step
beside_parts ps = map (λ p. Both p (as_placed (component_of p))) ps

pub beside-firsts : (ps : List PlacedHeader) → firsts (beside_parts ps) ≡ ps
beside-firsts [] = refl
beside-firsts (p ∷ ps) = ap (λ qs. p ∷ qs) (beside-firsts ps)

pub beside-seconds : (ps : List PlacedHeader) → seconds (beside_parts ps) ≡ listed (map component_of ps)
beside-seconds [] = refl
beside-seconds (p ∷ ps) = ap (λ qs. as_placed (component_of p) ∷ qs) (beside-seconds ps)

beside-old : (ps : List PlacedHeader) → AreOld (beside_parts ps)
beside-old [] = tt
beside-old (p ∷ ps) = (tt, beside-old ps)

beside-steps : (body : List ℕ) (mask : ℕ) (ps : List PlacedHeader) → AllByRecursion (HasItsData body) ps → AreSteps (same_areas mask mask) (beside_parts ps)
beside-steps body mask [] has = tt
beside-steps body mask (p ∷ ps) has = (placed_same_as_part body mask p has.0, beside-steps body mask ps has.1)

-- a file's headers beside those of its list
abbrev pub file_steps : List ℕ → List Step
file_steps file = beside_parts (placed_headers file)

pub file_fits : (file : List ℕ) (mask : ℕ) → AreSteps (same_areas mask mask) (file_steps file) × AreOld (file_steps file)
file_fits file mask = (
  beside-steps (file_body file) mask (placed_headers file) (placed_from-data (file_body file) 0 (fixed_fields file).var_offset (pieces_of file)),
  beside-old (placed_headers file),
)

pub file_alike : (file : List ℕ) (mask : ℕ) → Alike mask (placed_headers file) mask (listed (components_in file))
file_alike file mask =
    let steps = file_steps file in
    subst (λ (qs : List PlacedHeader). Alike mask (placed_headers file) mask qs) (beside-seconds (placed_headers file))
    (subst (λ (ps : List PlacedHeader). Alike mask ps mask (seconds steps)) (beside-firsts (placed_headers file))
    (steps_alike (same_areas mask mask) (λ x y own other. refl) steps (file_fits file mask).0))

-- ---- a component beside a changed one

part_header : (mask_to area_to : ℕ → ℕ) (wanted : List ℕ) (at : ℕ) (h : Header)
    → with_offset at (changed mask_to area_to (with_digest wanted h))
    ≡ with_offset (data_offset (with_offset at h)) (changed (λ old. mask_to (own_mask h)) area_to (with_digest wanted (with_offset at h)))
unfolding own_mask
part_header mask_to area_to wanted at (Platform mask highest_vtl kind version shared_gpa) = refl
part_header mask_to area_to wanted at (Policy policy mask) = refl
part_header mask_to area_to wanted at (Area bytes area offset) = refl
part_header mask_to area_to wanted at (Page gpa mask offset large unmeasured kind) = refl
part_header mask_to area_to wanted at (Insert gpa mask area) = refl
part_header mask_to area_to wanted at (Param kind area byte_offset) = refl
part_header mask_to area_to wanted at (Context gpa mask offset vp) = refl
part_header mask_to area_to wanted at (Required gpa mask bytes flags) = refl
part_header mask_to area_to wanted at (ErrorRange gpa mask bytes) = refl
part_header mask_to area_to wanted at (IdBlock mask author_enabled ld family_id image_id version guest_svn id_algorithm author_algorithm) = refl
part_header mask_to area_to wanted at (Carried kind length) = refl

-- how many pages a content has doesn't change them
pages_of_content : (m n : ℕ) (content : Content) (k : ℕ) → data_page (as_data m content) k ≡ data_page (as_data n content) k
pages_of_content m n Nothing k = refl
pages_of_content m n Zero k = refl
pages_of_content m n (Bytes bytes) k = refl

digest_applies : (mask_to area_to : ℕ → ℕ) (wanted : List ℕ) (h : Header) (mask : ℕ)
    → applies (changed mask_to area_to (with_digest wanted h)) mask ≡ applies (changed mask_to area_to h) mask
digest_applies mask_to area_to wanted (IdBlock own author_enabled ld family_id image_id version guest_svn id_algorithm author_algorithm) mask = refl
digest_applies mask_to area_to wanted h mask = refl

changed_pages : (mask_to area_to : ℕ → ℕ) (wanted : List ℕ) (h : Header)
    → data_pages (changed mask_to area_to (with_digest wanted h)) ≡ data_pages h
changed_pages mask_to area_to wanted (Area bytes area offset) = refl
changed_pages mask_to area_to wanted (Page gpa mask offset large unmeasured kind) = refl
changed_pages mask_to area_to wanted (Context gpa mask offset vp) = refl
changed_pages mask_to area_to wanted h = refl

-- a component and the same under another mask, with its area's other index and another digest that is wanted
pub part_same : (ch : Change) (mask_to : ℕ → ℕ) (wanted : List ℕ) (c : Component)
    → applies (changed mask_to ch.area_to c.header) ch.new ≡ applies c.header ch.old → NamesOwn ch.own c.header
    → IsSame ch (as_placed c) (as_placed (with_header (changed mask_to ch.area_to (with_digest wanted c.header)) c))
part_same ch mask_to wanted c counts named =
    let at = place_of_content c.content in
    let new = changed mask_to ch.area_to (with_digest wanted c.header) in
    record {
      mask = mask_to (own_mask c.header);
      offset = data_offset (with_offset at c.header);
      wanted = wanted;
      header = part_header mask_to ch.area_to wanted at c.header;
      zero = refl;
      own_count = data_count (data_pages c.header) c.content ∙ sym (offset_pages at c.header);
      count = data_count (data_pages new) c.content ∙ changed_pages mask_to ch.area_to wanted c.header ∙ sym (offset_pages at c.header);
      pages = λ k below. pages_of_content (data_pages new) (data_pages c.header) c.content k;
      counts = offset_applies at new ch.new ∙ digest_applies mask_to ch.area_to wanted c.header ch.new ∙ counts ∙ sym (offset_applies at c.header ch.old);
      named = offset_named ch.own at c.header named;
    }

-- and the same with its own digest
pub changed_part_same : (ch : Change) (mask_to : ℕ → ℕ) (c : Component)
    → applies (changed mask_to ch.area_to c.header) ch.new ≡ applies c.header ch.old → NamesOwn ch.own c.header
    → IsSame ch (as_placed c) (as_placed (changed_part mask_to ch.area_to c))
changed_part_same ch mask_to c counts named =
    subst (λ (h : Header). IsSame ch (as_placed c) (as_placed (with_header (changed mask_to ch.area_to h) c))) (own_wanted c.header)
    (part_same ch mask_to (own_digest c.header) c counts named)
