-- Two lists of headers set side by side by steps place the same pages.
use Rattle.std.proofs.Common.{◌≡◌, ℕ, ◌+◌, ◌*◌, ◌/◌, ◌<◌, List, [], ◌∷◌, ◌++◌, Bool, true, false, cond, Option, Some, None, refl, sym, ap, ap₂, subst, ◌∙◌, append_assoc, unwrap_or, ◌==◌, ◌&&◌}
use Rattle.std.specs.List.{cons_option}
use Rattle.igvm_headers.specs.HeaderFacts.{data_offset, data_pages, gpa_of}
use Rattle.igvm_headers.specs.declared.header.Header.{Header}
use Rattle.igvm_headers.specs.declared.header.Header.TheVariants.{Area, Page, Insert, Param}
use Rattle.igvm_headers.specs.declared.options.Options.{Options}
use Rattle.igvm_headers.specs.declared.page_kind.PageKind.TheVariants.{Normal}
use Rattle.igvm_headers.specs.declared.platform_kind.PlatformKind.{PlatformKind}
use Rattle.igvm_headers.specs.declared.platform_kind.PlatformKind.TheVariants.{SevSnp}
use Rattle.igvm_headers.specs.declared.tag.Tag.{Tag}
use Rattle.platform_masks.specs.Masks.{applies}
use Rattle.host_set.specs.Hosts.{HostValues}
use Rattle.igvm_image.specs.Areas.{area_entry, area_size, areas_of, placed_pages}
use Rattle.igvm_image.specs.Data.{Data, data_page}
use Rattle.igvm_image.specs.Headers.{PlacedHeader}
use Rattle.igvm_image.specs.declared.area_table.AreaEntry.{AreaEntry}
use Rattle.directive_rules.specs.FirstMisfit.{headers_for, headers_in}
use Rattle.directive_rules.specs.Tags.{is_native_zero, page_tag, tag_of}
use Rattle.image_loader.specs.FilledAreas.{filled_page}
use Rattle.image_loader.specs.Loads.{Load, areas_in, directives}
use Rattle.image_loader.specs.PlacedPages.{added_by, header_pages, is_extended, page_at, page_bytes, page_with, pages_behind, placed, tagged_pages}
use Rattle.launch_likeness.proofs.PagesBy.{bare, header_pages_by, pages_by}
use Rattle.launch_likeness.proofs.StepAreas.{pages_same}
use Rattle.launch_likeness.proofs.StepFills.{FilledAlike, filled_alike, filled_both, filled_come, filled_none, map_agree, said}
use Rattle.launch_likeness.proofs.Steps.{AreSteps, Both, Change, Come, Gone, IsForeign, IsSame, KeepsApart, NamesOwn, Step, firsts, seconds}

-- ---- what a load places

tagged_bare : (load : Load) (area_page : ℕ → ℕ → List ℕ) (p : PlacedHeader) (tag : Option Tag) (count : ℕ)
    → tagged_pages load area_page p tag count
    ≡ tagged_pages (bare load.platform.kind load.options load.host) area_page p tag count
tagged_bare load area_page p None count = refl
tagged_bare load area_page p (Some tag) count = refl

behind_by : (load : Load) (before ps : List PlacedHeader)
    → pages_behind load before ps ≡ pages_by load.platform.kind load.options load.host (areas_in load) before ps
unfolding header_pages header_pages_by pages_by
behind_by load before [] = refl
behind_by load before (p ∷ ps) =
    ap₂ (λ a b. a ++ b)
    (tagged_bare load (filled_page load.host before) p (tag_of p.header load.platform.kind load.options)
    (placed_pages (areas_in load) p.header))
    (behind_by load (before ++ p ∷ []) ps)

pub placed_by : (load : Load)
    → placed load ≡ pages_by load.platform.kind load.options load.host (areas_in load) [] (directives load)
placed_by load = behind_by load [] (directives load)

-- ---- the pages of two headers that say the same

gpa_said : (ch : Change) (mask offset : ℕ) (wanted : List ℕ) (h : Header) → gpa_of (said ch mask offset wanted h) ≡ gpa_of h
gpa_said ch mask offset wanted (Page _ _ _ _ _ _) = refl
gpa_said ch mask offset wanted h = refl

native_said : (kind : PlatformKind) (options : Options) (offset at : ℕ) → (offset == 0) ≡ (at == 0)
    → is_native_zero kind offset options ≡ is_native_zero kind at options
native_said SevSnp options offset at zero = ap (λ z. options.native_zero && z) zero
native_said kind options offset at zero = refl

tag_said : (ch : Change) (kind : PlatformKind) (options : Options) (mask offset : ℕ) (wanted : List ℕ) (h : Header)
    → (offset == 0) ≡ (data_offset h == 0) → tag_of (said ch mask offset wanted h) kind options ≡ tag_of h kind options
tag_said ch kind options mask offset wanted (Page gpa old at large unmeasured page) zero =
    ap (λ z. page_tag page unmeasured z kind) (native_said kind options offset at zero)
tag_said ch kind options mask offset wanted h zero = refl

-- pages of areas that are alike as far as the areas reach
abbrev PagesAlike : Change → List AreaEntry → (ℕ → ℕ → List ℕ) → (ℕ → ℕ → List ℕ) → Type 0
PagesAlike ch areas first second =
    (x k : ℕ) → ch.own x ≡ true → k < unwrap_or (area_size areas x) 0 / 4096 → second (ch.area_to x) k ≡ first x k

bytes_said : (ch : Change) (host : HostValues) (areas : List AreaEntry) (first second : ℕ → ℕ → List ℕ)
    → (mask offset : ℕ) (wanted : List ℕ) (h : Header) (a b : Data) (k : ℕ) → PagesAlike ch areas first second
    → NamesOwn ch.own h → ((i : ℕ) → i < data_pages h → data_page b i ≡ data_page a i) → k < placed_pages areas h
    → page_bytes host second (said ch mask offset wanted h) b k ≡ page_bytes host first h a k
bytes_said ch host areas first second mask offset wanted (Page gpa old at large unmeasured Normal) a b k alike named pages few =
    pages k few
bytes_said ch host areas first second mask offset wanted (Insert gpa old area) a b k alike named pages few =
    alike area k named few
bytes_said ch host areas first second mask offset wanted h a b k alike named pages few = refl

tagged_same : (kind : PlatformKind) (options : Options) (host : HostValues) (first second : ℕ → ℕ → List ℕ)
    → (p q : PlacedHeader) (tag : Option Tag) (count : ℕ) → gpa_of q.header ≡ gpa_of p.header
    → ((k : ℕ) → k < count
    → page_bytes host second q.header q.content k ≡ page_bytes host first p.header p.content k)
    → tagged_pages (bare kind options host) second q tag count ≡ tagged_pages (bare kind options host) first p tag count
tagged_same kind options host first second p q None count gpa bytes = refl
tagged_same kind options host first second p q (Some tag) count gpa bytes =
    map_agree (page_at (bare kind options host) second q tag) (page_at (bare kind options host) first p tag) count
    (λ k few.
    ap₂ (λ at page. page_with (at + 4096 * k) page (added_by kind tag) (is_extended kind tag)) gpa (bytes k few))

header_same : (ch : Change) (kind : PlatformKind) (options : Options) (host : HostValues) (old_areas new_areas : List AreaEntry)
    → (first second : ℕ → ℕ → List ℕ) (p q : PlacedHeader) → IsSame ch p q
    → placed_pages new_areas q.header ≡ placed_pages old_areas p.header → PagesAlike ch old_areas first second
    → header_pages_by kind options host new_areas second q ≡ header_pages_by kind options host old_areas first p
unfolding header_pages_by
header_same ch kind options host old_areas new_areas first second p q same count alike =
    ap₂ (λ tag n. tagged_pages (bare kind options host) second q tag n) tag count
    ∙ tagged_same kind options host first second p q (tag_of p.header kind options) (placed_pages old_areas p.header) gpa
    (λ k few.
    subst (λ g. page_bytes host second g q.content k ≡ page_bytes host first p.header p.content k) (sym same.header)
    (bytes_said ch host old_areas first second same.mask same.offset same.wanted p.header p.content q.content k alike
    same.named same.pages few))
  where
    tag : tag_of q.header kind options ≡ tag_of p.header kind options
    tag = ap (λ g. tag_of g kind options) same.header
        ∙ tag_said ch kind options same.mask same.offset same.wanted p.header same.zero

    gpa : gpa_of q.header ≡ gpa_of p.header
    gpa = ap gpa_of same.header ∙ gpa_said ch same.mask same.offset same.wanted p.header

-- a header of the second list alone that counts places none
foreign_pages : (ch : Change) (kind : PlatformKind) (options : Options) (host : HostValues) (areas : List AreaEntry)
    → (area_page : ℕ → ℕ → List ℕ) (q : PlacedHeader) → IsForeign ch q.header → applies q.header ch.new ≡ true
    → header_pages_by kind options host areas area_page q ≡ []
unfolding header_pages_by
foreign_pages ch kind options host areas area_page q foreign counts =
    ap (λ tag. tagged_pages (bare kind options host) area_page q tag (placed_pages areas q.header)) (none q.header foreign counts)
  where
    none : (h : Header) → IsForeign ch h → applies h ch.new ≡ true → tag_of h kind options ≡ None
    none (Area bytes area offset) foreign counts = refl
    none (Param kind area byte_offset) foreign counts = refl
    none h foreign counts = cc

-- ---- the areas of headers, one by one

areas_next : (areas : List AreaEntry) (p : PlacedHeader) (ps : List PlacedHeader)
    → (areas ++ areas_of (headers_in (p ∷ []))) ++ areas_of (headers_in ps) ≡ areas ++ areas_of (headers_in (p ∷ ps))
areas_next areas p ps =
    append_assoc areas (areas_of (headers_in (p ∷ []))) (areas_of (headers_in ps))
    ∙ ap (λ more. areas ++ more) (one (area_entry p.header))
  where
    one : (e : Option AreaEntry) → cons_option e [] ++ areas_of (headers_in ps) ≡ cons_option e (areas_of (headers_in ps))
    one None = refl
    one (Some e) = refl

-- a header that doesn't count declares none
none_declared : (mask : ℕ) (h : Header) → applies h mask ≡ false → area_entry h ≡ None
none_declared mask (Area bytes area offset) counts = cc
none_declared mask h counts = refl

areas_after : (mask : ℕ) (areas : List AreaEntry) (p : PlacedHeader) (ps : List PlacedHeader) → applies p.header mask ≡ false
    → areas ++ areas_of (headers_in ps) ≡ areas ++ areas_of (headers_in (p ∷ ps))
areas_after mask areas p ps counts =
    ap (λ e. areas ++ cons_option e (areas_of (headers_in ps))) (sym (none_declared mask p.header counts))

-- ---- step by step

-- the pages that the steps place, behind headers of both lists that fill areas alike
abbrev PlacesSame : Change → PlatformKind → Options → HostValues → List AreaEntry → List AreaEntry → List Step → Type 0
PlacesSame ch kind options host old_areas new_areas steps =
    (done : List AreaEntry) (old new : List PlacedHeader) → done ++ areas_of (headers_in (firsts steps)) ≡ old_areas
    → FilledAlike ch host done old new
    → pages_by kind options host new_areas new (headers_for ch.new (seconds steps))
    ≡ pages_by kind options host old_areas old (headers_for ch.old (firsts steps))

module _ (ch : Change) (apart : KeepsApart ch) (kind : PlatformKind) (options : Options) (host : HostValues) (old_areas new_areas : List AreaEntry) where
  both_step : (p q : PlacedHeader) (steps : List Step) → IsSame ch p q
      → placed_pages new_areas q.header ≡ placed_pages old_areas p.header
      → PlacesSame ch kind options host old_areas new_areas steps
      → PlacesSame ch kind options host old_areas new_areas (Both p q ∷ steps)
  unfolding pages_by
  both_step p q steps same count later done old new whole filled =
      subst
      (λ b. pages_by kind options host new_areas new (cond b (q ∷ qs) qs)
      ≡ pages_by kind options host old_areas old (cond (applies p.header ch.old) (p ∷ ps) ps))
      (sym same.counts) (choice (applies p.header ch.old) refl)
    where
      ps : List PlacedHeader
      ps = headers_for ch.old (firsts steps)

      qs : List PlacedHeader
      qs = headers_for ch.new (seconds steps)

      choice : (b : Bool) → applies p.header ch.old ≡ b
          → pages_by kind options host new_areas new (cond b (q ∷ qs) qs)
          ≡ pages_by kind options host old_areas old (cond b (p ∷ ps) ps)
      choice true counts =
          ap₂ (λ a b. a ++ b)
          (header_same ch kind options host old_areas new_areas (filled_page host old) (filled_page host new) p q same count
          (λ x k own few.
          filled_alike ch host done (areas_of (headers_in (p ∷ firsts steps))) old new filled x k own
          (subst (λ areas. k < unwrap_or (area_size areas x) 0 / 4096) (sym whole) few)))
          (later (done ++ areas_of (headers_in (p ∷ []))) (old ++ p ∷ []) (new ++ q ∷ [])
          (areas_next done p (firsts steps) ∙ whole)
          (filled_both ch apart host done old new p q same filled))
      choice false counts = later done old new (areas_after ch.old done p (firsts steps) counts ∙ whole) filled

  gone_step : (p : PlacedHeader) (steps : List Step) → applies p.header ch.old ≡ false
      → PlacesSame ch kind options host old_areas new_areas steps
      → PlacesSame ch kind options host old_areas new_areas (Gone p ∷ steps)
  gone_step p steps counts later done old new whole filled =
      later done old new (areas_after ch.old done p (firsts steps) counts ∙ whole) filled
      ∙ ap (λ b. pages_by kind options host old_areas old (cond b (p ∷ headers_for ch.old (firsts steps)) (headers_for ch.old (firsts steps))))
      (sym counts)

  come_step : (q : PlacedHeader) (steps : List Step) → IsForeign ch q.header
      → PlacesSame ch kind options host old_areas new_areas steps
      → PlacesSame ch kind options host old_areas new_areas (Come q ∷ steps)
  unfolding pages_by
  come_step q steps foreign later done old new whole filled = choice (applies q.header ch.new) refl
    where
      ps : List PlacedHeader
      ps = headers_for ch.old (firsts steps)

      qs : List PlacedHeader
      qs = headers_for ch.new (seconds steps)

      choice : (b : Bool) → applies q.header ch.new ≡ b
          → pages_by kind options host new_areas new (cond b (q ∷ qs) qs) ≡ pages_by kind options host old_areas old ps
      choice true counts =
          ap (λ pages. pages ++ pages_by kind options host new_areas (new ++ q ∷ []) qs)
          (foreign_pages ch kind options host new_areas (filled_page host new) q foreign counts)
          ∙ later done old (new ++ q ∷ []) whole (filled_come ch host done old new q foreign filled)
      choice false counts = later done old new whole filled

  steps_place : ((p q : PlacedHeader) → IsSame ch p q → placed_pages new_areas q.header ≡ placed_pages old_areas p.header)
      → (steps : List Step) → AreSteps ch steps → PlacesSame ch kind options host old_areas new_areas steps
  unfolding pages_by
  steps_place count [] are = λ done old new whole filled. refl
  steps_place count (Both p q ∷ steps) are =
      both_step p q steps are.0 (count p q are.0) (steps_place count steps are.1)
  steps_place count (Gone p ∷ steps) are = gone_step p steps are.0 (steps_place count steps are.1)
  steps_place count (Come q ∷ steps) are = come_step q steps are.0 (steps_place count steps are.1)

pub placed_same : (ch : Change) → KeepsApart ch → (steps : List Step) → AreSteps ch steps
    → (kind : PlatformKind) (options : Options) (host : HostValues)
    → pages_by kind options host (areas_of (headers_in (seconds steps))) [] (headers_for ch.new (seconds steps))
    ≡ pages_by kind options host (areas_of (headers_in (firsts steps))) [] (headers_for ch.old (firsts steps))
placed_same ch apart steps are kind options host =
    steps_place ch apart kind options host (areas_of (headers_in (firsts steps))) (areas_of (headers_in (seconds steps)))
    (pages_same ch apart steps are) steps are [] [] [] refl (filled_none ch host)
