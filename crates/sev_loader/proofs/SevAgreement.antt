-- What is measured of the commands of a load is what is hashed of the file alone.
use Rattle.std.proofs.Common.{◌≡◌, ℕ, List, [], ◌∷◌, ◌++◌, map, refl, sym, ap, ap₂, subst, ◌∙◌, append-nil, Option, Some, None, Bool, true, false, not, inl, inr}
use Rattle.std.specs.Prelude.{filter, is_some, if◌then◌else◌}
use Rattle.std.specs.List.{flat_map, range_with_len, AllByRecursion}
use Rattle.std.proofs.lemmas.List.Concat.{flat_map-append}
use Rattle.igvm_headers.specs.HeaderFacts.{data_pages}
use Rattle.igvm_headers.specs.declared.header.Header.{Header}
use Rattle.igvm_headers.specs.declared.header.Header.TheVariants.{Page, Insert, Context}
use Rattle.igvm_headers.specs.declared.options.Options.{Options}
use Rattle.igvm_headers.specs.declared.page_kind.PageKind.TheVariants.{Normal, Secrets, Cpuid, CpuidXf}
use Rattle.igvm_headers.specs.declared.platform_kind.PlatformKind.{PlatformKind}
use Rattle.igvm_headers.specs.declared.platform_kind.PlatformKind.TheVariants.{Sev, SevEs}
use Rattle.igvm_headers.specs.declared.tag.Tag.{Tag}
use Rattle.igvm_headers.specs.declared.tag.Tag.TheVariants as tag
use Rattle.platform_masks.specs.Masks.{applies}
use Rattle.igvm_image.specs.Areas.{placed_pages}
use Rattle.igvm_image.specs.Data.{Data, data_page}
use Rattle.igvm_image.specs.Headers.{PlacedHeader, placed_headers}
use Rattle.directive_rules.specs.Tags.{tag_of, host_tag, is_native_zero, normal_tag}
use Rattle.igvm_measure.specs.Runs.{HasItsPages}
use Rattle.igvm_measure.proofs.WalkLemmas.{placed_from-pages}
use Rattle.launch_platform.specs.Machine.{LaunchRecord, started, streams}
use Rattle.image_loader.specs.FilledAreas.{filled_page}
use Rattle.image_loader.specs.Loads.{Load, areas_in, directives}
use Rattle.image_loader.specs.PlacedPages.{PlacedPage, page_with, page_at, page_bytes, added_by, is_extended, tagged_pages, header_pages, context_in, header_contexts}
use Rattle.image_loader.specs.LoadCommands.{commands, records_by}
use Rattle.image_loader.proofs.Done.{page_records, context_records, header_records, records_behind, all_measured}
use Rattle.sev_chain.specs.SevBytes.{HasSevDigest, hashed_pages, hashed_context, hashed_in, header_bytes, sev_bytes}
use Rattle.sev_loader.specs.SevAsLaunch.{joined}
use Rattle.sev_loader.specs.SevPlaced.{is_measured_page}

-- ---- records in a row

-- rows of bytes of two lists in a row are those of each
abbrev pub StreamsJoin : Type 0
StreamsJoin = (first second : List LaunchRecord) → streams (first ++ second) ≡ streams first ++ streams second

pub joined-append : StreamsJoin → (first second : List LaunchRecord)
    → joined (first ++ second) ≡ joined first ++ joined second
joined-append join first second =
    ap (flat_map (λ row. row)) (join first second) ∙ flat_map-append (λ row. row) (streams first) (streams second)

-- ---- a page

-- a normal page gives its bytes
normal_given : (kind : PlatformKind) → HasSevDigest kind → (gpa : ℕ) (page : List ℕ)
    → joined (page_records kind (page_with gpa page (added_by kind tag.Normal) (is_extended kind tag.Normal))) ≡ page
normal_given Sev sev gpa page = append-nil page
normal_given SevEs sev gpa page = append-nil page
normal_given kind (inl is) gpa page = cc
normal_given kind (inr is) gpa page = cc

-- an unmeasured one gives nothing
unmeasured_given : (kind : PlatformKind) → HasSevDigest kind → (gpa : ℕ) (page : List ℕ)
    → joined (page_records kind (page_with gpa page (added_by kind tag.Unmeasured) (is_extended kind tag.Unmeasured)))
    ≡ []
unmeasured_given Sev sev gpa page = refl
unmeasured_given SevEs sev gpa page = refl
unmeasured_given kind (inl is) gpa page = cc
unmeasured_given kind (inr is) gpa page = cc

-- ---- a row of pages

-- what these pages of a header give
abbrev pub row_given : Load → (ℕ → ℕ → List ℕ) → PlacedHeader → Tag → List ℕ → List ℕ
row_given load area_page p t ks =
    joined (flat_map (page_records load.platform.kind) (map (page_at load area_page p t) ks))

normal_row : StreamsJoin → (load : Load) (area_page : ℕ → ℕ → List ℕ) (p : PlacedHeader)
    → HasSevDigest load.platform.kind → (ks : List ℕ)
    → row_given load area_page p tag.Normal ks ≡ flat_map (page_bytes load.host area_page p.header p.content) ks
normal_row join load area_page p sev [] = refl
normal_row join load area_page p sev (k ∷ ks) =
    joined-append join (page_records load.platform.kind (page_at load area_page p tag.Normal k))
    (flat_map (page_records load.platform.kind) (map (page_at load area_page p tag.Normal) ks))
    ∙ ap₂ ◌++◌ (normal_given load.platform.kind sev _ (page_bytes load.host area_page p.header p.content k))
    (normal_row join load area_page p sev ks)

unmeasured_row : StreamsJoin → (load : Load) (area_page : ℕ → ℕ → List ℕ) (p : PlacedHeader)
    → HasSevDigest load.platform.kind → (ks : List ℕ) → row_given load area_page p tag.Unmeasured ks ≡ []
unmeasured_row join load area_page p sev [] = refl
unmeasured_row join load area_page p sev (k ∷ ks) =
    joined-append join (page_records load.platform.kind (page_at load area_page p tag.Unmeasured k))
    (flat_map (page_records load.platform.kind) (map (page_at load area_page p tag.Unmeasured) ks))
    ∙ ap₂ ◌++◌ (unmeasured_given load.platform.kind sev _ (page_bytes load.host area_page p.header p.content k))
    (unmeasured_row join load area_page p sev ks)

-- ---- the pages of a header

-- what the pages of a header give
abbrev pub pages_in : Header → Data → List ℕ
pages_in (Page gpa mask offset large unmeasured kind) content = hashed_pages unmeasured kind content
pages_in _ content = []

-- what its context gives
abbrev pub contexts_of : PlatformKind → Header → Data → List ℕ
contexts_of kind (Context gpa mask offset vp) content = hashed_context kind content
contexts_of kind _ content = []

-- no firmware makes zeros
no_zeros : (kind : PlatformKind) → HasSevDigest kind → (offset : ℕ) (options : Options)
    → is_native_zero kind offset options ≡ false
no_zeros Sev sev offset options = refl
no_zeros SevEs sev offset options = refl
no_zeros kind (inl is) offset options = cc
no_zeros kind (inr is) offset options = cc

-- and no host fills pages
not_filled : (kind : PlatformKind) → HasSevDigest kind → (t : Tag) → host_tag kind t ≡ None
not_filled Sev sev t = refl
not_filled SevEs sev t = refl
not_filled kind (inl is) t = cc
not_filled kind (inr is) t = cc

-- what the pages give that a header has by a tag
abbrev pub given_by : Load → (ℕ → ℕ → List ℕ) → PlacedHeader → Option Tag → ℕ → List ℕ
given_by load area_page p o count =
    joined (flat_map (page_records load.platform.kind) (tagged_pages load area_page p o count))

normal_pages : StreamsJoin → (load : Load) (area_page : ℕ → ℕ → List ℕ) (p : PlacedHeader) (unmeasured : Bool)
    (count : ℕ) → HasSevDigest load.platform.kind → p.content.pages ≡ count
    → ((k : ℕ) → page_bytes load.host area_page p.header p.content k ≡ data_page p.content k)
    → given_by load area_page p (Some (normal_tag unmeasured false)) count ≡ hashed_pages unmeasured Normal p.content
normal_pages join load area_page p true count sev size own =
    unmeasured_row join load area_page p sev (range_with_len 0 count)
normal_pages join load area_page p false count sev size own =
    normal_row join load area_page p sev (range_with_len 0 count)
    ∙ same_each (range_with_len 0 count)
    ∙ ap (λ n. flat_map (data_page p.content) (range_with_len 0 n)) (sym size)
  where
    same_each : (ks : List ℕ)
        → flat_map (page_bytes load.host area_page p.header p.content) ks ≡ flat_map (data_page p.content) ks
    same_each [] = refl
    same_each (k ∷ ks) = ap₂ ◌++◌ (own k) (same_each ks)

-- pages of the host's are none
filled_pages : (load : Load) (area_page : ℕ → ℕ → List ℕ) (p : PlacedHeader) (t : Tag) (count : ℕ)
    → HasSevDigest load.platform.kind → given_by load area_page p (host_tag load.platform.kind t) count ≡ []
filled_pages load area_page p t count sev =
    ap (λ o. given_by load area_page p o count) (not_filled load.platform.kind sev t)

pages_given : StreamsJoin → (load : Load) (area_page : ℕ → ℕ → List ℕ) (p : PlacedHeader) (h : Header)
    → p.header ≡ h → HasSevDigest load.platform.kind → HasItsPages p
    → given_by load area_page p (tag_of h load.platform.kind load.options) (placed_pages (areas_in load) h)
    ≡ pages_in h p.content
pages_given join load area_page p (Page gpa mask offset large unmeasured Normal) is sev size =
    let count = placed_pages (areas_in load) (Page gpa mask offset large unmeasured Normal) in
    ap (λ zeros. given_by load area_page p (Some (normal_tag unmeasured zeros)) count)
    (no_zeros load.platform.kind sev offset load.options)
    ∙ normal_pages join load area_page p unmeasured count sev (size ∙ ap data_pages is)
    (λ k. ap (λ h. page_bytes load.host area_page h p.content k) is)
pages_given join load area_page p (Page gpa mask offset large true Secrets) is sev size =
    filled_pages load area_page p tag.Secrets _ sev
pages_given join load area_page p (Page gpa mask offset large false Secrets) is sev size =
    filled_pages load area_page p tag.Secrets _ sev
pages_given join load area_page p (Page gpa mask offset large true Cpuid) is sev size =
    filled_pages load area_page p tag.Cpuid _ sev
pages_given join load area_page p (Page gpa mask offset large false Cpuid) is sev size =
    filled_pages load area_page p tag.Cpuid _ sev
pages_given join load area_page p (Page gpa mask offset large true CpuidXf) is sev size =
    filled_pages load area_page p tag.Cpuid _ sev
pages_given join load area_page p (Page gpa mask offset large false CpuidXf) is sev size =
    filled_pages load area_page p tag.Cpuid _ sev
pages_given join load area_page p (Insert gpa mask area) is sev size =
    unmeasured_row join load area_page p sev (range_with_len 0 (placed_pages (areas_in load) (Insert gpa mask area)))
pages_given join load area_page p h is sev size = refl

-- ---- the context of a header

context_given : (kind : PlatformKind) → HasSevDigest kind → (gpa : ℕ) (content : Data) (vp : ℕ)
    → joined (flat_map (context_records kind) (context_in (Context gpa 0 0 vp) content)) ≡ hashed_context kind content
context_given Sev sev gpa content vp = refl
context_given SevEs sev gpa content vp = append-nil (data_page content 0)
context_given kind (inl is) gpa content vp = cc
context_given kind (inr is) gpa content vp = cc

contexts_given : (kind : PlatformKind) → HasSevDigest kind → (h : Header) (content : Data)
    → joined (flat_map (context_records kind) (context_in h content)) ≡ contexts_of kind h content
contexts_given kind sev (Context gpa mask offset vp) content = context_given kind sev gpa content vp
contexts_given kind sev _ content = refl

-- ---- a header

given_together : (kind : PlatformKind) (h : Header) (content : Data)
    → pages_in h content ++ contexts_of kind h content ≡ hashed_in kind h content
given_together kind (Page gpa mask offset large unmeasured of) content = append-nil (hashed_pages unmeasured of content)
given_together kind _ content = refl

header_given : StreamsJoin → (load : Load) (area_page : ℕ → ℕ → List ℕ) (p : PlacedHeader)
    → HasSevDigest load.platform.kind → HasItsPages p
    → joined (header_records load.platform.kind load area_page p) ≡ header_bytes load.platform.kind p
unfolding header_pages header_contexts header_bytes
header_given join load area_page p sev size =
    joined-append join
    (flat_map (page_records load.platform.kind)
    (tagged_pages load area_page p (tag_of p.header load.platform.kind load.options)
    (placed_pages (areas_in load) p.header)))
    (flat_map (context_records load.platform.kind) (context_in p.header p.content))
    ∙ ap₂ ◌++◌ (pages_given join load area_page p p.header refl sev size)
    (contexts_given load.platform.kind sev p.header p.content)
    ∙ given_together load.platform.kind p.header p.content

-- ---- all headers

all_given : StreamsJoin → (load : Load) (before ps : List PlacedHeader) → HasSevDigest load.platform.kind
    → AllByRecursion HasItsPages ps
    → joined (records_behind load.platform.kind load before ps) ≡ flat_map (header_bytes load.platform.kind) ps
all_given join load before [] sev sizes = refl
all_given join load before (p ∷ ps) sev sizes =
    joined-append join (header_records load.platform.kind load (filled_page load.host before) p)
    (records_behind load.platform.kind load (before ++ p ∷ []) ps)
    ∙ ap₂ ◌++◌ (header_given join load (filled_page load.host before) p sev sizes.0)
    (all_given join load (before ++ p ∷ []) ps sev sizes.1)

-- what holds of all holds of those among them
filtered : {A : Type 0} (P : A → Type 0) (test : A → Bool) (xs : List A) → AllByRecursion P xs
    → AllByRecursion P (filter test xs)
filtered P test [] all = tt
filtered P test (x ∷ xs) all = by (test x) (filtered P test xs all.1)
  where
    by : (passes : Bool) → AllByRecursion P (filter test xs)
        → AllByRecursion P (if passes then x ∷ filter test xs else filter test xs)
    by true rest = (all.0, rest)
    by false rest = rest

pub agree : StreamsJoin → (load : Load) → HasSevDigest load.platform.kind
    → joined (records_by (commands load) (started load.platform.kind)) ≡ sev_bytes load.file load.platform
agree join load sev =
    ap joined (all_measured load [] (directives load) (started load.platform.kind))
    ∙ all_given join load [] (directives load) sev
    (filtered HasItsPages (λ p. applies p.header load.platform.mask) (placed_headers load.file) (placed_from-pages _ _ _ _))

-- ---- which pages are measured

-- of a row, all where the tag is that of a measured page, and else none
row_measured : (load : Load) (area_page : ℕ → ℕ → List ℕ) (p : PlacedHeader) (t : Tag) (measured : Bool)
    → is_some (added_by load.platform.kind t) ≡ measured → (ks : List ℕ)
    → AllByRecursion (λ (q : PlacedPage). is_some q.tag ≡ measured) (map (page_at load area_page p t) ks)
row_measured load area_page p t measured is [] = tt
row_measured load area_page p t measured is (k ∷ ks) = (is, row_measured load area_page p t measured is ks)

-- a tag of a normal page is that of a measured one where the page has no unmeasured flag
normal_measured : (kind : PlatformKind) → HasSevDigest kind → (unmeasured : Bool) (offset : ℕ) (options : Options)
    → is_some (added_by kind (normal_tag unmeasured (is_native_zero kind offset options))) ≡ not unmeasured
normal_measured Sev sev true offset options = refl
normal_measured Sev sev false offset options = refl
normal_measured SevEs sev true offset options = refl
normal_measured SevEs sev false offset options = refl
normal_measured kind (inl is) unmeasured offset options = cc
normal_measured kind (inr is) unmeasured offset options = cc

insert_unmeasured : (kind : PlatformKind) → HasSevDigest kind → is_some (added_by kind tag.Unmeasured) ≡ false
insert_unmeasured Sev sev = refl
insert_unmeasured SevEs sev = refl
insert_unmeasured kind (inl is) = cc
insert_unmeasured kind (inr is) = cc

-- each of these pages is measured, or none
abbrev pub AreMeasured : Bool → List PlacedPage → Type 0
AreMeasured measured qs = AllByRecursion (λ (q : PlacedPage). is_some q.tag ≡ measured) qs

flag_measured : (gpa mask offset : ℕ) (large unmeasured : Bool) (load : Load)
    → not unmeasured ≡ is_measured_page (Page gpa mask offset large unmeasured Normal)
flag_measured gpa mask offset large true load = refl
flag_measured gpa mask offset large false load = refl

filled_measured : (load : Load) (area_page : ℕ → ℕ → List ℕ) (p : PlacedHeader) (t : Tag) (count : ℕ) (measured : Bool)
    → HasSevDigest load.platform.kind
    → AreMeasured measured (tagged_pages load area_page p (host_tag load.platform.kind t) count)
filled_measured load area_page p t count measured sev =
    subst (λ o. AreMeasured measured (tagged_pages load area_page p o count))
    (sym (not_filled load.platform.kind sev t)) tt

pages_measured : (load : Load) (area_page : ℕ → ℕ → List ℕ) (p : PlacedHeader) (h : Header)
    → HasSevDigest load.platform.kind
    → AreMeasured (is_measured_page h)
    (tagged_pages load area_page p (tag_of h load.platform.kind load.options) (placed_pages (areas_in load) h))
pages_measured load area_page p (Page gpa mask offset large unmeasured Normal) sev =
    row_measured load area_page p (normal_tag unmeasured (is_native_zero load.platform.kind offset load.options)) _
    (normal_measured load.platform.kind sev unmeasured offset load.options
    ∙ flag_measured gpa mask offset large unmeasured load) _
pages_measured load area_page p (Page gpa mask offset large unmeasured Secrets) sev =
    filled_measured load area_page p tag.Secrets _ _ sev
pages_measured load area_page p (Page gpa mask offset large unmeasured Cpuid) sev =
    filled_measured load area_page p tag.Cpuid _ _ sev
pages_measured load area_page p (Page gpa mask offset large unmeasured CpuidXf) sev =
    filled_measured load area_page p tag.Cpuid _ _ sev
pages_measured load area_page p (Insert gpa mask area) sev =
    row_measured load area_page p tag.Unmeasured false (insert_unmeasured load.platform.kind sev) _
pages_measured load area_page p h sev = tt

pub measured_by_flag : (load : Load) (area_page : ℕ → ℕ → List ℕ) (p : PlacedHeader) → HasSevDigest load.platform.kind
    → AreMeasured (is_measured_page p.header) (header_pages load area_page p)
unfolding header_pages
measured_by_flag load area_page p sev = pages_measured load area_page p p.header sev
